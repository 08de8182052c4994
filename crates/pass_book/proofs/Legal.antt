-- Histories that grow by one step.
use Rattle.std.proofs.Common.{List, [], ◌∷◌, ◌++◌, refl, sym, subst}
use Rattle.pass_book.specs.declared.entries.Entry.{Entry}
use mathlib.Core.List.{IsPrefix}
use Rattle.pass_book.specs.Histories.{Leads, Leaves, IsLegal}

module _ {Call Reply State : Type 0} (opens : State → Type 0) (step : State → Call → Reply → State → Type 0) where
  pub leads-snoc : (from : State) (h : List (Entry Call Reply)) (mid to : State) (e : Entry Call Reply) → Leads opens step from h mid → step mid e.call e.reply to → Leads opens step from (h ++ e ∷ []) to
  leads-snoc from [] mid to e at goes = (to, subst (λ s. step s e.call e.reply to) (sym at) goes, refl)
  leads-snoc from (x ∷ h) mid to e at goes = (at.0, at.1, leads-snoc at.0 h mid to e at.2 goes)

  pub leaves-snoc : (start : State) (h : List (Entry Call Reply)) (mid to : State) (e : Entry Call Reply) → Leaves opens step start h mid → step mid e.call e.reply to → Leaves opens step start (h ++ e ∷ []) to
  leaves-snoc start h mid to e at goes = (at.0, leads-snoc start h mid to e at.1 goes)

  leads-begin : (from : State) (xs ys : List (Entry Call Reply)) (to : State) → Leads opens step from (xs ++ ys) to → (mid : State) × Leads opens step from xs mid
  leads-begin from [] ys to goes = (from, refl)
  leads-begin from (x ∷ xs) ys to goes = let rest = leads-begin goes.0 xs ys to goes.2 in (rest.0, (goes.0, goes.1, rest.1))

  -- a beginning of a legal history is legal
  pub legal-begin : (start : State) (xs ys : List (Entry Call Reply)) → IsPrefix xs ys → IsLegal opens step start ys → IsLegal opens step start xs
  legal-begin start xs ys p legal =
      let whole : IsLegal opens step start (xs ++ p.0) = subst (IsLegal opens step start) (sym p.1) legal in
      let all = leads-begin start xs p.0 whole.0 whole.1.1 in
      (all.0, (whole.1.0, all.1))
