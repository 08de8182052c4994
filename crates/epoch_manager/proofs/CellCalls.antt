-- What a pass may do with cells, by what its calls before have told.
use Rattle.std.proofs.Common.{◌≡◌, ◌≢◌, ◌++◌, ℕ, [], ◌∷◌, Option, Some, None, if◌then◌else◌, refl, ap, sym, ◌∙◌, subst, inr, arith, ne_eqb}
use Rattle.std.specs.Prelude.{IfSome}
use Rattle.std.specs.List.{Contains}
use Rattle.std.proofs.lemmas.List.Elements.{Contains-append_right}
use Rattle.pgas_base.specs.Pointers.{Pointer, IsPointer, word_of}
use Rattle.pgas_base.specs.declared.spots.Spot.TheVariants.{Own as OwnSpot}
use Rattle.epoch_laws.proofs.Words.{word_not_none}
use Rattle.epoch_table.specs.Clients.{Shows, Steps, Switches}
use Rattle.epoch_manager.specs.declared.cells.CellsView.{CellsView}
use Rattle.epoch_manager.specs.Cells.{MayDo, IsCut, knows_after, after_switch}
use Rattle.epoch_manager.proofs.HandChains.{small_of}

-- what a pass has just shown it may switch into a cell
pub shown_may_be_put : (view now : CellsView) (q : Pointer) (cell value : ℕ) → now ≡ knows_after view (Shows q) 0 → value ≡ word_of q → MayDo now (Steps (OwnSpot cell) (Switches value))
shown_may_be_put view now q cell value knows is =
    let last : Contains (view.shown ++ word_of q ∷ []) (word_of q) = Contains-append_right view.shown (word_of q ∷ []) (word_of q) (0, omega arith, refl) in
    let named : Contains now.shown (word_of q) = subst (λ (v : CellsView). Contains v.shown (word_of q)) (sym knows) last in
    inr (subst (λ n. Contains now.shown n) (sym is) named)

-- what a pass has just found by a switch, if it is an object, is cut, so the pass may defer it
pub found_is_cut : (view now : CellsView) (found : Option Pointer) (value word : ℕ) → now ≡ after_switch view value word → IfSome found (λ q. word_of q ≡ word) → IfSome found (λ q. IsPointer q) → IfSome found (λ q. IsCut now q)
found_is_cut view now None value word knows named is = tt
found_is_cut view now (Some q) value word knows named is =
    let some : word ≢ 0 = (λ e. word_not_none q (small_of q is) (named ∙ e)) in
    let cut : now.cut ≡ view.cut ++ word ∷ [] = ap (λ (v : CellsView). v.cut) knows ∙ ap (λ b. if b then view.cut else view.cut ++ word ∷ []) (ne_eqb word 0 some) in
    let last : Contains (view.cut ++ word ∷ []) word = Contains-append_right view.cut (word ∷ []) word (0, omega arith, refl) in
    let here : Contains now.cut word = subst (λ l. Contains l word) (sym cut) last in
    record { is_pointer = is; among = subst (λ n. Contains now.cut n) (sym named) here }
