-- What others did just before a call may be counted to its stretch of the history.
use Rattle.std.specs.Prelude.{◌≡◌, ℕ, ◌==◌, List, ◌++◌}
use Rattle.std.proofs.Common.{inl, inr, ap, ◌∙◌, subst, append_assoc}
use Rattle.std.proofs.lemmas.List.Elements.{filter-append}
use Rattle.pass_book.specs.declared.entries.Entry.{Entry}
use Rattle.pass_book.specs.Histories.{entries_of, IsOfOthers}
use Rattle.script_text.specs.declared.scripts.Call.{Call}
use Rattle.script_text.specs.declared.replies.Reply.{Reply}
use Rattle.script_engine.specs.Rounds.{Widens}
use Rattle.script_engine.specs.Says.{SaysPlainly, SaysBag, SaysDeque, AtMoment, LeavesFull}
use Rattle.script_engine.specs.Shown.{ShowsBag, ShowsDeque, Never}

module _ {Asked Told : Type 0} where
  -- a caller's entries are those of a stretch, if others alone stand before it
  pub behind_others : (caller : ℕ) (gap stretch : List (Entry Asked Told)) → IsOfOthers caller gap → entries_of caller (gap ++ stretch) ≡ entries_of caller stretch
  behind_others caller gap stretch none =
      filter-append (λ (e : Entry Asked Told). e.caller == caller) gap stretch ∙ ap (λ (l : List (Entry Asked Told)). l ++ entries_of caller stretch) none

  pub widens_plainly : (Shows : Call → Reply → Asked → Told → Type 0) (HasNoEntry : Call → Reply → Type 0) → Widens (SaysPlainly Shows HasNoEntry)
  widens_plainly Shows HasNoEntry caller call reply before gap stretch none (inl said) = inl (said.0, behind_others caller gap stretch none ∙ said.1)
  widens_plainly Shows HasNoEntry caller call reply before gap stretch none (inr said) = inr (said.0, said.1, said.2, behind_others caller gap stretch none ∙ said.3)

  widens_moment : (holds : List (Entry Asked Told) → Type 0) (caller : ℕ) (before gap stretch : List (Entry Asked Told)) → IsOfOthers caller gap → AtMoment holds caller (before ++ gap) stretch → AtMoment holds caller before (gap ++ stretch)
  widens_moment holds caller before gap stretch none at =
      let begins = at.1 in
      (gap ++ at.0, (begins.0, append_assoc gap at.0 begins.0 ∙ ap (λ (l : List (Entry Asked Told)). gap ++ l) begins.1), behind_others caller gap at.0 none ∙ at.2, subst holds (append_assoc before gap at.0) at.3)

pub widens_bag : (callers segments room : ℕ) → Widens (SaysBag callers segments room)
widens_bag callers segments room caller call reply before gap stretch none (inl full) =
    inl (full.0, full.1, behind_others caller gap stretch none ∙ full.2, widens_moment (LeavesFull callers segments room) caller before gap stretch none full.3)
widens_bag callers segments room caller call reply before gap stretch none (inr said) =
    inr (
      widens_plainly ShowsBag Never caller call reply before gap stretch none said.0,
      λ one added. widens_moment (λ history. LeavesFull callers segments room history → ⊥) caller before gap stretch none (said.1 one added),
    )

pub widens_deque : Widens SaysDeque
widens_deque = widens_plainly ShowsDeque Never
