-- Calls with an entry, as a script's history has them.
use Rattle.std.proofs.Common.{inr, ℕ, [], ◌∷◌, ◌++◌, refl, ◌∙◌, append_assoc}
use Rattle.pass_book.specs.declared.entries.Entry.{Entry}
use Rattle.pass_book.specs.Pages.{Page, Enters}
use Rattle.pass_book.proofs.Sublists.{entries_of-own}
use Rattle.script_text.specs.declared.scripts.Call.{Call}
use Rattle.script_text.specs.declared.replies.Reply.{Reply}
use Rattle.script_engine.specs.Rounds.{Makes}
use Rattle.script_engine.specs.Widening.{behind_others}
use Rattle.script_engine.specs.Says.{SaysPlainly}

module _ {Asked Told State : Type 0} (opens : State → Type 0) (step : State → Asked → Told → State → Type 0) (Shows : Call → Reply → Asked → Told → Type 0) (HasNoEntry : Call → Reply → Type 0) where
  -- an object's entry is how the call stands in the history
  pub enters_makes : (start : State) (caller : ℕ) (old new : Page Asked Told) (call : Call) (reply : Reply) (asked : Asked) (told : Told) → Enters opens step start caller old new asked told → Shows call reply asked told
      → Makes (SaysPlainly Shows HasNoEntry) caller old call reply new
  enters_makes start caller old new call reply asked told entered shows =
      let e : Entry Asked Told = record { caller = caller; call = asked; reply = told } in record {
        stretch = entered.before ++ e ∷ [];
        seen = entered.seen ∙ append_assoc old.seen entered.before (e ∷ []);
        own = entered.own;
        says = inr (asked, told, shows, behind_others caller entered.before (e ∷ []) entered.others ∙ entries_of-own caller e refl);
      }
