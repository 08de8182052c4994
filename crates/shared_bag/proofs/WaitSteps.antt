-- Busy tries, one after another, and the try that ends them.
use Rattle.std.proofs.Common.{◌≡◌, ℕ, ap, subst, ⊎_elim, Option, Result, Ok, Err}
use Rattle.seq_objects.specs.BagSteps.{BagStep}
use Rattle.seq_objects.specs.Meanings.{BagOpens}
use Rattle.pass_table.specs.Steps.{Goes, HasTried}
use Rattle.pass_table.proofs.Going.{tried_then, tried_more, tried_number}
use Rattle.shared_bag.specs.declared.clients.Plan.{Plan}
use Rattle.shared_bag.specs.declared.faults.AddFault.{AddFault}
use Rattle.shared_bag.specs.declared.faults.AddFault.TheVariants.{Busy as BusyAdd, Full}
use Rattle.shared_bag.specs.declared.faults.Busy.{Busy}
use Rattle.shared_bag.specs.Shapes.{locale_room}
use Rattle.shared_bag.specs.Counted.{Counts}
use Rattle.shared_bag.specs.Rule.{bag_terms}
use Rattle.shared_bag.specs.Kinds.{BagView}
use Rattle.shared_bag.specs.Answers.{AddCause, RemoveCause, IsBusyAdd, IsBusyRemove, AnswersBusyAdd}
use Rattle.shared_bag.specs.Tries.{TriesAdd, TriesRemove, WaitsAdd, WaitsRemove, add_entries, remove_entries}
use Rattle.shared_bag.proofs.TurnSteps.{still_alone}

module _ {K : Type 0} (keeps : K → ℕ → Type 0) (plan : Plan K) (v m w : BagView K) where
  -- busy tries have no entry, so a caller that is alone has seen nothing new
  tried_alone : HasTried (bag_terms keeps) BagOpens BagStep plan (IsBusyAdd plan.shape v.number) v m → plan.shape.callers ≡ 1 → m.seen ≡ v.seen
  tried_alone tried one = ⊎_elim (λ t. ap (λ x. x.seen) t.0) (λ goes. still_alone keeps plan v m tried.0 goes one) tried.2

  pub add_waits : (item : ℕ) (result : Result Unit AddFault) → ¬ AnswersBusyAdd result → HasTried (bag_terms keeps) BagOpens BagStep plan (IsBusyAdd plan.shape v.number) v m
      → TriesAdd keeps plan item m w result → WaitsAdd keeps plan item v w result
  add_waits item result calm tried last =
      let same : m.number ≡ v.number = tried_number (bag_terms keeps) BagOpens BagStep plan (IsBusyAdd plan.shape v.number) v m tried in
      record {
        before = tried.0;
        words = last.words;
        goes = tried_then (bag_terms keeps) BagOpens BagStep plan (IsBusyAdd plan.shape v.number) v m w last.words (add_entries v.number item result) tried
            (subst (λ c. Goes (bag_terms keeps) BagOpens BagStep plan m w last.words (add_entries c item result)) same last.goes);
        tries = tried.1;
        cause = subst (λ c. AddCause plan.shape c last.words result) same last.cause;
        full_alone = λ one. subst (λ h. (result ≡ Err Full → Counts w.seen (locale_room plan.shape)) × (Counts h (locale_room plan.shape) → result ≡ Err Full)) (tried_alone tried one) (last.full_alone one);
        calm = calm;
      }

  pub add_tried : (item : ℕ) → HasTried (bag_terms keeps) BagOpens BagStep plan (IsBusyAdd plan.shape v.number) v m → TriesAdd keeps plan item m w (Err BusyAdd)
      → HasTried (bag_terms keeps) BagOpens BagStep plan (IsBusyAdd plan.shape v.number) v w
  add_tried item tried last =
      let same : m.number ≡ v.number = tried_number (bag_terms keeps) BagOpens BagStep plan (IsBusyAdd plan.shape v.number) v m tried in
      tried_more (bag_terms keeps) BagOpens BagStep plan (IsBusyAdd plan.shape v.number) v m w last.words tried last.goes (subst (λ c. AddCause plan.shape c last.words (Err BusyAdd)) same last.cause)

  pub remove_waits : (taken : Option ℕ) → HasTried (bag_terms keeps) BagOpens BagStep plan (IsBusyRemove plan.shape v.number) v m → TriesRemove keeps plan m w (Ok taken) → WaitsRemove keeps plan v w taken
  remove_waits taken tried last =
      let same : m.number ≡ v.number = tried_number (bag_terms keeps) BagOpens BagStep plan (IsBusyRemove plan.shape v.number) v m tried in
      record {
        before = tried.0;
        words = last.words;
        goes = tried_then (bag_terms keeps) BagOpens BagStep plan (IsBusyRemove plan.shape v.number) v m w last.words (remove_entries v.number (Ok taken)) tried
            (subst (λ c. Goes (bag_terms keeps) BagOpens BagStep plan m w last.words (remove_entries c (Ok taken))) same last.goes);
        tries = tried.1;
        cause = subst (λ c. RemoveCause plan.shape c last.words (Ok taken)) same last.cause;
        kept = last.kept;
      }

  pub remove_tried : (busy : Busy) → HasTried (bag_terms keeps) BagOpens BagStep plan (IsBusyRemove plan.shape v.number) v m → TriesRemove keeps plan m w (Err busy)
      → HasTried (bag_terms keeps) BagOpens BagStep plan (IsBusyRemove plan.shape v.number) v w
  remove_tried busy tried last =
      let same : m.number ≡ v.number = tried_number (bag_terms keeps) BagOpens BagStep plan (IsBusyRemove plan.shape v.number) v m tried in
      tried_more (bag_terms keeps) BagOpens BagStep plan (IsBusyRemove plan.shape v.number) v m w last.words tried last.goes (busy, subst (λ c. RemoveCause plan.shape c last.words (Err busy)) same last.cause)
