-- What a call's clauses say of its pass, from what it did to its caller's view.
use Rattle.std.proofs.Common.{ℕ, zero, suc, ◌<◌, List, [], ◌∷◌, ◌++◌, subst, arith, Option, Some, None, Result, Ok, Err}
use mathlib.Core.List.{IsPrefix}
use Rattle.pass_book.proofs.Prefixes.{prefix_self, prefix_trans}
use Rattle.seq_objects.specs.declared.bags.BagCall.TheVariants.{Add, Remove}
use Rattle.seq_objects.specs.declared.bags.BagReply.TheVariants.{Added, Took, Empty}
use Rattle.seq_objects.specs.BagSteps.{BagStep}
use Rattle.seq_objects.specs.Meanings.{BagOpens}
use Rattle.pass_table.specs.Views.{page_of}
use Rattle.pass_table.specs.Words.{Meets}
use Rattle.pass_table.specs.Steps.{Goes}
use Rattle.pass_table.proofs.Going.{enters_of, nothing_of, alone}
use Rattle.shared_bag.specs.declared.clients.Plan.{Plan}
use Rattle.shared_bag.specs.declared.faults.AddFault.{AddFault}
use Rattle.shared_bag.specs.declared.faults.AddFault.TheVariants.{Busy as BusyAdd, Full, OutOfMemory}
use Rattle.shared_bag.specs.declared.faults.Busy.{Busy}
use Rattle.shared_bag.specs.Counted.{BagEntry, CountsAtLeast, Shows}
use Rattle.shared_bag.specs.Rule.{bag_terms}
use Rattle.shared_bag.specs.Kinds.{Looks, BagView}
use Rattle.shared_bag.specs.Visits.{HasLeft, Visits}
use Rattle.shared_bag.specs.Answers.{AddEnters, RemoveEnters, AddsAlone, RemovesAlone, SeesOwnAlone, HadNoRoom}
use Rattle.shared_bag.specs.Tries.{TriesAdd, TriesRemove, WaitsAdd, add_entries, remove_entries, changed}

-- the histories of words that were read begin with those of the words before them
meets_behind : (old new : List BagEntry) (words more : Looks) → Meets Shows old new (words ++ more) → (mid : List BagEntry) × IsPrefix old mid × Meets Shows mid new more
meets_behind old new [] more meets = (old, prefix_self old, meets)
meets_behind old new (look ∷ words) more meets =
    let rest = meets_behind meets.0 new words more meets.3 in
    (rest.0, prefix_trans old meets.0 rest.0 meets.1 rest.1, rest.2)

-- a history of at least so many items was met where the last of some segments had so many
full_met : (old new : List BagEntry) (room n : ℕ) (order : ℕ → ℕ) (words : Looks) → 0 < n → Visits (HasLeft room) order n words → Meets Shows old new words
    → (h : List BagEntry) × IsPrefix old h × IsPrefix h new × CountsAtLeast h room
full_met old new room zero order words some visits meets = absurd (omega arith)
full_met old new room (suc n) order words some (before, here, is, visits, left) meets =
    let last = meets_behind old new before _ (subst (λ l. Meets Shows old new (before ++ l)) left (subst (Meets Shows old new) is meets)) in
    let turn = last.2 in
    let length = turn.3 in
    (length.0, prefix_trans old last.0 length.0 last.1 (prefix_trans last.0 turn.0 length.0 turn.1 length.1), length.3, length.2)

module _ {K : Type 0} (keeps : K → ℕ → Type 0) (plan : Plan K) (v w : BagView K) where
  pub add_history : (item : ℕ) (result : Result Unit AddFault) (words : Looks) → Goes (bag_terms keeps) BagOpens BagStep plan v w words (add_entries v.number item result) → AddEnters (changed v w) item result
  add_history item (Ok u) words goes = enters_of (bag_terms keeps) BagOpens BagStep plan v w words (Add item) Added goes
  add_history item (Err fault) words goes = nothing_of (bag_terms keeps) BagOpens BagStep plan v w words goes

  pub remove_history : (result : Result (Option ℕ) Busy) (words : Looks) → Goes (bag_terms keeps) BagOpens BagStep plan v w words (remove_entries v.number result) → RemoveEnters (changed v w) result
  remove_history (Ok (Some item)) words goes = enters_of (bag_terms keeps) BagOpens BagStep plan v w words Remove (Took item) goes
  remove_history (Ok None) words goes = enters_of (bag_terms keeps) BagOpens BagStep plan v w words Remove Empty goes
  remove_history (Err busy) words goes = nothing_of (bag_terms keeps) BagOpens BagStep plan v w words goes

  pub sees_own : (words : Looks) (entries : List BagEntry) → Goes (bag_terms keeps) BagOpens BagStep plan v w words entries → SeesOwnAlone plan.shape.callers (page_of w)
  sees_own words entries goes one = alone (bag_terms keeps) BagOpens BagStep plan w goes.sound one

  pub add_alone : (item : ℕ) (result : Result Unit AddFault) → TriesAdd keeps plan item v w result → AddsAlone plan.shape.callers (page_of w) result
  add_alone item result tries one = ((λ busy. tries.not_alone busy one), sees_own tries.words (add_entries v.number item result) tries.goes one)

  pub remove_alone : (result : Result (Option ℕ) Busy) → TriesRemove keeps plan v w result → RemovesAlone plan.shape.callers (page_of w) result
  remove_alone result tries one = ((λ busy. tries.not_alone busy one), sees_own tries.words (remove_entries v.number result) tries.goes one)

  -- an add that is refused as full met a history of as many items as a segment has room for
  pub no_room : (item : ℕ) (result : Result Unit AddFault) → 0 < plan.shape.segments → TriesAdd keeps plan item v w result → HadNoRoom (changed v w) plan.shape.room result
  no_room item (Ok u) some tries = tt
  no_room item (Err BusyAdd) some tries = tt
  no_room item (Err Full) some tries = full_met v.seen w.seen plan.shape.room plan.shape.segments _ tries.words some tries.cause tries.goes.meets
  no_room item (Err OutOfMemory) some tries = tt

  -- the same of an add that waits
  pub no_room_waiting : (item : ℕ) (result : Result Unit AddFault) → 0 < plan.shape.segments → WaitsAdd keeps plan item v w result → HadNoRoom (changed v w) plan.shape.room result
  no_room_waiting item (Ok u) some waits = tt
  no_room_waiting item (Err BusyAdd) some waits = tt
  no_room_waiting item (Err Full) some waits =
      let last = meets_behind v.seen w.seen waits.before waits.words waits.goes.meets in
      let met = full_met last.0 w.seen plan.shape.room plan.shape.segments _ waits.words some waits.cause last.2 in
      (met.0, prefix_trans v.seen last.0 met.0 last.1 met.1, met.2, met.3)
  no_room_waiting item (Err OutOfMemory) some waits = tt
