-- What an add and a removal answer: the entry that each has, and the words that are its cause.
use Rattle.std.specs.Prelude.{◌≡◌, ◌≢◌, ◌⊎◌, ℕ, ◌<◌, List, [], ◌∷◌, ◌++◌, Option, Some, None, Result, Ok, Err}
use mathlib.Core.List.{IsPrefix}
use Rattle.pass_book.specs.Pages.{Page, Enters, EntersNothing}
use Rattle.seq_objects.specs.declared.bags.BagCall.{BagCall}
use Rattle.seq_objects.specs.declared.bags.BagCall.TheVariants.{Add, Remove}
use Rattle.seq_objects.specs.declared.bags.BagReply.{BagReply}
use Rattle.seq_objects.specs.declared.bags.BagReply.TheVariants.{Added, Took, Empty}
use Rattle.seq_objects.specs.BagSteps.{BagStep}
use Rattle.seq_objects.specs.Meanings.{BagOpens}
use Rattle.pass_table.specs.Passes.{Change}
use Rattle.pass_table.specs.Calls.{Reads, ReadsWaiting}
use Rattle.shared_bag.specs.declared.shapes.Shape.{Shape}
use Rattle.shared_bag.specs.declared.layout.Word.{Word}
use Rattle.shared_bag.specs.declared.faults.AddFault.{AddFault}
use Rattle.shared_bag.specs.declared.faults.AddFault.TheVariants.{Busy as BusyAdd, Full, OutOfMemory}
use Rattle.shared_bag.specs.declared.faults.Busy.{Busy}
use Rattle.shared_bag.specs.Shapes.{tried, all_segments, locale_room}
use Rattle.shared_bag.specs.Counted.{BagEntry, Counts, CountsAtLeast, Shows}
use Rattle.shared_bag.specs.Kinds.{Looks, count_read, turn_read, length_read}
use Rattle.shared_bag.specs.Visits.{HasLeft, left_last, FindsNoRoom, FindsNothing, Visits, SomeHeld}

abbrev pub BagPage : Type 0
BagPage = Page BagCall BagReply

abbrev pub BagChange : Type 0
BagChange = Change BagCall BagReply Word

module _ (change : BagChange) where
  -- the call has its entry, with this reply, behind which nothing is seen
  abbrev pub EntersBag : BagCall → BagReply → Type 0
  EntersBag call reply = Enters BagOpens BagStep [] change.caller change.old change.new call reply

  -- the call has no entry
  abbrev pub EntersNoBag : Type 0
  EntersNoBag = EntersNothing BagOpens BagStep [] change.caller change.old change.new

  -- an add has an entry exactly where it added its item
  abbrev pub AddEnters : ℕ → Result Unit AddFault → Type 0
  AddEnters item (Ok u) = EntersBag (Add item) Added
  AddEnters item (Err fault) = EntersNoBag

  -- a removal has an entry unless it is busy
  abbrev pub RemoveEnters : Result (Option ℕ) Busy → Type 0
  RemoveEnters (Ok (Some item)) = EntersBag Remove (Took item)
  RemoveEnters (Ok None) = EntersBag Remove Empty
  RemoveEnters (Err busy) = EntersNoBag

  -- where an add is refused as full, the bag had at least as many items as a segment has room for, at a moment of the call
  abbrev pub HadNoRoom : ℕ → Result Unit AddFault → Type 0
  HadNoRoom room (Ok u) = Unit {0}
  HadNoRoom room (Err BusyAdd) = Unit {0}
  HadNoRoom room (Err Full) = (h : List BagEntry) × IsPrefix change.old.seen h × IsPrefix h change.new.seen × CountsAtLeast h room
  HadNoRoom room (Err OutOfMemory) = Unit {0}

  -- In a bag of one caller: where an add is refused as full, there are as many items as a locale has room for, and where there were as many
  -- before it, it is refused as full, and for nothing else
  abbrev pub FullAlone : Shape → Result Unit AddFault → Type 0
  FullAlone shape result = shape.callers ≡ 1 → (result ≡ Err Full → Counts change.new.seen (locale_room shape)) × (Counts change.old.seen (locale_room shape) → result ≡ Err Full)

module _ (shape : Shape) (caller : ℕ) (words : Looks) where
  -- An add's answer and the words that it read, in order. It visits the segments of its caller's locale.
  abbrev pub AddCause : Result Unit AddFault → Type 0
  -- the first that was neither held nor full, whose turn it got, has the item
  AddCause (Ok u) =
      (place found : ℕ) × (before : Looks) × (place < shape.segments) × Visits (FindsNoRoom shape caller) (tried shape caller) place before
      × (words ≡ before ++ turn_read (tried shape caller place) 0 ∷ count_read found ∷ [])
  -- each was held or full, and at least one was held
  AddCause (Err BusyAdd) = Visits (FindsNoRoom shape caller) (tried shape caller) shape.segments words × SomeHeld shape.callers caller words
  -- it got the turn of each, and each was full
  AddCause (Err Full) = Visits (HasLeft shape.room) (tried shape caller) shape.segments words
  -- the first that was neither held nor full had room, but no memory for it
  AddCause (Err OutOfMemory) =
      (place count : ℕ) × (before : Looks) × (place < shape.segments) × Visits (FindsNoRoom shape caller) (tried shape caller) place before
      × (count < shape.room) × (words ≡ before ++ turn_read (tried shape caller place) 0 ∷ length_read (tried shape caller place) count ∷ [])

  -- A removal's answer and the words that it read, in order. It loads the count, visits all segments, of which it may keep one that is empty, and loads the count again.
  abbrev pub RemoveCause : Result (Option ℕ) Busy → Type 0
  -- the first segment that was neither held nor empty, whose turn it got, had the item
  RemoveCause (Ok (Some item)) =
      (kept : Option ℕ) × (count place found : ℕ) × (before : Looks) × (count ≢ 0) × (place < all_segments shape)
      × Visits (FindsNothing shape caller kept) (tried shape caller) place before × (words ≡ count_read count ∷ (before ++ turn_read (tried shape caller place) 0 ∷ count_read found ∷ []))
  -- the count was 0, at the first load or at the second
  RemoveCause (Ok None) =
      (words ≡ count_read 0 ∷ [])
      ⊎ ((kept : Option ℕ) × (count : ℕ) × (visits : Looks) × (count ≢ 0) × Visits (FindsNothing shape caller kept) (tried shape caller) (all_segments shape) visits
      × (words ≡ count_read count ∷ (visits ++ (left_last kept ++ count_read 0 ∷ []))))
  -- each segment was held or empty, and the count was not 0 before and after
  RemoveCause (Err busy) =
      (kept : Option ℕ) × (count again : ℕ) × (visits : Looks) × (count ≢ 0) × (again ≢ 0) × Visits (FindsNothing shape caller kept) (tried shape caller) (all_segments shape) visits
      × (words ≡ count_read count ∷ (visits ++ (left_last kept ++ count_read again ∷ [])))

-- one try of an add, or of a removal, was busy, and these are the words that it read
abbrev pub IsBusyAdd : Shape → ℕ → Looks → Type 0
IsBusyAdd shape caller words = AddCause shape caller words (Err BusyAdd)

abbrev pub IsBusyRemove : Shape → ℕ → Looks → Type 0
IsBusyRemove shape caller words = (busy : Busy) × RemoveCause shape caller words (Err busy)

abbrev pub AnswersBusyAdd : Result Unit AddFault → Type 0
AnswersBusyAdd (Ok u) = ⊥
AnswersBusyAdd (Err BusyAdd) = Unit {0}
AnswersBusyAdd (Err Full) = ⊥
AnswersBusyAdd (Err OutOfMemory) = ⊥

abbrev pub AnswersBusyRemove : Result (Option ℕ) Busy → Type 0
AnswersBusyRemove (Ok taken) = ⊥
AnswersBusyRemove (Err busy) = Unit {0}

-- in a bag of one caller all that was seen is its own, so that the replies are a plain bag's
abbrev pub SeesOwnAlone : ℕ → BagPage → Type 0
SeesOwnAlone callers page = callers ≡ 1 → page.seen ≡ page.mine

-- the same, and an add is never busy
abbrev pub AddsAlone : ℕ → BagPage → Result Unit AddFault → Type 0
AddsAlone callers page result = callers ≡ 1 → (¬ AnswersBusyAdd result) × (page.seen ≡ page.mine)

-- the same of a removal
abbrev pub RemovesAlone : ℕ → BagPage → Result (Option ℕ) Busy → Type 0
RemovesAlone callers page result = callers ≡ 1 → (¬ AnswersBusyRemove result) × (page.seen ≡ page.mine)

module _ (shape : Shape) (change : BagChange) where
  -- the words that the add read are its answer's cause
  abbrev pub AddIsCaused : Result Unit AddFault → Type 0
  AddIsCaused result = Reads Shows change (λ words. AddCause shape change.caller words result)

  -- the same of a removal
  abbrev pub RemoveIsCaused : Result (Option ℕ) Busy → Type 0
  RemoveIsCaused result = Reads Shows change (λ words. RemoveCause shape change.caller words result)

  -- the words that an add which waits read are those of busy tries and then its answer's cause
  abbrev pub AddWaitIsCaused : Result Unit AddFault → Type 0
  AddWaitIsCaused result = ReadsWaiting Shows change (IsBusyAdd shape change.caller) (λ words. AddCause shape change.caller words result)

  -- the same of a removal
  abbrev pub RemoveWaitIsCaused : Option ℕ → Type 0
  RemoveWaitIsCaused taken = ReadsWaiting Shows change (IsBusyRemove shape change.caller) (λ words. RemoveCause shape change.caller words (Ok taken))
