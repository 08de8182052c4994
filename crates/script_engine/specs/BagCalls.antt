-- What a script's calls of a shared bag give, by the bag's own clauses.
use Rattle.std.specs.Prelude.{◌≡◌, ℕ, Bool, true, false, Option, Some, None, Result, Ok, Err}
use Rattle.segment_store.specs.Contents.{Contents}
use Rattle.seq_objects.specs.declared.bags.BagCall.{BagCall}
use Rattle.seq_objects.specs.declared.bags.BagCall.TheVariants.{Add, Remove}
use Rattle.seq_objects.specs.declared.bags.BagReply.{BagReply}
use Rattle.seq_objects.specs.declared.kept_items.AnyItem.{AnyItem}
use Rattle.pass_table.specs.declared.passes.Pass.{Pass}
use Rattle.pass_table.specs.Passes.{change}
use Rattle.shared_bag.specs.declared.clients.Plan.{Plan}
use Rattle.shared_bag.specs.declared.clients.Hand.{Hand}
use Rattle.shared_bag.specs.declared.bags.Bag.{Bag}
use Rattle.shared_bag.specs.declared.faults.AddFault.{AddFault}
use Rattle.shared_bag.specs.declared.faults.AddFault.TheVariants.{Busy as BusyAdd, Full as FullBag, OutOfMemory}
use Rattle.shared_bag.specs.declared.faults.Busy.{Busy}
use Rattle.shared_bag.specs.declared.layout.Word.{Word}
use Rattle.shared_bag.specs.Answers.{AddEnters, RemoveEnters, AddIsCaused, RemoveIsCaused, AddWaitIsCaused, RemoveWaitIsCaused, FullAlone, HadNoRoom}
use Rattle.shared_bag.specs.Bags.{shape_of, callers_of}
use Rattle.script_text.specs.declared.scripts.Call.{Call}
use Rattle.script_text.specs.declared.scripts.Call.TheVariants.{Bag as OfBag}
use Rattle.script_text.specs.declared.replies.Reply.{Reply}
use Rattle.script_text.specs.declared.replies.Reply.TheVariants.{Added, Full, Took, Empty}
use Rattle.script_text.specs.Rows.{is_once}
use Rattle.script_engine.specs.Replied.{IsBagCall}

-- a pass of a script's bag
abbrev pub AnyBagPass : Type 0
AnyBagPass = Pass (Option Contents) BagCall BagReply (Plan AnyItem) Hand Word

-- the reply that shows an add's answer; a busy one is never shown, and want of memory is no reply
abbrev pub ShowsAdd : Result Unit AddFault → Reply → Type 0
ShowsAdd (Ok u) reply = reply ≡ Added
ShowsAdd (Err BusyAdd) reply = ⊥
ShowsAdd (Err FullBag) reply = reply ≡ Full
ShowsAdd (Err OutOfMemory) reply = ⊥

-- the same of a removal
abbrev pub ShowsRemove : Result (Option ℕ) Busy → Reply → Type 0
ShowsRemove (Ok (Some item)) reply = reply ≡ Took item
ShowsRemove (Ok None) reply = reply ≡ Empty
ShowsRemove (Err busy) reply = ⊥

-- It is a call of the bag, and is tried once only where the bag has one caller.
abbrev pub IsAskedOfBag : Bag AnyItem → Call → Type 0
IsAskedOfBag b call = IsBagCall call × (is_once call ≡ true → callers_of b ≡ 1)

module _ (b : Bag AnyItem) (old new : AnyBagPass) where
  -- an add's answer, with its entry and where it finds the bag full
  abbrev pub Adds : ℕ → Result Unit AddFault → Type 0
  Adds item result = AddEnters (change old new) item result × FullAlone (change old new) (shape_of b) result × HadNoRoom (change old new) (shape_of b).room result

  -- what the clauses say of an add that was tried once, or waited, with its cause
  abbrev pub AddAnswers : ℕ → Result Unit AddFault → Bool → Type 0
  AddAnswers item result true = Adds item result × AddIsCaused (shape_of b) (change old new) result
  AddAnswers item result false = Adds item result × AddWaitIsCaused (shape_of b) (change old new) result

  -- the same of a removal
  abbrev pub RemoveAnswers : Result (Option ℕ) Busy → Bool → Type 0
  RemoveAnswers result true = RemoveEnters (change old new) result × RemoveIsCaused (shape_of b) (change old new) result
  RemoveAnswers (Ok taken) false = RemoveEnters (change old new) (Ok taken) × RemoveWaitIsCaused (shape_of b) (change old new) taken
  RemoveAnswers (Err busy) false = ⊥

-- a script's call of the bag, with its reply
abbrev pub BagGives : Bag AnyItem → AnyBagPass → Call → Reply → AnyBagPass → Type 0
BagGives b old (OfBag (Add item) once) reply new = (result : Result Unit AddFault) × ShowsAdd result reply × AddAnswers b old new item result once
BagGives b old (OfBag Remove once) reply new = (result : Result (Option ℕ) Busy) × ShowsRemove result reply × RemoveAnswers b old new result once
BagGives b old call reply new = ⊥

-- an add for which memory ran out
abbrev pub BagRefuses : Bag AnyItem → AnyBagPass → Call → AnyBagPass → Type 0
BagRefuses b old (OfBag (Add item) once) new = AddAnswers b old new item (Err OutOfMemory) once
BagRefuses b old call new = ⊥
