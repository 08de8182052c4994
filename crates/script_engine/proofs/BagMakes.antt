-- What a shared bag's clauses say of a call, as a script's history has it.
use Rattle.std.proofs.Common.{◌≡◌, inl, inr, ⊎_elim, ℕ, ◌*◌, ◌≤◌, ◌==◌, List, [], ◌++◌, length, Bool, true, false, Option, Some, None, Result, Ok, Err, MatchBool, refl, ap, sym, ◌∙◌, subst, append_assoc}
use Rattle.std.proofs.lemmas.List.{append-nil}
use Rattle.std.proofs.lemmas.Bool.Decides.{eqb_tells}
use Rattle.std.proofs.lemmas.List.{append_cancel_left}
use mathlib.Core.List.{IsPrefix}
use Rattle.pass_book.specs.Histories.{entries_of, IsOfOthers}
use Rattle.pass_book.proofs.Sublists.{entries_of-append, front_empty}
use Rattle.seq_objects.specs.declared.bags.BagCall.TheVariants.{Add, Remove}
use Rattle.seq_objects.specs.declared.bags.BagReply.{BagReply}
use Rattle.seq_objects.specs.declared.bags.BagReply.TheVariants as bag
use Rattle.seq_objects.specs.BagSteps.{BagStep}
use Rattle.seq_objects.specs.Meanings.{BagOpens}
use Rattle.pass_table.specs.Passes.{change, caller_of, page}
use Rattle.shared_bag.specs.declared.shapes.Shape.{Shape}
use Rattle.shared_bag.specs.declared.bags.Bag.{Bag}
use Rattle.shared_bag.specs.declared.faults.AddFault.{AddFault}
use Rattle.shared_bag.specs.declared.faults.AddFault.TheVariants.{Busy as BusyAdd, Full as FullBag, OutOfMemory}
use Rattle.shared_bag.specs.declared.faults.Busy.{Busy}
use Rattle.shared_bag.specs.Answers.{BagChange, EntersBag, AddEnters, RemoveEnters, FullAlone, HadNoRoom}
use Rattle.shared_bag.specs.Bags.{shape_of, callers_of}
use Rattle.shared_bag.specs.Counted.{BagEntry, Counts, CountsAtLeast}
use Rattle.shared_bag.specs.Shapes.{locale_room}
use Rattle.seq_objects.specs.declared.kept_items.AnyItem.{AnyItem}
use Rattle.script_text.specs.declared.scripts.Call.{Call}
use Rattle.script_text.specs.declared.scripts.Call.TheVariants.{List as OfList, Bag as OfBag, Deque as OfDeque}
use Rattle.script_text.specs.declared.replies.Reply.{Reply}
use Rattle.script_text.specs.declared.replies.Reply.TheVariants.{Added, Full}
use Rattle.script_engine.specs.BagCalls.{AnyBagPass, ShowsAdd, ShowsRemove, Adds, AddAnswers, RemoveAnswers, BagGives}
use Rattle.script_engine.specs.Rounds.{Makes}
use Rattle.script_engine.specs.Says.{AtMoment, LeavesFull, IsFullWith, SaysBag}
use Rattle.script_engine.specs.Shown.{ShowsBag, bag_shown, Never}
use Rattle.script_engine.proofs.Entered.{enters_makes}

-- a bag of one caller is full with the items of a whole locale
full_alone : (callers segments room count : ℕ) → callers ≡ 1 → IsFullWith callers segments room count → count ≡ segments * room
full_alone callers segments room count one full = subst (λ (n : ℕ). IsFullWith n segments room count) one full

-- and the other way round
alone_full : (callers segments room count : ℕ) → callers ≡ 1 → count ≡ segments * room → IsFullWith callers segments room count
alone_full callers segments room count one many = subst (λ (n : ℕ). IsFullWith n segments room count) (sym one) many

-- a bag of several callers is full with the items of a segment
several_full : (callers segments room count : ℕ) → (callers == 1) ≡ false → room ≤ count → IsFullWith callers segments room count
several_full callers segments room count several many = subst (λ (b : Bool). MatchBool b (count ≡ segments * room) (room ≤ count)) (sym several) many

module _ (shape : Shape) (ch : BagChange) where
  abbrev IsFullAt : List BagEntry → Type 0
  IsFullAt = LeavesFull shape.callers shape.segments shape.room

  abbrev Said : Call → Reply → Type 0
  Said call reply = Makes (SaysBag shape.callers shape.segments shape.room) ch.caller ch.old call reply ch.new

  alone_at : (h : List BagEntry) → shape.callers ≡ 1 → Counts h (locale_room shape) → IsFullAt h
  alone_at h one many = (many.0, many.1, alone_full shape.callers shape.segments shape.room (length many.0) one many.2)

  not_alone_at : (h : List BagEntry) → (shape.callers == 1) ≡ false → CountsAtLeast h shape.room → IsFullAt h
  not_alone_at h several many = (many.0, many.1, several_full shape.callers shape.segments shape.room (length many.0) several many.2)

  counts_at : (h : List BagEntry) → shape.callers ≡ 1 → IsFullAt h → Counts h (locale_room shape)
  counts_at h one full = (full.0, full.1, full_alone shape.callers shape.segments shape.room (length full.0) one full.2)

  -- An add that is entered had found the bag not full, if its caller is the only one.
  added_makes : (item : ℕ) (once : Bool) (u : Unit {0}) → AddEnters ch item (Ok u) → FullAlone ch shape (Ok u) → Said (OfBag (Add item) once) Added
  added_makes item once u entered full =
      let m = enters_makes BagOpens BagStep ShowsBag Never [] ch.caller ch.old ch.new (OfBag (Add item) once) Added (Add item) bag.Added entered (refl, refl) in
      record { stretch = m.stretch; seen = m.seen; own = m.own; says = inr (m.says, λ one added. ([], (m.stretch, refl), refl, not_full one)) }
    where
      not_full : shape.callers ≡ 1 → IsFullAt (ch.old.seen ++ []) → ⊥
      not_full one is =
          let many = counts_at ch.old.seen one (subst IsFullAt (append-nil ch.old.seen) is) in
          absurd (cc ((full one).1 many))

  -- a moment between two pages of a caller that made no entry
  moment_at : (Holds : List BagEntry → Type 0) (rest h : List BagEntry) → ch.old.seen ++ rest ≡ ch.new.seen → IsOfOthers ch.caller rest → IsPrefix ch.old.seen h → IsPrefix h ch.new.seen → Holds h → AtMoment Holds ch.caller ch.old.seen rest
  moment_at Holds rest h seen others begins then holds =
      let whole : begins.0 ++ then.0 ≡ rest = append_cancel_left ch.old.seen (begins.0 ++ then.0) rest (sym (append_assoc ch.old.seen begins.0 then.0) ∙ (ap (λ (l : List BagEntry). l ++ then.0) begins.1 ∙ (then.1 ∙ sym seen))) in
      let none : entries_of ch.caller begins.0 ++ entries_of ch.caller then.0 ≡ [] = sym (entries_of-append ch.caller begins.0 then.0) ∙ (ap (entries_of ch.caller) whole ∙ others) in
      (begins.0, (then.0, whole), front_empty (entries_of ch.caller begins.0) (entries_of ch.caller then.0) none, subst Holds (sym begins.1) holds)

  -- An add that is refused as full met a moment at which the bag was.
  full_makes : (item : ℕ) (once : Bool) → AddEnters ch item (Err FullBag) → FullAlone ch shape (Err FullBag) → HadNoRoom ch shape.room (Err FullBag) → Said (OfBag (Add item) once) Full
  full_makes item once entered alone meets =
      record { stretch = entered.seen.0; seen = sym entered.seen.1; own = entered.own; says = inl (tt, refl, entered.others, ⊎_elim (λ t. whole t.1) (λ t. within t.0) (eqb_tells shape.callers 1)) }
    where
      whole : shape.callers ≡ 1 → AtMoment IsFullAt ch.caller ch.old.seen entered.seen.0
      whole one = moment_at IsFullAt entered.seen.0 ch.new.seen entered.seen.1 entered.others entered.seen ([], append-nil ch.new.seen) (alone_at ch.new.seen one ((alone one).0 refl))

      within : (shape.callers == 1) ≡ false → AtMoment IsFullAt ch.caller ch.old.seen entered.seen.0
      within several =
          moment_at IsFullAt entered.seen.0 meets.0 entered.seen.1 entered.others meets.1 meets.2 (not_alone_at meets.0 several meets.3)

  add_makes : (item : ℕ) (once : Bool) (result : Result Unit AddFault) (reply : Reply) → ShowsAdd result reply → AddEnters ch item result → FullAlone ch shape result → HadNoRoom ch shape.room result → Said (OfBag (Add item) once) reply
  add_makes item once (Ok u) reply shows entered alone meets = subst (λ (r : Reply). Said (OfBag (Add item) once) r) (sym shows) (added_makes item once u entered alone)
  add_makes item once (Err BusyAdd) reply shows entered alone meets = absurd shows
  add_makes item once (Err FullBag) reply shows entered alone meets = subst (λ (r : Reply). Said (OfBag (Add item) once) r) (sym shows) (full_makes item once entered alone meets)
  add_makes item once (Err OutOfMemory) reply shows entered alone meets = absurd shows

  removed : (once : Bool) (reply : Reply) (told : BagReply) → EntersBag ch Remove told → reply ≡ bag_shown told → (reply ≡ Added → ⊥) → Said (OfBag Remove once) reply
  removed once reply told entered shows other =
      let m = enters_makes BagOpens BagStep ShowsBag Never [] ch.caller ch.old ch.new (OfBag Remove once) reply Remove told entered (refl, shows) in
      record { stretch = m.stretch; seen = m.seen; own = m.own; says = inr (m.says, λ one added. absurd (other added)) }

  remove_makes : (once : Bool) (result : Result (Option ℕ) Busy) (reply : Reply) → ShowsRemove result reply → RemoveEnters ch result → Said (OfBag Remove once) reply
  remove_makes once (Ok (Some item)) reply shows entered = removed once reply (bag.Took item) entered shows (λ added. cc (sym shows ∙ added))
  remove_makes once (Ok None) reply shows entered = removed once reply bag.Empty entered shows (λ added. cc (sym shows ∙ added))
  remove_makes once (Err busy) reply shows entered = absurd shows

module _ (b : Bag AnyItem) (old new : AnyBagPass) where
  entered_add : (item : ℕ) (result : Result Unit AddFault) (once : Bool) → AddAnswers b old new item result once → Adds b old new item result
  entered_add item result true answers = answers.0
  entered_add item result false answers = answers.0

  entered_remove : (result : Result (Option ℕ) Busy) (once : Bool) → RemoveAnswers b old new result once → RemoveEnters (change old new) result
  entered_remove result true answers = answers.0
  entered_remove (Ok taken) false answers = answers.0
  entered_remove (Err busy) false answers = absurd answers

  -- a call of the bag, by its clauses, stands in the history so
  pub gives_makes : (call : Call) (reply : Reply) → BagGives b old call reply new → Makes (SaysBag (callers_of b) (shape_of b).segments (shape_of b).room) (caller_of old) (page old) call reply (page new)
  gives_makes (OfBag (Add item) once) reply gives =
      let adds = entered_add item gives.0 once gives.2 in
      add_makes (shape_of b) (change old new) item once gives.0 reply gives.1 adds.0 adds.1 adds.2
  gives_makes (OfBag Remove once) reply gives = remove_makes (shape_of b) (change old new) once gives.0 reply gives.1 (entered_remove gives.0 once gives.2)
  gives_makes (OfList call) reply gives = absurd gives
  gives_makes (OfDeque call once) reply gives = absurd gives
