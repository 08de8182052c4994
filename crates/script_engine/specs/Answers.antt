-- The answers of a script: one legal history of its object in which each call stands in its place, with its reply, and what it leaves.
use Rattle.std.specs.Prelude.{◌≡◌, ℕ, ◌<◌, List, [], ◌∷◌, ◌++◌, length, slice_get, slice_index_or, Some, IsPermutation}
use Rattle.std.specs.List.{flat_map}
use Rattle.std.specs.List.Sorted.{IsNonDecreasing}
use Rattle.pass_book.specs.declared.entries.Entry.{Entry}
use Rattle.pass_book.specs.Histories.{Leaves, IsOfOthers, IsOfCallers}
use Rattle.seq_objects.specs.BagSteps.{BagStep}
use Rattle.seq_objects.specs.ListSteps.{opening_list}
use Rattle.seq_objects.specs.Meanings.{ListOpens, ListSteps, BagOpens, DequeOpens, DequeSteps}
use Rattle.script_text.specs.declared.scripts.ObjectLine.{ObjectLine}
use Rattle.script_text.specs.declared.scripts.ObjectLine.TheVariants.{List as AList, Bag as ABag, Deque as ADeque}
use Rattle.script_text.specs.declared.scripts.Call.{Call}
use Rattle.script_text.specs.declared.replies.Reply.{Reply}
use Rattle.script_text.specs.declared.replies.Left.{Left}
use Rattle.script_text.specs.declared.replies.Replies.{Replies}
use Rattle.script_text.specs.Replies.{reply_lists, left_items}
use Rattle.script_text.specs.Scripts.{PlainScript, IsValid}
use Rattle.script_engine.specs.Says.{SaysList, SaysPlainBag, SaysBag, SaysDeque}

module _ {Asked Told : Type 0} (Says : ℕ → Call → Reply → List (Entry Asked Told) → List (Entry Asked Told) → Type 0) where
  -- How a caller's calls of a round, with their replies, stand in the round's part of the history, before which these
  -- entries stand: each call has a stretch of it, one behind another, and nothing of the caller stands behind the last.
  abbrev pub Stands : ℕ → List (Entry Asked Told) → List Call → List Reply → List (Entry Asked Told) → Type 0
  Stands caller before [] [] part = IsOfOthers caller part
  Stands caller before (call ∷ calls) (reply ∷ replies) part =
      (stretch rest : List (Entry Asked Told)) × (part ≡ stretch ++ rest) × Says caller call reply before stretch × Stands caller (before ++ stretch) calls replies rest
  Stands caller before calls replies part = ⊥

  -- One round: each caller's calls stand in it with their replies.
  pub record AnswersRound (before : List (Entry Asked Told)) (calls : List (List Call)) (replies : List (List Reply)) (part : List (Entry Asked Told)) : Type 0 where
    pub each : length replies ≡ length calls
    pub stands : (caller : ℕ) (its : List Call) (told : List Reply) → slice_get calls caller ≡ Some its → slice_get replies caller ≡ Some told
        → Stands caller before its told part

  -- All of a round stands before all of a later round.
  abbrev pub AnswersRounds : List (Entry Asked Told) → List (List (List Call)) → List (List (List Reply)) → List (Entry Asked Told) → Type 0
  AnswersRounds before [] [] history = history ≡ []
  AnswersRounds before (calls ∷ rounds) (replies ∷ rest) history =
      (now later : List (Entry Asked Told)) × AnswersRound before calls replies now × AnswersRounds (before ++ now) rounds rest later × (history ≡ now ++ later)
  AnswersRounds before rounds replies history = ⊥

-- The replies of each caller are those of round after round.
pub record AreJoined (callers : ℕ) (rounds : List (List (List Reply))) (replies : List (List Reply)) : Type 0 where
  pub each : length replies ≡ callers
  pub joined : (caller : ℕ) → caller < callers → slice_get replies caller ≡ Some (flat_map (λ round. slice_index_or round caller []) rounds)

module _ {Asked Told State : Type 0} (opens : State → Type 0) (step : State → Asked → Told → State → Type 0) where
  -- An object that opens so answers the script so, and this is left.
  pub record Answers (Says : ℕ → Call → Reply → List (Entry Asked Told) → List (Entry Asked Told) → Type 0) (start : State) (script : PlainScript) (replies : List (List Reply)) (IsLeft : State → Type 0) : Type 0 where
    pub rounds : List (List (List Reply))
    pub joined : AreJoined script.callers rounds replies
    pub history : List (Entry Asked Told)
    pub answers : AnswersRounds Says [] script.rounds rounds history
    pub callers : IsOfCallers script.callers history
    pub state : State
    pub leaves : Leaves opens step start history state
    pub left : IsLeft state

-- What is left of a bag is its items in rising order.
abbrev pub IsRisingOrder : List ℕ → List ℕ → Type 0
IsRisingOrder items bag = IsPermutation bag items × IsNonDecreasing items

-- The answer to a script of an object of its own, by its kind, with what is left. A bag is never full.
abbrev pub PlainAnswersOf : ObjectLine → PlainScript → List (List Reply) → Left → Type 0
PlainAnswersOf (AList locales objects width) script replies left =
    Answers ListOpens ListSteps (SaysList width) (record { width = width; items = opening_list width }) script replies (λ state. left_items left ≡ state.items)
PlainAnswersOf (ABag locales segments room) script replies left =
    Answers BagOpens BagStep SaysPlainBag [] script replies (IsRisingOrder (left_items left))
PlainAnswersOf (ADeque locales capacity) script replies left =
    Answers DequeOpens DequeSteps SaysDeque (record { capacity = capacity; items = [] }) script replies (λ state. left_items left ≡ state.items)

-- The answer to a script of an object that callers share: a bag may be full.
abbrev pub AnswersOf : ObjectLine → PlainScript → List (List Reply) → Left → Type 0
AnswersOf (AList locales objects width) script replies left = PlainAnswersOf (AList locales objects width) script replies left
AnswersOf (ABag locales segments room) script replies left =
    Answers BagOpens BagStep (SaysBag script.callers segments room) [] script replies (IsRisingOrder (left_items left))
AnswersOf (ADeque locales capacity) script replies left = PlainAnswersOf (ADeque locales capacity) script replies left

-- The replies are an answer of the script.
abbrev pub IsAnswer : PlainScript → Replies → Type 0
IsAnswer script replies = AnswersOf script.object script (reply_lists replies) replies.left

-- The same, where no bag is full.
abbrev pub IsPlainAnswer : PlainScript → Replies → Type 0
IsPlainAnswer script replies = PlainAnswersOf script.object script (reply_lists replies) replies.left

-- each step of the object is a function
abbrev pub IsOrdered : ObjectLine → Type 0
IsOrdered (AList locales objects width) = Unit {0}
IsOrdered (ABag locales segments room) = ⊥
IsOrdered (ADeque locales capacity) = Unit {0}

-- A script of one caller, on a list or a deque, has one answer at most.
abbrev pub AnswersOnce : Type 0
AnswersOnce = (script : PlainScript) (replies others : List (List Reply)) (left rest : Left) → IsValid script → script.callers ≡ 1 → IsOrdered script.object
    → PlainAnswersOf script.object script replies left → PlainAnswersOf script.object script others rest → (replies ≡ others) × (left_items left ≡ left_items rest)
