-- What a check and a step answer.
use Rattle.std.specs.Prelude.{◌≡◌, ℕ, List, Result, Ok, Err, IsTrue, Bool}
use Rattle.epoch_laws.specs.declared.steps.Seen.{Seen}
use Rattle.epoch_laws.specs.declared.steps.Illegal.{Illegal}
use Rattle.epoch_laws.specs.Needs.{Need, AllMet, FirstUnmet, Move}
use Rattle.epoch_laws.specs.States.{State}
use Rattle.epoch_core.specs.declared.machine.Machine.{Machine}
use Rattle.epoch_core.specs.Shown.{IsShowing}

-- a check of one need tells whether it is met, and else its number and its word
abbrev pub Checks : {T : Type 0} → Need → Result T Illegal → Type 0
Checks need (Ok _) = need.met
Checks need (Err e) = (need.met → ⊥) × (need.number ≡ e.need) × (need.word ≡ e.word)

-- the same of a test
abbrev pub ChecksTest : {T : Type 0} → Bool → ℕ → ℕ → Result T Illegal → Type 0
ChecksTest test number word (Ok _) = IsTrue test
ChecksTest test number word (Err e) = (IsTrue test → ⊥) × (number ≡ e.need) × (word ≡ e.word)

-- a check of needs tells whether all are met, and else the first that isn't
abbrev pub Tells : {T : Type 0} → List Need → Result T Illegal → Type 0
Tells needs (Ok _) = AllMet needs
Tells needs (Err e) = FirstUnmet needs e.need e.word

-- a step is made exactly where its needs are met, and else changes nothing
abbrev pub Makes : State → Move → Machine → Result Seen Illegal → Type 0
Makes s move after (Ok seen) = AllMet move.needs × (seen ≡ move.outcome.seen) × IsShowing after move.outcome.next
Makes s move after (Err e) = FirstUnmet move.needs e.need e.word × IsShowing after s
