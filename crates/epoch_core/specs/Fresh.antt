-- An object that no seat has to itself.
use Rattle.std.specs.Prelude.{◌≡◌, ◌<◌, ◌≤◌, ℕ, true, false, List}
use Rattle.epoch_laws.specs.Places.{Place, is_among, index_in}
use Rattle.epoch_laws.specs.Needs.{Need, AllMet}
use Rattle.epoch_laws.specs.States.{State, IsPlace}
use Rattle.epoch_laws.specs.StackSteps.{looked_top, same_head, stack_pop}
use Rattle.epoch_core.specs.declared.marks.Role.{Role}
use Rattle.epoch_core.specs.Marks.{list_of}

-- it is one of the shape, and no seat owns it, has it in its hand or walked over it
pub record IsFresh (s : State) (p : Place) : Type 0 where
  pub place : IsPlace s.shape p
  pub unkept : (role : Role) (c : ℕ) → c < s.seats → is_among p (list_of role (s.seat c)) ≡ false

-- where the step is allowed
abbrev pub FreshIf : State → List Need → Place → Type 0
FreshIf s needs p = AllMet needs → IsFresh s p

-- where a pop is allowed and wins, the object on top is fresh, and the next word that was read has an index of the shape, or 0
abbrev pub PopsFresh : State → ℕ → Type 0
PopsFresh s c =
    let look = (s.seat c).stack in
    AllMet ((stack_pop s c).needs) → same_head (s.words.free_head look.locale) look.head ≡ true → IsFresh s (looked_top look) × (index_in look.next ≤ s.shape.objects)
