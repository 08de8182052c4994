-- A run that goes on.
use Rattle.std.proofs.Common.{◌≡◌, ℕ, false, List, Result, Ok, Err, sym, subst}
use Rattle.pgas_base.specs.declared.shapes.Shape.{Shape}
use Rattle.pgas_base.specs.declared.starts.Start.{Start}
use Rattle.epoch_laws.specs.declared.steps.Illegal.{Illegal}
use Rattle.epoch_laws.specs.declared.steps.Kind.{Kind}
use Rattle.epoch_laws.specs.declared.steps.Seen.{Seen}
use Rattle.epoch_laws.specs.declared.steps.Step.{Step}
use Rattle.epoch_laws.specs.Laws.{IsNobodys, TakesNobodys}
use Rattle.epoch_laws.specs.Places.{Place, is_among}
use Rattle.epoch_laws.specs.Runs.{state_after}
use Rattle.epoch_laws.specs.States.{State, opening}
use Rattle.epoch_laws.specs.Steps.{move}
use Rattle.epoch_laws.proofs.SoundRuns.{objects_are_apart}
use Rattle.epoch_laws.proofs.Onward.{allowed_then, after_then}
use Rattle.epoch_core.specs.declared.machine.Machine.{Machine}
use Rattle.epoch_core.specs.declared.marks.Role.{Role}
use Rattle.epoch_core.specs.declared.marks.Role.TheVariants.{Owner, Hand, Walker}
use Rattle.epoch_core.specs.Answers.{Makes}
use Rattle.epoch_core.specs.Fresh.{IsFresh}
use Rattle.epoch_core.specs.Marks.{list_of}
use Rattle.epoch_core.specs.Runs.{Goes, IsAfter, TakesFresh}
use Rattle.epoch_core.specs.Shown.{IsShowing}

unkept : (s : State) (p : Place) → IsNobodys s p → (role : Role) (c : ℕ) → is_among p (list_of role (s.seat c)) ≡ false
unkept s p one Owner c = one.owned c
unkept s p one Hand c = one.hand c
unkept s p one Walker c = one.walked c

fresh : (s : State) (p : Place) → IsNobodys s p → IsFresh s p
fresh s p one = record { place = one.inside; unkept = λ role c in_range. unkept s p one role c }

takes_fresh : (s : State) (c : ℕ) → TakesNobodys s c → TakesFresh s c
takes_fresh s c takes = record {
  popped = λ needs won. (fresh s _ (takes.popped needs won), takes.below needs won);
  taken = λ needs. fresh s _ (takes.taken needs);
  walked = λ needs. fresh s _ (takes.walked needs);
}

-- what is taken after a run is no seat's
pub after_takes_fresh : (m : Machine) (shape : Shape) (start : Start) (seats : ℕ) (steps : List Step)
    → IsAfter m shape start seats steps → (c : ℕ) → TakesFresh (state_after (opening shape start seats) steps) c
after_takes_fresh m shape start seats steps after c =
    takes_fresh _ c (objects_are_apart shape start seats steps after.shaped after.count after.run c)

-- a step that is made or refused as its kind's definition says goes on with the run, or leaves it
pub goes : (old new : Machine) (shape : Shape) (start : Start) (seats : ℕ) (steps : List Step) (step : Step) (result : Result Seen Illegal)
    → IsAfter old shape start seats steps
    → Makes (state_after (opening shape start seats) steps) (move (state_after (opening shape start seats) steps) step.seat step.kind) new result
    → Goes shape start seats steps step new result
goes old new shape start seats steps step (Ok seen) after made = (
  made.0,
  made.1,
  record {
    shaped = after.shaped;
    count = after.count;
    run = allowed_then (opening shape start seats) steps step after.run made.0;
    shows = subst (IsShowing new) (sym (after_then (opening shape start seats) steps step)) made.2;
  },
)
goes old new shape start seats steps step (Err e) after made =
    (made.0, record { shaped = after.shaped; count = after.count; run = after.run; shows = made.1 })

-- what a step of one kind makes is what it makes of a kind that is the same
pub of_kind : (s : State) (c : ℕ) (k l : Kind) (m : Machine) (r : Result Seen Illegal) → k ≡ l → Makes s (move s c l) m r → Makes s (move s c k) m r
of_kind s c k l m r same made = subst (λ q. Makes s (move s c q) m r) (sym same) made
