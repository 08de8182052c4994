-- What the record of a running seat says of a seat of the machine.
use Rattle.std.specs.Prelude.{◌≡◌, ◌<◌, ◌≤◌, ◌^◌, List, [], Option, Some, None, map, reverse}
use Rattle.std.specs.Option.{option_map}
use Rattle.pgas_base.specs.Pointers.{Pointer}
use Rattle.pgas_base.specs.declared.shapes.Shape.{Shape}
use Rattle.epoch_laws.specs.Places.{Place, place_of, place_in}
use Rattle.epoch_laws.specs.Seats.{Seat}
use Rattle.epoch_laws.specs.Seats as laws
use Rattle.epoch_laws.specs.States.{IsPlace}
use Rattle.epoch_core.specs.Looks.{looked_pointer}
use Rattle.epoch_core.specs.Phases.{phase_of, stack_phase_of}
use Rattle.epoch_core.specs.declared.seats.Seat.{Seat as RunningSeat}
use Rattle.epoch_core.specs.Tables.{IsToken}

-- the pointer of a deferral, before the first
abbrev pub pointer_or_none : Option Pointer → Pointer
pointer_or_none None = record { locale = 0; index = 0; count = 0 }
pointer_or_none (Some pointer) = pointer

-- the seat with these objects owned, in its hand and walked over
abbrev pub seat_with : RunningSeat → List Place → List Place → List Place → Seat
seat_with r owned hand walked = record {
  phase = phase_of r.phase;
  token = r.token;
  announced = r.announced;
  free_look = option_map looked_pointer r.free_look;
  owned = owned;
  held = map place_in (reverse r.held.items);
  hand = hand;
  deferral = record { pointer = pointer_or_none r.deferral.pointer; tag = r.deferral.tag; old = r.deferral.old };
  reclaim = record {
    epoch = r.reclaim.epoch;
    scan = r.reclaim.scan;
    spread = r.reclaim.spread;
    collected = r.reclaim.collected;
    chain = r.reclaim.chain;
    walked = walked;
  };
  stack = record { phase = stack_phase_of r.stack.phase; locale = r.stack.locale; head = r.stack.head; next = r.stack.next };
  homing = record { tail = option_map place_of r.homing.tail; old = r.homing.old; chain = r.homing.chain };
}

-- the pointer is one to an object of the shape
abbrev pub PointsInside : Shape → Option Pointer → Type 0
PointsInside shape pointer = (p : Pointer) × (pointer ≡ Some p) × IsPlace shape (place_of p)

abbrev pub TailInside : Shape → Option Pointer → Type 0
TailInside shape None = Unit {0}
TailInside shape (Some p) = IsPlace shape (place_of p)

-- The numbers of a running seat are in range. Only from an epoch below the last is an advance made, and nothing is walked over but after one
pub record IsInRange (shape : Shape) (r : RunningSeat) (walked : List Place) : Type 0 where
  pub token : IsToken shape r.token
  pub announced : r.announced ≤ 2 ^ 62
  pub looked : phase_of r.phase ≡ laws.DeferLooked → PointsInside shape r.deferral.pointer
  pub swapped : phase_of r.phase ≡ laws.DeferSwapped → PointsInside shape r.deferral.pointer
  pub scans : phase_of r.phase ≡ laws.Scanning → r.reclaim.epoch < 2 ^ 62
  pub advances : phase_of r.phase ≡ laws.Advanced → r.reclaim.epoch < 2 ^ 62
  pub rests : (phase_of r.phase ≡ laws.Advanced → ⊥) → walked ≡ []
  pub scan_locale : r.reclaim.scan.locale ≤ shape.locales
  pub scan_number : r.reclaim.scan.number < shape.tokens
  pub stack_locale : r.stack.locale < shape.locales
  pub stack_index : r.stack.head.index ≤ shape.objects
  pub tail : TailInside shape r.homing.tail

-- the running seat shows the seat
pub record SeatShown (shape : Shape) (r : RunningSeat) (seat : Seat) : Type 0 where
  pub same : seat ≡ seat_with r seat.owned seat.hand seat.reclaim.walked
  pub in_range : IsInRange shape r seat.reclaim.walked
