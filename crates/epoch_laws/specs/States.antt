-- The state of the machine, and the states in which it opens.
use Rattle.std.specs.Prelude.{◌<◌, ◌≤◌, ◌==◌, ℕ, ◌+◌, if◌then◌else◌, [], Option, None}
use Rattle.pgas_base.specs.declared.shapes.Shape.{Shape}
use Rattle.pgas_base.specs.declared.starts.Start.{Start}
use Rattle.pgas_base.specs.Pointers.{word_of}
use Rattle.pool_core.specs.declared.headers.State.TheVariants.{Free}
use Rattle.epoch_laws.specs.declared.tokens.Token.{Token}
use Rattle.epoch_laws.specs.Places.{Place, with_number}
use Rattle.epoch_laws.specs.Words.{Words}
use Rattle.epoch_laws.specs.Seats.{Seat, Idle, NoLook}

-- The shape and the number of seats never change. Beside the words and the seats stand two numbers: of each
-- pinned token the global epoch at its pin, and of each deferred object the epoch that its deferral read
pub record State : Type 0 where
  pub shape : Shape
  pub seats : ℕ
  pub words : Words
  pub seat : ℕ → Seat
  pub born : Token → ℕ
  pub tag : Place → Option ℕ

-- the object is one of the shape
pub record IsPlace (shape : Shape) (place : Place) : Type 0 where
  pub locale : place.locale < shape.locales
  pub some_object : 1 ≤ place.index
  pub index : place.index ≤ shape.objects

-- a seat that has done nothing
abbrev pub opening_seat : Seat
opening_seat = record {
  phase = Idle;
  token = record { locale = 0; number = 0 };
  announced = 0;
  free_look = None;
  owned = [];
  held = [];
  hand = [];
  deferral = record { pointer = record { locale = 0; index = 0; count = 0 }; tag = 0; old = 0 };
  reclaim = record { epoch = 0; scan = record { locale = 0; number = 0 }; spread = 0; collected = 0; chain = 0; walked = [] };
  stack = record { phase = NoLook; locale = 0; head = record { count = 0; index = 0 }; next = 0 };
  homing = record { tail = None; old = 0; chain = 0 };
}

-- every object is free, and each locale's stack has its objects by rising index
unfoldable pub opening_words : Shape → Start → Words
opening_words shape start = record {
  epoch = start.epoch;
  election = 0;
  epoch_of = λ l. start.epoch;
  election_of = λ l. 0;
  list_head = λ l m. 0;
  free_head = λ l. record { count = start.stack; index = 1 };
  home_head = λ l. 0;
  token_word = λ t. 0;
  header = λ p. record { count = start.count; state = Free };
  next = λ p. if p.index == shape.objects then 0 else word_of (record { locale = p.locale; index = p.index + 1; count = start.count });
}

unfoldable pub opening : Shape → Start → ℕ → State
opening shape start seats = record { shape = shape; seats = seats; words = opening_words shape start; seat = λ c. opening_seat; born = λ t. 0; tag = λ p. None }

-- the state with this record of one seat
abbrev pub with_seat : State → ℕ → Seat → State
with_seat s c seat = record s { seat = with_number s.seat c seat }

-- the state with these words and this record of one seat
abbrev pub with_words : State → Words → ℕ → Seat → State
with_words s words c seat = record s { words = words; seat = with_number s.seat c seat }
