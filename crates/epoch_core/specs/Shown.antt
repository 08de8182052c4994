-- The state that a running machine shows.
use Rattle.std.specs.Prelude.{◌≡◌, ◌<◌, ◌≤◌, ◌*◌, ◌^◌, ℕ, length, slice_index_or}
use Rattle.epoch_laws.specs.States.{State, IsPlace}
use Rattle.epoch_laws.specs.Words.{Words}
use Rattle.pgas_base.specs.declared.shapes.Shape.{Shape}
use Rattle.pgas_base.specs.Shapes.{IsShape}
use Rattle.epoch_core.specs.declared.machine.Machine.{Machine}
use Rattle.epoch_core.specs.declared.seats.Seat.{Seat as RunningSeat}
use Rattle.epoch_core.specs.Tables.{Shows, IsList, list_number, IsToken, token_number, place_number}
use Rattle.epoch_core.specs.Seated.{SeatShown}
use Rattle.epoch_core.specs.Marks.{Marked, AreCounted}

-- the words of the machine
pub record WordsShown (shape : Shape) (m : Machine) (words : Words) : Type 0 where
  pub epoch : m.epoch ≡ words.epoch
  pub election : m.election ≡ words.election
  pub epochs : Shows shape.locales (λ l. l < shape.locales) (λ l. l) m.epochs.items words.epoch_of
  pub elections : Shows shape.locales (λ l. l < shape.locales) (λ l. l) m.elections.items words.election_of
  pub lists : Shows (shape.locales * 4) (IsList shape) list_number m.lists.items (λ n. words.list_head n.locale n.list)
  pub free_heads : Shows shape.locales (λ l. l < shape.locales) (λ l. l) m.free_heads.items words.free_head
  pub home_heads : Shows shape.locales (λ l. l < shape.locales) (λ l. l) m.home_heads.items words.home_head
  pub tokens : Shows (shape.locales * shape.tokens) (IsToken shape) (token_number shape) m.tokens.items words.token_word
  pub headers : Shows (shape.locales * shape.objects) (IsPlace shape) (place_number shape) m.headers.items words.header
  pub next : Shows (shape.locales * shape.objects) (IsPlace shape) (place_number shape) m.next.items words.next

-- the numbers of the words are in range
pub record WordsInRange (shape : Shape) (words : Words) : Type 0 where
  pub epoch : words.epoch ≤ 2 ^ 62
  pub epoch_of : (l : ℕ) → l < shape.locales → words.epoch_of l ≤ 2 ^ 62
  pub free_index : (l : ℕ) → l < shape.locales → (words.free_head l).index ≤ shape.objects
  pub free_count : (l : ℕ) → l < shape.locales → (words.free_head l).count < 2 ^ 40

-- each running seat shows its seat, and counts what is marked as in its hand and walked over
pub record SeatsShown (shape : Shape) (m : Machine) (s : State) : Type 0 where
  pub count : length m.seats.items ≡ s.seats
  pub each : (c : ℕ) (d : RunningSeat) → c < s.seats → SeatShown shape (slice_index_or m.seats.items c d) (s.seat c)
  pub counted : (c : ℕ) (d : RunningSeat) → c < s.seats → AreCounted (slice_index_or m.seats.items c d) c m.keepers.items

pub record IsShowing (m : Machine) (s : State) : Type 0 where
  pub shaped : IsShape m.shape
  pub shape : s.shape ≡ m.shape
  pub words : WordsShown m.shape m s.words
  pub low : WordsInRange m.shape s.words
  pub tags : Shows (m.shape.locales * m.shape.objects) (IsPlace m.shape) (place_number m.shape) m.tags.items s.tag
  pub seats : SeatsShown m.shape m s
  pub marks : Marked m.shape s.seats m.keepers.items s.seat
