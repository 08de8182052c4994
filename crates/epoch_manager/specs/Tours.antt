-- How a take goes round the locales, by the words that it reads.
use Rattle.std.specs.Prelude.{◌≡◌, ℕ, ◌-◌, true, false, not, is_some, List, [], ◌∷◌, ◌++◌, All, Some, Result, Ok, Err}
use Rattle.std.specs.List.{range_with_len}
use Rattle.pass_book.specs.declared.entries.Look.{Look}
use Rattle.pass_table.specs.Words.{AreTries}
use Rattle.pgas_base.specs.declared.shapes.Shape.{Shape}
use Rattle.pgas_base.specs.Pointers.{Pointer}
use Rattle.pool_core.specs.Headers.{header_word}
use Rattle.pool_core.specs.declared.headers.State.TheVariants.{Free}
use Rattle.epoch_laws.specs.Places.{Place, place_of}
use Rattle.epoch_laws.specs.States.{IsPlace}
use Rattle.epoch_laws.specs.Words.{WordName, free_stack, home_chain, header_of, next_of}
use Rattle.epoch_manager.specs.declared.faults.TakeFault.{TakeFault}
use Rattle.epoch_manager.specs.declared.faults.TakeFault.TheVariants.{NoRoom, Spent}
use Rattle.epoch_manager.specs.Takes.{last_header, last_head, is_spent, IsFreeHeader, NoneIsFree, SomeIsSpent}

-- the word is one of this locale's stack, of its objects, or of its chain of objects that came home
abbrev pub IsOf : ℕ → WordName → Type 0
IsOf l (free_stack k) = k ≡ l
IsOf l (home_chain k) = k ≡ l
IsOf l (header_of p) = p.locale ≡ l
IsOf l (next_of p) = p.locale ≡ l
IsOf l name = ⊥

-- each of the words is
abbrev pub AreOf : ℕ → List (Look WordName) → Type 0
AreOf l looks = All (λ (look : Look WordName). IsOf l look.name) looks

-- A locale was tried and no object was got: only words of it were read, among them the head of its stack, and the header of each of its objects unless
-- the head was read last with the last count
pub record IsMissed (shape : Shape) (l : ℕ) (looks : List (Look WordName)) : Type 0 where
  pub local : AreOf l looks
  pub head : is_some (last_head looks l) ≡ true
  pub headers : (p : Place) → p.locale ≡ l → IsPlace shape p → is_some (last_header looks p) ≡ not (is_spent (last_head looks l))

-- these locales were tried so, one after another
abbrev pub IsTour : Shape → List ℕ → List (Look WordName) → Type 0
IsTour shape [] looks = looks ≡ []
IsTour shape (l ∷ order) looks = (here : List (Look WordName)) × (rest : List (Look WordName)) × (looks ≡ here ++ rest) × IsMissed shape l here × IsTour shape order rest

-- all locales: the first and those above it, and then those below it
abbrev pub order_from : ℕ → ℕ → List ℕ
order_from first many = range_with_len first (many - first) ++ range_with_len 0 first

-- a whole round, which begins with the locale that was asked for
abbrev pub IsRound : Shape → ℕ → List (Look WordName) → Type 0
IsRound shape asked looks = IsTour shape (order_from asked shape.locales) looks

-- a whole round after which a take goes round again: no head was read last with the last count, and the header of some object was read last as free
pub record GoesAgain (shape : Shape) (asked : ℕ) (looks : List (Look WordName)) : Type 0 where
  pub round : IsRound shape asked looks
  pub unspent : (l : ℕ) → is_spent (last_head looks l) ≡ false
  pub free : (p : Place) × IsPlace shape p × IsFreeHeader (last_header looks p)

-- An object was got of a locale in this order, once those before it were tried: only words of its locale were read then, the head of its stack among
-- them, and last not with the last count. Its header was read last as free, in this use
pub record IsGot (shape : Shape) (order : List ℕ) (q : Pointer) (looks : List (Look WordName)) : Type 0 where
  pub passed : List ℕ
  pub left : List ℕ
  pub in_order : order ≡ passed ++ q.locale ∷ left
  pub before : List (Look WordName)
  pub here : List (Look WordName)
  pub words : looks ≡ before ++ here
  pub tour : IsTour shape passed before
  pub local : AreOf q.locale here
  pub head : is_some (last_head here q.locale) ≡ true
  pub unspent : is_spent (last_head here q.locale) ≡ false
  pub free : last_header here (place_of q) ≡ Some (header_word q.count Free)

-- the last round is the cause: it got the object, or it was a whole round in which no object was free, or in which a head was read last with the last count
abbrev pub TakeCause : Shape → ℕ → Result Pointer TakeFault → List (Look WordName) → Type 0
TakeCause shape asked (Ok q) looks = IsGot shape (order_from asked shape.locales) q looks
TakeCause shape asked (Err (NoRoom locale)) looks = IsRound shape asked looks × NoneIsFree shape looks
TakeCause shape asked (Err (Spent count)) looks = IsRound shape asked looks × SomeIsSpent shape looks

-- the words that a take read: those of whole rounds, none or more, after which it went on, and then those of its last
pub record TakeReads (shape : Shape) (asked : ℕ) (result : Result Pointer TakeFault) (looks : List (Look WordName)) : Type 0 where
  pub before : List (Look WordName)
  pub last : List (Look WordName)
  pub words : looks ≡ before ++ last
  pub again : AreTries (GoesAgain shape asked) before
  pub cause : TakeCause shape asked result last
