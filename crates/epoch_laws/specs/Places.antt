-- Where objects are, the words of pointers to them, and functions that are changed at one argument.
use Rattle.std.specs.Prelude.{◌==◌, ◌&&◌, ℕ, ◌/◌, ◌%◌, ◌^◌, Bool, true, false, if◌then◌else◌, List, [], ◌∷◌}
use Rattle.pgas_base.specs.Pointers.{Pointer}
use Rattle.epoch_laws.specs.declared.tokens.Token.{Token}

-- an object's locale, and its index there
pub record Place : Type 0 where
  pub locale : ℕ
  pub index : ℕ

abbrev pub place_of : Pointer → Place
place_of pointer = record { locale = pointer.locale; index = pointer.index }

-- the pointer to this use of the object there
abbrev pub pointer_at : Place → ℕ → Pointer
pointer_at place count = record { locale = place.locale; index = place.index; count = count }

-- the index in a word: that of the pointer with this word, and 0 for the word 0
unfoldable pub index_in : ℕ → ℕ
index_in word = word / 2 ^ 32 % 2 ^ 24

-- the place of the pointer with this word
unfoldable pub place_in : ℕ → Place
place_in word = record { locale = word / 2 ^ 56; index = index_in word }

-- the next word of an object whose link was not stored yet
abbrev pub pending : ℕ
pending = 18446744073709551615

abbrev pub same_place : Place → Place → Bool
same_place p q = (p.locale == q.locale) && (p.index == q.index)

abbrev pub same_token : Token → Token → Bool
same_token t u = (t.locale == u.locale) && (t.number == u.number)

module _ {A : Type 0} where
  -- the function with another value at one number
  unfoldable pub with_number : (ℕ → A) → ℕ → A → ℕ → A
  with_number f n a m = if m == n then a else f m

  unfoldable pub with_place : (Place → A) → Place → A → Place → A
  with_place f p a q = if same_place q p then a else f q

  unfoldable pub with_token : (Token → A) → Token → A → Token → A
  with_token f t a u = if same_token u t then a else f u

unfoldable pub is_among : Place → List Place → Bool
is_among p [] = false
is_among p (q ∷ places) = if same_place p q then true else is_among p places

-- the places but this one
unfoldable pub without : Place → List Place → List Place
without p [] = []
without p (q ∷ places) = if same_place q p then without p places else q ∷ without p places

-- the places but these
unfoldable pub without_all : List Place → List Place → List Place
without_all gone [] = []
without_all gone (q ∷ places) = if is_among q gone then without_all gone places else q ∷ without_all gone places

-- the places with this one, which stands there once
unfoldable pub joined_by : Place → List Place → List Place
joined_by p places = if is_among p places then places else p ∷ places
