-- Lists that show a function.
use Rattle.std.specs.Prelude.{◌≡◌, ◌<◌, ℕ, ◌+◌, ◌-◌, ◌*◌, List, length, slice_index_or}
use Rattle.pgas_base.specs.declared.shapes.Shape.{Shape}
use Rattle.epoch_laws.specs.declared.tokens.Token.{Token}
use Rattle.epoch_laws.specs.Places.{Place}

-- the list has the function's value of a key at the key's number
pub record Shows {K A : Type 0} (count : ℕ) (Inside : K → Type 0) (number : K → ℕ) (xs : List A) (f : K → A) : Type 0 where
  pub len : length xs ≡ count
  pub at : (k : K) (d : A) → Inside k → slice_index_or xs (number k) d ≡ f k

-- a list of deferred objects: its locale and its number there
pub record ListName : Type 0 where
  pub locale : ℕ
  pub list : ℕ

abbrev pub IsList : Shape → ListName → Type 0
IsList shape name = (name.locale < shape.locales) × (name.list < 4)

abbrev pub list_number : ListName → ℕ
list_number name = name.locale * 4 + name.list

pub record IsToken (shape : Shape) (token : Token) : Type 0 where
  pub locale : token.locale < shape.locales
  pub number : token.number < shape.tokens

abbrev pub token_number : Shape → Token → ℕ
token_number shape token = token.locale * shape.tokens + token.number

abbrev pub place_number : Shape → Place → ℕ
place_number shape place = place.locale * shape.objects + (place.index - 1)
