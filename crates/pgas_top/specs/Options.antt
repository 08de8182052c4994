-- Words as options: `--NAME VALUE` in two words, or `--NAME=VALUE` in one.
use Rattle.std.specs.Prelude.{◌≡◌, ℕ, ◌==◌, nat_lt, Bool, List, [], ◌∷◌, ◌⊎◌, length, if◌then◌else◌, Option, None, Some}
use Rattle.std.specs.List.{after_first, before_first, position_or_len}
use Rattle.std.specs.Str.Parse.{IsNumeral, digits_value}

-- an option: its name, with the two dashes, and its value
pub record Setting : Type 0 where
  pub name : List ℕ
  pub value : List ℕ

abbrev pub is_equals : ℕ → Bool
is_equals byte = byte == 61

-- the word has an `=`
abbrev pub has_equals : List ℕ → Bool
has_equals word = nat_lt (position_or_len is_equals word) (length word)

-- one word as an option, cut at its first `=`; with none, the value is empty
abbrev pub word_option : List ℕ → Setting
word_option word = record { name = before_first is_equals word; value = after_first is_equals word }

-- the words, read as options from the first word on
abbrev pub options_of : List (List ℕ) → List Setting
options_of [] = []
options_of (word ∷ []) = word_option word ∷ []
options_of (word ∷ next ∷ rest) =
    if has_equals word then word_option word ∷ options_of (next ∷ rest)
    else record { name = word; value = next } ∷ options_of rest

-- the word is one or more decimal digits, which write the number
abbrev pub IsNumberWord : List ℕ → ℕ → Type 0
IsNumberWord word number = IsNumeral 10 word × (digits_value 10 word ≡ number)

-- the word is there, and is this number
abbrev pub IsNumberOf : Option (List ℕ) → ℕ → Type 0
IsNumberOf None number = ⊥
IsNumberOf (Some word) number = IsNumberWord word number

-- the first option with the name has this number for its value
abbrev pub HasNumber : List Setting → List ℕ → ℕ → Type 0
HasNumber [] name number = ⊥
HasNumber (option ∷ options) name number =
    ((option.name ≡ name) × IsNumberWord option.value number) ⊎ ((option.name ≡ name → ⊥) × HasNumber options name number)
