-- A line is cut at its blanks into words.
use Rattle.std.specs.Prelude.{◌≡◌, ◌≢◌, ℕ, ◌+◌, ◌*◌, ◌<◌, length, Bool, false, ◌==◌, ◌||◌, nat_lt, if◌then◌else◌, List, [], ◌∷◌, ◌++◌, Option, Some, None}
use Rattle.std.specs.List.{AllByRecursion}
use Rattle.std.specs.Char.{digit_value}

-- a space, a tab or CR
abbrev pub is_blank : ℕ → Bool
is_blank byte = byte == 32 || (byte == 9 || byte == 13)

-- The letters at the front of some bytes, up to a blank, and the words behind them.
pub record Cut : Type 0 where
  pub word : List ℕ
  pub others : List (List ℕ)

-- no word is empty
abbrev pub with_word : List ℕ → List (List ℕ) → List (List ℕ)
with_word [] words = words
with_word (letter ∷ letters) words = (letter ∷ letters) ∷ words

abbrev pub words_of : Cut → List (List ℕ)
words_of cut = with_word cut.word cut.others

abbrev pub behind_blank : Cut → Cut
behind_blank cut = record { word = []; others = words_of cut }

abbrev pub with_letter : ℕ → Cut → Cut
with_letter letter cut = record { word = letter ∷ cut.word; others = cut.others }

abbrev pub cut : List ℕ → Cut
cut [] = record { word = []; others = [] }
cut (byte ∷ bytes) = if is_blank byte then behind_blank (cut bytes) else with_letter byte (cut bytes)

abbrev pub is_digit : ℕ → Bool
is_digit byte = nat_lt (digit_value byte) 10

-- the number that decimal digits write behind those of another number, if they are digits alone
abbrev pub number_behind : ℕ → List ℕ → Option ℕ
number_behind number [] = Some number
number_behind number (byte ∷ bytes) = if is_digit byte then number_behind (number * 10 + digit_value byte) bytes else None

-- neither a blank nor the end of a line
abbrev pub IsLetter : ℕ → Type 0
IsLetter byte = (is_blank byte ≡ false) × (byte ≢ 10)

-- one letter or more
abbrev pub AreLetters : List ℕ → Type 0
AreLetters word = (0 < length word) × AllByRecursion IsLetter word

-- words, each behind one space
abbrev pub spaced : List (List ℕ) → List ℕ
spaced [] = []
spaced (word ∷ words) = 32 ∷ word ++ spaced words

-- words with one space between two
abbrev pub words_line : List (List ℕ) → List ℕ
words_line [] = []
words_line (word ∷ words) = word ++ spaced words
