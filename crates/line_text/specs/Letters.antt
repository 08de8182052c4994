-- A test of the letters of literal words.
use Rattle.std.specs.Prelude.{◌≡◌, ℕ, zero, suc, ◌<◌, length, slice_index_or, Bool, true, ◌==◌, ◌&&◌, nat_lt, not, List, [], ◌∷◌}
use Rattle.std.specs.List.{AllByRecursion}
use Rattle.std.proofs.Common.{arith}
use Rattle.std.proofs.lemmas.Bool.{and_parts, not-true, eqb-false, ltb-true}
use Rattle.line_text.specs.Words.{is_blank, IsLetter, AreLetters}

abbrev pub is_letter : ℕ → Bool
is_letter byte = not (is_blank byte) && not (byte == 10)

abbrev pub are_letters : List ℕ → Bool
are_letters [] = true
are_letters (byte ∷ bytes) = is_letter byte && are_letters bytes

-- each byte passes the test
pub letters_from : (bytes : List ℕ) → are_letters bytes ≡ true → AllByRecursion IsLetter bytes
letters_from [] is = tt
letters_from (byte ∷ bytes) is =
    let parts = and_parts (is_letter byte) (are_letters bytes) is in
    let letter = and_parts (not (is_blank byte)) (not (byte == 10)) parts.0 in
    ((not-true (is_blank byte) letter.0, eqb-false byte 10 (not-true (byte == 10) letter.1)), letters_from bytes parts.1)

abbrev pub are_words : List (List ℕ) → Bool
are_words [] = true
are_words (word ∷ words) = (nat_lt 0 (length word) && are_letters word) && are_words words

-- each word passes the test
pub words_from : (words : List (List ℕ)) → are_words words ≡ true → AllByRecursion AreLetters words
words_from [] is = tt
words_from (word ∷ words) is =
    let parts = and_parts (nat_lt 0 (length word) && are_letters word) (are_words words) is in
    let own = and_parts (nat_lt 0 (length word)) (are_letters word) parts.0 in
    ((ltb-true 0 (length word) own.0, letters_from word own.1), words_from words parts.1)

-- what holds of all holds of the one in this place
pub all_at : {A : Type 0} (P : A → Type 0) (list : List A) (index : ℕ) (other : A) → index < length list → AllByRecursion P list → P (slice_index_or list index other)
all_at P [] index other within all = absurd (omega (arith, within))
all_at P (first ∷ list) zero other within all = all.0
all_at P (first ∷ list) (suc index) other within all = all_at P list index other (omega (arith, within)) all.1
