-- The words that a call read, and the histories that it met.
use Rattle.std.specs.Prelude.{◌≡◌, ℕ, List, [], ◌∷◌, ◌++◌, All}
use mathlib.Core.List.{IsPrefix}
use Rattle.pass_book.specs.declared.entries.Entry.{Entry}
use Rattle.pass_book.specs.declared.entries.Look.{Look}

module _ {Call Reply Name : Type 0} (shows : List (Entry Call Reply) → Name → ℕ → Type 0) where
  -- between what was seen before and after, there was a history for each word that was read, in this order, of which the word says what it shows
  abbrev pub Meets : List (Entry Call Reply) → List (Entry Call Reply) → List (Look Name) → Type 0
  Meets old new [] = IsPrefix old new
  Meets old new (look ∷ looks) = (h : List (Entry Call Reply)) × IsPrefix old h × shows h look.name look.word × Meets h new looks

-- lists one behind the other
abbrev pub joined : {A : Type 0} → List (List A) → List A
joined [] = []
joined (xs ∷ rest) = xs ++ joined rest

-- the words are those of some tries, none or more, of each of which this holds
abbrev pub AreTries : {A : Type 0} → (List A → Type 0) → List A → Type 0
AreTries {A} IsTry words = (tries : List (List A)) × (words ≡ joined tries) × All IsTry tries
