-- Counted pointers and their words.
use Rattle.std.proofs.Common.{ap, sym, ◌∙◌}
use Rattle.std.proofs.Math.Nat.{add_assoc}
use Rattle.std.proofs.Math.Pow.{split}
use Rattle.std.proofs.lemmas.Nat.{mod-pow-add}
use Rattle.std.specs.Prelude.{◌≡◌, ℕ, ◌+◌, ◌*◌, ◌/◌, ◌%◌, ◌^◌, ◌<◌, ◌≤◌}

-- one use of one object: the locale and the index are its place
pub record Pointer : Type 0 where
  pub locale : ℕ
  pub index : ℕ
  pub count : ℕ

pub record IsPointer (pointer : Pointer) : Type 0 where
  pub locale : pointer.locale < 16
  pub some_object : 1 ≤ pointer.index
  pub index : pointer.index < 2 ^ 24
  pub count : pointer.count < 2 ^ 32

-- the locale in the top 8 bits, the index in the next 24, the count in the low 32
abbrev pub word_of : Pointer → ℕ
word_of pointer = pointer.locale * 2 ^ 56 + pointer.index * 2 ^ 32 + pointer.count

-- the index in the word isn't 0, and the locale is below 16
abbrev pub NamesPointer : ℕ → Type 0
NamesPointer word = (1 ≤ word / 2 ^ 32 % 2 ^ 24) × (word / 2 ^ 56 < 16)

-- the pointer whose parts stand in a word
abbrev pub pointer_in : ℕ → Pointer
pointer_in word = record { locale = word / 2 ^ 56; index = word / 2 ^ 32 % 2 ^ 24; count = word % 2 ^ 32 }

-- they make the word up
pub word_in : (word : ℕ) → word_of (pointer_in word) ≡ word
word_in word = add_assoc (word / 2 ^ 56 * 2 ^ 56) (word / 2 ^ 32 % 2 ^ 24 * 2 ^ 32) (word % 2 ^ 32) ∙ (ap (λ x. word / 2 ^ 56 * 2 ^ 56 + x) (sym (mod-pow-add word 24 32)) ∙ split word 56)
