-- The values of a ring's cells, read one after another.
use Rattle.std.proofs.Common.{◌≡◌, ℕ, zero, suc, ◌+◌, ◌%◌, ◌<◌, List, [], ◌∷◌, ◌++◌, length, get_or, slice_index, ap, sym, ◌∙◌, subst, arith, ⊎_elim, length-append}
use Rattle.std.proofs.Math.ListN.{get_or-append}
use Rattle.std.proofs.Math.Seq.{get_or-append_seam}
use Rattle.std.proofs.lemmas.Bool.{cases_lt}
use mathlib.Core.Option.{some, some-injective, some-ne-none}
use lib.ListN.{get_elem?}
use Rattle.shared_deque.specs.Layout.{value_in, value_place, head_in, size_in}
use Rattle.shared_deque.specs.Closed.{ReadsRing}

-- what stands at a place is what is read there
pub read_at : (words : List ℕ) (i word : ℕ) → get_elem? words i ≡ some word → slice_index words i ≡ word
read_at [] i word at = absurd (some-ne-none word (sym at))
read_at (x ∷ xs) zero word at = some-injective x word at
read_at (x ∷ xs) (suc i) word at = read_at xs i word at

-- the items are the values of the ring's cells, as far as they go
abbrev pub ReadsSoFar : List ℕ → ℕ → ℕ → List ℕ → Type 0
ReadsSoFar words n head items = (j : ℕ) → j < length items → slice_index items j ≡ value_in words ((head + j) % n)

-- one more value is read
pub read_more : (words : List ℕ) (n head place : ℕ) (items new : List ℕ) (word at : ℕ) → new ≡ items ++ word ∷ [] → length items ≡ place
    → get_elem? words at ≡ some word → at ≡ value_place ((head + place) % n) → ReadsSoFar words n head items → ReadsSoFar words n head new
read_more words n head place items new word at is count found where_ each =
    let value : value_in words ((head + place) % n) ≡ word = ap (slice_index words) (sym where_) ∙ read_at words at word found in
    let P : List ℕ → Type 0 = λ l. ReadsSoFar words n head l in
    subst P (sym is)
    (λ j below.
    ⊎_elim
    (λ less. get_or-append items (word ∷ []) 0 j less ∙ each j less)
    (λ least.
    let last : j ≡ length items = omega (arith, length-append items (word ∷ [])) in
    ap (λ k. get_or (items ++ word ∷ []) k 0) last ∙ (get_or-append_seam items word [] 0 ∙ (sym value ∙ ap (λ k. value_in words ((head + k) % n)) (sym count ∙ sym last))))
    (cases_lt j (length items)))

-- all of them are read
pub reads_ring : (words : List ℕ) (n ends : ℕ) (items : List ℕ) → slice_index words 0 ≡ ends → length items ≡ size_in ends → ReadsSoFar words n (head_in ends) items → ReadsRing words n items
reads_ring words n ends items is count each = record {
  count = count ∙ ap size_in (sym is);
  each = λ j below. each j below ∙ ap (λ e. value_in words ((head_in e + j) % n)) (sym is);
}
