-- Pointers are told apart by their words.
use Rattle.std.proofs.Common.{◌≡◌, ◌≢◌, ℕ, ◌+◌, ◌*◌, ◌<◌, arith}
use Rattle.pgas_base.specs.Pointers.{Pointer, IsPointer, word_of}

pub some_word : (q : Pointer) → IsPointer q → word_of q ≢ 0
some_word q is e = let i = is.some_object in omega arith

same_parts : (l i n k j m : ℕ) → i < 16777216 → n < 4294967296 → j < 16777216 → m < 4294967296
    → l * 72057594037927936 + i * 4294967296 + n ≡ k * 72057594037927936 + j * 4294967296 + m → (l ≡ k) × (i ≡ j) × (n ≡ m)
same_parts l i n k j m hi hn hj hm e = (omega arith, omega arith, omega arith)

pub one_to_one : (q r : Pointer) → IsPointer q → IsPointer r → word_of q ≡ word_of r → q ≡ r
one_to_one q r a b same =
    let parts = same_parts q.locale q.index q.count r.locale r.index r.count a.index a.count b.index b.count same in
    λ t. record { locale = parts.0 t; index = parts.1 t; count = parts.2 t }
