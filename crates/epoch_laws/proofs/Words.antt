-- The words of pointers.
use Rattle.std.proofs.Common.{◌≡◌, ◌≢◌, ℕ, ◌+◌, ◌*◌, ◌/◌, ◌%◌, ◌^◌, ◌<◌, ◌≤◌, arith}
use Rattle.pgas_base.specs.Pointers.{Pointer, word_of}
use Rattle.pgas_base.specs.declared.shapes.Shape.{Shape}
use Rattle.pgas_base.specs.Shapes.{IsShape}
use Rattle.epoch_laws.specs.Places.{place_of, place_in, index_in, pending}
use Rattle.epoch_laws.specs.States.{IsPlace}

-- the numbers of a pointer fit their parts of a word
pub record IsSmall (p : Pointer) : Type 0 where
  pub locale : p.locale < 16
  pub some_object : 1 ≤ p.index
  pub index : p.index < 16777216
  pub count : p.count < 4294967296

locale_back : (l i c : ℕ) → i < 16777216 → c < 4294967296 → (l * 72057594037927936 + i * 4294967296 + c) / 72057594037927936 ≡ l
locale_back l i c hi hc = omega arith

index_back : (l i c : ℕ) → i < 16777216 → c < 4294967296 → (l * 72057594037927936 + i * 4294967296 + c) / 4294967296 % 16777216 ≡ i
index_back l i c hi hc = omega arith

pub place_in-word_of : (p : Pointer) → IsSmall p → place_in (word_of p) ≡ place_of p
unfolding place_in index_in
place_in-word_of p small = λ t. record { locale = locale_back p.locale p.index p.count small.index small.count t; index = index_back p.locale p.index p.count small.index small.count t }

pub word_not_none : (p : Pointer) → IsSmall p → word_of p ≢ 0
word_not_none p small e = let i = small.some_object in omega arith

pub word_not_pending : (p : Pointer) → IsSmall p → word_of p ≢ pending
word_not_pending p small e = let l = small.locale in let i = small.index in let c = small.count in omega arith

pub small_in_shape : (shape : Shape) (p : Pointer) → IsShape shape → IsPlace shape (place_of p) → p.count < 2 ^ 32 → IsSmall p
small_in_shape shape p is inside count =
    let a = is.0 in
    let b = is.2 in
    let l = inside.locale in
    let i = inside.index in
    let o = inside.some_object in
    record { locale = omega arith; some_object = o; index = omega arith; count = omega arith }
