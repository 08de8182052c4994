use Rattle.std.proofs.Common.{◌≡◌, ℕ, ◌+◌, ◌-◌, ◌≤◌, ◌<◌, List, [], ◌++◌, Option, None, Some, length, take, drop, min, sym, ap, ◌∙◌, append_assoc, arith}
use Rattle.std.proofs.Math.Seq.{take-add, take-length}
use Rattle.std.proofs.lemmas.List.{length-drop, length-append, length-take-le, take_at, take-append-drop, drop-drop, drop_all}
use Rattle.std.specs.Io.KnownBytes.{Appends}

-- all that is behind a place
pub take-rest : (bytes : List ℕ) (at : ℕ) → take (length bytes - at) (drop at bytes) ≡ drop at bytes
take-rest bytes at = rw (sym (length-drop at bytes)) (take-length (drop at bytes))

-- what a piece of the bytes adds to those that were written before it
pub Appends-more : (old mid new : Option (List ℕ)) (bytes : List ℕ) (done count : ℕ) → Appends old mid (take done bytes) → Appends mid new (take count (take (length bytes - done) (drop done bytes))) → Appends old new (take (done + count) bytes)
Appends-more None mid new bytes done count before piece = tt
Appends-more (Some xs) None new bytes done count before piece = absurd before
Appends-more (Some xs) (Some ys) None bytes done count before piece = absurd piece
Appends-more (Some xs) (Some ys) (Some zs) bytes done count before piece =
    let rest = take-rest bytes done in
    piece ∙ (ap (λ (r : List ℕ). ys ++ take count r) rest
    ∙ (ap (λ (ws : List ℕ). ws ++ take count (drop done bytes)) before ∙ (append_assoc xs (take done bytes) (take count (drop done bytes)) ∙ ap (λ (ws : List ℕ). xs ++ ws) (sym (take-add done count bytes)))))

-- a read gives the front of what was left, and leaves the rest
pub front_read : (bytes into copied : List ℕ) (at count : ℕ) → at ≤ length bytes → count ≡ min (length into) (length bytes - at) → copied ≡ take ((at + count) - at) (drop at bytes) → drop at bytes ≡ take count (copied ++ drop count into) ++ drop (at + count) bytes
front_read bytes into copied at count within is here =
    let size : (at + count) - at ≡ count = omega arith in
    let copy : copied ≡ take count (drop at bytes) = here ∙ ap (λ (n : ℕ). take n (drop at bytes)) size in
    let fits : count ≤ length (drop at bytes) = omega (arith, length-drop at bytes, is) in
    let len : length copied ≡ count = ap length copy ∙ length-take-le count (drop at bytes) fits in
    sym (take-append-drop count (drop at bytes))
    ∙ (ap (λ (xs : List ℕ). xs ++ drop count (drop at bytes)) (sym (take_at copied (drop count into) count len ∙ copy))
    ∙ ap (λ (xs : List ℕ). take count (copied ++ drop count into) ++ xs) (drop-drop count at bytes))

-- a read with room that gives nothing has reached the end
pub none_left : (bytes into copied : List ℕ) (at count : ℕ) → at ≤ length bytes → count ≡ min (length into) (length bytes - at) → copied ≡ take ((at + count) - at) (drop at bytes) → count ≡ 0 → 0 < length (copied ++ drop count into) → drop (at + count) bytes ≡ []
none_left bytes into copied at count within is here none room =
    let size : (at + count) - at ≡ count = omega arith in
    let fits : count ≤ length (drop at bytes) = omega (arith, length-drop at bytes, is) in
    let len : length copied ≡ count = ap length (here ∙ ap (λ (n : ℕ). take n (drop at bytes)) size) ∙ length-take-le count (drop at bytes) fits in
    let full : 0 < length into = omega (arith, room, none, len, length-append copied (drop count into), length-drop count into) in
    let over : length bytes ≤ at + count = omega (arith, is, none, full) in
    drop_all (at + count) bytes over
