-- A window of a list without its first element.
use Rattle.std.proofs.Common.{◌≡◌, ◌+◌, ◌-◌, ℕ, ◌<◌, List, take, drop, arith}
use Rattle.std.proofs.lemmas.List.{drop-take, drop-drop}

pub window_without_first : (xs : List ℕ) (start end : ℕ) → start < end → take (end - (start + 1)) (drop (start + 1) xs) ≡ drop 1 (take (end - start) (drop start xs))
window_without_first xs start end below =
    let count : end - start ≡ 1 + (end - (start + 1)) = omega arith in
    rw (count, drop-take 1 (end - (start + 1)) (drop start xs), drop-drop 1 start xs)
