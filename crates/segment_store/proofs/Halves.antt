-- The items that blocks hold, with further blocks behind them, and cut in halves.
use Rattle.std.proofs.Common.{◌≡◌, ℕ, ◌+◌, ◌-◌, ◌*◌, ◌/◌, ◌≤◌, List, ◌++◌, length, take, drop, slice_range, ap, sym, ◌∙◌, arith}
use Rattle.std.proofs.lemmas.List.{length-take-le, length-drop}
use Rattle.std.proofs.lemmas.List.Concat.{flat_map-append}
use Rattle.std.proofs.lemmas.List.Elements.{All-drop}
use Rattle.segment_store.specs.declared.blocks.TheConstants.{PLACES}
use Rattle.segment_store.specs.Blocks.{Block, IsWhole, AreWhole, HoldItems, joined}
use Rattle.segment_store.proofs.Joined.{length-joined, joined-take, joined-drop}
use Rattle.segment_store.proofs.Ranges.{take-slice_range, drop-slice_range, slice_range-drop, slice_range-front, slice_range-take}

pub length-held : (blocks : List Block) (start end : ℕ) → HoldItems blocks start end → length (slice_range (joined blocks) start end) ≡ end - start
length-held blocks start end held =
    let places : length (joined blocks) ≡ PLACES * length blocks = length-joined blocks held.whole in
    length-take-le (end - start) (drop start (joined blocks)) (omega (arith, length-drop start (joined blocks)))

-- further blocks change nothing
pub longer_held : (blocks more : List Block) (start end : ℕ) → HoldItems blocks start end → slice_range (joined (blocks ++ more)) start end ≡ slice_range (joined blocks) start end
longer_held blocks more start end held =
    let places : length (joined blocks) ≡ PLACES * length blocks = length-joined blocks held.whole in
    ap (λ (l : List ℕ). slice_range l start end) (flat_map-append (λ (b : Block). b.value) blocks more) ∙ slice_range-front (joined blocks) (joined more) start end (omega arith)

-- the first n blocks hold the items before the cut
pub front_held : (blocks front : List Block) (start cut end n : ℕ) → AreWhole blocks → start ≤ cut → cut ≤ end → cut ≤ PLACES * n → joined front ≡ joined (take n blocks)
    → slice_range (joined front) start cut ≡ take (cut - start) (slice_range (joined blocks) start end)
front_held blocks front start cut end n whole behind within reach is =
    ap (λ (l : List ℕ). slice_range l start cut) (is ∙ joined-take blocks n whole) ∙ slice_range-take (joined blocks) (PLACES * n) start cut behind reach ∙ sym (take-slice_range (joined blocks) start cut end behind within)

-- the blocks from the n-th on hold the items behind it, if they reach to the last one
pub rest_held : (blocks rest : List Block) (start cut end n count : ℕ) → AreWhole blocks → start ≤ cut → cut ≤ end → PLACES * n ≤ cut → end ≤ PLACES * (n + count) → rest ≡ take count (drop n blocks)
    → slice_range (joined rest) (cut - PLACES * n) (end - PLACES * n) ≡ drop (cut - start) (slice_range (joined blocks) start end)
rest_held blocks rest start cut end n count whole behind within from reach is =
    let places : joined rest ≡ take (PLACES * count) (drop (PLACES * n) (joined blocks)) =
    ap joined is ∙ joined-take (drop n blocks) count (All-drop IsWhole n blocks whole) ∙ ap (λ (l : List ℕ). take (PLACES * count) l) (joined-drop blocks n whole) in
    ap (λ (l : List ℕ). slice_range l (cut - PLACES * n) (end - PLACES * n)) places
    ∙ slice_range-take (drop (PLACES * n) (joined blocks)) (PLACES * count) (cut - PLACES * n) (end - PLACES * n) (omega arith) (omega arith)
    ∙ slice_range-drop (joined blocks) (PLACES * n) cut end from within ∙ sym (drop-slice_range (joined blocks) start cut end behind within)

module _ (blocks : List Block) (start end n : ℕ) (items : List ℕ) (held : HoldItems blocks start end) (is : slice_range (joined blocks) start end ≡ items) (count : n ≡ length items) where
  half_fits : n / 2 ≤ end - start
  half_fits = omega (arith, length-held blocks start end held, ap length is)

  -- what the code hands out is the first half
  pub front_half : (front : List Block) → joined front ≡ joined (take ((start + n / 2) / PLACES + 1) blocks) → slice_range (joined front) start (start + n / 2) ≡ take (length items / 2) items
  front_half front same =
      let fits : n / 2 ≤ end - start = half_fits in
      let taken : start + n / 2 - start ≡ length items / 2 = omega arith in
      front_held blocks front start (start + n / 2) end ((start + n / 2) / PLACES + 1) held.whole (omega arith) (omega arith) (omega arith) same
      ∙ ap (λ (k : ℕ). take k (slice_range (joined blocks) start end)) taken ∙ ap (λ (l : List ℕ). take (length items / 2) l) is

  -- what it keeps is the rest
  pub rest_half : (rest : List Block) (used : ℕ) → end ≤ PLACES * used → rest ≡ take (used - (start + n / 2) / PLACES) (drop ((start + n / 2) / PLACES) blocks)
      → slice_range (joined rest) (start + n / 2 - (start + n / 2) / PLACES * PLACES) (end - (start + n / 2) / PLACES * PLACES) ≡ drop (length items / 2) items
  rest_half rest used reach same =
      let fits : n / 2 ≤ end - start = half_fits in
      let taken : start + n / 2 - start ≡ length items / 2 = omega arith in
      let moved : (start + n / 2) / PLACES * PLACES ≡ PLACES * ((start + n / 2) / PLACES) = omega arith in
      ap (λ (m : ℕ). slice_range (joined rest) (start + n / 2 - m) (end - m)) moved
      ∙ rest_held blocks rest start (start + n / 2) end ((start + n / 2) / PLACES) (used - (start + n / 2) / PLACES) held.whole (omega arith) (omega arith) (omega arith) (omega arith) same
      ∙ ap (λ (k : ℕ). drop k (slice_range (joined blocks) start end)) taken ∙ ap (λ (l : List ℕ). drop (length items / 2) l) is
