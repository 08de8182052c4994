-- The blocks as one list of places.
use Rattle.std.proofs.Common.{◌≡◌, ℕ, ◌+◌, ◌-◌, ◌*◌, ◌/◌, ◌%◌, ◌<◌, ◌≤◌, min, List, [], ◌∷◌, ◌++◌, length, take, drop, slice_set, slice_index_or, slice_range, refl, ap, sym, ◌∙◌, arith, zero, suc}
use Rattle.std.proofs.lemmas.List.{take_all, drop_all, drop_more, length-append, length-set, set-append_left, set-append_right, get_or-append_right, get_or_append_left}
use Rattle.std.proofs.lemmas.List.Elements.{All-head, All-tail, All-set, All-get_or}
use Rattle.std.proofs.Math.Seq.{take-append-add, drop-append-add}
use Rattle.std.specs.Box.{with_value}
use Rattle.segment_store.specs.declared.blocks.TheConstants.{PLACES}
use Rattle.segment_store.specs.Blocks.{Block, IsWhole, AreWhole, joined}
use Rattle.segment_store.proofs.Ranges.{slice_range-append}

pub length-joined : (blocks : List Block) → AreWhole blocks → length (joined blocks) ≡ PLACES * length blocks
length-joined [] whole = refl
length-joined (b ∷ bs) whole = grind (arith, length-append, All-head IsWhole b bs whole, length-joined bs (All-tail IsWhole b bs whole))

-- the places of the first blocks are the first places
pub joined-take : (blocks : List Block) (n : ℕ) → AreWhole blocks → joined (take n blocks) ≡ take (PLACES * n) (joined blocks)
joined-take blocks zero whole = refl
joined-take [] (suc n) whole = sym (take_all (PLACES * suc n) [] (omega arith))
joined-take (b ∷ bs) (suc n) whole =
    let head : length b.value ≡ PLACES = All-head IsWhole b bs whole in
    let places : PLACES * suc n ≡ length b.value + PLACES * n = omega arith in
    ap (λ (l : List ℕ). b.value ++ l) (joined-take bs n (All-tail IsWhole b bs whole)) ∙ sym (rw places (take-append-add b.value (joined bs) (PLACES * n)))

pub joined-drop : (blocks : List Block) (n : ℕ) → AreWhole blocks → joined (drop n blocks) ≡ drop (PLACES * n) (joined blocks)
joined-drop blocks zero whole = refl
joined-drop [] (suc n) whole = sym (drop_all (PLACES * suc n) [] (omega arith))
joined-drop (b ∷ bs) (suc n) whole =
    let head : length b.value ≡ PLACES = All-head IsWhole b bs whole in
    let places : PLACES * suc n ≡ length b.value + PLACES * n = omega arith in
    joined-drop bs n (All-tail IsWhole b bs whole) ∙ sym (rw places (drop-append-add b.value (joined bs) (PLACES * n)))

-- the place j of the block i
pub index-joined : (blocks : List Block) (i j d : ℕ) (block : Block) → AreWhole blocks → i < length blocks → j < PLACES → slice_index_or (joined blocks) (PLACES * i + j) d ≡ slice_index_or (slice_index_or blocks i block).value j d
index-joined [] i j d block whole inside low = absurd (omega arith)
index-joined (b ∷ bs) zero j d block whole inside low = grind (arith, get_or_append_left, All-head IsWhole b bs whole)
index-joined (b ∷ bs) (suc i) j d block whole inside low = grind (arith, get_or-append_right, All-head IsWhole b bs whole, index-joined bs i j d block (All-tail IsWhole b bs whole))

-- a write to the place j of the block i
pub joined-set : (blocks : List Block) (i j item : ℕ) (block : Block) → AreWhole blocks → i < length blocks → j < PLACES → block ≡ slice_index_or blocks i block
    → joined (slice_set blocks i (with_value block (slice_set block.value j item))) ≡ slice_set (joined blocks) (PLACES * i + j) item
joined-set [] i j item block whole inside low is = absurd (omega arith)
joined-set (b ∷ bs) zero j item block whole inside low is =
    let head : length b.value ≡ PLACES = All-head IsWhole b bs whole in
    let place : PLACES * 0 + j ≡ j = omega arith in
    ap (λ (v : Block). slice_set v.value j item ++ joined bs) is ∙ sym (rw place (set-append_left b.value (joined bs) j item (omega arith)))
joined-set (b ∷ bs) (suc i) j item block whole inside low is =
    let head : length b.value ≡ PLACES = All-head IsWhole b bs whole in
    let place : PLACES * suc i + j - PLACES ≡ PLACES * i + j = omega arith in
    let behind : slice_set (b.value ++ joined bs) (PLACES * suc i + j) item ≡ b.value ++ slice_set (joined bs) (PLACES * i + j) item =
    set-append_right b.value (joined bs) PLACES (PLACES * suc i + j) item head (omega arith) ∙ ap (λ (k : ℕ). b.value ++ slice_set (joined bs) k item) place in
    ap (λ (l : List ℕ). b.value ++ l) (joined-set bs i j item block (All-tail IsWhole b bs whole) (omega arith) low is) ∙ sym behind

module _ (blocks : List Block) (at : ℕ) (block : Block) (places : List ℕ) (whole : AreWhole blocks) (inside : at < PLACES * length blocks) (is : block ≡ slice_index_or blocks (at / PLACES) block) (value : places ≡ block.value) where
  -- the item at a place, as code reads it
  pub index-joined_at : (d : ℕ) → slice_index_or places (at % PLACES) d ≡ slice_index_or (joined blocks) at d
  index-joined_at d =
      let number : at / PLACES < length blocks = omega arith in
      let place : PLACES * (at / PLACES) + at % PLACES ≡ at = omega arith in
      ap (λ (l : List ℕ). slice_index_or l (at % PLACES) d) value ∙ ap (λ (b : Block). slice_index_or b.value (at % PLACES) d) is
      ∙ sym (index-joined blocks (at / PLACES) (at % PLACES) d block whole number (omega arith)) ∙ ap (λ (k : ℕ). slice_index_or (joined blocks) k d) place

  -- a write at a place, as code makes it
  pub joined-set_at : (item : ℕ) → joined (slice_set blocks (at / PLACES) (with_value block (slice_set places (at % PLACES) item))) ≡ slice_set (joined blocks) at item
  joined-set_at item =
      let number : at / PLACES < length blocks = omega arith in
      let place : PLACES * (at / PLACES) + at % PLACES ≡ at = omega arith in
      ap (λ (l : List ℕ). joined (slice_set blocks (at / PLACES) (with_value block (slice_set l (at % PLACES) item)))) value
      ∙ joined-set blocks (at / PLACES) (at % PLACES) item block whole number (omega arith) is ∙ ap (λ (k : ℕ). slice_set (joined blocks) k item) place

  pub AreWhole-set_at : (item : ℕ) → AreWhole (slice_set blocks (at / PLACES) (with_value block (slice_set places (at % PLACES) item)))
  AreWhole-set_at item =
      let number : at / PLACES < length blocks = omega arith in
      let had : length (slice_index_or blocks (at / PLACES) block).value ≡ PLACES = All-get_or IsWhole blocks (at / PLACES) block number whole in
      let same : length places ≡ length block.value = ap length value in
      let own : length block.value ≡ PLACES = ap (λ (b : Block). length b.value) is ∙ had in
      All-set IsWhole blocks (at / PLACES) _ (length-set places (at % PLACES) item ∙ same ∙ own) whole

-- A part of the places from the block i on: what of it lies in that block, and the rest in the blocks behind it.
pub joined_more : (blocks : List Block) (i s e : ℕ) (block : Block) → AreWhole blocks → i < length blocks → s ≤ e → block ≡ slice_index_or blocks i block
    → slice_range (joined (drop i blocks)) s e ≡ slice_range block.value (min s PLACES) (min e PLACES) ++ slice_range (joined (drop (i + 1) blocks)) (s - PLACES) (e - PLACES)
joined_more blocks i s e block whole inside ordered is =
    let own : length block.value ≡ PLACES = ap (λ (b : Block). length b.value) is ∙ All-get_or IsWhole blocks i block inside whole in
    let split : drop i blocks ≡ block ∷ drop (i + 1) blocks = drop_more blocks i block inside ∙ ap (λ (b : Block). b ∷ drop (i + 1) blocks) (sym is) in
    let parts = slice_range-append block.value (joined (drop (i + 1) blocks)) s e ordered in
    ap (λ (bs : List Block). slice_range (joined bs) s e) split ∙ (rw own at parts)
