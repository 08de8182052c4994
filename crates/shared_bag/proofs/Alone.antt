-- A bag of one caller: all its items are in the segments of the first locale, so that it is full exactly where each of those is.
use Rattle.std.proofs.Common.{◌≡◌, ℕ, zero, suc, ◌*◌, ◌/◌, ◌%◌, ◌<◌, ◌≤◌, List, [], length, ap, sym, ◌∙◌, subst, arith, ⊎_elim, length-append, Option}
use Rattle.std.specs.Prelude.{Contains}
use Rattle.std.specs.List.{All}
use Rattle.std.proofs.Math.Nat.{mod-le, div-eq_of_lt, div-lt_iff_lt-mul}
use Rattle.std.proofs.lemmas.Nat.{mul-le}
use Rattle.std.proofs.lemmas.Bool.{cases_lt}
use mathlib.Core.Logic.{dite}
use native.Mathlib.Decide.{ℕ_discrete}
use Rattle.segment_store.specs.Contents.{Contents}
use Rattle.seq_objects.specs.declared.bags.BagCall.{BagCall}
use Rattle.seq_objects.specs.declared.bags.BagReply.{BagReply}
use Rattle.pass_table.specs.Terms.{Moment}
use Rattle.shared_bag.specs.declared.shapes.Shape.{Shape}
use Rattle.shared_bag.specs.declared.clients.Plan.{Plan}
use Rattle.shared_bag.specs.declared.clients.Hand.{Hand}
use Rattle.shared_bag.specs.Shapes.{IsShape, IsOwn, all_segments, locale_room}
use Rattle.shared_bag.specs.Counted.{Counts, items_of}
use Rattle.shared_bag.specs.Rule.{IsStill, BagRule}
use Rattle.shared_bag.specs.Kinds.{FoundAllFull, found_with}
use Rattle.shared_bag.proofs.Items.{one_count}

all_of : {A : Type 0} (P : A → Type 0) (l : List A) (x : A) → All P l → Contains l x → P x
all_of P l x all has = subst P has.2 (all has.0 x has.1)

-- segments past the first m are empty
front_only : (has : ℕ → List ℕ) (m n : ℕ) → m ≤ n → ((j : ℕ) → m ≤ j → j < n → has j ≡ []) → length (items_of has n) ≡ length (items_of has m)
front_only has m zero least none = let first : m ≡ 0 = omega arith in sym (ap (λ k. length (items_of has k)) first)
front_only has m (suc n) least none =
    dite (ℕ_discrete m (suc n))
    (λ same. ap (λ k. length (items_of has k)) (sym same))
    (λ away.
    let front = front_only has m n (omega arith) (λ j from to. none j from (omega arith)) in
    let empty = ap length (none n (omega arith) (omega arith)) in
    omega (arith, front, empty, length-append (items_of has n) (has n)))

-- segments that are all full
full_count : (has : ℕ → List ℕ) (room n : ℕ) → ((j : ℕ) → j < n → length (has j) ≡ room) → length (items_of has n) ≡ n * room
full_count has room zero full = omega arith
full_count has room (suc n) full =
    let front = full_count has room n (λ j less. full j (omega arith)) in
    let last = full n (omega arith) in
    omega (arith, front, last, length-append (items_of has n) (has n))

few_count : (has : ℕ → List ℕ) (room n : ℕ) → ((j : ℕ) → j < n → length (has j) ≤ room) → length (items_of has n) ≤ n * room
few_count has room zero short = omega arith
few_count has room (suc n) short =
    let front = few_count has room n (λ j less. short j (omega arith)) in
    let last = short n (omega arith) in
    omega (arith, front, last, length-append (items_of has n) (has n))

-- segments that have as many items as they have room for are all full
count_full : (has : ℕ → List ℕ) (room n : ℕ) → ((j : ℕ) → j < n → length (has j) ≤ room) → length (items_of has n) ≡ n * room → (k : ℕ) → k < n → length (has k) ≡ room
count_full has room zero short all k less = absurd (omega arith)
count_full has room (suc n) short all k less =
    let front = few_count has room n (λ j below. short j (omega arith)) in
    let last = short n (omega arith) in
    let long = length-append (items_of has n) (has n) in
    dite (ℕ_discrete k n)
    (λ here. let same = ap (λ j. length (has j)) here in omega (arith, front, last, long, all, same))
    (λ away. count_full has room n (λ j below. short j (omega arith)) (omega (arith, front, last, long, all)) k (omega arith))

module _ (shape : Shape) (is : IsShape shape) where
  some_segment : 0 < shape.segments
  some_segment = let least = is.segments.0 in omega arith

  first_locale : shape.segments ≤ all_segments shape
  first_locale = let least : 1 * shape.segments ≤ shape.locales * shape.segments = mul-le 1 shape.segments shape.locales shape.segments is.locales.0 (omega arith) in omega arith

  -- the segments of the first locale are the first ones
  in_first : (k : ℕ) → k / shape.segments ≡ 0 → k < shape.segments
  in_first k at = let less : k < 1 * shape.segments = (div-lt_iff_lt-mul some_segment).0 (omega arith) in omega arith

  past_first : (k : ℕ) → shape.segments ≤ k → 1 ≤ k / shape.segments
  past_first k from =
      ⊎_elim (λ less. absurd (let low : k < 1 * shape.segments = (div-lt_iff_lt-mul some_segment).0 less in omega arith)) (λ least. least) (cases_lt (k / shape.segments) 1)

module _ {K : Type 0} (keeps : K → ℕ → Type 0) (plan : Plan K) (m : Moment (Option Contents) BagCall BagReply Hand) (rule : BagRule keeps plan m) (c : ℕ) (below : c < plan.shape.callers) (one : plan.shape.callers ≡ 1) where
  -- all items are in the first locale
  first_has_all : length (items_of rule.has (all_segments plan.shape)) ≡ length (items_of rule.has plan.shape.segments)
  first_has_all =
      front_only rule.has plan.shape.segments (all_segments plan.shape) (first_locale plan.shape rule.shaped)
      (λ j from to. (rule.segments j to).unused (let past = past_first plan.shape rule.shaped j from in omega arith))

  -- the caller's locale is the first
  own_first : (k : ℕ) → IsOwn plan.shape c k → k / plan.shape.segments ≡ 0
  own_first k own = let low : c % plan.shape.locales ≤ c = mod-le c plan.shape.locales in omega arith

  first_own : (k : ℕ) → k < plan.shape.segments → IsOwn plan.shape c k
  first_own k less =
      let low : c % plan.shape.locales ≤ c = mod-le c plan.shape.locales in
      let at : k / plan.shape.segments ≡ 0 = div-eq_of_lt less in
      omega arith

  -- where the bag has as many items as a locale has room for, each segment of the caller's locale is full
  pub alone_full : (k : ℕ) → k < all_segments plan.shape → IsOwn plan.shape c k → Counts m.history (locale_room plan.shape) → length (rule.has k) ≡ plan.shape.room
  alone_full k within own counts =
      let n : ℕ = all_segments plan.shape in
      let least = first_locale plan.shape rule.shaped in
      let less : k < plan.shape.segments = in_first plan.shape rule.shaped k (own_first k own) in
      let same = one_count m.history counts.0 (items_of rule.has n) counts.1 rule.leaves in
      let all = first_has_all in
      let long = counts.2 in
      let whole : length (items_of rule.has plan.shape.segments) ≡ plan.shape.segments * plan.shape.room = omega (arith, same, all, long) in
      count_full rule.has plan.shape.room plan.shape.segments (λ j below'. (rule.segments j (omega arith)).short) whole k less

  -- where the caller has found each segment of its locale full, the bag has as many items as a locale has room for
  pub alone_whole_room : (hand : Hand) → All (IsStill rule.has) hand.found → FoundAllFull plan.shape c hand → Counts m.history (locale_room plan.shape)
  alone_whole_room hand still all =
      let n : ℕ = all_segments plan.shape in
      let least = first_locale plan.shape rule.shaped in
      let full : (j : ℕ) → j < plan.shape.segments → length (rule.has j) ≡ plan.shape.room =
      λ j less. all_of (IsStill rule.has) hand.found (found_with j plan.shape.room) still (all j (omega arith) (first_own j less)) in
      (items_of rule.has n, rule.leaves, first_has_all ∙ full_count rule.has plan.shape.room plan.shape.segments full)
