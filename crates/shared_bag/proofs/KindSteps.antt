-- Each kind of step: where its row is met, the rule is kept, and what it tells is so.
use Rattle.std.proofs.Common.{◌≡◌, ◌≢◌, ◌==◌, ℕ, ◌+◌, ◌-◌, ◌*◌, ◌/◌, ◌%◌, ◌^◌, ◌<◌, ◌≤◌, Bool, true, false, List, [], ◌∷◌, ◌++◌, length, take, drop, set, suc, refl, ap, sym, ◌∙◌, subst, arith, inl, inr, ⊎_elim, slice_index, length-set, length-append, Option, Some}
use Rattle.std.specs.Prelude.{MatchBool, Contains, IsPermutation}
use Rattle.std.specs.List.{All}
use Rattle.std.proofs.lemmas.Bool.Decides.{nat_tests}
use Rattle.std.proofs.lemmas.Nat.{mul-le}
use Rattle.std.proofs.Math.Nat.{add-mod_right, mod-eq_of_lt, mod-le}
use Rattle.std.proofs.lemmas.List.{append-nil, set-get_or, take-append-drop, drop_more, length-drop, length-take-le}
use Rattle.std.proofs.lemmas.List.Elements.{All-nil, All-append, All-take, All-drop}
use Rattle.std.proofs.lemmas.List.Sorted.{length_permutation}
use mathlib.Core.Option.{some, none}
use mathlib.Core.Logic.{dite}
use native.Mathlib.Decide.{ℕ_discrete}
use prog.Atomic.{either}
use Rattle.atomic_table.specs.Table.{Act, keeps as stays_put, takes, gives, Valid, homes_after, carried_after}
use Rattle.atomic_table.proofs.Lists.{set_here, set_else}
use Rattle.segment_store.specs.Contents.{Contents}
use Rattle.pass_book.specs.declared.entries.Look.{Look}
use Rattle.seq_objects.specs.declared.bags.BagCall.{BagCall}
use Rattle.seq_objects.specs.declared.bags.BagCall.TheVariants.{Add, Remove}
use Rattle.seq_objects.specs.declared.bags.BagReply.{BagReply}
use Rattle.seq_objects.specs.declared.bags.BagReply.TheVariants.{Added, Took, Empty}
use Rattle.seq_objects.specs.BagSteps.{BagStep}
use Rattle.seq_objects.specs.Meanings.{BagOpens}
use Rattle.pass_table.specs.Terms.{Effect, Moment, Acts, Permits, put, seeing, moving}
use Rattle.pass_table.proofs.Lists.{all_one, all_cons, put_here, put_else}
use Rattle.shared_bag.specs.declared.shapes.Shape.{Shape}
use Rattle.shared_bag.specs.declared.layout.Word.{Word}
use Rattle.shared_bag.specs.declared.layout.Word.TheVariants.{Count}
use Rattle.shared_bag.specs.declared.clients.Plan.{Plan}
use Rattle.shared_bag.specs.declared.clients.Holding.{Holding}
use Rattle.shared_bag.specs.declared.clients.Found.{Found}
use Rattle.shared_bag.specs.declared.clients.Hand.{Hand}
use Rattle.shared_bag.specs.declared.clients.Kind.{Kind}
use Rattle.shared_bag.specs.declared.clients.Kind.TheVariants.{CountLook, Claim, Put, Take, Steal, LeaveFound, LeaveChanged}
use Rattle.shared_bag.specs.Layout.{turn_place, turn_in, slot_place}
use Rattle.shared_bag.specs.Shapes.{IsShape, IsOwn, all_segments, locale_room}
use Rattle.shared_bag.specs.Counted.{BagEntry, LeavesItems, Counts, Shows, items_of, AddsKept}
use Rattle.shared_bag.specs.Rule.{Homes, IsHome, SegmentFits, IsAmong, IsAway, HoldsAll, IsStill, HandFits, BagRule, bag_terms, holds_none}
use Rattle.shared_bag.specs.Kinds.{Looks, Slots, count_read, turn_read, length_read, entry, NamesAnother, found_with, holding, FoundAllEmpty, TellsChosen}
use Rattle.shared_bag.proofs.Items.{one_more, one_fewer, half_fewer, items_short, segment_short, items_none, no_items, leaves_added, leaves_taken, leaves_empty}
use Rattle.shared_bag.proofs.Places.{turn_in-set_count, count-set, count-set_turn, turn_in-set_turn, turn_in-set_other}
use Rattle.shared_bag.proofs.Hands.{Touches, hands_kept, away_apart, holds_still}
use Rattle.shared_bag.proofs.Alone.{alone_full, alone_whole_room}

pub all_of : {A : Type 0} (P : A → Type 0) (l : List A) (x : A) → All P l → Contains l x → P x
all_of P l x all has = subst P has.2 (all has.0 x has.1)

away_from : (rests : Bool) (k : ℕ) (held : List Holding) → rests ≡ holds_none held → (rests ≡ false → IsAway k held) → IsAway k held
away_from rests k [] rested away = tt
away_from rests k (h ∷ held) rested away = away rested

split_at : (l : List ℕ) (k : ℕ) → k < length l → l ≡ take k l ++ slice_index l k ∷ drop (k + 1) l
split_at l k within = sym (take-append-drop k l) ∙ ap (λ r. take k l ++ r) (drop_more l k 0 within)

module _ {K : Type 0} (keeps : K → ℕ → Type 0) (plan : Plan K) (m : Moment (Option Contents) BagCall BagReply Hand) (rule : BagRule keeps plan m) (c : ℕ) (below : c < plan.shape.callers) where
  abbrev segments : ℕ
  segments = all_segments plan.shape

  -- the rule after a step of the caller c, which touches no segment of another's
  rule_after : (words' : List ℕ) (homes' : Homes) (entries : List BagEntry) (has' : ℕ → List ℕ) (hand : Hand) → length words' ≡ length m.words → length homes' ≡ length m.homes
      → Touches c (turn_in m.words) rule.has (turn_in words') has' → LeavesItems (m.history ++ entries) (items_of has' (all_segments plan.shape)) → slice_index words' 0 ≡ length (items_of has' (all_segments plan.shape))
      → All (λ (e : BagEntry). AddsKept (keeps plan.keeper) e.call) entries
      → ((k : ℕ) → k < all_segments plan.shape → SegmentFits (turn_in words') homes' has' (keeps plan.keeper) plan.shape k)
      → HandFits (turn_in words') has' (all_segments plan.shape) plan.shape.callers c hand
      → BagRule keeps plan record { words = words'; homes = homes'; history = m.history ++ entries; parts = put m.parts c hand }
  rule_after words' homes' entries has' hand long shelf touches leaves count kept fits own = record {
    has = has';
    shaped = rule.shaped;
    wide = long ∙ rule.wide;
    shelf = shelf ∙ rule.shelf;
    calls_kept = All-append (λ (e : BagEntry). AddsKept (keeps plan.keeper) e.call) m.history entries rule.calls_kept kept;
    leaves = leaves;
    count = count;
    segments = fits;
    hands = hands_kept c (turn_in m.words) rule.has (turn_in words') has' touches (all_segments plan.shape) plan.shape.callers below m.parts hand rule.hands own;
  }

  leaves_still : LeavesItems (m.history ++ []) (items_of rule.has (all_segments plan.shape))
  leaves_still = subst (λ h. LeavesItems h (items_of rule.has (all_segments plan.shape))) (sym (append-nil m.history)) rule.leaves

  -- the rule after a load
  rule_loaded : (i : ℕ) (entries : List BagEntry) (hand : Hand) → LeavesItems (m.history ++ entries) (items_of rule.has (all_segments plan.shape)) → All (λ (e : BagEntry). AddsKept (keeps plan.keeper) e.call) entries
      → HandFits (turn_in m.words) rule.has (all_segments plan.shape) plan.shape.callers c hand
      → BagRule keeps plan record { words = set m.words i (slice_index m.words i); homes = m.homes; history = m.history ++ entries; parts = put m.parts c hand }
  rule_loaded i entries hand leaves kept own =
      subst (λ ws. BagRule keeps plan record { words = ws; homes = m.homes; history = m.history ++ entries; parts = put m.parts c hand }) (sym (set-get_or m.words i 0))
      (rule_after m.words m.homes entries rule.has hand refl refl record { stays = λ k o isnt named. (named, refl); comes = λ k o isnt named. named } leaves rule.count kept rule.segments own)

  -- what the count shows
  count_shows : Shows m.history Count (slice_index m.words 0)
  count_shows = (items_of rule.has (all_segments plan.shape), rule.leaves, sym rule.count)

  hand_is : (hand : Hand) → m.parts c ≡ hand → HandFits (turn_in m.words) rule.has (all_segments plan.shape) plan.shape.callers c hand
  hand_is hand at = subst (HandFits (turn_in m.words) rule.has (all_segments plan.shape) plan.shape.callers c) at (rule.hands c below)

  module _ (carried : Slots) (i word : ℕ) (act : Act (Option Contents)) (valid : Valid m.homes carried act) where
    abbrev AfterSo : List BagEntry → Hand → Type 0
    AfterSo entries hand = BagRule keeps plan record { words = set m.words i word; homes = homes_after m.homes carried act; history = m.history ++ entries; parts = put m.parts c hand }

    -- a step that sees the history
    sees_so : (looks : Looks) (entries : List BagEntry) (hand : Hand) → All (λ (x : BagEntry). x.caller ≡ c) entries → All (λ (x : Look Word). Shows m.history x.name x.word) looks → AfterSo entries hand
        → Acts (bag_terms keeps) BagOpens BagStep plan m i word c carried (seeing m.history looks entries hand (carried_after carried act)) act
    sees_so looks entries hand own shows after = record {
      valid = valid;
      slots = refl;
      history = refl;
      own = own;
      quiet = λ blind. absurd cc;
      legal = (items_of after.has (all_segments plan.shape), after.leaves);
      shows = shows;
      rule = after;
    }

    -- a step that sees and reads nothing
    moves_so : (hand : Hand) → AfterSo [] hand → Acts (bag_terms keeps) BagOpens BagStep plan m i word c carried (moving m.history hand (carried_after carried act)) act
    moves_so hand after = record {
      valid = valid;
      slots = refl;
      history = refl;
      own = All-nil _;
      quiet = λ blind. (refl, refl);
      legal = (items_of after.has (all_segments plan.shape), after.leaves);
      shows = All-nil _;
      rule = after;
    }

module _ {K : Type 0} (keeps : K → ℕ → Type 0) (plan : Plan K) (slots c : ℕ) (rests : Bool) where
  abbrev Entered : Effect (Option Contents) BagCall BagReply Hand Word → Looks → List BagEntry → Hand → Slots → (List BagEntry → Type 0) → Type 0
  Entered e looks entries after carried Fact = (h : List BagEntry) × (e ≡ seeing h looks entries after carried) × Fact h

  -- a step of this kind is permitted, with this hand and these slots
  abbrev pub MaySo : Kind → Hand → Slots → ℕ → (ℕ → ℕ) → (ℕ → ℕ) → Type 0
  MaySo kind hand carried place f said =
      Permits (bag_terms keeps) BagOpens BagStep plan slots c rests hand carried place f (λ found e. TellsChosen keeps plan c hand carried kind (said found) e)

  -- the look at the count
  pub may_look : (hand : Hand) (carried : Slots) → MaySo CountLook hand carried 0 (λ n. n) (λ n. n)
  may_look hand carried m rule at rested below callers legal homes small =
      let n : ℕ = all_segments plan.shape in
      let found : ℕ = slice_index m.words 0 in
      let fits = hand_is keeps plan m rule c below hand at in
      let shows : All (λ (x : Look Word). Shows m.history x.name x.word) (count_read found ∷ []) = all_one (λ (x : Look Word). Shows m.history x.name x.word) (count_read found) (count_shows keeps plan m rule c below) in
      let P : Bool → Type 0 = λ b. (e : Effect (Option Contents) BagCall BagReply Hand Word) × Acts (bag_terms keeps) BagOpens BagStep plan m 0 found c carried e stays_put
      × MatchBool b
      (Entered e (count_read found ∷ []) (entry c Remove Empty ∷ []) hand carried (λ h. Unit {0}))
      (Entered e (count_read found ∷ []) [] hand carried (λ h. Unit {0}) × (plan.shape.callers ≡ 1 → ¬ FoundAllEmpty plan.shape hand)) in
      let by : (b : Bool) → (found == 0) ≡ b → P b = λ b test. elim b as (λ b. (found == 0) ≡ b → P b) [
        | true ↦ λ is.
            let none : found ≡ 0 = grind (arith, nat_tests) in
            let empty : items_of rule.has n ≡ [] = no_items (items_of rule.has n) (sym rule.count ∙ none) in (
              seeing m.history (count_read found ∷ []) (entry c Remove Empty ∷ []) hand carried,
              sees_so keeps plan m rule c below carried 0 found stays_put tt (count_read found ∷ []) (entry c Remove Empty ∷ []) hand (all_one (λ (x : BagEntry). x.caller ≡ c) (entry c Remove Empty) refl) shows
                  (rule_loaded keeps plan m rule c below 0 (entry c Remove Empty ∷ []) hand (leaves_empty m.history (items_of rule.has n) c rule.leaves empty) (all_one (λ (x : BagEntry). AddsKept (keeps plan.keeper) x.call) (entry c Remove Empty) tt) fits),
              (m.history, refl, tt),
            )
        | false ↦ λ isnt.
            let some_items : found ≢ 0 = grind (arith, nat_tests) in (
              seeing m.history (count_read found ∷ []) [] hand carried,
              sees_so keeps plan m rule c below carried 0 found stays_put tt (count_read found ∷ []) [] hand (All-nil _) shows
                  (rule_loaded keeps plan m rule c below 0 [] hand (leaves_still keeps plan m rule c below) (All-nil _) fits),
              ((m.history, refl, tt), λ one all. some_items (rule.count ∙ items_none n rule.has (λ j less. all_of (IsStill rule.has) hand.found (found_with j 0) (fits.still one) (all j less)))),
            )
      ] test in
      let all = by (found == 0) refl in (all.0, stays_put, all.1, all.2)

  -- the claim of a segment
  pub may_claim : (segment : ℕ) (hand : Hand) (carried : Slots) → segment < all_segments plan.shape → IsAway segment hand.held
      → MaySo (Claim segment) hand carried (turn_place segment) (λ n. either (n == 0) (c + 1) n) (λ n. n)
  may_claim segment hand carried within away m rule at rested below callers legal homes small =
      let n : ℕ = all_segments plan.shape in
      let i : ℕ = turn_place segment in
      let found : ℕ = turn_in m.words segment in
      let fits = hand_is keeps plan m rule c below hand at in
      let here = rule.segments segment within in
      let shows : All (λ (x : Look Word). Shows m.history x.name x.word) (turn_read segment found ∷ []) = all_one (λ (x : Look Word). Shows m.history x.name x.word) (turn_read segment found) tt in
      let room : ℕ = plan.shape.room in
      let P : Bool → Type 0 = λ b. (e : Effect (Option Contents) BagCall BagReply Hand Word) × (act : Act (Option Contents)) × Acts (bag_terms keeps) BagOpens BagStep plan m i (either b (c + 1) found) c carried e act
      × MatchBool b
      ((contents : Contents)
      × Entered e (turn_read segment found ∷ []) [] record { held = holding segment contents.items ∷ hand.held; found = hand.found } ((slot_place segment, Some contents) ∷ carried)
      (λ h. plan.shape.callers ≡ 1 → IsOwn plan.shape c segment → Counts h (locale_room plan.shape) → length contents.items ≡ room) × (length contents.items ≤ room))
      (Entered e (turn_read segment found ∷ []) [] hand carried (λ h. Unit {0}) × NamesAnother plan.shape.callers c found × (plan.shape.callers ≢ 1)) in
      let by : (b : Bool) → (found == 0) ≡ b → P b = λ b test. elim b as (λ b. (found == 0) ≡ b → P b) [
        | true ↦ λ is.
            let free : found ≡ 0 = grind (arith, nat_tests) in
            let home = here.home free in
            let contents : Contents = record { items = rule.has segment; spare = home.0 } in
            let words' : List ℕ = set m.words i (c + 1) in
            let homes' : Homes = set m.homes (slot_place segment) none in
            let mine : turn_in words' segment ≡ c + 1 = turn_in-set_turn m.words (c + 1) segment (let wide = rule.wide in omega arith) in
            let other : (k : ℕ) → k ≢ segment → turn_in words' k ≡ turn_in m.words k = λ k isnt. turn_in-set_other m.words (c + 1) segment k isnt in
            let hand' : Hand = record { held = holding segment (rule.has segment) ∷ hand.held; found = hand.found } in
            let still : (k : ℕ) → IsAmong k hand.held → (turn_in words' k ≡ turn_in m.words k) × (rule.has k ≡ rule.has k) = λ k among. (other k (away_apart segment k hand.held away among), refl) in
            let touches : Touches c (turn_in m.words) rule.has (turn_in words') rule.has = record {
              stays = λ k o isnt named. dite (ℕ_discrete k segment) (λ it. absurd (let t : turn_in m.words k ≡ 0 = ap (turn_in m.words) it ∙ free in omega arith)) (λ apart. (other k apart ∙ named, refl));
              comes = λ k o isnt named. dite (ℕ_discrete k segment) (λ it. absurd (isnt (let t : turn_in words' k ≡ c + 1 = ap (turn_in words') it ∙ mine in omega arith))) (λ apart. sym (other k apart) ∙ named);
            } in
            let own : HandFits (turn_in words') rule.has n plan.shape.callers c hand' = record {
              holds = (within, mine, refl, away, holds_still (turn_in m.words) (turn_in words') rule.has rule.has n c hand.held still fits.holds);
              only = λ k less named. dite (ℕ_discrete k segment) (λ it. inl it) (λ apart. inr (fits.only k less (sym (other k apart) ∙ named)));
              still = fits.still;
            } in (
              seeing m.history (turn_read segment found ∷ []) [] hand' ((slot_place segment, Some contents) ∷ carried),
              takes (slot_place segment) (Some contents),
              sees_so keeps plan m rule c below carried i (c + 1) (takes (slot_place segment) (Some contents)) home.1 (turn_read segment found ∷ []) [] hand' (All-nil _) shows
                  (rule_after keeps plan m rule c below words' homes' [] rule.has hand' (length-set m.words i (c + 1)) (length-set m.homes (slot_place segment) none) touches (leaves_still keeps plan m rule c below)
                  (count-set_turn m.words (c + 1) segment ∙ rule.count) (All-nil _)
                  (λ k less. let fits' = rule.segments k less in
                  dite (ℕ_discrete k segment)
                  (λ it. let t : turn_in words' k ≡ c + 1 = ap (turn_in words') it ∙ mine in record { named = omega arith; home = λ zero'. absurd (omega arith); short = fits'.short; unused = fits'.unused; kept = fits'.kept })
                  (λ apart. record {
                    named = subst (λ t. t ≤ plan.shape.callers) (sym (other k apart)) fits'.named;
                    home = λ free'. let h = fits'.home (sym (other k apart) ∙ free') in (h.0, set_else m.homes (slot_place segment) (slot_place k) none (λ same. apart (omega arith)) ∙ h.1);
                    short = fits'.short;
                    unused = fits'.unused;
                    kept = fits'.kept;
                  }))
                  own),
              (contents, (m.history, refl, λ one own'. alone_full keeps plan m rule c below one segment within own'), here.short),
            )
        | false ↦ λ isnt.
            let taken : found ≢ 0 = grind (arith, nat_tests) in
            let named : found ≤ plan.shape.callers = here.named in
            let others : found ≢ c + 1 = λ same. away_apart segment segment hand.held away (fits.only segment within same) refl in (
              seeing m.history (turn_read segment found ∷ []) [] hand carried,
              stays_put,
              sees_so keeps plan m rule c below carried i found stays_put tt (turn_read segment found ∷ []) [] hand (All-nil _) shows (rule_loaded keeps plan m rule c below i [] hand (leaves_still keeps plan m rule c below) (All-nil _) fits),
              ((m.history, refl, tt), (found - 1, omega arith, (λ same. others (omega arith)), omega arith), (λ one. others (omega arith))),
            )
      ] test in
      let all = by (found == 0) refl in (all.0, all.1, all.2, all.3)

  -- the same at the place where the turn stands, with the number that names the caller, who has nothing in hand between two calls
  pub may_claim_at : (segment place new : ℕ) (hand : Hand) (carried : Slots) → segment < all_segments plan.shape → (rests ≡ false → IsAway segment hand.held) → place ≡ turn_place segment → new ≡ c + 1
      → MaySo (Claim segment) hand carried place (λ n. either (n == 0) new n) (λ n. n)
  may_claim_at segment place new hand carried within away is_place is_new m rule at rested =
      subst (λ p. MaySo (Claim segment) hand carried p (λ n. either (n == 0) new n) (λ n. n)) (sym is_place)
      (subst (λ x. MaySo (Claim segment) hand carried (turn_place segment) (λ n. either (n == 0) x n) (λ n. n)) (sym is_new)
      (may_claim segment hand carried within (away_from rests segment hand.held rested away))) m rule at rested

-- the count is far below 2^64
count_small : (shape : Shape) (has : ℕ → List ℕ) → IsShape shape → ((k : ℕ) → k < all_segments shape → length (has k) ≤ shape.room) → length (items_of has (all_segments shape)) ≤ 17179869184
count_small shape has is short =
    let few : shape.locales * shape.segments ≤ 16 * 64 = mul-le shape.locales shape.segments 16 64 is.locales.1 is.segments.1 in
    let all = items_short (all_segments shape) has (λ k less. let one = short k less in let most = is.room.1 in omega arith) in
    omega arith

module _ {K : Type 0} (keeps : K → ℕ → Type 0) (plan : Plan K) (slots c : ℕ) (rests : Bool) where
  -- a step on the count, where the items of the segments in hand change
  module _ (m : Moment (Option Contents) BagCall BagReply Hand) (rule : BagRule keeps plan m) (below : c < plan.shape.callers) (hand : Hand) (at : m.parts c ≡ hand) (carried : Slots) where
    counted : (word : ℕ) (e : BagEntry) (has' : ℕ → List ℕ) (held' : List Holding) → e.caller ≡ c → AddsKept (keeps plan.keeper) e.call
        → LeavesItems (m.history ++ e ∷ []) (items_of has' (all_segments plan.shape)) → word ≡ length (items_of has' (all_segments plan.shape))
        → ((k : ℕ) → turn_in m.words k ≢ c + 1 → has' k ≡ rule.has k)
        → ((k : ℕ) → k < all_segments plan.shape → turn_in m.words k ≡ c + 1 → (length (has' k) ≤ plan.shape.room) × (plan.shape.callers ≤ k / plan.shape.segments → has' k ≡ []) × All (keeps plan.keeper) (has' k))
        → HoldsAll (turn_in m.words) has' (all_segments plan.shape) c held' → ((k : ℕ) → IsAmong k hand.held → IsAmong k held')
        → Acts (bag_terms keeps) BagOpens BagStep plan m 0 word c carried (seeing m.history (count_read (slice_index m.words 0) ∷ []) (e ∷ []) record { held = held'; found = [] } carried) stays_put
    counted word e has' held' own wants leaves count others mine holds among =
        let n : ℕ = all_segments plan.shape in
        let words' : List ℕ = set m.words 0 word in
        let found : ℕ = slice_index m.words 0 in
        let fits = hand_is keeps plan m rule c below hand at in
        let turn : (k : ℕ) → turn_in words' k ≡ turn_in m.words k = turn_in-set_count m.words word in
        let hand' : Hand = record { held = held'; found = [] } in
        sees_so keeps plan m rule c below carried 0 word stays_put tt (count_read found ∷ []) (e ∷ []) hand' (all_one (λ (x : BagEntry). x.caller ≡ c) e own)
        (all_one (λ (x : Look Word). Shows m.history x.name x.word) (count_read found) (count_shows keeps plan m rule c below))
        (rule_after keeps plan m rule c below words' m.homes (e ∷ []) has' hand' (length-set m.words 0 word) refl
        record { stays = λ k o isnt named. (turn k ∙ named, others k (λ same. isnt (omega arith))); comes = λ k o isnt named. sym (turn k) ∙ named }
        leaves (count-set m.words word (let wide = rule.wide in omega arith) ∙ count) (all_one (λ (x : BagEntry). AddsKept (keeps plan.keeper) x.call) e wants)
        (λ k less.
        let old = rule.segments k less in
        let named : turn_in words' k ≤ plan.shape.callers = subst (λ t. t ≤ plan.shape.callers) (sym (turn k)) old.named in
        dite (ℕ_discrete (turn_in m.words k) (c + 1))
        (λ it. let new = mine k less it in record { named = named; home = λ free. absurd (let t = turn k in omega arith); short = new.0; unused = new.1; kept = new.2 })
        (λ isnt. let same = others k isnt in record {
          named = named;
          home = λ free. subst (IsHome m.homes k) (sym same) (old.home (sym (turn k) ∙ free));
          short = subst (λ l. length l ≤ plan.shape.room) (sym same) old.short;
          unused = λ past. same ∙ old.unused past;
          kept = subst (All (keeps plan.keeper)) (sym same) old.kept;
        }))
        record {
          holds = holds_still (turn_in m.words) (turn_in words') has' has' n c held' (λ k there. (turn k, refl)) holds;
          only = λ k less named. among k (fits.only k less (sym (turn k) ∙ named));
          still = λ one. All-nil (IsStill has');
        })

    -- the items of the segment that was claimed last change
    one_changed : (word : ℕ) (e : BagEntry) (h : Holding) (hs : List Holding) (items' : List ℕ) → hand.held ≡ h ∷ hs → e.caller ≡ c → AddsKept (keeps plan.keeper) e.call
        → LeavesItems (m.history ++ e ∷ []) (items_of (put rule.has h.segment items') (all_segments plan.shape)) → word ≡ length (items_of (put rule.has h.segment items') (all_segments plan.shape))
        → length items' ≤ plan.shape.room → (plan.shape.callers ≤ h.segment / plan.shape.segments → items' ≡ []) → All (keeps plan.keeper) items'
        → Acts (bag_terms keeps) BagOpens BagStep plan m 0 word c carried (seeing m.history (count_read (slice_index m.words 0) ∷ []) (e ∷ []) record { held = holding h.segment items' ∷ hs; found = [] } carried) stays_put
    one_changed word e h hs items' is own wants leaves count short unused kept =
        let n : ℕ = all_segments plan.shape in
        let k : ℕ = h.segment in
        let has' : ℕ → List ℕ = put rule.has k items' in
        let holds : HoldsAll (turn_in m.words) rule.has n c (h ∷ hs) = subst (HoldsAll (turn_in m.words) rule.has n c) is (hand_is keeps plan m rule c below hand at).holds in
        let there : (j : ℕ) → j ≡ k → has' j ≡ items' = λ j it. put_here rule.has k items' j it in
        let else : (j : ℕ) → j ≢ k → has' j ≡ rule.has j = λ j apart. put_else rule.has k items' j apart in
        counted word e has' (holding k items' ∷ hs) own wants leaves count
        (λ j isnt. else j (λ it. isnt (ap (turn_in m.words) it ∙ holds.1)))
        (λ j less named. dite (ℕ_discrete j k)
        (λ it. (subst (λ l. length l ≤ plan.shape.room) (sym (there j it)) short, (λ past. there j it ∙ unused (subst (λ x. plan.shape.callers ≤ x / plan.shape.segments) it past)), subst (All (keeps plan.keeper)) (sym (there j it)) kept))
        (λ apart. let old = rule.segments j less in let same = else j apart in
        (subst (λ l. length l ≤ plan.shape.room) (sym same) old.short, (λ past. same ∙ old.unused past), subst (All (keeps plan.keeper)) (sym same) old.kept)))
        (holds.0, holds.1, sym (there k refl), holds.3, holds_still (turn_in m.words) (turn_in m.words) rule.has has' n c hs (λ j among. (refl, else j (away_apart k j hs holds.3 among))) holds.4)
        (λ j among. subst (IsAmong j) is among)

  small_enough : (m : Moment (Option Contents) BagCall BagReply Hand) (rule : BagRule keeps plan m) → slice_index m.words 0 ≤ 17179869184
  small_enough m rule = subst (λ x. x ≤ 17179869184) (sym rule.count) (count_small plan.shape rule.has rule.shaped (λ k less. (rule.segments k less).short))

  -- an item is put into the segment that was claimed last
  pub may_put : (item : ℕ) (h : Holding) (hs : List Holding) (found : List Found) (carried : Slots) → length h.items < plan.shape.room → IsOwn plan.shape c h.segment → keeps plan.keeper item
      → MaySo keeps plan slots c rests (Put item) record { held = h ∷ hs; found = found } carried 0 (λ n. (n + 1) % 2 ^ 64) (λ n. n)
  may_put item h hs found carried room own wants m rule at rested below callers legal homes small =
      let n : ℕ = all_segments plan.shape in
      let k : ℕ = h.segment in
      let items' : List ℕ = h.items ++ item ∷ [] in
      let has' : ℕ → List ℕ = put rule.has k items' in
      let hand : Hand = record { held = h ∷ hs; found = found } in
      let holds = (hand_is keeps plan m rule c below hand at).holds in
      let here : has' k ≡ rule.has k ++ item ∷ [] = put_here rule.has k items' k refl ∙ ap (λ l. l ++ item ∷ []) holds.2 in
      let more : IsPermutation (item ∷ items_of rule.has n) (items_of has' n) = one_more n rule.has has' k item holds.0 here (λ j apart. put_else rule.has k items' j apart) in
      let long : suc (length (items_of rule.has n)) ≡ length (items_of has' n) = sym (length_permutation _ _ more) in
      let few = small_enough m rule in
      let count = rule.count in
      let word : (slice_index m.words 0 + 1) % 2 ^ 64 ≡ length (items_of has' n) = mod-eq_of_lt (omega arith) ∙ omega arith in
      let low : c % plan.shape.locales ≤ c = mod-le c plan.shape.locales in
      let e : BagEntry = entry c (Add item) Added in (
        seeing m.history (count_read (slice_index m.words 0) ∷ []) (e ∷ []) record { held = holding k items' ∷ hs; found = [] } carried,
        stays_put,
        one_changed m rule below hand at carried ((slice_index m.words 0 + 1) % 2 ^ 64) e h hs items' refl refl wants (leaves_added m.history (items_of rule.has n) (items_of has' n) c item rule.leaves more) word
            (omega (arith, length-append h.items (item ∷ []))) (λ past. absurd (omega (arith, own)))
            (All-append (keeps plan.keeper) h.items (item ∷ []) (subst (All (keeps plan.keeper)) (sym holds.2) (rule.segments k holds.0).kept) (all_one (keeps plan.keeper) item wants)),
        (m.history, refl, tt),
      )

  -- the last item of the segment that was claimed last is taken
  pub may_take : (h : Holding) (hs : List Holding) (found : List Found) (carried : Slots) → 0 < length h.items
      → MaySo keeps plan slots c rests Take record { held = h ∷ hs; found = found } carried 0 (λ n. (n + (2 ^ 64 - 1)) % 2 ^ 64) (λ n. n)
  may_take h hs found carried some_item m rule at rested below callers legal homes small =
      let n : ℕ = all_segments plan.shape in
      let k : ℕ = h.segment in
      let last : ℕ = length h.items - 1 in
      let item : ℕ = slice_index h.items last in
      let items' : List ℕ = take last h.items in
      let has' : ℕ → List ℕ = put rule.has k items' in
      let hand : Hand = record { held = h ∷ hs; found = found } in
      let holds = (hand_is keeps plan m rule c below hand at).holds in
      let less : last < length h.items = omega arith in
      let none_behind : drop (last + 1) h.items ≡ [] = no_items (drop (last + 1) h.items) (omega (arith, length-drop (last + 1) h.items)) in
      let parts : h.items ≡ items' ++ item ∷ [] = split_at h.items last less ∙ ap (λ l. items' ++ item ∷ l) none_behind in
      let here : rule.has k ≡ has' k ++ item ∷ [] = sym holds.2 ∙ (parts ∙ ap (λ l. l ++ item ∷ []) (sym (put_here rule.has k items' k refl))) in
      let fewer : IsPermutation (items_of rule.has n) (item ∷ items_of has' n) = one_fewer n rule.has has' k item holds.0 here (λ j apart. put_else rule.has k items' j apart) in
      let long : length (items_of rule.has n) ≡ suc (length (items_of has' n)) = sym (length_permutation _ _ fewer) in
      let few = small_enough m rule in
      let count = rule.count in
      let sum : slice_index m.words 0 + (2 ^ 64 - 1) ≡ length (items_of has' n) + 2 ^ 64 = omega arith in
      let word : (slice_index m.words 0 + (2 ^ 64 - 1)) % 2 ^ 64 ≡ length (items_of has' n) = ap (λ x. x % 2 ^ 64) sum ∙ (add-mod_right (length (items_of has' n)) (2 ^ 64) ∙ mod-eq_of_lt (omega arith)) in
      let old = rule.segments k holds.0 in
      let all : All (keeps plan.keeper) h.items = subst (All (keeps plan.keeper)) (sym holds.2) old.kept in
      let short : length h.items ≤ plan.shape.room = subst (λ l. length l ≤ plan.shape.room) (sym holds.2) old.short in
      let e : BagEntry = entry c Remove (Took item) in (
        seeing m.history (count_read (slice_index m.words 0) ∷ []) (e ∷ []) record { held = holding k items' ∷ hs; found = [] } carried,
        stays_put,
        one_changed m rule below hand at carried ((slice_index m.words 0 + (2 ^ 64 - 1)) % 2 ^ 64) e h hs items' refl refl tt (leaves_taken m.history (items_of rule.has n) (items_of has' n) c item rule.leaves fewer) word
            (omega (arith, length-take-le last h.items)) (λ past. absurd (let none_there = ap length (holds.2 ∙ old.unused past) in omega arith)) (All-take (keeps plan.keeper) last h.items all),
        ((m.history, refl, tt), all last 0 less),
      )

  -- the segment that was claimed last goes home, and its turn is nobody's
  module _ (m : Moment (Option Contents) BagCall BagReply Hand) (rule : BagRule keeps plan m) (below : c < plan.shape.callers) (h : Holding) (hs : List Holding) (found found' : List Found)
      (at : m.parts c ≡ record { held = h ∷ hs; found = found }) (contents : Contents) (back : contents.items ≡ h.items) (carried : Slots) where
    left : (plan.shape.callers ≡ 1 → All (IsStill rule.has) found')
        → BagRule keeps plan record { words = set m.words (turn_place h.segment) 0; homes = set m.homes (slot_place h.segment) (some (Some contents)); history = m.history ++ []; parts = put m.parts c record { held = hs; found = found' } }
    left still =
        let n : ℕ = all_segments plan.shape in
        let k : ℕ = h.segment in
        let words' : List ℕ = set m.words (turn_place k) 0 in
        let homes' : Homes = set m.homes (slot_place k) (some (Some contents)) in
        let fits = hand_is keeps plan m rule c below record { held = h ∷ hs; found = found } at in
        let holds = fits.holds in
        let free : turn_in words' k ≡ 0 = turn_in-set_turn m.words 0 k (let wide = rule.wide in let less = holds.0 in omega arith) in
        let other : (j : ℕ) → j ≢ k → turn_in words' j ≡ turn_in m.words j = λ j isnt. turn_in-set_other m.words 0 k j isnt in
        let hand' : Hand = record { held = hs; found = found' } in
        let named : turn_in m.words k ≡ c + 1 = holds.1 in
        rule_after keeps plan m rule c below words' homes' [] rule.has hand' (length-set m.words (turn_place k) 0) (length-set m.homes (slot_place k) (some (Some contents)))
        record {
          stays = λ j o isnt names. dite (ℕ_discrete j k) (λ it. absurd (isnt (let t : turn_in m.words j ≡ c + 1 = ap (turn_in m.words) it ∙ named in omega arith))) (λ apart. (other j apart ∙ names, refl));
          comes = λ j o isnt names. dite (ℕ_discrete j k) (λ it. absurd (let t : turn_in words' j ≡ 0 = ap (turn_in words') it ∙ free in omega arith)) (λ apart. sym (other j apart) ∙ names);
        }
        (leaves_still keeps plan m rule c below) (count-set_turn m.words 0 k ∙ rule.count) (All-nil _)
        (λ j less.
        let old = rule.segments j less in
        dite (ℕ_discrete j k)
        (λ it. let t : turn_in words' j ≡ 0 = ap (turn_in words') it ∙ free in record {
          named = omega arith;
          home = λ zero'. subst (λ i. IsHome homes' i (rule.has i)) (sym it) (subst (IsHome homes' k) (back ∙ holds.2) (contents.spare, set_here m.homes (slot_place k) (some (Some contents)) (let shelf = rule.shelf in let less' = holds.0 in omega arith)));
          short = old.short;
          unused = old.unused;
          kept = old.kept;
        })
        (λ apart. record {
          named = subst (λ t. t ≤ plan.shape.callers) (sym (other j apart)) old.named;
          home = λ free'. let there = old.home (sym (other j apart) ∙ free') in (there.0, set_else m.homes (slot_place k) (slot_place j) (some (Some contents)) (λ same. apart (omega arith)) ∙ there.1);
          short = old.short;
          unused = old.unused;
          kept = old.kept;
        }))
        record {
          holds = holds_still (turn_in m.words) (turn_in words') rule.has rule.has n c hs (λ j among. (other j (away_apart k j hs holds.3 among), refl)) holds.4;
          only = λ j less names. dite (ℕ_discrete j k)
              (λ it. absurd (let t : turn_in words' j ≡ 0 = ap (turn_in words') it ∙ free in omega arith))
              (λ apart. ⊎_elim (λ it. absurd (apart it)) (λ among. among) (fits.only j less (sym (other j apart) ∙ names)));
          still = still;
        }

  -- it is left as it was found
  pub may_leave_found : (h : Holding) (hs : List Holding) (found : List Found) (contents : Contents) (cs : Slots) → contents.items ≡ h.items
      → MaySo keeps plan slots c rests LeaveFound record { held = h ∷ hs; found = found } ((slot_place h.segment, Some contents) ∷ cs) (turn_place h.segment) (λ _. 0) (λ _. 0)
  may_leave_found h hs found contents cs back m rule at rested below callers legal homes small =
      let n : ℕ = all_segments plan.shape in
      let k : ℕ = h.segment in
      let carried : Slots = (slot_place k, Some contents) ∷ cs in
      let f : Found = found_with k (length h.items) in
      let fits = hand_is keeps plan m rule c below record { held = h ∷ hs; found = found } at in
      let still : plan.shape.callers ≡ 1 → All (IsStill rule.has) (f ∷ found) = λ one. all_cons (IsStill rule.has) f found (ap length (sym fits.holds.2)) (fits.still one) in
      let hand' : Hand = record { held = hs; found = f ∷ found } in
      let short : length (rule.has k) ≤ length (items_of rule.has n) = segment_short n rule.has k fits.holds.0 in
      let least : length h.items ≤ length (items_of rule.has n) = subst (λ l. length l ≤ length (items_of rule.has n)) (sym fits.holds.2) short in (
        seeing m.history (length_read k (length h.items) ∷ []) [] hand' cs,
        gives,
        sees_so keeps plan m rule c below carried (turn_place k) 0 gives tt (length_read k (length h.items) ∷ []) [] hand' (All-nil _)
            (all_one (λ (x : Look Word). Shows m.history x.name x.word) (length_read k (length h.items)) (items_of rule.has n, rule.leaves, least))
            (left m rule below h hs found (f ∷ found) at contents back carried still),
        (m.history, refl, λ one all. alone_whole_room keeps plan m rule c below one hand' (still one) all),
      )

  -- it is left after a step on the count
  pub may_leave_changed : (h : Holding) (hs : List Holding) (found : List Found) (contents : Contents) (cs : Slots) → contents.items ≡ h.items
      → MaySo keeps plan slots c rests LeaveChanged record { held = h ∷ hs; found = found } ((slot_place h.segment, Some contents) ∷ cs) (turn_place h.segment) (λ _. 0) (λ _. 0)
  may_leave_changed h hs found contents cs back m rule at rested below callers legal homes small =
      let carried : Slots = (slot_place h.segment, Some contents) ∷ cs in
      let hand' : Hand = record { held = hs; found = found } in
      let fits = hand_is keeps plan m rule c below record { held = h ∷ hs; found = found } at in (
        moving m.history hand' cs,
        gives,
        moves_so keeps plan m rule c below carried (turn_place h.segment) 0 gives tt hand' (left m rule below h hs found found at contents back carried fits.still),
        (m.history, refl),
      )

  -- half of the items of the segment that was claimed last go to the one before it, and the next is taken
  pub may_steal : (moved : ℕ) (h own : Holding) (hs : List Holding) (found : List Found) (carried : Slots) → moved < length h.items → own.items ≡ [] → IsOwn plan.shape c own.segment
      → MaySo keeps plan slots c rests (Steal moved) record { held = h ∷ own ∷ hs; found = found } carried 0 (λ n. (n + (2 ^ 64 - 1)) % 2 ^ 64) (λ n. n)
  may_steal moved h own hs found carried within none_own is_own m rule at rested below callers legal homes small =
      let n : ℕ = all_segments plan.shape in
      let k : ℕ = h.segment in
      let o : ℕ = own.segment in
      let item : ℕ = slice_index h.items moved in
      let front : List ℕ = take moved h.items in
      let behind : List ℕ = drop (moved + 1) h.items in
      let mid : ℕ → List ℕ = put rule.has k behind in
      let has' : ℕ → List ℕ = put mid o front in
      let hand : Hand = record { held = h ∷ own ∷ hs; found = found } in
      let holds = (hand_is keeps plan m rule c below hand at).holds in
      let apart : k ≢ o = holds.3.0 in
      let mid_else : (j : ℕ) → j ≢ k → mid j ≡ rule.has j = λ j away. put_else rule.has k behind j away in
      let has_else : (j : ℕ) → j ≢ o → has' j ≡ mid j = λ j away. put_else mid o front j away in
      let here : has' k ≡ behind = has_else k apart ∙ put_here rule.has k behind k refl in
      let there : has' o ≡ front = put_here mid o front o refl in
      let parts : rule.has k ≡ front ++ item ∷ mid k = sym holds.2 ∙ (split_at h.items moved within ∙ ap (λ l. front ++ item ∷ l) (sym (put_here rule.has k behind k refl))) in
      let fewer : IsPermutation (items_of rule.has n) (item ∷ items_of has' n) =
      half_fewer n rule.has mid has' k o item front holds.0 holds.4.0 parts mid_else (mid_else o (λ same. apart (sym same)) ∙ (sym holds.4.2 ∙ none_own)) there has_else in
      let long : length (items_of rule.has n) ≡ suc (length (items_of has' n)) = sym (length_permutation _ _ fewer) in
      let few = small_enough m rule in
      let count = rule.count in
      let sum : slice_index m.words 0 + (2 ^ 64 - 1) ≡ length (items_of has' n) + 2 ^ 64 = omega arith in
      let word : (slice_index m.words 0 + (2 ^ 64 - 1)) % 2 ^ 64 ≡ length (items_of has' n) = ap (λ x. x % 2 ^ 64) sum ∙ (add-mod_right (length (items_of has' n)) (2 ^ 64) ∙ mod-eq_of_lt (omega arith)) in
      let old = rule.segments k holds.0 in
      let all : All (keeps plan.keeper) h.items = subst (All (keeps plan.keeper)) (sym holds.2) old.kept in
      let short : length h.items ≤ plan.shape.room = subst (λ l. length l ≤ plan.shape.room) (sym holds.2) old.short in
      let low : c % plan.shape.locales ≤ c = mod-le c plan.shape.locales in
      let e : BagEntry = entry c Remove (Took item) in
      let held' : List Holding = holding k behind ∷ holding o front ∷ hs in
      let same : (j : ℕ) → j ≢ k → j ≢ o → has' j ≡ rule.has j = λ j a b. has_else j b ∙ mid_else j a in (
        seeing m.history (count_read (slice_index m.words 0) ∷ []) (e ∷ []) record { held = held'; found = [] } carried,
        stays_put,
        counted m rule below hand at carried ((slice_index m.words 0 + (2 ^ 64 - 1)) % 2 ^ 64) e has' held' refl tt (leaves_taken m.history (items_of rule.has n) (items_of has' n) c item rule.leaves fewer) word
            (λ j isnt. same j (λ it. isnt (ap (turn_in m.words) it ∙ holds.1)) (λ it. isnt (ap (turn_in m.words) it ∙ holds.4.1)))
            (λ j less named. dite (ℕ_discrete j k)
            (λ it. let is : has' j ≡ behind = ap has' it ∙ here in (
              subst (λ l. length l ≤ plan.shape.room) (sym is) (omega (arith, length-drop (moved + 1) h.items)),
              (λ past. absurd (let none_there = ap length (holds.2 ∙ old.unused (subst (λ x. plan.shape.callers ≤ x / plan.shape.segments) it past)) in omega arith)),
              subst (All (keeps plan.keeper)) (sym is) (All-drop (keeps plan.keeper) (moved + 1) h.items all),
            ))
            (λ away. dite (ℕ_discrete j o)
            (λ it. let is : has' j ≡ front = ap has' it ∙ there in (
              subst (λ l. length l ≤ plan.shape.room) (sym is) (omega (arith, length-take-le moved h.items)),
              (λ past. absurd (let past' : plan.shape.callers ≤ o / plan.shape.segments = subst (λ x. plan.shape.callers ≤ x / plan.shape.segments) it past in omega (arith, is_own))),
              subst (All (keeps plan.keeper)) (sym is) (All-take (keeps plan.keeper) moved h.items all),
            ))
            (λ far. let old' = rule.segments j less in let is = same j away far in
            (subst (λ l. length l ≤ plan.shape.room) (sym is) old'.short, (λ past. is ∙ old'.unused past), subst (All (keeps plan.keeper)) (sym is) old'.kept)))) (
              holds.0,
              holds.1,
              sym here,
              holds.3,
              (
                holds.4.0,
                holds.4.1,
                sym there,
                holds.4.3,
                holds_still (turn_in m.words) (turn_in m.words) rule.has has' n c hs
                    (λ j among. (refl, same j (away_apart k j hs holds.3.1 among) (away_apart o j hs holds.4.3 among))) holds.4.4,
              ),
            )
            (λ j among. among),
        ((m.history, refl, tt), all moved 0 within),
      )
