-- Each kind of step: where its row is met, the rule is kept, and what it tells is so.
use Rattle.std.proofs.Common.{◌≡◌, ◌≢◌, ◌==◌, ℕ, ◌+◌, ◌-◌, ◌<◌, ◌≤◌, Bool, true, false, List, [], ◌∷◌, ◌++◌, length, set, refl, ap, sym, ◌∙◌, subst, arith, inl, inr, slice_index, length-set}
use Rattle.std.specs.Prelude.{MatchBool}
use Rattle.std.proofs.lemmas.Bool.Decides.{nat_tests}
use Rattle.std.proofs.lemmas.List.{append-nil, get_or_past, set-get_or}
use Rattle.std.proofs.lemmas.List.Elements.{All-nil}
use mathlib.Core.Logic.{dite}
use native.Mathlib.Decide.{ℕ_discrete}
use prog.Atomic.{either}
use Rattle.atomic_table.specs.Table.{Me, keeps as holding}
use Rattle.pass_book.specs.declared.entries.Look.{Look}
use Rattle.pass_book.specs.Histories.{IsLegal}
use Rattle.seq_objects.specs.declared.deques.DequeCall.{DequeCall}
use Rattle.seq_objects.specs.declared.deques.DequeReply.{DequeReply}
use Rattle.seq_objects.specs.Meanings.{DequeOpens, DequeSteps}
use Rattle.pass_table.specs.declared.views.View.{View}
use Rattle.pass_table.specs.Terms.{Effect, Moment, Acts, put, seeing, moving}
use Rattle.pass_table.proofs.Lists.{all_one, put_here, put_else}
use Rattle.shared_deque.specs.declared.layout.Word.{Word}
use Rattle.shared_deque.specs.declared.layout.Word.TheVariants.{Ends}
use Rattle.shared_deque.specs.declared.sides.Aim.{Aim}
use Rattle.shared_deque.specs.declared.sides.Aim.TheVariants.{Push, Pop}
use Rattle.shared_deque.specs.declared.clients.Plan.{Plan}
use Rattle.shared_deque.specs.declared.clients.Stage.{Stage}
use Rattle.shared_deque.specs.declared.clients.Stage.TheVariants.{Idle, Looked, Claimed, Read, Storing, Leaving}
use Rattle.shared_deque.specs.declared.clients.Kind.TheVariants.{EndsLook, Claim, CellLook, EndsExchange, CellStore, Leave}
use Rattle.shared_deque.specs.Layout.{owner_in, value_in, owner_place, value_place, size_in, ends_word}
use Rattle.shared_deque.specs.Aims.{call_of, cell_of, ends_after, is_turned_away, MayGo, refusal, success, Asks, HandsOut}
use Rattle.shared_deque.specs.Counted.{DequeEntry, left_of, head_from, ends_of, deque_with, Shows}
use Rattle.shared_deque.specs.Rule.{HasNoCell, HasCell, CellFits, IsLaid, IsLog, IsLoaded, IsAt, DequeRule, deque_terms, is_idle}
use Rattle.shared_deque.specs.Kinds.{ends_read, turn_read, value_read, entry, NamesAnother, ready, won, MayDo}
use Rattle.shared_deque.proofs.Places.{owner_in-set_ends, value_in-set_ends, ends-set, ends-set_owner, owner_in-set_owner, owner_in-set_other, value_in-set_owner, ends-set_value, value_in-set_value, value_in-set_other, owner_in-set_value}
use Rattle.shared_deque.proofs.Logs.{has_after, HasFound, Won, log_won, log_turned_away, counted, cell_of_within, may_go}
use Rattle.shared_deque.proofs.Cells.{Touches, stages_kept, cells_kept}

-- a caller between two calls is idle
pub idle_is : (stage : Stage) → is_idle stage ≡ true → stage ≡ Idle
idle_is Idle is = refl
idle_is (Looked aim ends) is = absurd cc
idle_is (Claimed aim ends) is = absurd cc
idle_is (Read aim ends value) is = absurd cc
idle_is (Storing cell item) is = absurd cc
idle_is (Leaving cell) is = absurd cc

module _ {K : Type 0} (keeps : K → ℕ → Type 0) (plan : Plan K) (m : Moment Unit DequeCall DequeReply Stage) (rule : DequeRule keeps plan m) (c : ℕ) (below : c < plan.callers) where
  -- the rule after a step of the caller c, which touches one cell at most
  rule_after : (cell : ℕ) (words' : List ℕ) (h' : List DequeEntry) (has' : ℕ → ℕ) (stage : Stage) → length words' ≡ length m.words
      → Touches c cell (owner_in m.words) (value_in m.words) rule.has (owner_in words') (value_in words') has'
      → IsLog (keeps plan.keeper) plan.capacity h' → slice_index words' 0 ≡ ends_of plan.capacity h'
      → IsLaid plan.capacity (head_from plan.capacity 0 h') has' (left_of plan.capacity h')
      → (cell < plan.capacity → CellFits (owner_in words') (value_in words') has' plan.callers cell)
      → IsAt (owner_in words') (value_in words') has' plan.capacity plan.callers (slice_index words' 0) c stage
      → DequeRule keeps plan record { words = words'; homes = m.homes; history = h'; parts = put m.parts c stage }
  rule_after cell words' h' has' stage long touches log ends laid own at = record {
    has = has';
    some_cell = rule.some_cell;
    most_cells = rule.most_cells;
    wide = long ∙ rule.wide;
    log = log;
    ends = ends;
    laid = laid;
    cells = λ k within.
        cells_kept c cell (owner_in m.words) (value_in m.words) rule.has (owner_in words') (value_in words') has' touches plan.capacity plan.callers (slice_index m.words 0) (slice_index words' 0) below k
        (λ here. own (subst (λ j. j < plan.capacity) here within)) (rule.cells k within);
    stages =
        stages_kept c cell (owner_in m.words) (value_in m.words) rule.has (owner_in words') (value_in words') has' touches plan.capacity plan.callers (slice_index m.words 0) (slice_index words' 0) below
        m.parts stage rule.stages at;
  }

  -- a step that leaves the words as they are touches no cell
  touches_none : Touches c plan.capacity (owner_in m.words) (value_in m.words) rule.has (owner_in m.words) (value_in m.words) rule.has
  touches_none =
      let none : owner_in m.words plan.capacity ≡ 0 = get_or_past m.words (owner_place plan.capacity) 0 (let wide = rule.wide in omega arith) in
      record { same_owner = λ k away. refl; same_value = λ k away. refl; same_item = λ k away. refl; before = inl none; after = inl none }

  -- the rule after a load, where the history leaves what it left
  rule_loaded : (i : ℕ) (h' : List DequeEntry) (stage : Stage) → IsLog (keeps plan.keeper) plan.capacity h'
      → left_of plan.capacity h' ≡ left_of plan.capacity m.history → head_from plan.capacity 0 h' ≡ head_from plan.capacity 0 m.history
      → IsAt (owner_in m.words) (value_in m.words) rule.has plan.capacity plan.callers (slice_index m.words 0) c stage
      → DequeRule keeps plan record { words = set m.words i (slice_index m.words i); homes = m.homes; history = h'; parts = put m.parts c stage }
  rule_loaded i h' stage log left head at =
      let n : ℕ = plan.capacity in
      let ends : slice_index m.words 0 ≡ ends_of n h' = rule.ends ∙ (ap (λ k. ends_word k (length (left_of n m.history))) (sym head) ∙ ap (λ l. ends_word (head_from n 0 h') (length l)) (sym left)) in
      let laid : IsLaid n (head_from n 0 h') rule.has (left_of n h') =
      subst (λ k. IsLaid n k rule.has (left_of n h')) (sym head) (subst (IsLaid n (head_from n 0 m.history) rule.has) (sym left) rule.laid) in
      subst (λ ws. DequeRule keeps plan record { words = ws; homes = m.homes; history = h'; parts = put m.parts c stage }) (sym (set-get_or m.words i 0))
      (rule_after n m.words h' rule.has stage refl touches_none log ends laid (λ less. absurd (omega arith)) at)

  -- what the ends word shows
  ends_show : Shows plan.capacity m.history Ends (slice_index m.words 0)
  ends_show = counted (keeps plan.keeper) plan.capacity rule.some_cell rule.most_cells m.history rule.log ∙ ap size_in (sym rule.ends)

  module _ (legal : IsLegal DequeOpens DequeSteps (deque_with plan.capacity []) m.history) (carried : List (ℕ × Unit {0})) (i word : ℕ) where
    abbrev pub ActsSo : Effect Unit DequeCall DequeReply Stage Word → Type 0
    ActsSo e = Acts (deque_terms keeps) DequeOpens DequeSteps plan m i word c carried e holding

    -- a step that reads a word and makes no entry
    reads : (look : Look Word) (stage : Stage) → Shows plan.capacity m.history look.name look.word
        → DequeRule keeps plan record { words = set m.words i word; homes = m.homes; history = m.history; parts = put m.parts c stage } → ActsSo (seeing m.history (look ∷ []) [] stage carried)
    reads look stage shows after = record {
      valid = tt;
      slots = refl;
      history = refl;
      own = All-nil _;
      quiet = λ blind. absurd cc;
      legal = subst (IsLegal DequeOpens DequeSteps (deque_with plan.capacity [])) (sym (append-nil m.history)) legal;
      shows = all_one (λ (x : Look Word). Shows plan.capacity m.history x.name x.word) look shows;
      rule = subst (λ h. DequeRule keeps plan record { words = set m.words i word; homes = m.homes; history = h; parts = put m.parts c stage }) (sym (append-nil m.history)) after;
    }

    -- a step that reads a word and makes an entry
    enters : (look : Look Word) (call : DequeCall) (reply : DequeReply) (stage : Stage) → Shows plan.capacity m.history look.name look.word → IsLog (keeps plan.keeper) plan.capacity (m.history ++ entry c call reply ∷ [])
        → DequeRule keeps plan record { words = set m.words i word; homes = m.homes; history = m.history ++ entry c call reply ∷ []; parts = put m.parts c stage }
        → ActsSo (seeing m.history (look ∷ []) (entry c call reply ∷ []) stage carried)
    enters look call reply stage shows log after = record {
      valid = tt;
      slots = refl;
      history = refl;
      own = all_one (λ (x : DequeEntry). x.caller ≡ c) (entry c call reply) refl;
      quiet = λ blind. absurd cc;
      legal = (deque_with plan.capacity (left_of plan.capacity (m.history ++ entry c call reply ∷ [])), log.legal);
      shows = all_one (λ (x : Look Word). Shows plan.capacity m.history x.name x.word) look shows;
      rule = after;
    }

    -- a step that sees and reads nothing
    moves : (stage : Stage) → DequeRule keeps plan record { words = set m.words i word; homes = m.homes; history = m.history; parts = put m.parts c stage } → ActsSo (moving m.history stage carried)
    moves stage after = record {
      valid = tt;
      slots = refl;
      history = refl;
      own = All-nil _;
      quiet = λ blind. (refl, refl);
      legal = subst (IsLegal DequeOpens DequeSteps (deque_with plan.capacity [])) (sym (append-nil m.history)) legal;
      shows = All-nil _;
      rule = subst (λ h. DequeRule keeps plan record { words = set m.words i word; homes = m.homes; history = h; parts = put m.parts c stage }) (sym (append-nil m.history)) after;
    }

  -- the place of a cell's word is one of the table's
  owner_within : (cell : ℕ) → cell < plan.capacity → owner_place cell < length m.words
  owner_within cell less = let wide = rule.wide in omega arith

  value_within : (cell : ℕ) → cell < plan.capacity → value_place cell < length m.words
  value_within cell less = let wide = rule.wide in omega arith

  -- what the caller has at its stage
  stands : (stage : Stage) → m.parts c ≡ stage → IsAt (owner_in m.words) (value_in m.words) rule.has plan.capacity plan.callers (slice_index m.words 0) c stage
  stands stage at = subst (IsAt (owner_in m.words) (value_in m.words) rule.has plan.capacity plan.callers (slice_index m.words 0) c) at (rule.stages c below)

module _ {K : Type 0} (keeps : K → ℕ → Type 0) (plan : Plan K) (slots : ℕ) (me : Me Unit (View DequeCall DequeReply (Plan K) Stage Word)) where
  -- the look at the ends
  pub may_look_at_ends : (aim : Aim) → me.0.rests ≡ true → Asks (keeps plan.keeper) aim → MayDo keeps plan slots (EndsLook aim) me 0 (λ n. n) (λ n. n)
  may_look_at_ends aim rests asks m rule has rested below callers legal homes small =
      let n : ℕ = plan.capacity in
      let c : ℕ = me.0.number in
      let found : ℕ = slice_index m.words 0 in
      let h : List DequeEntry = m.history in
      let at = stands keeps plan m rule c below Idle (has ∙ idle_is me.0.part (sym rested ∙ rests)) in
      let by : (b : Bool) → is_turned_away n found aim ≡ b → (e : Effect Unit DequeCall DequeReply Stage Word) × Acts (deque_terms keeps) DequeOpens DequeSteps plan m 0 found c me.1 e holding
      × MatchBool b
      ((g : List DequeEntry) × (e ≡ seeing g (ends_read found ∷ []) (entry c (call_of aim) (refusal aim) ∷ []) Idle me.1))
      (((g : List DequeEntry) × (e ≡ seeing g (ends_read found ∷ []) [] (Looked aim found) me.1)) × MayGo n found aim × (cell_of n found (call_of aim) < n)) = λ b test.
      elim b as (λ v. is_turned_away n found aim ≡ v → (e : Effect Unit DequeCall DequeReply Stage Word) × Acts (deque_terms keeps) DequeOpens DequeSteps plan m 0 found c me.1 e holding
      × MatchBool v
      ((g : List DequeEntry) × (e ≡ seeing g (ends_read found ∷ []) (entry c (call_of aim) (refusal aim) ∷ []) Idle me.1))
      (((g : List DequeEntry) × (e ≡ seeing g (ends_read found ∷ []) [] (Looked aim found) me.1)) × MayGo n found aim × (cell_of n found (call_of aim) < n))) [
        | true ↦ λ away.
            let log' = log_turned_away (keeps plan.keeper) n rule.some_cell rule.most_cells h c aim rule.log asks (ap (λ k. is_turned_away n k aim) (sym rule.ends) ∙ away) in (
              seeing h (ends_read found ∷ []) (entry c (call_of aim) (refusal aim) ∷ []) Idle me.1,
              enters keeps plan m rule c below legal me.1 0 found (ends_read found) (call_of aim) (refusal aim) Idle (ends_show keeps plan m rule c below) log'.0
                  (rule_loaded keeps plan m rule c below 0 (h ++ entry c (call_of aim) (refusal aim) ∷ []) Idle log'.0 log'.1 log'.2 at),
              (h, refl),
            )
        | false ↦ λ on.
            let may : MayGo n found aim = subst (λ k. MayGo n k aim) (sym rule.ends) (may_go (keeps plan.keeper) n rule.some_cell rule.most_cells h aim rule.log (ap (λ k. is_turned_away n k aim) (sym rule.ends) ∙ on)) in
            let within : cell_of n found (call_of aim) < n = subst (λ k. cell_of n k (call_of aim) < n) (sym rule.ends) (cell_of_within (keeps plan.keeper) n rule.some_cell rule.most_cells h aim rule.log) in (
              seeing h (ends_read found ∷ []) [] (Looked aim found) me.1,
              reads keeps plan m rule c below legal me.1 0 found (ends_read found) (Looked aim found) (ends_show keeps plan m rule c below)
                  (rule_loaded keeps plan m rule c below 0 h (Looked aim found) rule.log refl refl (at, (may, λ one. refl))),
              ((h, refl), may, within),
            )
      ] test in
      let all = by (is_turned_away n found aim) refl in (all.0, holding, all.1, all.2)

  -- the claim of a cell
  pub may_claim : (aim : Aim) (ends cell place new : ℕ) → me.0.part ≡ Looked aim ends → cell_of plan.capacity ends (call_of aim) ≡ cell → cell < plan.capacity → place ≡ owner_place cell → new ≡ me.0.number + 1
      → MayDo keeps plan slots (Claim aim ends) me place (λ n. either (n == 0) new n) (λ n. n)
  may_claim aim ends cell place new looked is_cell within is_place is_new =
      subst (λ p. MayDo keeps plan slots (Claim aim ends) me p (λ n. either (n == 0) new n) (λ n. n)) (sym is_place)
      (subst (λ x. MayDo keeps plan slots (Claim aim ends) me (owner_place cell) (λ n. either (n == 0) x n) (λ n. n)) (sym is_new)
      (λ m rule has rested below callers legal homes small.
      let n : ℕ = plan.capacity in
      let c : ℕ = me.0.number in
      let h : List DequeEntry = m.history in
      let i : ℕ = owner_place cell in
      let found : ℕ = owner_in m.words cell in
      let at = stands keeps plan m rule c below (Looked aim ends) (has ∙ looked) in
      let words' : List ℕ = set m.words i (c + 1) in
      let P : Bool → Type 0 = λ b. (e : Effect Unit DequeCall DequeReply Stage Word) × Acts (deque_terms keeps) DequeOpens DequeSteps plan m i (either b (c + 1) found) c me.1 e holding
      × MatchBool b
      ((g : List DequeEntry) × (e ≡ seeing g (turn_read (cell_of n ends (call_of aim)) found ∷ []) [] (Claimed aim ends) me.1))
      (((g : List DequeEntry) × (e ≡ seeing g (turn_read (cell_of n ends (call_of aim)) found ∷ []) [] Idle me.1)) × NamesAnother plan.callers c found × (plan.callers ≢ 1)) in
      let by : (b : Bool) → (found == 0) ≡ b → P b = λ b test. elim b as (λ b. (found == 0) ≡ b → P b) [
        | true ↦ λ is.
            let free : found ≡ 0 = grind (arith, nat_tests) in
            let mine : owner_in words' cell ≡ c + 1 = owner_in-set_owner m.words (c + 1) cell (owner_within keeps plan m rule c below cell within) in
            let has_cell : HasCell (owner_in words') n c cell = record {
              within = within;
              named = mine;
              only = λ o less same. dite (ℕ_discrete o cell) (λ it. it) (λ away. absurd (at.0 o less (sym (owner_in-set_other m.words (c + 1) cell o away) ∙ same)));
            } in
            let stored : value_in words' cell ≡ rule.has cell = value_in-set_owner m.words (c + 1) cell cell ∙ (rule.cells cell within).stored free in
            let same_ends : slice_index words' 0 ≡ slice_index m.words 0 = ends-set_owner m.words (c + 1) cell in (
              seeing h (turn_read (cell_of n ends (call_of aim)) found ∷ []) [] (Claimed aim ends) me.1,
              reads keeps plan m rule c below legal me.1 i (c + 1) (turn_read (cell_of n ends (call_of aim)) found) (Claimed aim ends) tt
                  (rule_after keeps plan m rule c below cell words' h rule.has (Claimed aim ends) (length-set m.words i (c + 1))
                  record {
                    same_owner = λ k away. owner_in-set_other m.words (c + 1) cell k away;
                    same_value = λ k away. value_in-set_owner m.words (c + 1) cell k;
                    same_item = λ k away. refl;
                    before = inl free;
                    after = inr mine;
                  }
                  rule.log (same_ends ∙ rule.ends) rule.laid
                  (λ less. record { named = subst (λ t. t ≤ plan.callers) (sym mine) (omega arith); stored = λ zero'. absurd (omega arith) })
                  (subst (λ k. HasCell (owner_in words') n c k × IsLoaded n plan.callers (slice_index words' 0) aim ends × (value_in words' k ≡ rule.has k)) (sym is_cell)
                  (has_cell, (at.1.0, λ one. at.1.1 one ∙ sym same_ends), stored))),
              (h, refl),
            )
        | false ↦ λ isnt.
            let taken : found ≢ 0 = grind (arith, nat_tests) in
            let named : found ≤ plan.callers = (rule.cells cell within).named in
            let other : found ≢ c + 1 = at.0 cell within in (
              seeing h (turn_read (cell_of n ends (call_of aim)) found ∷ []) [] Idle me.1,
              reads keeps plan m rule c below legal me.1 i found (turn_read (cell_of n ends (call_of aim)) found) Idle tt (rule_loaded keeps plan m rule c below i h Idle rule.log refl refl at.0),
              ((h, refl), (found - 1, omega arith, (λ same. other (omega arith)), omega arith), (λ one. other (omega arith))),
            )
      ] test in
      let all = by (found == 0) refl in (all.0, holding, all.1, all.2)))

  -- the look at the claimed cell
  pub may_look_at_cell : (aim : Aim) (ends cell place : ℕ) → me.0.part ≡ Claimed aim ends → cell_of plan.capacity ends (call_of aim) ≡ cell → place ≡ value_place cell
      → MayDo keeps plan slots (CellLook aim ends) me place (λ n. n) (λ n. n)
  may_look_at_cell aim ends cell place claimed is_cell is_place =
      subst (λ p. MayDo keeps plan slots (CellLook aim ends) me p (λ n. n) (λ n. n)) (sym (is_place ∙ ap value_place (sym is_cell)))
      (λ m rule has rested below callers legal homes small.
      let own : ℕ = cell_of plan.capacity ends (call_of aim) in
      let found : ℕ = value_in m.words own in
      let at = stands keeps plan m rule me.0.number below (Claimed aim ends) (has ∙ claimed) in (
        seeing m.history (value_read own found ∷ []) [] (Read aim ends found) me.1,
        holding,
        reads keeps plan m rule me.0.number below legal me.1 (value_place own) found (value_read own found) (Read aim ends found) tt
            (rule_loaded keeps plan m rule me.0.number below (value_place own) m.history (Read aim ends found) rule.log refl refl (at.0, at.1, at.2, sym at.2)),
        (m.history, refl),
      ))

  -- the store of a push that won the ends
  pub may_store : (cell item place : ℕ) → me.0.part ≡ Storing cell item → place ≡ value_place cell → MayDo keeps plan slots (CellStore cell item) me place (λ _. item) (λ _. item)
  may_store cell item place storing is_place =
      subst (λ p. MayDo keeps plan slots (CellStore cell item) me p (λ _. item) (λ _. item)) (sym is_place)
      (λ m rule has rested below callers legal homes small.
      let n : ℕ = plan.capacity in
      let c : ℕ = me.0.number in
      let words' : List ℕ = set m.words (value_place cell) item in
      let at = stands keeps plan m rule c below (Storing cell item) (has ∙ storing) in
      let has_cell : HasCell (owner_in words') n c cell = record {
        within = at.0.within;
        named = owner_in-set_value m.words item cell cell ∙ at.0.named;
        only = λ o less same. at.0.only o less (sym (owner_in-set_value m.words item cell o) ∙ same);
      } in
      let stored : value_in words' cell ≡ rule.has cell = value_in-set_value m.words item cell (value_within keeps plan m rule c below cell at.0.within) ∙ sym at.1 in (
        moving m.history (Leaving cell) me.1,
        holding,
        moves keeps plan m rule c below legal me.1 (value_place cell) item (Leaving cell)
            (rule_after keeps plan m rule c below cell words' m.history rule.has (Leaving cell) (length-set m.words (value_place cell) item)
            record {
              same_owner = λ k away. owner_in-set_value m.words item cell k;
              same_value = λ k away. value_in-set_other m.words item cell k away;
              same_item = λ k away. refl;
              before = inr at.0.named;
              after = inr has_cell.named;
            }
            rule.log (ends-set_value m.words item cell ∙ rule.ends) rule.laid
            (λ less. record { named = subst (λ t. t ≤ plan.callers) (sym has_cell.named) (omega arith); stored = λ free. stored })
            (has_cell, stored)),
        (m.history, refl),
      ))

  -- the leave of a cell
  pub may_leave : (cell place : ℕ) → me.0.part ≡ Leaving cell → place ≡ owner_place cell → MayDo keeps plan slots (Leave cell) me place (λ _. 0) (λ _. 0)
  may_leave cell place leaving is_place =
      subst (λ p. MayDo keeps plan slots (Leave cell) me p (λ _. 0) (λ _. 0)) (sym is_place)
      (λ m rule has rested below callers legal homes small.
      let n : ℕ = plan.capacity in
      let c : ℕ = me.0.number in
      let words' : List ℕ = set m.words (owner_place cell) 0 in
      let at = stands keeps plan m rule c below (Leaving cell) (has ∙ leaving) in
      let free : owner_in words' cell ≡ 0 = owner_in-set_owner m.words 0 cell (owner_within keeps plan m rule c below cell at.0.within) in
      let no_cell : HasNoCell (owner_in words') n c = λ o less same.
      dite (ℕ_discrete o cell)
      (λ it. let zero' : owner_in words' o ≡ 0 = ap (owner_in words') it ∙ free in absurd (omega arith))
      (λ away. away (at.0.only o less (sym (owner_in-set_other m.words 0 cell o away) ∙ same))) in (
        moving m.history Idle me.1,
        holding,
        moves keeps plan m rule c below legal me.1 (owner_place cell) 0 Idle
            (rule_after keeps plan m rule c below cell words' m.history rule.has Idle (length-set m.words (owner_place cell) 0)
            record {
              same_owner = λ k away. owner_in-set_other m.words 0 cell k away;
              same_value = λ k away. value_in-set_owner m.words 0 cell k;
              same_item = λ k away. refl;
              before = inr at.0.named;
              after = inl free;
            }
            rule.log (ends-set_owner m.words 0 cell ∙ rule.ends) rule.laid
            (λ less. record { named = subst (λ t. t ≤ plan.callers) (sym free) (omega arith); stored = λ zero'. value_in-set_owner m.words 0 cell cell ∙ at.1 })
            no_cell),
        (m.history, refl),
      ))

-- what the other cells have stays
has_after_else : (has : ℕ → ℕ) (cell : ℕ) (aim : Aim) (k : ℕ) → k ≢ cell → has_after has cell aim k ≡ has k
has_after_else has cell (Push side item) k away = put_else has cell item k away
has_after_else has cell (Pop side) k away = refl

module _ (owner value has : ℕ → ℕ) (n callers now c : ℕ) where
  -- what a call has before it exchanges the ends
  abbrev pub IsReady : Aim → ℕ → ℕ → Type 0
  IsReady aim ends found =
      let cell = cell_of n ends (call_of aim) in HasCell owner n c cell × IsLoaded n callers now aim ends × (value cell ≡ has cell) × HasFound aim (has cell) found

  is_ready : (aim : Aim) (ends found : ℕ) → IsAt owner value has n callers now c (ready aim ends found) → IsReady aim ends found
  is_ready (Push side item) ends found at = (at.0, at.1, at.2, tt)
  is_ready (Pop side) ends found at = at

  at_won : (aim : Aim) (cell now' : ℕ) → HasCell owner n c cell → value cell ≡ has cell → IsAt owner value (has_after has cell aim) n callers now' c (won aim cell)
  at_won (Push side item) cell now' at same = (at, put_here has cell item cell refl)
  at_won (Pop side) cell now' at same = (at, same)

module _ {K : Type 0} (keeps : K → ℕ → Type 0) (plan : Plan K) (slots : ℕ) (me : Me Unit (View DequeCall DequeReply (Plan K) Stage Word)) where
  -- the exchange of the ends
  pub may_exchange : (aim : Aim) (ends value new : ℕ) → me.0.part ≡ ready aim ends value → Asks (keeps plan.keeper) aim → new ≡ ends_after plan.capacity ends aim
      → MayDo keeps plan slots (EndsExchange aim ends value) me 0 (λ n. either (n == ends) new n) (λ n. n)
  may_exchange aim ends value new stage asks is_new =
      subst (λ x. MayDo keeps plan slots (EndsExchange aim ends value) me 0 (λ n. either (n == ends) x n) (λ n. n)) (sym is_new)
      (λ m rule has rested below callers legal homes small.
      let n : ℕ = plan.capacity in
      let c : ℕ = me.0.number in
      let h : List DequeEntry = m.history in
      let found : ℕ = slice_index m.words 0 in
      let cell : ℕ = cell_of n ends (call_of aim) in
      let word : ℕ = ends_after n ends aim in
      let words' : List ℕ = set m.words 0 word in
      let has' : ℕ → ℕ = has_after rule.has cell aim in
      let e : DequeEntry = entry c (call_of aim) (success aim value) in
      let at = is_ready (owner_in m.words) (value_in m.words) rule.has n plan.callers found c aim ends value (stands keeps plan m rule c below (ready aim ends value) (has ∙ stage)) in
      let P : Bool → Type 0 = λ b. (x : Effect Unit DequeCall DequeReply Stage Word) × Acts (deque_terms keeps) DequeOpens DequeSteps plan m 0 (either b word found) c me.1 x holding
      × MatchBool b
      (((g : List DequeEntry) × (x ≡ seeing g (ends_read found ∷ []) (e ∷ []) (won aim cell) me.1)) × HandsOut (keeps plan.keeper) aim value)
      (((g : List DequeEntry) × (x ≡ seeing g (ends_read found ∷ []) [] (Leaving cell) me.1)) × (plan.callers ≢ 1)) in
      let by : (b : Bool) → (found == ends) ≡ b → P b = λ b test. elim b as (λ b. (found == ends) ≡ b → P b) [
        | true ↦ λ is.
            let as_loaded : found ≡ ends = grind (arith, nat_tests) in
            let ends_are : ends_of n h ≡ ends = sym rule.ends ∙ as_loaded in
            let cells : cell_of n (ends_of n h) (call_of aim) ≡ cell = ap (λ k. cell_of n k (call_of aim)) ends_are in
            let may : MayGo n (ends_of n h) aim = subst (λ k. MayGo n k aim) (sym ends_are) at.1.0 in
            let wins : Won (keeps plan.keeper) n rule.some_cell rule.most_cells h rule.has aim value e =
            log_won (keeps plan.keeper) n rule.some_cell rule.most_cells h rule.has c aim value rule.log asks may rule.laid (subst (λ k. HasFound aim (rule.has k) value) (sym cells) at.3) in
            let owners : owner_in words' ≡ owner_in m.words = λ j. λ k. owner_in-set_ends m.words word k j in
            let values : value_in words' ≡ value_in m.words = λ j. λ k. value_in-set_ends m.words word k j in
            let named : owner_in words' cell ≡ c + 1 = owner_in-set_ends m.words word cell ∙ at.0.named in
            let wide : 0 < length m.words = (let w = rule.wide in omega arith) in (
              seeing h (ends_read found ∷ []) (e ∷ []) (won aim cell) me.1,
              enters keeps plan m rule c below legal me.1 0 word (ends_read found) (call_of aim) (success aim value) (won aim cell) (ends_show keeps plan m rule c below) wins.log
                  (rule_after keeps plan m rule c below cell words' (h ++ e ∷ []) has' (won aim cell) (length-set m.words 0 word)
                  record {
                    same_owner = λ k away. owner_in-set_ends m.words word k;
                    same_value = λ k away. value_in-set_ends m.words word k;
                    same_item = λ k away. has_after_else rule.has cell aim k away;
                    before = inr at.0.named;
                    after = inr named;
                  }
                  wins.log
                  (ends-set m.words word wide ∙ (ap (λ k. ends_after n k aim) (sym ends_are) ∙ sym wins.ends))
                  (subst (λ k. IsLaid n (head_from n 0 (h ++ e ∷ [])) (has_after rule.has k aim) (left_of n (h ++ e ∷ []))) cells wins.laid)
                  (λ less. record { named = subst (λ t. t ≤ plan.callers) (sym named) (omega arith); stored = λ free. absurd (omega arith) })
                  (subst (λ o. IsAt o (value_in words') has' n plan.callers (slice_index words' 0) c (won aim cell)) (sym owners)
                  (subst (λ v. IsAt (owner_in m.words) v has' n plan.callers (slice_index words' 0) c (won aim cell)) (sym values)
                  (at_won (owner_in m.words) (value_in m.words) rule.has n plan.callers found c aim cell (slice_index words' 0) at.0 at.2)))),
              ((h, refl), wins.kept),
            )
        | false ↦ λ isnt.
            let others : found ≢ ends = grind (arith, nat_tests) in (
              seeing h (ends_read found ∷ []) [] (Leaving cell) me.1,
              reads keeps plan m rule c below legal me.1 0 found (ends_read found) (Leaving cell) (ends_show keeps plan m rule c below) (rule_loaded keeps plan m rule c below 0 h (Leaving cell) rule.log refl refl (at.0, at.2)),
              ((h, refl), (λ one. others (sym (at.1.1 one)))),
            )
      ] test in
      let all = by (found == ends) refl in (all.0, holding, all.1, all.2))
