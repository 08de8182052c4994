-- A deque opens with an empty history, and closes with the items of the ring.
use Rattle.std.proofs.Common.{◌≡◌, ℕ, zero, suc, ◌+◌, ◌-◌, ◌*◌, ◌%◌, ◌<◌, ◌≤◌, List, [], length, get_or, slice_index, refl, ap, sym, ◌∙◌, subst, arith, ⊎_elim, mod-lt}
use Rattle.std.specs.Prelude.{replicate}
use Rattle.std.specs.List.{All}
use Rattle.std.proofs.lemmas.List.{ext_get_or, length-replicate}
use Rattle.std.proofs.lemmas.List.Elements.{All-nil}
use mathlib.Core.Option.{Option}
use mathlib.Core.Logic.{dite}
use native.Mathlib.Decide.{ℕ_discrete}
use Rattle.pass_book.specs.Histories.{IsOfCallers}
use Rattle.pass_book.specs.Pages.{IsPageOf}
use Rattle.seq_objects.specs.declared.deques.DequeCall.{DequeCall}
use Rattle.seq_objects.specs.declared.deques.DequeReply.{DequeReply}
use Rattle.seq_objects.specs.DequeSteps.{DequeState}
use Rattle.seq_objects.specs.Meanings.{DequeOpens, DequeSteps}
use Rattle.pass_table.specs.declared.passes.Pass.{Pass}
use Rattle.pass_table.specs.declared.tables.PassTable.{PassTable}
use Rattle.pass_table.specs.Terms.{Moment}
use Rattle.pass_table.specs.Steps.{FirstShows}
use Rattle.pass_table.specs.Passes.{plan_of, caller_of, page}
use Rattle.pass_table.specs.Closings.{ClosesWith as TableCloses}
use Rattle.pass_table.specs.Looks.{HaveLooked}
use Rattle.pass_table.proofs.LooksBack.{last_look, pages_before}
use Rattle.shared_deque.specs.declared.layout.Word.{Word}
use Rattle.shared_deque.specs.declared.clients.Plan.{Plan}
use Rattle.shared_deque.specs.declared.clients.Stage.{Stage}
use Rattle.shared_deque.specs.declared.clients.Stage.TheVariants.{Idle}
use Rattle.shared_deque.specs.declared.deques.Deque.{Deque}
use Rattle.shared_deque.specs.Layout.{owner_in, value_in, owner_place, value_place, head_in, size_in}
use Rattle.shared_deque.specs.Counted.{DequeEntry, LeavesItems, left_of, head_from, deque_with}
use Rattle.shared_deque.specs.Rule.{HasNoCell, IsAt, DequeRule, deque_terms}
use Rattle.shared_deque.specs.Closed.{ClosesWith, ReadsRing}
use Rattle.shared_deque.proofs.Logs.{sizes, counted}
use Rattle.shared_deque.proofs.KindSteps.{idle_is}

all_zero : (n i : ℕ) → let none : ℕ = 0 in get_or (replicate n none) i none ≡ none
all_zero zero i = refl
all_zero (suc n) zero = refl
all_zero (suc n) (suc i) = all_zero n i

module _ {K : Type 0} (keeps : K → ℕ → Type 0) (plan : Plan K) where
  -- the rule holds of a new table
  opens : 0 < plan.capacity → plan.capacity ≤ 16777216 → (homes : List (Option Unit))
      → DequeRule keeps plan record { words = replicate (2 * plan.capacity + 1) 0; homes = homes; history = []; parts = λ _. Idle }
  opens some_cell most homes =
      let n : ℕ = 2 * plan.capacity + 1 in record {
        has = λ _. 0;
        some_cell = some_cell;
        most_cells = most;
        wide = length-replicate n 0;
        log = record { legal = (refl, refl); calls_kept = All-nil _; items_kept = All-nil (keeps plan.keeper); short = omega arith; head_within = some_cell };
        ends = all_zero n 0;
        laid = λ j below. absurd (omega arith);
        cells = λ cell within. record { named = (let z = all_zero n (owner_place cell) in omega arith); stored = λ free. all_zero n (value_place cell) };
        stages = λ c below cell within named. let z = all_zero n (owner_place cell) in omega arith;
      }

  -- the same, of words that are all 0
  pub opens_with : (words : List ℕ) (homes : List (Option Unit)) → 0 < plan.capacity → plan.capacity ≤ 16777216 → words ≡ replicate (2 * plan.capacity + 1) 0
      → DequeRule keeps plan record { words = words; homes = homes; history = []; parts = λ _. Idle }
  opens_with words homes some_cell most zeros = subst (λ ws. DequeRule keeps plan record { words = ws; homes = homes; history = []; parts = λ _. Idle }) (sym zeros) (opens some_cell most homes)

  -- the ends word says how many items there are
  pub first_shows : FirstShows (deque_terms keeps) plan
  first_shows m rule = counted (keeps plan.keeper) plan.capacity rule.some_cell rule.most_cells m.history rule.log ∙ ap size_in (sym rule.ends)

  module _ (m : Moment Unit DequeCall DequeReply Stage) (rule : DequeRule keeps plan m) (rest : (c : ℕ) → c < plan.callers → m.parts c ≡ Idle) where
    -- where all callers rest, no cell is anybody's
    all_free : (cell : ℕ) → cell < plan.capacity → owner_in m.words cell ≡ 0
    all_free cell within =
        let named = (rule.cells cell within).named in
        dite (ℕ_discrete (owner_in m.words cell) 0) (λ free. free)
        (λ taken.
        let c : ℕ = owner_in m.words cell - 1 in
        let below : c < plan.callers = omega arith in
        let none : HasNoCell (owner_in m.words) plan.capacity c =
        subst (IsAt (owner_in m.words) (value_in m.words) rule.has plan.capacity plan.callers (slice_index m.words 0) c) (rest c below) (rule.stages c below) in
        absurd (none cell within (omega arith)))

    -- the items are those of the ring
    items_are : (items : List ℕ) → ReadsRing m.words plan.capacity items → left_of plan.capacity m.history ≡ items
    items_are items ring =
        let n : ℕ = plan.capacity in
        let h : List DequeEntry = m.history in
        let both = sizes (keeps plan.keeper) n rule.some_cell rule.most_cells h rule.log in
        let size : size_in (slice_index m.words 0) ≡ length (left_of n h) = ap size_in rule.ends ∙ both.1 in
        let head : head_in (slice_index m.words 0) ≡ head_from n 0 h = ap head_in rule.ends ∙ both.0 in
        let long : length (left_of n h) ≡ length items = sym (ring.count ∙ size) in
        ext_get_or 0 (left_of n h) items long (λ j below.
        let cell : ℕ = (head_from n 0 h + j) % n in
        let within : cell < n = mod-lt (head_from n 0 h + j) rule.some_cell in
        let stored : value_in m.words cell ≡ rule.has cell = (rule.cells cell within).stored (all_free cell within) in
        let read : slice_index items j ≡ value_in m.words cell = ring.each j (omega arith) ∙ ap (λ k. value_in m.words ((k + j) % n)) head in
        rule.laid j below ∙ (sym stored ∙ sym read))

module _ {K C O : Type 0} (keeps : K → ℕ → Type 0) (t : PassTable C O Unit (Plan K) Stage Word DequeCall DequeReply DequeState) (old new : List (Pass Unit DequeCall DequeReply (Plan K) Stage Word)) (most : ℕ)
    (looked : HaveLooked (deque_terms keeps) (plan_of t) most old new) (words : List ℕ) (slots : List Unit) (closes : TableCloses (deque_terms keeps) DequeOpens DequeSteps t new words slots) where
  -- the ends count no more items than were read of
  pub closed_size : size_in (slice_index words 0) ≤ most
  closed_size =
      let rule = closes.rule in
      let n : ℕ = (plan_of t).capacity in
      let h : List DequeEntry = closes.book.history in
      let both = sizes (keeps (plan_of t).keeper) n rule.some_cell rule.most_cells h rule.log in
      let size : size_in (slice_index words 0) ≡ length (left_of n h) = ap size_in rule.ends ∙ both.1 in
      let callers : IsOfCallers (plan_of t).callers h = subst (λ k. IsOfCallers k h) closes.callers closes.legal.callers in
      let pages : All (λ q. IsPageOf (caller_of q) h (page q)) new = λ k d within. closes.legal.pages _ _ (closes.each k d within) in
      ⊎_elim
      (λ none. let empty : length (left_of n h) ≡ 0 = ap (λ l. length (left_of n l)) none in omega arith)
      (λ t'. let counts : length (left_of n h) ≡ size_in t'.0 = t'.1 in let least = t'.2 in omega arith)
      (last_look (deque_terms keeps) DequeOpens DequeSteps (plan_of t) t most old new looked h callers pages closes.all)

  -- what the history leaves is what the ring has
  left_is : (items : List ℕ) (cells : ℕ) → (plan_of t).capacity ≡ cells → ReadsRing words cells items → left_of (plan_of t).capacity closes.book.history ≡ items
  left_is items cells planned ring =
      let m : Moment Unit DequeCall DequeReply Stage = record { words = words; homes = closes.homes; history = closes.book.history; parts = closes.parts } in
      items_are keeps (plan_of t) m closes.rule (λ c below. idle_is (closes.parts c) (closes.rest c below)) items (subst (λ k. ReadsRing words k items) (sym planned) ring)

  -- and it is kept
  pub closed_kept : (items : List ℕ) (cells : ℕ) → (plan_of t).capacity ≡ cells → ReadsRing words cells items → All (keeps (plan_of t).keeper) items
  closed_kept items cells planned ring = subst (All (keeps (plan_of t).keeper)) (left_is items cells planned ring) closes.rule.log.items_kept

  -- the last state shows the one book
  pub closes_deque : (d : Deque K) (items : List ℕ) (cells : ℕ) → plan_of d.table ≡ plan_of t → (plan_of t).capacity ≡ cells → ReadsRing words cells items → ClosesWith d old (keeps (plan_of t).keeper) items
  closes_deque d items cells same planned ring =
      let plan : Plan K = plan_of t in
      let rule = closes.rule in
      let h : List DequeEntry = closes.book.history in
      let are = left_is items cells planned ring in
      let pages : All (λ q. IsPageOf (caller_of q) h (page q)) new = λ k p within. closes.legal.pages _ _ (closes.each k p within) in
      record {
        book = closes.book;
        legal = closes.legal;
        opened = closes.start ∙ ap (λ p. deque_with p.capacity []) (sym same);
        callers = closes.callers ∙ ap (λ p. p.callers) (sym same);
        leaves = subst (λ n. LeavesItems n h items) (ap (λ p. p.capacity) (sym same)) (subst (LeavesItems plan.capacity h) are rule.log.legal);
        kept = rule.log.calls_kept;
        pages = pages_before (deque_terms keeps) DequeOpens DequeSteps plan most old new looked h pages;
      }
