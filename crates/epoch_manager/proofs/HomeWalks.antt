-- A taken chain of objects that came home is walked over.
use Rattle.std.proofs.Common.{◌≡◌, ◌≢◌, ◌⊎◌, ◌<◌, ◌≤◌, ◌++◌, ℕ, true, false, List, [], ◌∷◌, Some, None, refl, ap, ap₂, sym, ◌∙◌, subst, inl, inr, ⊎_elim, arith, length-append}
use Rattle.pass_book.specs.declared.entries.Look.{Look}
use Rattle.pgas_base.specs.declared.shapes.Shape.{Shape}
use Rattle.pgas_base.specs.Pointers.{Pointer, IsPointer, NamesPointer, word_of}
use Rattle.epoch_laws.specs.declared.steps.Kind.TheVariants.{HomeWalk}
use Rattle.epoch_laws.specs.ChainWords.{IsChainWord}
use Rattle.epoch_laws.specs.Locations.{IsDistinct}
use Rattle.epoch_laws.specs.Places.{Place, place_of, place_in, index_in, pending, is_among}
use Rattle.epoch_laws.specs.Seats.{Seat, is_reclaiming}
use Rattle.epoch_laws.specs.States.{IsPlace}
use Rattle.epoch_laws.specs.Words.{WordName, next_of}
use Rattle.epoch_laws.proofs.Lists.{among_none, among_here, among_more, among_cons, among_one, among-append, among-append_left, among-append_right, distinct-append}
use Rattle.epoch_laws.proofs.Updates.{place_here, place_there}
use Rattle.epoch_laws.proofs.Words.{place_in-word_of, word_not_none}
use Rattle.epoch_table.specs.declared.parts.Plan.{Plan}
use Rattle.epoch_table.specs.declared.parts.Part.{Part}
use Rattle.epoch_table.specs.Clients.{ClientTerms}
use Rattle.epoch_table.specs.Facts.{Facts, IsNew, count_of, next_word_of, facts_after}
use Rattle.epoch_table.specs.Kinds.{MayMake, Makes}
use Rattle.epoch_table.specs.Numbers.{count_in}
use Rattle.epoch_manager.specs.TakeSeats.{Has, IsSameFor, SeatOf, Reads, Waits, Walks, WalksOn, WalksRest, IsChained, places}
use Rattle.epoch_manager.proofs.HandChains.{small_of, places-append, last-append, linked_more, each_still, each_more}
use Rattle.epoch_manager.proofs.TakeRows.{home_walk_row, walk_waits, walk_told}
use Rattle.epoch_manager.proofs.Takes.{one_of, under_one, reads_none, reads_then, had_still}
use Rattle.epoch_manager.proofs.TokenSteps.{Goes, made_of}

pub count_back : (q : Pointer) → q.count < 4294967296 → count_in (word_of q) ≡ q.count
count_back q low = let l = q.locale in let i = q.index in let n = q.count in omega arith

-- the place that a pointer's word names
named : (word : ℕ) (q : Pointer) → IsPointer q → word_of q ≡ word → place_in word ≡ place_of q
named word q is same = ap place_in (sym same) ∙ place_in-word_of q (small_of q is)

module _ {C View' Call Reply State' : Type 0} (K : ClientTerms C View' Call Reply State') (opens : State' → Type 0) (step : State' → Call → Reply → State' → Type 0) (plan : Plan C) where
  abbrev S : Type 0
  S = SeatOf K opens step plan

  waits_none : (m : S) (q : Pointer) → Waits K opens step plan m m q
  waits_none m q = record { reads = reads_none K opens step plan q.locale m; seat = refl; won = refl; counts = λ p ne. refl; nexts = λ p ne. refl }

  pub waits_first : (m : S) (q : Pointer) → Waits K opens step plan m m q
  waits_first = waits_none

  pub may_walk : (m : S) (q : Pointer) → m.0.number < plan.callers → is_reclaiming m.0.part.seat.phase ≡ false → IsPointer q → m.0.part.seat.homing.chain ≡ word_of q → MayMake K plan m.0.number HomeWalk m.0.part
  may_walk m q below rests is at = record { row = home_walk_row plan.shape plan.callers m.0.number m.0.part.seat m.0.part.facts below rests (λ e. word_not_none q (small_of q is) (sym at ∙ e)); made = tt; allowed = tt }

  pub chain_still : (m k : S) (q : Pointer) → m.0.part.seat.homing.chain ≡ word_of q → Waits K opens step plan m k q → k.0.part.seat.homing.chain ≡ word_of q
  chain_still m k q at was = ap (λ (x : Seat). x.homing.chain) was.seat ∙ at

  pub current_is : (m k : S) (q : Pointer) → IsPointer q → m.0.part.seat.homing.chain ≡ word_of q → Waits K opens step plan m k q → place_in k.0.part.seat.homing.chain ≡ place_of q
  current_is m k q is at was = ap place_in (chain_still m k q at was) ∙ place_in-word_of q (small_of q is)

  module _ (m k n : S) (q : Pointer) (found : ℕ) (is : IsPointer q) (at : m.0.part.seat.homing.chain ≡ word_of q) (was : Waits K opens step plan m k q) (makes : Makes K opens step plan HomeWalk k found n) where
    k_at : k.0.part.seat.homing.chain ≡ word_of q
    k_at = chain_still m k q at was

    place_is : place_in k.0.part.seat.homing.chain ≡ place_of q
    place_is = current_is m k q is at was

    count_is : count_in k.0.part.seat.homing.chain ≡ q.count
    count_is = ap count_in k_at ∙ count_back q is.count

    abbrev facts : Facts
    facts = facts_after k.0.part.seat HomeWalk k.0.part.facts found

    abbrev look : List (Look WordName)
    look = record { name = next_of (place_in k.0.part.seat.homing.chain); word = found } ∷ []

    counts_else : (p : Place) → p ≢ place_of q → count_of facts p ≡ count_of k.0.part.facts p
    counts_else p ne = place_there (count_of k.0.part.facts) (place_in k.0.part.seat.homing.chain) _ p (λ e. ne (e ∙ place_is))

    nexts_else : (p : Place) → p ≢ place_of q → next_word_of facts p ≡ next_word_of k.0.part.facts p
    nexts_else p ne =
        let ne' : p ≢ place_in k.0.part.seat.homing.chain = (λ e. ne (e ∙ place_is)) in
        place_there _ (place_in k.0.part.seat.homing.chain) (Some found) p ne' ∙ place_there (next_word_of k.0.part.facts) (place_in k.0.part.seat.homing.chain) None p ne'

    k_new : IsNew k.0.part.seat (place_in k.0.part.seat.homing.chain)
    k_new = makes.0.1

    none_has : (p : Place) → Has k.0.part p → p ≢ place_of q
    none_has p has e =
        let new = k_new in
        let same : p ≡ place_in k.0.part.seat.homing.chain = e ∙ sym place_is in
        ⊎_elim
        (λ h. absurd (cc (h, ap (λ x. is_among x k.0.part.seat.owned) same, new.owned)))
        (λ h. absurd (cc (h, ap (λ x. is_among x k.0.part.seat.held) same, new.held)))
        has

    reads_of : (part : Part View') → Goes K opens step plan k n look [] part → IsSameFor k.0.part part → Reads K opens step plan q.locale m n None
    reads_of part goes same =
        reads_then K opens step plan q.locale m k n None None was.reads
        (record {
          looks = look;
          under = under_one K opens step plan k n look part goes same;
          local = one_of q.locale (next_of (place_in k.0.part.seat.homing.chain)) found (ap (λ p. p.locale) place_is);
          unheaded = λ p. refl;
          head_so = refl;
        })

    pub waits_more : found ≡ pending → Waits K opens step plan m n q
    waits_more pends =
        let part : Part View' = record k.0.part { facts = facts } in
        let goes = made_of K opens step plan HomeWalk k n found _ (walk_waits plan.shape plan.callers k.0.number k.0.part.seat k.0.part.facts found pends) makes in
        let is_part : n.0.part ≡ part = goes.1 in
        record {
          reads = reads_of part goes (record { phase = refl; token = refl; owned = refl; held = refl; reclaim = refl; client = refl; counts = λ p has. counts_else p (none_has p has) });
          seat = ap (λ (p : Part View'). p.seat) is_part ∙ was.seat;
          won = ap (λ (p : Part View'). p.won) is_part ∙ was.won;
          counts = λ p ne. ap (λ (x : Part View'). count_of x.facts p) is_part ∙ (counts_else p ne ∙ was.counts p ne);
          nexts = λ p ne. ap (λ (x : Part View'). next_word_of x.facts p) is_part ∙ (nexts_else p ne ∙ was.nexts p ne);
        }

    pub walked : found ≢ pending → Walks K opens step plan m n q found
    walked stored =
        let part : Part View' = record k.0.part {
          seat = record k.0.part.seat { hand = place_in k.0.part.seat.homing.chain ∷ k.0.part.seat.hand; homing = record k.0.part.seat.homing { chain = found } };
          facts = facts;
        } in
        let goes = made_of K opens step plan HomeWalk k n found _ (walk_told plan.shape plan.callers k.0.number k.0.part.seat k.0.part.facts found stored) makes in
        let is_part : n.0.part ≡ part = goes.1 in
        let new = k_new in
        let p0 = place_in k.0.part.seat.homing.chain in
        record {
          reads = reads_of part goes (record { phase = refl; token = refl; owned = refl; held = refl; reclaim = refl; client = refl; counts = λ p has. counts_else p (none_has p has) });
          hand = ap (λ (p : Part View'). p.seat.hand) is_part ∙ ap₂ (λ p h. p ∷ h) place_is (ap (λ (x : Seat). x.hand) was.seat);
          chain = ap (λ (p : Part View'). p.seat.homing.chain) is_part;
          tail = ap (λ (p : Part View'). p.seat.homing.tail) is_part ∙ ap (λ (x : Seat). x.homing.tail) was.seat;
          won = ap (λ (p : Part View'). p.won) is_part ∙ was.won;
          stored = stored;
          leads = ⊎_elim (λ e. absurd (stored e)) (λ e. e) makes.0.0;
          local = λ some. makes.0.2 stored some ∙ ap (λ p. p.locale) place_is;
          new_hand = sym (ap₂ is_among place_is (ap (λ (x : Seat). x.hand) was.seat)) ∙ new.hand;
          others = λ has. none_has (place_of q) (subst (λ (x : Seat). (is_among (place_of q) x.owned ≡ true) ⊎ (is_among (place_of q) x.held ≡ true)) (sym was.seat) has) refl;
          count = ap (λ (x : Part View'). count_of x.facts (place_of q)) is_part ∙ (ap (count_of facts) (sym place_is) ∙ (place_here (count_of k.0.part.facts) p0 _ ∙ ap Some count_is));
          next = ap (λ (x : Part View'). next_word_of x.facts (place_of q)) is_part ∙ (ap (next_word_of facts) (sym place_is) ∙ place_here _ p0 (Some found));
          counts = λ p ne. ap (λ (x : Part View'). count_of x.facts p) is_part ∙ (counts_else p ne ∙ was.counts p ne);
          nexts = λ p ne. ap (λ (x : Part View'). next_word_of x.facts p) is_part ∙ (nexts_else p ne ∙ was.nexts p ne);
        }

  -- ---- a chain with one more object

  module _ (m n : S) (locale : ℕ) (first : Pointer) (rest : List Pointer) (q : Pointer) (word : ℕ) (is : IsPointer q) (inside : IsPlace plan.shape (place_of q)) (local : q.locale ≡ locale)
      (was : IsChained plan.shape m.0.part locale first rest (word_of q)) (walks : Walks K opens step plan m n q word) where
    in_hand : (p : Place) → is_among p (places (first ∷ rest)) ≡ true → is_among p m.0.part.seat.hand ≡ true
    in_hand p h =
        subst (λ l. is_among p l ≡ true) (sym was.hand)
        (⊎_elim
        (λ e. subst (λ x. is_among x (was.back ++ place_of first ∷ []) ≡ true) (sym e) (among-append_right (place_of first) was.back (place_of first ∷ []) (among_here (place_of first) [])))
        (λ e. among-append_left p was.back (place_of first ∷ []) (was.all p e.1))
        (among_cons p (place_of first) (places rest) h))

    apart : (p : Place) → is_among p (places (first ∷ rest)) ≡ true → p ≢ place_of q
    apart p h e = absurd (cc (in_hand p h, ap (λ x. is_among x m.0.part.seat.hand) e, walks.new_hand))

    all_places : places (first ∷ (rest ++ q ∷ [])) ≡ places (first ∷ rest) ++ place_of q ∷ []
    all_places = places-append (first ∷ rest) q

    pub chain_more : IsChained plan.shape n.0.part locale first (rest ++ q ∷ []) word
    chain_more = record {
      back = place_of q ∷ was.back;
      hand = walks.hand ∙ ap (λ h. place_of q ∷ h) was.hand;
      count = let many = was.count in let more = length-append rest (q ∷ []) in omega arith;
      only = λ p h.
          subst (λ l. is_among p l ≡ true) (sym (places-append rest q))
          (⊎_elim
          (λ e. subst (λ x. is_among x (places rest ++ place_of q ∷ []) ≡ true) (sym e) (among-append_right (place_of q) (places rest) (place_of q ∷ []) (among_here (place_of q) [])))
          (λ e. among-append_left p (places rest) (place_of q ∷ []) (was.only p e.1))
          (among_cons p (place_of q) was.back h));
      all = λ p h.
          ⊎_elim
          (λ e. among_more p (place_of q) was.back (was.all p e))
          (λ e. subst (λ x. is_among x (place_of q ∷ was.back) ≡ true) (sym (among_one p (place_of q) e)) (among_here (place_of q) was.back))
          (among-append p (places rest) (place_of q ∷ []) (subst (λ l. is_among p l ≡ true) (places-append rest q) h));
      distinct =
          subst IsDistinct (sym all_places)
          (distinct-append (places (first ∷ rest)) (place_of q ∷ []) was.distinct (among_none (place_of q), tt) (λ p h e. apart p h (among_one p (place_of q) e)));
      linked = linked_more m.0.part.facts n.0.part.facts first rest q word was.linked (λ p h. walks.nexts p (apart p h)) walks.next;
      each =
          each_more plan.shape n.0.part.facts locale (first ∷ rest) q
          (each_still m.0.part.facts n.0.part.facts plan.shape locale (first ∷ rest) was.each (λ p h. walks.counts p (apart p h)))
          (record { local = local; pointer = is; inside = inside; count = walks.count });
      others = λ p h has.
          let reads = walks.reads in
          let before = had_still K opens step plan m.0.part n.0.part reads.under.same p has in
          ⊎_elim
          (λ e. was.others p e before)
          (λ e. walks.others (subst (Has m.0.part) (among_one p (place_of q) e) before))
          (among-append p (places (first ∷ rest)) (place_of q ∷ []) (subst (λ l. is_among p l ≡ true) all_places h));
      tail = walks.tail ∙ was.tail;
      won = walks.won ∙ was.won;
    }

  -- ---- the rest of a chain

  pub on_first : (m n : S) (first top : Pointer) (word : ℕ) → IsPointer top → IsPlace plan.shape (place_of top) → top.locale ≡ first.locale → IsChained plan.shape m.0.part first.locale first [] (word_of top) → Walks K opens step plan m n top word
      → WalksOn K opens step plan first.locale first top top m n word
  on_first m n first top word is inside local was walks = record {
    rest = [];
    reads = subst (λ l. Reads K opens step plan l m n None) local walks.reads;
    chained = chain_more m n first.locale first [] top word is inside local was walks;
    chain = walks.chain;
    last = refl;
    stored = walks.stored;
    leads = walks.leads;
    local = λ some. walks.local some ∙ local;
  }

  pub on_more : (m k n : S) (first top tail next : Pointer) (word found : ℕ) → (was : WalksOn K opens step plan first.locale first top tail m k word) → IsPointer next → IsPlace plan.shape (place_of next) → next.locale ≡ first.locale → word_of next ≡ word
      → Walks K opens step plan k n next found → WalksOn K opens step plan first.locale first top next m n found
  on_more m k n first top tail next word found was is inside local same walks = record {
    rest = was.rest ++ next ∷ [];
    reads = reads_then K opens step plan first.locale m k n None None was.reads (subst (λ l. Reads K opens step plan l k n None) local walks.reads);
    chained = chain_more k n first.locale first (top ∷ was.rest) next found is inside local (subst (IsChained plan.shape k.0.part first.locale first (top ∷ was.rest)) (sym same) was.chained) walks;
    chain = walks.chain;
    last = sym (last-append top was.rest next);
    stored = walks.stored;
    leads = walks.leads;
    local = λ some. walks.local some ∙ local;
  }

  pub on_end : (m k : S) (first top tail : Pointer) (word : ℕ) → WalksOn K opens step plan first.locale first top tail m k word → word ≡ 0 → WalksRest K opens step plan first.locale first top tail m k
  on_end m k first top tail word was none = record {
    rest = was.rest;
    reads = was.reads;
    chained = subst (IsChained plan.shape k.0.part first.locale first (top ∷ was.rest)) none was.chained;
    chain = was.chain ∙ none;
    last = was.last;
  }

  -- the object that the word names
  pub next_at : (first top tail q : Pointer) (m k : S) (word : ℕ) → WalksOn K opens step plan first.locale first top tail m k word → IsPointer q → word_of q ≡ word → IsPlace plan.shape (place_of q) × (q.locale ≡ first.locale)
  next_at first top tail q m k word was is same =
      let some : word ≢ 0 = (λ e. word_not_none q (small_of q is) (same ∙ e)) in
      let at : place_in word ≡ place_of q = named word q is same in
      (⊎_elim (λ e. absurd (some e)) (λ h. subst (IsPlace plan.shape) at h) was.leads, sym (ap (λ p. p.locale) at) ∙ was.local some)

pub chain_named : (shape : Shape) (word : ℕ) → shape.locales ≤ 16 → IsChainWord shape word → (word ≡ 0) ⊎ NamesPointer word
unfolding place_in index_in
chain_named shape word most leads =
    ⊎_elim
    (λ e. inl e)
    (λ is. let l = is.locale in let i = is.some_object in inr (i, omega arith))
    leads

pub ends_chain : (shape : Shape) (word : ℕ) → shape.locales ≤ 16 → IsChainWord shape word → (¬ NamesPointer word → ⊥) ⊎ (word ≡ 0)
unfolding place_in index_in
ends_chain shape word most leads =
    ⊎_elim
    (λ e. inr e)
    (λ is. let l = is.locale in let i = is.some_object in inl (λ none. none (i, omega arith)))
    leads
