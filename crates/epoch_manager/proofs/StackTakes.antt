-- An object that is taken from the top of a stack.
use Rattle.std.proofs.Common.{◌≡◌, ◌≢◌, ◌<◌, ◌==◌, ◌&&◌, ℕ, Bool, true, false, [], ◌∷◌, Option, Some, None, refl, ap, ap₂, sym, ◌∙◌, subst, ⊎_elim, arith, eq-eqb}
use Rattle.std.proofs.lemmas.Bool.{false_from_ne_true, false≢true, eqb-true, ne_eqb}
use Rattle.pool_core.specs.FreeWords.{free_head_word, free_count, free_index}
use Rattle.epoch_laws.specs.declared.steps.Kind.TheVariants.{StackLook, StackNext, StackPop}
use Rattle.epoch_laws.specs.Places.{Place, is_among}
use Rattle.epoch_laws.specs.Seats.{StackLook as Look', NoLook, Looked, NextRead, is_reclaiming}
use Rattle.epoch_laws.specs.StackSteps.{looked_top, same_head, last_stack_count}
use Rattle.epoch_laws.specs.States.{IsPlace}
use Rattle.epoch_laws.specs.Words.{free_stack, next_of}
use Rattle.epoch_laws.proofs.Updates.{place_there}
use Rattle.epoch_table.specs.declared.parts.Plan.{Plan}
use Rattle.epoch_table.specs.declared.parts.Part.{Part}
use Rattle.epoch_table.specs.Clients.{ClientTerms}
use Rattle.epoch_table.specs.Facts.{IsNew, count_of, facts_after}
use Rattle.epoch_table.specs.Kinds.{MayMake, Makes}
use Rattle.epoch_table.specs.Numbers.{head_in}
use Rattle.epoch_manager.specs.Takes.{last_head, is_spent, CanSpend}
use Rattle.epoch_manager.specs.declared.gets.Get.TheVariants.{Got}
use Rattle.epoch_manager.specs.TakeSeats.{Has, IsEmptyHanded, SeatOf, Reads, GetsHead}
use Rattle.epoch_manager.proofs.TakeRows.{stack_look_row, stack_next_row, stack_pop_row, stack_look_told, stack_next_told, pop_won, pop_lost}
use Rattle.epoch_manager.proofs.Takes.{one_of, under_one, reads_then}
use Rattle.epoch_manager.proofs.TokenSteps.{Goes, made_of}

pub head_here : (l word : ℕ) → last_head (record { name = free_stack l; word = word } ∷ []) l ≡ Some word
head_here l word = rw (eq-eqb l l refl) refl

-- a head's word is that of its count and its index
head_word : (w : ℕ) → w ≡ free_head_word (free_count w) (free_index w)
head_word w = omega arith

pub head_same : (found count index : ℕ) → index < 16777216 → found ≡ free_head_word count index → same_head (head_in found) (record { count = count; index = index }) ≡ true
head_same found count index low is =
    let a : free_count found ≡ count = omega arith in
    let b : free_index found ≡ index = omega arith in
    rw (eq-eqb (free_count found) count a, eq-eqb (free_index found) index b) refl

pub head_unspent : (found count index : ℕ) → index < 16777216 → found ≡ free_head_word count index → count ≢ last_stack_count → is_spent (Some found) ≡ false
head_unspent found count index low is ne = let a : free_count found ≡ count = omega arith in ne_eqb (free_count found) last_stack_count (λ e. ne (sym a ∙ e))

both_true : (a b : Bool) → (a && b) ≡ true → (a ≡ true) × (b ≡ true)
both_true true true h = (refl, refl)
both_true true false h = absurd (false≢true h)
both_true false b h = absurd (false≢true h)

pub head_other : (found count index : ℕ) → found ≢ free_head_word count index → same_head (head_in found) (record { count = count; index = index }) ≡ false
head_other found count index ne =
    false_from_ne_true _
    (λ h.
    let two = both_true (free_count found == count) (free_index found == index) h in
    let a = eqb-true _ _ two.0 in
    let b = eqb-true _ _ two.1 in
    ne (head_word found ∙ (ap (λ x. free_head_word x (free_index found)) a ∙ ap (free_head_word count) b)))

module _ {C View' Call Reply State' : Type 0} (K : ClientTerms C View' Call Reply State') (opens : State' → Type 0) (step : State' → Call → Reply → State' → Type 0) (plan : Plan C) where
  abbrev S : Type 0
  S = SeatOf K opens step plan

  -- ---- a look at the head

  abbrev pub looked_part : ℕ → ℕ → Part View' → Part View'
  looked_part l found part = record part { seat = record part.seat { stack = record { phase = Looked; locale = l; head = head_in found; next = 0 } } }

  pub may_look : (m : S) (l : ℕ) → m.0.number < plan.callers → is_reclaiming m.0.part.seat.phase ≡ false → l < plan.shape.locales → MayMake K plan m.0.number (StackLook l) m.0.part
  may_look m l below rests low = record { row = stack_look_row plan.shape plan.callers m.0.number m.0.part.seat m.0.part.facts below rests l low; made = tt; allowed = tt }

  module _ (m n : S) (l found : ℕ) (makes : Makes K opens step plan (StackLook l) m found n) where
    look_goes : Goes K opens step plan m n (record { name = free_stack l; word = found } ∷ []) [] (looked_part l found m.0.part)
    look_goes = made_of K opens step plan (StackLook l) m n found _ (stack_look_told plan.shape plan.callers m.0.number m.0.part.seat m.0.part.facts l found) makes

    pub look_part : n.0.part ≡ looked_part l found m.0.part
    look_part = look_goes.1

    pub look_reads : Reads K opens step plan l m n (Some found)
    look_reads = record {
      looks = record { name = free_stack l; word = found } ∷ [];
      under =
          under_one K opens step plan m n (record { name = free_stack l; word = found } ∷ []) (looked_part l found m.0.part) look_goes
          (record { phase = refl; token = refl; owned = refl; held = refl; reclaim = refl; client = refl; counts = λ p has. refl });
      local = one_of l (free_stack l) found refl;
      unheaded = λ p. refl;
      head_so = head_here l found;
    }

    pub look_empty : IsEmptyHanded m.0.part → IsEmptyHanded n.0.part
    look_empty is = subst IsEmptyHanded (sym look_part) (record { hand = is.hand; tail = is.tail; chain = is.chain; won = is.won })

    pub look_can : m.0.part.won ≡ false → free_count found ≡ last_stack_count → CanSpend plan n.0.seen
    look_can won is = let most = makes.2 won in omega arith

    pub look_new : free_index found ≢ 0 → IsNew m.0.part.seat (record { locale = l; index = free_index found })
    look_new = makes.0.1

    pub look_place : l < plan.shape.locales → free_index found ≢ 0 → IsPlace plan.shape (record { locale = l; index = free_index found })
    look_place low some = let most = makes.0.0 in record { locale = low; some_object = omega arith; index = most }

  -- ---- a look at the next word of the object on top

  abbrev pub next_part : ℕ → Part View' → Part View'
  next_part found part = record part { seat = record part.seat { stack = record part.seat.stack { phase = NextRead; next = found } }; facts = facts_after part.seat StackNext part.facts found }

  pub may_next : (m : S) → m.0.number < plan.callers → is_reclaiming m.0.part.seat.phase ≡ false → m.0.part.seat.stack.phase ≢ NoLook → m.0.part.seat.stack.head.index ≢ 0 → MayMake K plan m.0.number StackNext m.0.part
  may_next m below rests looked some = record { row = stack_next_row plan.shape plan.callers m.0.number m.0.part.seat m.0.part.facts below rests looked some; made = tt; allowed = tt }

  module _ (m n : S) (found : ℕ) (makes : Makes K opens step plan StackNext m found n) where
    next_goes : Goes K opens step plan m n (record { name = next_of (looked_top m.0.part.seat.stack); word = found } ∷ []) [] (next_part found m.0.part)
    next_goes = made_of K opens step plan StackNext m n found _ (stack_next_told plan.shape plan.callers m.0.number m.0.part.seat m.0.part.facts found) makes

    pub next_is : n.0.part ≡ next_part found m.0.part
    next_is = next_goes.1

    pub next_reads : (l : ℕ) → m.0.part.seat.stack.locale ≡ l → Reads K opens step plan l m n None
    next_reads l at = record {
      looks = record { name = next_of (looked_top m.0.part.seat.stack); word = found } ∷ [];
      under =
          under_one K opens step plan m n _ (next_part found m.0.part) next_goes
          (record { phase = refl; token = refl; owned = refl; held = refl; reclaim = refl; client = refl; counts = λ p has. refl });
      local = one_of l (next_of (looked_top m.0.part.seat.stack)) found at;
      unheaded = λ p. refl;
      head_so = refl;
    }

  -- ---- the exchange of the head

  abbrev pub popped_part : ℕ → Bool → Part View' → Part View'
  popped_part found won part = record {
    seat = record part.seat { hand = looked_top part.seat.stack ∷ part.seat.hand };
    facts = facts_after part.seat StackPop part.facts found;
    won = won;
    client = part.client;
  }

  abbrev pub unpopped_part : ℕ → Bool → Part View' → Part View'
  unpopped_part found won part = record {
    seat = record part.seat { stack = record part.seat.stack { phase = NoLook } };
    facts = facts_after part.seat StackPop part.facts found;
    won = won;
    client = part.client;
  }

  pub may_pop : (m : S) → m.0.number < plan.callers → is_reclaiming m.0.part.seat.phase ≡ false → m.0.part.seat.stack.phase ≡ NextRead → m.0.part.seat.stack.head.count < last_stack_count → m.0.part.won ≡ false
      → MayMake K plan m.0.number StackPop m.0.part
  may_pop m below rests read low won = record { row = stack_pop_row plan.shape plan.callers m.0.number m.0.part.seat m.0.part.facts below rests read low; made = tt; allowed = won }

  module _ (m n : S) (found : ℕ) (makes : Makes K opens step plan StackPop m found n) (new : Has m.0.part (looked_top m.0.part.seat.stack) → ⊥) where
    counts_popped : (p : Place) → Has m.0.part p → count_of (facts_after m.0.part.seat StackPop m.0.part.facts found) p ≡ count_of m.0.part.facts p
    counts_popped p has = place_there (count_of m.0.part.facts) (looked_top m.0.part.seat.stack) None p (λ e. new (subst (Has m.0.part) e has))

    pub popped_so : same_head (head_in found) m.0.part.seat.stack.head ≡ true → Reads K opens step plan m.0.part.seat.stack.locale m n (Some found) × (n.0.part ≡ popped_part found true m.0.part)
    popped_so won =
        let goes = made_of K opens step plan StackPop m n found _ (pop_won plan.shape plan.callers m.0.number m.0.part.seat m.0.part.facts found won) makes in
        let goes' : Goes K opens step plan m n (record { name = free_stack m.0.part.seat.stack.locale; word = found } ∷ []) [] (popped_part found true m.0.part) =
        subst (λ b. Goes K opens step plan m n (record { name = free_stack m.0.part.seat.stack.locale; word = found } ∷ []) [] (popped_part found b m.0.part)) (rw won refl) goes in (
          record {
            looks = record { name = free_stack m.0.part.seat.stack.locale; word = found } ∷ [];
            under = under_one K opens step plan m n _ (popped_part found true m.0.part) goes' (record { phase = refl; token = refl; owned = refl; held = refl; reclaim = refl; client = refl; counts = counts_popped });
            local = one_of m.0.part.seat.stack.locale (free_stack m.0.part.seat.stack.locale) found refl;
            unheaded = λ p. refl;
            head_so = head_here m.0.part.seat.stack.locale found;
          },
          goes'.1,
        )

    pub unpopped_so : same_head (head_in found) m.0.part.seat.stack.head ≡ false → Reads K opens step plan m.0.part.seat.stack.locale m n (Some found) × (n.0.part ≡ unpopped_part found m.0.part.won m.0.part)
    unpopped_so lost =
        let goes = made_of K opens step plan StackPop m n found _ (pop_lost plan.shape plan.callers m.0.number m.0.part.seat m.0.part.facts found lost) makes in
        let goes' : Goes K opens step plan m n (record { name = free_stack m.0.part.seat.stack.locale; word = found } ∷ []) [] (unpopped_part found m.0.part.won m.0.part) =
        subst (λ b. Goes K opens step plan m n (record { name = free_stack m.0.part.seat.stack.locale; word = found } ∷ []) [] (unpopped_part found b m.0.part)) (rw lost refl) goes in (
          record {
            looks = record { name = free_stack m.0.part.seat.stack.locale; word = found } ∷ [];
            under = under_one K opens step plan m n _ (unpopped_part found m.0.part.won m.0.part) goes' (record { phase = refl; token = refl; owned = refl; held = refl; reclaim = refl; client = refl; counts = counts_popped });
            local = one_of m.0.part.seat.stack.locale (free_stack m.0.part.seat.stack.locale) found refl;
            unheaded = λ p. refl;
            head_so = head_here m.0.part.seat.stack.locale found;
          },
          goes'.1,
        )

  -- ---- a pop, from its look at the head on

  module _ (l count index : ℕ) (m k a b d : S) (h : Option ℕ) (sofar : Reads K opens step plan l m k h) (empty : IsEmptyHanded k.0.part) (low : l < plan.shape.locales)
      (head found next : ℕ) (is_count : count ≡ free_count head) (is_index : index ≡ free_index head) (looks : Makes K opens step plan (StackLook l) k head a) where
    pub a_reads : Reads K opens step plan l m a (Some head)
    a_reads = reads_then K opens step plan l m k a h (Some head) sofar (look_reads k a l head looks)

    pub a_empty : IsEmptyHanded a.0.part
    a_empty = look_empty k a l head looks empty

    pub a_spent : count ≡ last_stack_count → (is_spent (Some head) ≡ true) × CanSpend plan a.0.seen
    a_spent is = (eq-eqb (free_count head) last_stack_count (sym is_count ∙ is), look_can k a l head looks empty.won (sym is_count ∙ is))

    pub a_unspent : count ≢ last_stack_count → is_spent (Some head) ≡ false
    a_unspent ne = ne_eqb (free_count head) last_stack_count (λ e. ne (is_count ∙ e))

    pub a_stack : a.0.part.seat.stack ≡ record { phase = Looked; locale = l; head = record { count = free_count head; index = free_index head }; next = 0 }
    a_stack = ap (λ (p : Part View'). p.seat.stack) (look_part k a l head looks)

    module _ (some : index ≢ 0) (reads : Makes K opens step plan StackNext a next b) where
      some_index : free_index head ≢ 0
      some_index e = some (is_index ∙ e)

      pub b_reads : Reads K opens step plan l m b (Some head)
      b_reads = reads_then K opens step plan l m a b (Some head) None a_reads (next_reads a b next reads l (ap (λ x. x.locale) a_stack))

      pub b_stack : b.0.part.seat.stack ≡ record { phase = NextRead; locale = l; head = record { count = count; index = index }; next = next }
      b_stack =
          ap (λ (p : Part View'). p.seat.stack) (next_is a b next reads)
          ∙ (ap (λ (x : Look'). record x { phase = NextRead; next = next }) a_stack ∙ ap₂ (λ c i. record { phase = NextRead; locale = l; head = record { count = c; index = i }; next = next }) (sym is_count) (sym is_index))

      pub b_empty : IsEmptyHanded b.0.part
      b_empty =
          subst IsEmptyHanded (sym (next_is a b next reads)) (record { hand = a_empty.hand; tail = a_empty.tail; chain = a_empty.chain; won = a_empty.won })

      abbrev pub top : Place
      top = record { locale = l; index = index }

      pub top_inside : IsPlace plan.shape top
      top_inside = subst (λ i. IsPlace plan.shape (record { locale = l; index = i })) (sym is_index) (look_place k a l head looks low some_index)

      top_new : Has b.0.part (looked_top b.0.part.seat.stack) → ⊥
      top_new has =
          let new = subst (λ i. IsNew k.0.part.seat (record { locale = l; index = i })) (sym is_index) (look_new k a l head looks some_index) in
          let at : looked_top b.0.part.seat.stack ≡ top = ap looked_top b_stack in
          let owned : b.0.part.seat.owned ≡ k.0.part.seat.owned = ap (λ (p : Part View'). p.seat.owned) (next_is a b next reads) ∙ ap (λ (p : Part View'). p.seat.owned) (look_part k a l head looks) in
          let held : b.0.part.seat.held ≡ k.0.part.seat.held = ap (λ (p : Part View'). p.seat.held) (next_is a b next reads) ∙ ap (λ (p : Part View'). p.seat.held) (look_part k a l head looks) in
          ⊎_elim
          (λ o. absurd (cc (o, ap₂ is_among at owned, new.owned)))
          (λ o. absurd (cc (o, ap₂ is_among at held, new.held)))
          has

      module _ (tries : Makes K opens step plan StackPop b found d) where
        at_l : b.0.part.seat.stack.locale ≡ l
        at_l = ap (λ x. x.locale) b_stack

        head_b : b.0.part.seat.stack.head ≡ record { count = count; index = index }
        head_b = ap (λ x. x.head) b_stack

        pub d_won : found ≡ free_head_word count index → index < 16777216 → count ≢ last_stack_count → GetsHead K opens step plan l m d (Got index)
        d_won is small ne =
            let won : same_head (head_in found) b.0.part.seat.stack.head ≡ true = ap (same_head (head_in found)) head_b ∙ head_same found count index small is in
            let pops = popped_so b d found tries top_new won in
            let reads' : Reads K opens step plan l b d (Some found) = subst (λ x. Reads K opens step plan x b d (Some found)) at_l pops.0 in (
              Some found,
              refl,
              (
                reads_then K opens step plan l m b d (Some head) (Some found) b_reads reads',
                record {
                  hand = ap (λ (p : Part View'). p.seat.hand) pops.1 ∙ ap₂ (λ p hand. p ∷ hand) (ap looked_top b_stack) b_empty.hand;
                  tail = ap (λ (p : Part View'). p.seat.homing.tail) pops.1 ∙ b_empty.tail;
                  chain = ap (λ (p : Part View'). p.seat.homing.chain) pops.1 ∙ b_empty.chain;
                  inside = top_inside;
                  others = λ has. top_new (subst (Has b.0.part) (sym (ap looked_top b_stack)) (subst (λ (p : Part View'). Has p top) pops.1 has));
                },
                head_unspent found count index small is ne,
              ),
            )

        pub d_lost : found ≢ free_head_word count index → (h' : Option ℕ) × Reads K opens step plan l m d h' × IsEmptyHanded d.0.part
        d_lost ne =
            let lost : same_head (head_in found) b.0.part.seat.stack.head ≡ false = ap (same_head (head_in found)) head_b ∙ head_other found count index ne in
            let pops = unpopped_so b d found tries top_new lost in
            let reads' : Reads K opens step plan l b d (Some found) = subst (λ x. Reads K opens step plan x b d (Some found)) at_l pops.0 in (
              Some found,
              reads_then K opens step plan l m b d (Some head) (Some found) b_reads reads',
              subst IsEmptyHanded (sym pops.1) (record { hand = b_empty.hand; tail = b_empty.tail; chain = b_empty.chain; won = b_empty.won }),
            )
