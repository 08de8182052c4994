-- The rest of a taken chain goes onto a stack.
use Rattle.std.proofs.Common.{◌≡◌, ◌≢◌, ◌<◌, ◌==◌, ℕ, Bool, true, false, List, [], ◌∷◌, Option, Some, None, refl, ap, ap₂, sym, ◌∙◌, subst, arith, eq-eqb}
use Rattle.pgas_base.specs.Pointers.{Pointer}
use Rattle.pool_core.specs.FreeWords.{free_head_word, free_count, free_index}
use Rattle.epoch_laws.specs.declared.steps.Kind.TheVariants.{StackLook, StackPut, HandLink}
use Rattle.epoch_laws.specs.Chains.{Reaches, IsLed, led_in, led_over}
use Rattle.epoch_laws.specs.Places.{place_of, index_in, without_all}
use Rattle.epoch_laws.specs.Seats.{StackLook as Look, NoLook, Looked, is_reclaiming}
use Rattle.epoch_laws.specs.StackSteps.{same_head, last_stack_count}
use Rattle.epoch_laws.specs.Words.{free_stack}
use Rattle.epoch_laws.proofs.Lists.{among_here, among_more}
use Rattle.epoch_table.specs.declared.parts.Plan.{Plan}
use Rattle.epoch_table.specs.declared.parts.Part.{Part}
use Rattle.epoch_table.specs.Clients.{ClientTerms}
use Rattle.epoch_table.specs.Facts.{facts_after}
use Rattle.epoch_table.specs.Heads.{won_after}
use Rattle.epoch_table.specs.Kinds.{MayMake, Makes}
use Rattle.epoch_table.specs.Knowledge.{known_words}
use Rattle.epoch_table.specs.Numbers.{head_in}
use Rattle.epoch_manager.specs.declared.gets.Get.TheVariants.{Spent}
use Rattle.epoch_manager.specs.Takes.{is_spent}
use Rattle.epoch_manager.specs.TakeSeats.{IsSameFor, HasOne, SeatOf, Reads, Gets, IsChained, HoldsChain, HoldsRest, GoesHome, AreOfChain, places, last_of}
use Rattle.epoch_manager.proofs.HandChains.{last_among, of_last, leads_within, leaves_first}
use Rattle.epoch_manager.proofs.HandHomes.{in_hand, all_known, link_part, link_reads, link_chained, may_link}
use Rattle.epoch_manager.proofs.StackTakes.{head_here, head_same, head_other, head_unspent, look_part, look_reads, look_can}
use Rattle.epoch_manager.proofs.TakeRows.{stack_put_row, put_won, put_lost}
use Rattle.epoch_manager.proofs.Takes.{one_of, under_one, reads_then, number_still, can_still}
use Rattle.epoch_manager.proofs.TokenSteps.{Goes, made_of}

module _ {C View' Call Reply State' : Type 0} (K : ClientTerms C View' Call Reply State') (opens : State' → Type 0) (step : State' → Call → Reply → State' → Type 0) (plan : Plan C) where
  abbrev S : Type 0
  S = SeatOf K opens step plan

  -- from the second object on
  module _ (part : Part View') (locale : ℕ) (first top : Pointer) (rest : List Pointer) (word : ℕ) (was : IsChained plan.shape part locale first (top ∷ rest) word) where
    leads_rest : (found : ℕ) (ends : ℕ → Bool) → ends word ≡ true → led_in (known_words part.facts found) part.seat.hand ends (place_of top) (place_of (last_of top rest)) ≡ Reaches (places (top ∷ rest))
    leads_rest found ends ends_so =
        let one = was.each.1.0 in
        leads_within plan.shape part.facts found ends part.seat.hand top rest word was.linked.1 (subst (λ l. AreOfChain plan.shape part.facts l rest) (sym one.local) was.each.1.1) was.distinct.1
        (λ p h. in_hand K opens step plan part locale first (top ∷ rest) word was p (among_more p (place_of first) (places (top ∷ rest)) h)) ends_so

    leaves_one : (found : ℕ) (ends : ℕ → Bool) → ends word ≡ true → without_all (led_over (led_in (known_words part.facts found) part.seat.hand ends (place_of top) (place_of (last_of top rest)))) part.seat.hand ≡ place_of first ∷ []
    unfolding led_over
    leaves_one found ends ends_so =
        ap (λ way. without_all (led_over way) part.seat.hand) (leads_rest found ends ends_so)
        ∙ (ap (without_all (places (top ∷ rest))) was.hand ∙ leaves_first (places (top ∷ rest)) was.back (place_of first) was.only was.distinct.0)

  module _ (m k a b d : S) (first top tail : Pointer) (l count index hw x found link : ℕ) (h : Option ℕ) (sofar : Reads K opens step plan l m k h) (holds : HoldsRest plan.shape k.0.part first top tail) (is_l : l ≡ first.locale)
      (below : m.0.number < plan.callers) (quiet : is_reclaiming m.0.part.seat.phase ≡ false)
      (is_count : count ≡ free_count hw) (is_index : index ≡ free_index hw) (looks : Makes K opens step plan (StackLook l) k hw a) where
    abbrev all : List Pointer
    all = top ∷ holds.rest

    pa_reads : Reads K opens step plan l m a (Some hw)
    pa_reads = reads_then K opens step plan l m k a h (Some hw) sofar (look_reads K opens step plan k a l hw looks)

    pa_part : a.0.part ≡ record k.0.part { seat = record k.0.part.seat { stack = record { phase = Looked; locale = l; head = head_in hw; next = 0 } } }
    pa_part = look_part K opens step plan k a l hw looks

    pa_chained : IsChained plan.shape a.0.part first.locale first all holds.word
    pa_chained =
        let was = holds.chained in
        subst (λ (p : Part View'). IsChained plan.shape p first.locale first all holds.word) (sym pa_part)
        (record {
          back = was.back;
          hand = was.hand;
          count = was.count;
          only = was.only;
          all = was.all;
          distinct = was.distinct;
          linked = was.linked;
          each = was.each;
          others = was.others;
          tail = was.tail;
          won = was.won;
        })

    pa_chain : a.0.part.seat.homing.chain ≡ 0
    pa_chain = ap (λ (p : Part View'). p.seat.homing.chain) pa_part ∙ holds.chain

    pub pa_below : a.0.number < plan.callers
    pa_below = let number = number_still K opens step plan m a pa_reads.looks pa_reads.under in omega (arith, below, number)

    pub pa_quiet : is_reclaiming a.0.part.seat.phase ≡ false
    pa_quiet = ap is_reclaiming pa_reads.under.same.phase ∙ quiet

    pub pa_holds : HoldsChain plan.shape a.0.part first tail
    pa_holds = record { rest = all; word = holds.word; chained = pa_chained; chain = pa_chain; last = holds.last }

    pub p_spent : (n : S) → count ≡ last_stack_count → GoesHome K opens step plan l a n → Gets K opens step plan l m n Spent
    p_spent n is home =
        let r = home.reads in (
          Some hw,
          (
            reads_then K opens step plan l m a n (Some hw) None pa_reads r,
            home.empty,
            eq-eqb (free_count hw) last_stack_count (sym is_count ∙ is),
            can_still K opens step plan a n r.looks r.under (look_can K opens step plan k a l hw looks holds.chained.won (sym is_count ∙ is)),
          ),
        )

    pub pa_may_link : MayMake K plan a.0.number (HandLink tail link) a.0.part
    pa_may_link = subst (λ q. MayMake K plan a.0.number (HandLink q link) a.0.part) (sym holds.last) (may_link K opens step plan a first.locale first all holds.word link pa_chained pa_below)

    module _ (links : Makes K opens step plan (HandLink tail link) a x b) where
      links' : Makes K opens step plan (HandLink (last_of first all) link) a x b
      links' = subst (λ q. Makes K opens step plan (HandLink q link) a x b) holds.last links

      pb_part : b.0.part ≡ record a.0.part { facts = facts_after a.0.part.seat (HandLink (last_of first all) link) a.0.part.facts x }
      pb_part = link_part K opens step plan a b first.locale first all holds.word link x pa_chained links'

      pb_chained : IsChained plan.shape b.0.part first.locale first all link
      pb_chained = link_chained K opens step plan a b first.locale first all holds.word link x pa_chained links'

      pb_reads : Reads K opens step plan l m b (Some hw)
      pb_reads = reads_then K opens step plan l m a b (Some hw) None pa_reads (link_reads K opens step plan a b first.locale first all holds.word link x pa_chained links' l)

      pub pb_stack : b.0.part.seat.stack ≡ record { phase = Looked; locale = l; head = record { count = count; index = index }; next = 0 }
      pb_stack =
          ap (λ (p : Part View'). p.seat.stack) pb_part
          ∙ (ap (λ (p : Part View'). p.seat.stack) pa_part ∙ ap₂ (λ c i. record { phase = Looked; locale = l; head = record { count = c; index = i }; next = 0 }) (sym is_count) (sym is_index))

      module _ (is_link : index_in link ≡ index) where
        ends_so : (index_in link == b.0.part.seat.stack.head.index) ≡ true
        ends_so = eq-eqb (index_in link) _ (is_link ∙ sym (ap (λ (s : Look). s.head.index) pb_stack))

        pub pb_may_put : count < last_stack_count → MayMake K plan b.0.number (StackPut top tail) b.0.part
        pb_may_put low =
            let was = pb_chained in
            let one = was.each.1.0 in
            let end = of_last plan.shape b.0.part.facts first.locale top holds.rest was.each.1 in
            let number = number_still K opens step plan m b pb_reads.looks pb_reads.under in
            let at : b.0.part.seat.stack.locale ≡ first.locale = ap (λ (s : Look). s.locale) pb_stack ∙ is_l in
            let quiet_b : is_reclaiming b.0.part.seat.phase ≡ false = ap is_reclaiming pb_reads.under.same.phase ∙ quiet in
            let below_b : b.0.number < plan.callers = omega (arith, below, number) in
            let hand = in_hand K opens step plan b.0.part first.locale first all link was in
            subst (λ q. MayMake K plan b.0.number (StackPut top q) b.0.part) (sym holds.last)
            (record {
              row =
                  stack_put_row plan.shape plan.callers b.0.number b.0.part.seat b.0.part.facts below_b quiet_b top (last_of top holds.rest)
                  (record {
                    top_inside = one.inside;
                    tail_inside = end.inside;
                    top_count = one.count;
                    tail_count = end.count;
                    top_hand = hand (place_of top) (among_more (place_of top) (place_of first) (places all) (among_here (place_of top) (places holds.rest)));
                    tail_hand = hand (place_of (last_of top holds.rest)) (among_more (place_of (last_of top holds.rest)) (place_of first) (places all) (last_among top holds.rest));
                    top_locale = one.local ∙ sym at;
                    tail_locale = end.local ∙ sym at;
                  })
                  (λ e. absurd (cc (e, ap (λ (s : Look). s.phase) pb_stack))) (let same = ap (λ (s : Look). s.head.count) pb_stack in omega (arith, low, same)) (all_known K opens step plan b.0.part first.locale first all link was)
                  (subst IsLed (sym (leads_rest b.0.part first.locale first top holds.rest link was 0 (λ word. index_in word == b.0.part.seat.stack.head.index) ends_so)) tt);
              made = tt;
              allowed = was.won;
            })

        module _ (puts : Makes K opens step plan (StackPut top tail) b found d) where
          puts' : Makes K opens step plan (StackPut top (last_of top holds.rest)) b found d
          puts' = subst (λ q. Makes K opens step plan (StackPut top q) b found d) holds.last puts

          at_l : b.0.part.seat.stack.locale ≡ l
          at_l = ap (λ (s : Look). s.locale) pb_stack

          put_read : (part : Part View') → Goes K opens step plan b d (record { name = free_stack b.0.part.seat.stack.locale; word = found } ∷ []) [] part → IsSameFor b.0.part part → Reads K opens step plan l m d (Some found)
          put_read part goes same =
              reads_then K opens step plan l m b d (Some hw) (Some found) pb_reads
              (subst (λ i. Reads K opens step plan i b d (Some found)) at_l
              (record {
                looks = record { name = free_stack b.0.part.seat.stack.locale; word = found } ∷ [];
                under = under_one K opens step plan b d _ part goes same;
                local = one_of b.0.part.seat.stack.locale (free_stack b.0.part.seat.stack.locale) found refl;
                unheaded = λ p. refl;
                head_so = head_here b.0.part.seat.stack.locale found;
              }))

          pub p_won : found ≡ free_head_word count index → index < 16777216 → count ≢ last_stack_count → (o : Option ℕ) × (Reads K opens step plan l m d o × HasOne plan.shape d.0.part (place_of first) × (is_spent o ≡ false))
          p_won is small ne =
              let was = pb_chained in
              let won : same_head (head_in found) b.0.part.seat.stack.head ≡ true = ap (same_head (head_in found)) (ap (λ (s : Look). s.head) pb_stack) ∙ head_same found count index small is in
              let part : Part View' = record b.0.part { seat = record b.0.part.seat { hand = place_of first ∷ [] }; won = true } in
              let goes = made_of K opens step plan (StackPut top (last_of top holds.rest)) b d found _ (put_won plan.shape plan.callers b.0.number b.0.part.seat b.0.part.facts top (last_of top holds.rest) found won) puts' in
              let read = record { name = free_stack b.0.part.seat.stack.locale; word = found } ∷ [] in
              let left = leaves_one b.0.part first.locale first top holds.rest link was found (λ word. index_in word == b.0.part.seat.stack.head.index) ends_so in
              let goes' : Goes K opens step plan b d read [] part =
              subst (λ w. Goes K opens step plan b d read [] (record b.0.part { seat = record b.0.part.seat { hand = place_of first ∷ [] }; won = w })) (rw won refl)
              (subst (λ hand. Goes K opens step plan b d read [] (record b.0.part { seat = record b.0.part.seat { hand = hand }; won = won_after b.0.part.seat (StackPut top (last_of top holds.rest)) b.0.part.won found })) left goes) in
              let one = was.each.0 in (
                Some found,
                (
                  put_read part goes' (record { phase = refl; token = refl; owned = refl; held = refl; reclaim = refl; client = refl; counts = λ p has. refl }),
                  subst (λ (p : Part View'). HasOne plan.shape p (place_of first)) (sym goes'.1)
                      (record {
                        hand = refl;
                        tail = was.tail;
                        chain = ap (λ (p : Part View'). p.seat.homing.chain) pb_part ∙ pa_chain;
                        inside = one.inside;
                        others = was.others (place_of first) (among_here (place_of first) (places all));
                      }),
                  head_unspent found count index small is ne,
                ),
              )

          pub p_lost : found ≢ free_head_word count index → (o : Option ℕ) × Reads K opens step plan l m d o × HoldsRest plan.shape d.0.part first top tail
          p_lost ne =
              let was = pb_chained in
              let lost : same_head (head_in found) b.0.part.seat.stack.head ≡ false = ap (same_head (head_in found)) (ap (λ (s : Look). s.head) pb_stack) ∙ head_other found count index ne in
              let part : Part View' = record b.0.part { seat = record b.0.part.seat { stack = record b.0.part.seat.stack { phase = NoLook } } } in
              let read = record { name = free_stack b.0.part.seat.stack.locale; word = found } ∷ [] in
              let goes = made_of K opens step plan (StackPut top (last_of top holds.rest)) b d found _ (put_lost plan.shape plan.callers b.0.number b.0.part.seat b.0.part.facts top (last_of top holds.rest) found lost) puts' in
              let goes' : Goes K opens step plan b d read [] part =
              subst (λ w. Goes K opens step plan b d read [] (record b.0.part { seat = record b.0.part.seat { stack = record b.0.part.seat.stack { phase = NoLook } }; won = w })) (rw lost refl) goes in (
                Some found,
                put_read part goes' (record { phase = refl; token = refl; owned = refl; held = refl; reclaim = refl; client = refl; counts = λ p has. refl }),
                subst (λ (p : Part View'). HoldsRest plan.shape p first top tail) (sym goes'.1)
                    (record {
                      rest = holds.rest;
                      word = link;
                      chained = record {
                        back = was.back;
                        hand = was.hand;
                        count = was.count;
                        only = was.only;
                        all = was.all;
                        distinct = was.distinct;
                        linked = was.linked;
                        each = was.each;
                        others = was.others;
                        tail = was.tail;
                        won = was.won;
                      };
                      chain = ap (λ (p : Part View'). p.seat.homing.chain) pb_part ∙ pa_chain;
                      last = holds.last;
                    }),
              )
