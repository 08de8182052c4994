-- Chains of the hand that go home, or onto a stack.
use Rattle.std.proofs.Common.{◌≡◌, ◌<◌, ◌++◌, ℕ, Bool, true, List, [], ◌∷◌, None, Some, refl, ap, sym, ◌∙◌, subst, ⊎_elim, arith}
use Rattle.pgas_base.specs.Pointers.{Pointer}
use Rattle.epoch_laws.specs.declared.steps.Kind.TheVariants.{HandLink}
use Rattle.epoch_laws.specs.Chains.{Reaches, led_in}
use Rattle.epoch_laws.specs.Places.{Place, place_of, pending, is_among, without_all}
use Rattle.epoch_laws.specs.States.{IsPlace}
use Rattle.epoch_laws.specs.Words.{home_chain}
use Rattle.epoch_laws.proofs.Lists.{among_here, among_more, among_cons, among_one, among-append, among-append_left, among-append_right, left_none}
use Rattle.epoch_laws.proofs.Updates.{place_here, place_there}
use Rattle.epoch_table.specs.declared.parts.Plan.{Plan}
use Rattle.epoch_table.specs.declared.parts.Part.{Part}
use Rattle.epoch_table.specs.Clients.{ClientTerms}
use Rattle.epoch_table.specs.Facts.{next_word_of, facts_after}
use Rattle.epoch_table.specs.Kinds.{MayMake, Makes}
use Rattle.epoch_table.specs.Knowledge.{AreAllKnown, known_words}
use Rattle.epoch_manager.specs.Gathering.{HasChain, SendsHome, part_sent}
use Rattle.epoch_manager.specs.Returning.{home_words}
use Rattle.epoch_manager.specs.TakeSeats.{SeatOf, Reads, IsChained, HoldsChain, GoesHome, AreOfChain, places, last_of}
use Rattle.epoch_manager.proofs.HandChains.{last_among, linked_again, each_still, of_last, chain_known, leads_within}
use Rattle.epoch_manager.proofs.TakeRows.{hand_link_row, hand_link_told}
use Rattle.epoch_manager.proofs.Takes.{none_of, one_of, under_one, reads_then, number_still}
use Rattle.epoch_manager.proofs.TokenSteps.{Goes, made_of}

module _ {C View' Call Reply State' : Type 0} (K : ClientTerms C View' Call Reply State') (opens : State' → Type 0) (step : State' → Call → Reply → State' → Type 0) (plan : Plan C) where
  abbrev S : Type 0
  S = SeatOf K opens step plan

  -- the chain's objects are those of the hand
  module _ (part : Part View') (locale : ℕ) (first : Pointer) (rest : List Pointer) (word : ℕ) (was : IsChained plan.shape part locale first rest word) where
    pub in_hand : (p : Place) → is_among p (places (first ∷ rest)) ≡ true → is_among p part.seat.hand ≡ true
    in_hand p h =
        subst (λ l. is_among p l ≡ true) (sym was.hand)
        (⊎_elim
        (λ e. subst (λ x. is_among x (was.back ++ place_of first ∷ []) ≡ true) (sym e) (among-append_right (place_of first) was.back (place_of first ∷ []) (among_here (place_of first) [])))
        (λ e. among-append_left p was.back (place_of first ∷ []) (was.all p e.1))
        (among_cons p (place_of first) (places rest) h))

    pub of_hand : (p : Place) → is_among p part.seat.hand ≡ true → is_among p (places (first ∷ rest)) ≡ true
    of_hand p h =
        ⊎_elim
        (λ e. among_more p (place_of first) (places rest) (was.only p e))
        (λ e. subst (λ x. is_among x (places (first ∷ rest)) ≡ true) (sym (among_one p (place_of first) e)) (among_here (place_of first) (places rest)))
        (among-append p was.back (place_of first ∷ []) (subst (λ l. is_among p l ≡ true) was.hand h))

    pub all_known : AreAllKnown part.facts part.seat.hand
    all_known p h = chain_known plan.shape part.facts locale first rest word was.linked was.each p (of_hand p h)

    -- from the first object on
    pub leads_all : (found : ℕ) (ends : ℕ → Bool) → ends word ≡ true → led_in (known_words part.facts found) part.seat.hand ends (place_of first) (place_of (last_of first rest)) ≡ Reaches (places (first ∷ rest))
    leads_all found ends ends_so =
        let one = was.each.0 in
        leads_within plan.shape part.facts found ends part.seat.hand first rest word was.linked (subst (λ l. AreOfChain plan.shape part.facts l rest) (sym one.local) was.each.1) was.distinct in_hand ends_so

    pub nothing_left : without_all (places (first ∷ rest)) part.seat.hand ≡ []
    nothing_left = left_none (places (first ∷ rest)) part.seat.hand of_hand

  -- ---- the last object gets another next word

  module _ (m n : S) (locale : ℕ) (first : Pointer) (rest : List Pointer) (old word found : ℕ) (was : IsChained plan.shape m.0.part locale first rest old)
      (makes : Makes K opens step plan (HandLink (last_of first rest) word) m found n) where
    abbrev tail : Pointer
    tail = last_of first rest

    abbrev linked_part : Part View'
    linked_part = record m.0.part { facts = facts_after m.0.part.seat (HandLink tail word) m.0.part.facts found }

    link_goes : Goes K opens step plan m n [] [] linked_part
    link_goes = made_of K opens step plan (HandLink tail word) m n found _ (hand_link_told plan.shape plan.callers m.0.number m.0.part.seat m.0.part.facts tail word found) makes

    pub link_part : n.0.part ≡ linked_part
    link_part = link_goes.1

    pub link_reads : (l : ℕ) → Reads K opens step plan l m n None
    link_reads l = record {
      looks = [];
      under = under_one K opens step plan m n [] linked_part link_goes (record { phase = refl; token = refl; owned = refl; held = refl; reclaim = refl; client = refl; counts = λ p has. refl });
      local = none_of l;
      unheaded = λ p. refl;
      head_so = refl;
    }

    pub link_chained : IsChained plan.shape n.0.part locale first rest word
    link_chained =
        subst (λ (p : Part View'). IsChained plan.shape p locale first rest word) (sym link_part)
        (record {
          back = was.back;
          hand = was.hand;
          count = was.count;
          only = was.only;
          all = was.all;
          distinct = was.distinct;
          linked =
              linked_again m.0.part.facts linked_part.facts first rest old word was.linked was.distinct
              (λ x ne. place_there (next_word_of m.0.part.facts) (place_of tail) (Some word) x ne) (place_here (next_word_of m.0.part.facts) (place_of tail) (Some word));
          each = each_still m.0.part.facts linked_part.facts plan.shape locale (first ∷ rest) was.each (λ x h. refl);
          others = was.others;
          tail = was.tail;
          won = was.won;
        })

  pub may_link : (m : S) (locale : ℕ) (first : Pointer) (rest : List Pointer) (old word : ℕ) → IsChained plan.shape m.0.part locale first rest old → m.0.number < plan.callers
      → MayMake K plan m.0.number (HandLink (last_of first rest) word) m.0.part
  may_link m locale first rest old word was below =
      let one = of_last plan.shape m.0.part.facts locale first rest was.each in
      record {
        row = hand_link_row plan.shape plan.callers m.0.number m.0.part.seat m.0.part.facts below (last_of first rest) word one.inside one.count (in_hand m.0.part locale first rest old was (place_of (last_of first rest)) (last_among first rest));
        made = tt;
        allowed = tt;
      }

  -- ---- home

  abbrev as_chain : (part : Part View') (first : Pointer) (rest : List Pointer) (end : Pointer) → end ≡ last_of first rest → IsChained plan.shape part first.locale first rest pending → HasChain plan.shape part first end
  as_chain part first rest end is was = record {
    rest = rest;
    last = is;
    inside = in_hand part first.locale first rest pending was;
    distinct = was.distinct;
    linked = was.linked;
    place = was.each.0.inside;
    count = was.each.0.count;
    each = was.each.1;
    known = all_known part first.locale first rest pending was;
    none = was.tail;
  }

  module _ (m : S) (first tail : Pointer) (holds : HoldsChain plan.shape m.0.part first tail) (below : m.0.number < plan.callers) where
    pub home_may_link : MayMake K plan m.0.number (HandLink tail pending) m.0.part
    home_may_link = subst (λ q. MayMake K plan m.0.number (HandLink q pending) m.0.part) (sym holds.last) (may_link m first.locale first holds.rest holds.word pending holds.chained below)

    pub home_place : IsPlace plan.shape (place_of tail)
    home_place = let end = of_last plan.shape m.0.part.facts first.locale first holds.rest holds.chained.each in subst (λ q. IsPlace plan.shape (place_of q)) (sym holds.last) end.inside

    module _ (a : S) (links : Makes K opens step plan (HandLink tail pending) m pending a) where
      links' : Makes K opens step plan (HandLink (last_of first holds.rest) pending) m pending a
      links' = subst (λ q. Makes K opens step plan (HandLink q pending) m pending a) holds.last links

      a_part : a.0.part ≡ record m.0.part { facts = facts_after m.0.part.seat (HandLink (last_of first holds.rest) pending) m.0.part.facts pending }
      a_part = link_part m a first.locale first holds.rest holds.word pending pending holds.chained links'

      pub a_chained : IsChained plan.shape a.0.part first.locale first holds.rest pending
      a_chained = link_chained m a first.locale first holds.rest holds.word pending pending holds.chained links'

      a_reads : (l : ℕ) → Reads K opens step plan l m a None
      a_reads = link_reads m a first.locale first holds.rest holds.word pending pending holds.chained links'

      pub a_below : a.0.number < plan.callers
      a_below = let r = a_reads 0 in let number = number_still K opens step plan m a r.looks r.under in omega (arith, below, number)

      abbrev pub a_chain : HasChain plan.shape a.0.part first tail
      a_chain = as_chain a.0.part first holds.rest tail holds.last a_chained

      pub goes_home : (d : S) → SendsHome K opens step plan first tail a d → GoesHome K opens step plan first.locale m d
      goes_home d sends =
          let old = (sends a_chain).0 in
          let goes = (sends a_chain).1 in
          let last = part_sent first holds.rest tail old a.0.part in
          record {
            reads =
                reads_then K opens step plan first.locale m a d None None (a_reads first.locale)
                (record {
                  looks = home_words first.locale old;
                  under = under_one K opens step plan a d _ last goes (record { phase = refl; token = refl; owned = refl; held = refl; reclaim = refl; client = refl; counts = λ p has. refl });
                  local = one_of first.locale (home_chain first.locale) old refl;
                  unheaded = λ p. refl;
                  head_so = refl;
                });
            empty = record {
              hand = ap (λ (p : Part View'). p.seat.hand) goes.1 ∙ nothing_left a.0.part first.locale first holds.rest pending a_chained;
              tail = ap (λ (p : Part View'). p.seat.homing.tail) goes.1;
              chain = ap (λ (p : Part View'). p.seat.homing.chain) goes.1 ∙ (ap (λ (p : Part View'). p.seat.homing.chain) a_part ∙ holds.chain);
              won = ap (λ (p : Part View'). p.won) goes.1 ∙ a_chained.won;
            };
          }
