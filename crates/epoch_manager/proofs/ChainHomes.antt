-- A chain of the hand goes home.
use Rattle.std.proofs.Common.{◌≡◌, ◌<◌, ◌==◌, ℕ, List, [], ◌∷◌, Some, None, refl, ap, sym, ◌∙◌, subst, arith, eq-eqb}
use Rattle.pgas_base.specs.declared.shapes.Shape.{Shape}
use Rattle.pgas_base.specs.Pointers.{Pointer}
use Rattle.epoch_laws.specs.declared.steps.Kind.TheVariants.{HomeSwap, HomeLink}
use Rattle.epoch_laws.specs.Chains.{Led, Reaches, IsLed, led_in, led_over}
use Rattle.epoch_laws.specs.Places.{Place, place_of, pending, without_all}
use Rattle.epoch_laws.specs.States.{IsPlace}
use Rattle.epoch_laws.proofs.Lists.{among_here}
use Rattle.epoch_table.specs.declared.parts.Plan.{Plan}
use Rattle.epoch_table.specs.declared.parts.Part.{Part}
use Rattle.epoch_table.specs.Clients.{ClientTerms}
use Rattle.epoch_table.specs.Deeds.{deed}
use Rattle.epoch_table.specs.Facts.{Facts, count_of, facts_after}
use Rattle.epoch_table.specs.Kinds.{looks_of, MayMake, Makes}
use Rattle.epoch_table.specs.Knowledge.{known_words}
use Rattle.epoch_manager.specs.Gathering.{HasChain, part_sent}
use Rattle.epoch_manager.specs.Returning.{home_words}
use Rattle.epoch_manager.specs.TakeSeats.{places, AreOfChain, last_of}
use Rattle.epoch_manager.proofs.HandChains.{last_among, of_last, leads_within}
use Rattle.epoch_manager.proofs.TakeRows.{AreEnds, home_swap_row, home_link_row, home_swap_told, home_link_told}
use Rattle.epoch_manager.proofs.TokenSteps.{Seated, Goes, made_of, then_goes}

-- the last object is one of the shape, of the first one's locale, and its count is known
end_of : (shape : Shape) (f : Facts) (q : Pointer) (rest : List Pointer) → IsPlace shape (place_of q) → count_of f (place_of q) ≡ Some q.count → AreOfChain shape f q.locale rest
    → IsPlace shape (place_of (last_of q rest)) × (count_of f (place_of (last_of q rest)) ≡ Some (last_of q rest).count) × ((last_of q rest).locale ≡ q.locale)
end_of shape f q [] place count each = (place, count, refl)
end_of shape f q (r ∷ rest) place count each = let one = of_last shape f q.locale r rest each in (one.inside, one.count, one.local)

module _ {C View' Call Reply State' : Type 0} (K : ClientTerms C View' Call Reply State') (opens : State' → Type 0) (step : State' → Call → Reply → State' → Type 0) (plan : Plan C) (top tail : Pointer) (m : Seated K opens step plan) (below : m.0.number < plan.callers)
    (chain : HasChain plan.shape m.0.part top tail) where
  abbrev gone : List Place
  gone = places (top ∷ chain.rest)

  pub tail_place : IsPlace plan.shape (place_of tail)
  tail_place = subst (λ q. IsPlace plan.shape (place_of q)) (sym chain.last) (end_of plan.shape m.0.part.facts top chain.rest chain.place chain.count chain.each).0

  ends : AreEnds plan.shape plan.callers m.0.number m.0.part.seat m.0.part.facts below top.locale top (last_of top chain.rest)
  ends =
      let end = end_of plan.shape m.0.part.facts top chain.rest chain.place chain.count chain.each in
      record {
        top_inside = chain.place;
        tail_inside = end.0;
        top_count = chain.count;
        tail_count = end.1;
        top_hand = chain.inside (place_of top) (among_here (place_of top) (places chain.rest));
        tail_hand = chain.inside (place_of (last_of top chain.rest)) (last_among top chain.rest);
        top_locale = refl;
        tail_locale = end.2;
      }

  -- from the top to an object
  abbrev way : ℕ → Pointer → Led
  way found q = led_in (known_words m.0.part.facts found) m.0.part.seat.hand (λ word. word == pending) (place_of top) (place_of q)

  leads : (found : ℕ) → way found (last_of top chain.rest) ≡ Reaches gone
  leads found =
      leads_within plan.shape m.0.part.facts found (λ word. word == pending) m.0.part.seat.hand top chain.rest pending chain.linked chain.each chain.distinct chain.inside (eq-eqb pending pending refl)

  pub may_swap : MayMake K plan m.0.number (HomeSwap top tail) m.0.part
  may_swap =
      subst (λ q. MayMake K plan m.0.number (HomeSwap top q) m.0.part) (sym chain.last)
      (record {
        row = home_swap_row plan.shape plan.callers m.0.number m.0.part.seat m.0.part.facts below top (last_of top chain.rest) ends chain.none chain.known (subst IsLed (sym (leads 0)) tt);
        made = tt;
        allowed = tt;
      })

  module _ (old : ℕ) (b : Seated K opens step plan) (swaps : Makes K opens step plan (HomeSwap top tail) m old b) where
    abbrev swapped : List Place → Part View'
    swapped over = record m.0.part { seat = record m.0.part.seat { hand = without_all over m.0.part.seat.hand; homing = record m.0.part.seat.homing { tail = Some (place_of tail); old = old } } }

    led : led_over (way old tail) ≡ gone
    unfolding led_over
    led = ap (λ q. led_over (way old q)) chain.last ∙ ap led_over (leads old)

    swapped_so : Goes K opens step plan m b (home_words top.locale old) [] (swapped gone)
    swapped_so =
        subst (λ over. Goes K opens step plan m b (home_words top.locale old) [] (swapped over)) led
        (made_of K opens step plan (HomeSwap top tail) m b old _ (home_swap_told plan.shape plan.callers m.0.number m.0.part.seat m.0.part.facts top tail old) swaps)

    pub waits_so : (b.0.part.seat.homing.tail ≡ Some (place_of tail)) × (old ≡ b.0.part.seat.homing.old)
    waits_so = (ap (λ (p : Part View'). p.seat.homing.tail) swapped_so.1, sym (ap (λ (p : Part View'). p.seat.homing.old) swapped_so.1))

    pub may_end : MayMake K plan b.0.number HomeLink b.0.part
    may_end =
        let number = swapped_so.0.same.number in
        record { row = home_link_row plan.shape plan.callers b.0.number b.0.part.seat b.0.part.facts (omega arith) (place_of tail) waits_so.0; made = tt; allowed = tt }

    pub sent_so : (n : Seated K opens step plan) → Makes K opens step plan HomeLink b old n → Goes K opens step plan m n (home_words top.locale old) [] (part_sent top chain.rest tail old m.0.part)
    sent_so n ends =
        let made = made_of K opens step plan HomeLink b n old _ (home_link_told plan.shape plan.callers b.0.number b.0.part.seat b.0.part.facts old) ends in
        let last = part_sent top chain.rest tail old m.0.part in
        let goes : Goes K opens step plan b n [] [] last =
        subst
        (λ (p : Part View').
        Goes K opens step plan b n (looks_of (deed p.seat HomeLink) old) [] (record p { seat = record p.seat { homing = record p.seat.homing { tail = None } }; facts = facts_after p.seat HomeLink p.facts old }))
        swapped_so.1 made in
        then_goes K opens step plan m b n (home_words top.locale old) [] [] (swapped gone) last swapped_so goes
