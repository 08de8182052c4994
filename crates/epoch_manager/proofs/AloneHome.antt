-- An object of the hand goes home as a chain of one.
use Rattle.std.proofs.Common.{◌≡◌, ◌<◌, ℕ, true, List, [], ◌∷◌, None, Some, refl, ap, sym, ◌∙◌, subst, arith}
use Rattle.pgas_base.specs.Pointers.{Pointer}
use Rattle.epoch_laws.specs.declared.steps.Kind.TheVariants.{HandLink}
use Rattle.epoch_laws.specs.Places.{Place, place_of, pending, is_among, without_all}
use Rattle.epoch_laws.proofs.Lists.{among_here, among_one, among_none}
use Rattle.epoch_laws.proofs.Updates.{place_here}
use Rattle.epoch_table.specs.declared.parts.Plan.{Plan}
use Rattle.epoch_table.specs.declared.parts.Part.{Part}
use Rattle.epoch_table.specs.Clients.{ClientTerms}
use Rattle.epoch_table.specs.Facts.{count_of, next_word_of}
use Rattle.epoch_table.specs.Kinds.{MayMake, Makes}
use Rattle.epoch_manager.specs.Gathering.{HasChain, SendsHome, part_sent}
use Rattle.epoch_manager.specs.Returning.{HasAlone, part_homed, GoesAlone, home_words}
use Rattle.epoch_manager.proofs.TakeRows.{hand_link_row, hand_link_told}
use Rattle.epoch_manager.proofs.TokenSteps.{Seated, Goes, made_of, then_goes}

one_gone : (p : Place) → without_all (p ∷ []) (p ∷ []) ≡ []
unfolding without_all
one_gone p = rw (among_here p []) refl

module _ {C View' Call Reply State' : Type 0} (K : ClientTerms C View' Call Reply State') (opens : State' → Type 0) (step : State' → Call → Reply → State' → Type 0) (plan : Plan C) (q : Pointer) (m : Seated K opens step plan) (below : m.0.number < plan.callers)
    (has : HasAlone plan.shape m.0.part q) where
  abbrev p : Place
  p = place_of q

  pub may_link : MayMake K plan m.0.number (HandLink q pending) m.0.part
  may_link = record {
    row = hand_link_row plan.shape plan.callers m.0.number m.0.part.seat m.0.part.facts below q pending has.inside has.count (subst (λ h. is_among p h ≡ true) (sym has.hand) (among_here p []));
    made = tt;
    allowed = tt;
  }

  module _ (b : Seated K opens step plan) (links : Makes K opens step plan (HandLink q pending) m pending b) where
    abbrev linked : Part View'
    linked = record m.0.part { facts = record m.0.part.facts { nexts = record { place = p; number = Some pending } ∷ m.0.part.facts.nexts } }

    linked_so : Goes K opens step plan m b [] [] linked
    linked_so = made_of K opens step plan (HandLink q pending) m b pending _ (hand_link_told plan.shape plan.callers m.0.number m.0.part.seat m.0.part.facts q pending pending) links

    pub still_below : b.0.number < plan.callers
    still_below = let number = linked_so.0.same.number in omega arith

    linked_next : next_word_of linked.facts p ≡ Some pending
    linked_next = place_here (next_word_of m.0.part.facts) p (Some pending)

    abbrev chain : HasChain plan.shape linked q q
    chain = record {
      rest = [];
      last = refl;
      inside = λ r h. subst (λ l. is_among r l ≡ true) (sym has.hand) h;
      distinct = (among_none p, tt);
      linked = linked_next;
      place = has.inside;
      count = has.count;
      each = tt;
      known = λ r h.
          let is : r ≡ p = among_one r p (subst (λ l. is_among r l ≡ true) has.hand h) in
          ((q.count, ap (count_of linked.facts) is ∙ has.count), (pending, ap (next_word_of linked.facts) is ∙ linked_next));
      none = has.tail;
    }

    pub has_chain : HasChain plan.shape b.0.part q q
    has_chain = subst (λ (x : Part View'). HasChain plan.shape x q q) (sym linked_so.1) chain

    pub alone_so : (n : Seated K opens step plan) → SendsHome K opens step plan q q b n → GoesAlone K opens step plan q m n
    alone_so n sends =
        let so : (chain' : HasChain plan.shape linked q q) → (old : ℕ) × Goes K opens step plan b n (home_words q.locale old) [] (part_sent q chain'.rest q old linked) =
        subst (λ (x : Part View'). (chain' : HasChain plan.shape x q q) → (old : ℕ) × Goes K opens step plan b n (home_words q.locale old) [] (part_sent q chain'.rest q old x)) linked_so.1 sends in
        let old = (so chain).0 in
        let hand : without_all (p ∷ []) linked.seat.hand ≡ [] = ap (without_all (p ∷ [])) has.hand ∙ one_gone p in
        let goes : Goes K opens step plan b n (home_words q.locale old) [] (part_homed q old m.0.part) =
        subst
        (λ (l : List Place).
        Goes K opens step plan b n (home_words q.locale old) [] (record (part_homed q old m.0.part) { seat = record m.0.part.seat { hand = l; homing = record m.0.part.seat.homing { tail = None; old = old } } }))
        hand (so chain).1 in
        (old, then_goes K opens step plan m b n [] (home_words q.locale old) [] linked (part_homed q old m.0.part) linked_so goes)
