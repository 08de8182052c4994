-- What the steps of a give-back come to.
use Rattle.std.proofs.Common.{◌≡◌, ◌<◌, ℕ, true, false, [], ◌∷◌, List, refl, ap, sym, ◌∙◌, subst, arith, Some, None}
use Rattle.std.specs.Prelude.{unwrap_or}
use Rattle.pgas_base.specs.declared.shapes.Shape.{Shape}
use Rattle.pgas_base.specs.Pointers.{Pointer}
use Rattle.pool_core.specs.Headers.{header_word}
use Rattle.pool_core.specs.declared.headers.State.TheVariants.{Free}
use Rattle.epoch_laws.specs.declared.events.EpochEvent.TheVariants.{Returned}
use Rattle.epoch_laws.specs.declared.steps.Kind.TheVariants.{Return}
use Rattle.epoch_laws.specs.Needs.{event}
use Rattle.epoch_laws.specs.Places.{Place, place_of, is_among, without}
use Rattle.epoch_laws.specs.Seats.{Seat, is_reclaiming}
use Rattle.epoch_laws.specs.States.{IsPlace}
use Rattle.epoch_laws.specs.Steps.{move}
use Rattle.epoch_laws.specs.TakeSteps.{give_back}
use Rattle.epoch_laws.proofs.Updates.{number_here, place_here}
use Rattle.epoch_table.specs.declared.parts.Plan.{Plan}
use Rattle.epoch_table.specs.declared.parts.Part.{Part}
use Rattle.epoch_table.specs.Clients.{ClientTerms, Returns}
use Rattle.epoch_table.specs.Facts.{Facts, count_of}
use Rattle.epoch_table.specs.Kinds.{entries_of_items, MayMake, Makes}
use Rattle.epoch_table.specs.Knowledge.{Row, tells}
use Rattle.epoch_table.proofs.Knowledge.{header_read}
use Rattle.epoch_manager.specs.Returning.{HasAlone, part_homed, GoesAlone, home_words, MayReturn, part_returned, ReturnsSeat}
use Rattle.epoch_manager.proofs.TokenSteps.{Seated, Goes, made_of, as_among, then_among}

module _ (shape : Shape) (seats c : ℕ) (seat : Seat) (facts : Facts) where
  return_told : (q : Pointer) (found : ℕ) → seat.hand ≡ []
      → tells shape seats c seat facts (Return q) found ≡ record { seat = record seat { owned = without (place_of q) seat.owned; hand = place_of q ∷ [] }; items = event c (Returned q) }
  unfolding move give_back
  return_told q found none =
      ap (λ (s : Seat). record { seat = s; items = event c (Returned q) })
      (number_here (λ d. seat) c (record seat { owned = without (place_of q) seat.owned; hand = place_of q ∷ seat.hand })
      ∙ ap (λ (l : List Place). record seat { owned = without (place_of q) seat.owned; hand = place_of q ∷ l }) none)

  module _ (below : c < seats) where
    return_row : (q : Pointer) → IsPlace shape (place_of q) → is_reclaiming seat.phase ≡ false → is_among (place_of q) seat.owned ≡ true → count_of facts (place_of q) ≡ Some q.count → Row shape seats c seat facts (Return q)
    unfolding move give_back
    return_row q inside quiet own count = ((below, (inside, (quiet, (ap (λ o. unwrap_or o 0) count, (own, tt))))), count)

module _ {C View' Call Reply State' : Type 0} (K : ClientTerms C View' Call Reply State') (opens : State' → Type 0) (step : State' → Call → Reply → State' → Type 0) (plan : Plan C) where
  pub may_return : (q : Pointer) (m : Seated K opens step plan) → MayReturn K plan q m.0.number m.0.part → MayMake K plan m.0.number (Return q) m.0.part
  may_return q m may = record { row = return_row plan.shape plan.callers m.0.number m.0.part.seat m.0.part.facts may.below q may.inside may.quiet may.own may.count; made = tt; allowed = may.allowed }

  module _ (q : Pointer) (m a : Seated K opens step plan) (may : MayReturn K plan q m.0.number m.0.part) (returns : Makes K opens step plan (Return q) m (header_word q.count Free) a) where
    abbrev facts_free : Facts → Facts
    facts_free facts = record {
      counts = record { place = place_of q; number = Some q.count } ∷ record { place = place_of q; number = None } ∷ facts.counts;
      nexts = record { place = place_of q; number = None } ∷ facts.nexts;
    }

    abbrev PartFree : Part View'
    PartFree = record m.0.part {
      seat = record m.0.part.seat { owned = without (place_of q) m.0.part.seat.owned; hand = place_of q ∷ [] };
      facts = facts_free m.0.part.facts;
      client = K.after m.0.part.client (Returns q) 0;
    }

    free_so : Goes K opens step plan m a [] (entries_of_items m.0.number (event m.0.number (Returned q))) PartFree
    free_so =
        let made = made_of K opens step plan (Return q) m a (header_word q.count Free) _ (return_told plan.shape plan.callers m.0.number m.0.part.seat m.0.part.facts q (header_word q.count Free) may.settled.hand) returns in
        subst
        (λ (n : ℕ).
        Goes K opens step plan m a [] (entries_of_items m.0.number (event m.0.number (Returned q)))
        (record PartFree {
          facts = record {
            counts = record { place = place_of q; number = Some n } ∷ record { place = place_of q; number = None } ∷ m.0.part.facts.counts;
            nexts = record { place = place_of q; number = None } ∷ m.0.part.facts.nexts;
          };
        }))
        (ap (λ h. h.count) (header_read (record { count = q.count; state = Free }))) made

    free_count : count_of PartFree.facts (place_of q) ≡ Some q.count
    free_count = place_here (count_of (record { counts = record { place = place_of q; number = None } ∷ m.0.part.facts.counts; nexts = [] })) (place_of q) (Some q.count)

    pub alone : HasAlone plan.shape a.0.part q
    alone = subst (λ (p : Part View'). HasAlone plan.shape p q) (sym free_so.1) (record { inside = may.inside; hand = refl; tail = may.settled.tail; count = free_count })

    pub still_below : a.0.number < plan.callers
    still_below = let number = free_so.0.same.number in let below = may.below in omega arith

    pub returns_so : (n : Seated K opens step plan) → GoesAlone K opens step plan q a n → ReturnsSeat K opens step plan q m n
    returns_so n home =
        let old = home.0 in
        let entries = entries_of_items m.0.number (event m.0.number (Returned q)) in
        let last = part_returned K q old m.0.part in
        let goes : Goes K opens step plan a n (home_words q.locale old) [] last = subst (λ (p : Part View'). Goes K opens step plan a n (home_words q.locale old) [] (part_homed q old p)) free_so.1 home.1 in (
          old,
          then_among K opens step plan m a n [] (home_words q.locale old) entries [] PartFree last (as_among K opens step plan m a [] entries PartFree free_so) (as_among K opens step plan a n (home_words q.locale old) [] last goes),
        )
