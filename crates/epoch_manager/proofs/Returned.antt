-- What a give-back comes to for its pass.
use Rattle.std.proofs.Common.{◌≡◌, ◌==◌, ◌&&◌, ℕ, Bool, true, List, [], ◌∷◌, Option, Some, None, refl, ap, sym, ◌∙◌}
use Rattle.std.specs.Prelude.{Contains, not, is_none}
use Rattle.std.proofs.lemmas.Bool.{false≢true}
use Rattle.pgas_base.specs.Pointers.{Pointer}
use Rattle.epoch_laws.specs.declared.events.EpochEvent.TheVariants.{Returned}
use Rattle.epoch_laws.specs.Needs.{event}
use Rattle.epoch_laws.specs.Places.{Place, place_of}
use Rattle.epoch_laws.specs.Seats.{Seat}
use Rattle.epoch_laws.proofs.Updates.{at_place, place_there}
use Rattle.epoch_table.specs.declared.parts.Plan.{Plan}
use Rattle.epoch_table.specs.declared.parts.Part.{Part}
use Rattle.epoch_table.specs.Clients.{ClientTerms}
use Rattle.epoch_table.specs.Facts.{Facts, count_of}
use Rattle.epoch_manager.specs.declared.phases.Phase.{Phase}
use Rattle.epoch_manager.specs.Fits.{is_nil, is_done, PassFits}
use Rattle.epoch_manager.specs.Managers.{pointers, others}
use Rattle.epoch_manager.specs.Returning.{home_words, IsSettled, MayReturn, facts_returned, part_returned, ReturnsSeat}
use Rattle.epoch_manager.proofs.Known.{both, known_but, known_agree, pointers_agree, pointers_without}
use Rattle.epoch_manager.proofs.ObjectSteps.{own, rests_so}
use Rattle.epoch_manager.proofs.PassClauses.{Done, done_among}
use Rattle.epoch_manager.proofs.TokenSteps.{Seated}

nil_so : (places : List Place) → is_nil places ≡ true → places ≡ []
nil_so [] is = refl
nil_so (p ∷ places) is = absurd (false≢true is)

none_so : (x : Option Place) → is_none x ≡ true → x ≡ None
none_so None is = refl
none_so (Some p) is = absurd (false≢true is)

-- a seat with nothing under way has nothing in its hand, and no chain of it waits for its link
pub settled_so : (seat : Seat) (won : Bool) → is_done seat won ≡ true → IsSettled seat × (((seat.homing.chain == 0) && (is_nil seat.reclaim.walked && not won)) ≡ true)
settled_so seat won is =
    let rest : Bool = (seat.homing.chain == 0) && (is_nil seat.reclaim.walked && not won) in
    let first = both (is_nil seat.hand) (is_none seat.homing.tail && rest) is in
    let second = both (is_none seat.homing.tail) rest first.1 in
    (record { hand = nil_so seat.hand first.0; tail = none_so seat.homing.tail second.0 }, second.1)

-- as much is known of counts as before
returned_agree : (facts : Facts) (q : Pointer) (old : ℕ) → count_of facts (place_of q) ≡ Some q.count → (p : Place) → count_of (facts_returned q old facts) p ≡ count_of facts p
returned_agree facts q old count =
    at_place (λ p x. x ≡ count_of facts p) (count_of (record { counts = record { place = place_of q; number = None } ∷ facts.counts; nexts = [] })) (place_of q) (Some q.count) (sym count)
    (λ p ne. place_there (count_of facts) (place_of q) None p ne)

module _ {C View' Call Reply State' : Type 0} (K : ClientTerms C View' Call Reply State') (opens : State' → Type 0) (step : State' → Call → Reply → State' → Type 0) (plan : Plan C) (m : Seated K opens step plan) (phase : Phase) (fits : PassFits plan m.0 phase) (q : Pointer)
    (has : Contains (pointers m.0.part.facts m.0.part.seat.owned) q) where
  pub may_give : K.gives_back → MayReturn K plan q m.0.number m.0.part
  may_give allowed =
      let known = own K opens step plan m m phase fits q has in record {
        below = fits.below;
        inside = known.inside;
        settled = (settled_so m.0.part.seat m.0.part.won fits.kept.done).0;
        quiet = (rests_so m.0.part.seat phase fits.stands).1;
        own = known.among;
        count = known.count;
        allowed = allowed;
      }

  module _ (n : Seated K opens step plan) (returns : ReturnsSeat K opens step plan q m n) where
    abbrev after : Part View'
    after = part_returned K q returns.0 m.0.part

    agree : (p : Place) → count_of after.facts p ≡ count_of m.0.part.facts p
    agree = returned_agree m.0.part.facts q returns.0 (own K opens step plan m m phase fits q has).count

    pub give_done : Done K opens step plan m n (home_words q.locale returns.0) (event m.0.number (Returned q)) after phase
    give_done =
        done_among K opens step plan m n (home_words q.locale returns.0) (event m.0.number (Returned q)) after phase phase fits returns.1 (rests_so m.0.part.seat phase fits.stands).0 fits.stands fits.inside
        (record {
          done = (settled_so m.0.part.seat m.0.part.won fits.kept.done).1;
          owned = known_agree m.0.part.facts after.facts plan.shape after.seat.owned (λ p h. agree p) (known_but plan.shape m.0.part.facts (place_of q) m.0.part.seat.owned fits.kept.owned);
          held = known_agree m.0.part.facts after.facts plan.shape m.0.part.seat.held (λ p h. agree p) fits.kept.held;
          pinned = fits.kept.pinned;
        })

    pub give_owned : pointers n.0.part.facts n.0.part.seat.owned ≡ others q (pointers m.0.part.facts m.0.part.seat.owned)
    give_owned =
        ap (λ (p : Part View'). pointers p.facts p.seat.owned) give_done.goes.1
        ∙ (pointers_agree m.0.part.facts after.facts after.seat.owned (λ p h. agree p) ∙ pointers_without m.0.part.facts q m.0.part.seat.owned)

    pub give_held : pointers n.0.part.facts n.0.part.seat.held ≡ pointers m.0.part.facts m.0.part.seat.held
    give_held = ap (λ (p : Part View'). pointers p.facts p.seat.held) give_done.goes.1 ∙ pointers_agree m.0.part.facts after.facts m.0.part.seat.held (λ p h. agree p)
