-- What the clauses of a take say.
use Rattle.std.proofs.Common.{◌≡◌, ◌&&◌, ◌==◌, ℕ, Bool, true, false, List, [], ◌∷◌, ◌++◌, Result, Ok, Err, map, refl, ap, ap₂, sym, ◌∙◌, subst, inl, inr, ⊎_elim, arith}
use Rattle.std.specs.Prelude.{is_some, is_none, not, unwrap_or}
use Rattle.std.proofs.lemmas.Bool.{false≢true}
use Rattle.pass_book.specs.declared.entries.Look.{Look}
use Rattle.pgas_base.specs.Pointers.{Pointer}
use Rattle.pgas_base.specs.Shapes.{IsShape}
use Rattle.epoch_laws.specs.declared.events.EpochEvent.TheVariants.{Given}
use Rattle.epoch_laws.specs.Needs.{event}
use Rattle.epoch_laws.specs.Places.{Place, place_of, same_token}
use Rattle.epoch_laws.specs.Seats.{Seat, is_reclaiming}
use Rattle.epoch_laws.specs.Words.{WordName}
use Rattle.epoch_table.specs.declared.parts.Plan.{Plan}
use Rattle.epoch_table.specs.declared.parts.Part.{Part}
use Rattle.epoch_table.specs.Clients.{ClientTerms}
use Rattle.epoch_table.specs.Facts.{Facts, count_of}
use Rattle.epoch_table.specs.Rule.{is_between}
use Rattle.epoch_manager.specs.declared.faults.TakeFault.{TakeFault}
use Rattle.epoch_manager.specs.declared.faults.TakeFault.TheVariants.{NoRoom, Spent}
use Rattle.epoch_manager.specs.declared.phases.Phase.{Phase}
use Rattle.epoch_manager.specs.declared.phases.Phase.TheVariants.{Idle, Registered, Pinned}
use Rattle.epoch_manager.specs.Fits.{is_nil, is_idle, is_registered, is_pinned, stands_as, is_done, is_place, are_known, may_hold, PassFits}
use Rattle.epoch_manager.specs.Managers.{pointer_of, pointers}
use Rattle.epoch_manager.specs.TakeCalls.{owned_then, knows_then, IsInside, IsTold, Refuses, TakesSeat}
use Rattle.epoch_manager.specs.Takes.{CanSpend, taken_items}
use Rattle.epoch_manager.specs.Tours.{TakeCause, TakeReads}
use Rattle.epoch_manager.specs.TakeSeats.{IsKnowing, IsEmptyHanded, TakesOne, MayTry}
use Rattle.epoch_manager.proofs.HoldClauses.{known_one}
use Rattle.epoch_manager.proofs.Known.{both, and_so, some_so, so_place, known_agree, pointers_agree}
use Rattle.epoch_manager.proofs.ObjectSteps.{rests_so}
use Rattle.epoch_manager.proofs.PassClauses.{Done, done}
use Rattle.epoch_manager.proofs.Returned.{settled_so}
use Rattle.epoch_manager.proofs.TokenSteps.{Seated, Goes}

places_back : (facts : Facts) (places : List Place) → map place_of (pointers facts places) ≡ places
places_back facts [] = refl
places_back facts (p ∷ places) = ap (λ l. p ∷ l) (places_back facts places)

last_empty : {A : Type 0} (xs ys : List A) → xs ++ ys ≡ [] → ys ≡ []
last_empty [] ys none = none
last_empty (x ∷ xs) ys none = absurd cc

zero_so : (n : ℕ) → (n == 0) ≡ true → n ≡ 0
zero_so n is = grind arith

not_true : (b : Bool) → not b ≡ true → b ≡ false
not_true true is = absurd (false≢true is)
not_true false is = refl

stands_same : (a b : Seat) (phase : Phase) → a.phase ≡ b.phase → a.token ≡ b.token → stands_as b phase ≡ true → stands_as a phase ≡ true
stands_same a b Idle p t stands = ap is_idle p ∙ stands
stands_same a b (Registered token) p t stands = ap₂ (λ x y. is_registered x && same_token y token) p t ∙ stands
stands_same a b (Pinned token) p t stands = ap₂ (λ x y. is_pinned x && same_token y token) p t ∙ stands

module _ {C View' Call Reply State' : Type 0} (K : ClientTerms C View' Call Reply State') (opens : State' → Type 0) (step : State' → Call → Reply → State' → Type 0) (plan : Plan C) where
  done_again : (part : Part View') → IsEmptyHanded part → is_nil part.seat.reclaim.walked ≡ true → is_done part.seat part.won ≡ true
  done_again part empty walked =
      and_so (is_nil part.seat.hand) _ (ap is_nil empty.hand)
      (and_so (is_none part.seat.homing.tail) _ (ap is_none empty.tail)
      (and_so (part.seat.homing.chain == 0) _ (ap (λ x. x == 0) empty.chain) (and_so (is_nil part.seat.reclaim.walked) (not part.won) walked (ap not empty.won))))

  module _ (m : Seated K opens step plan) (phase : Phase) (fits : PassFits plan m.0 phase) where
    abbrev was : Part View'
    was = m.0.part

    last_two : (is_nil was.seat.reclaim.walked ≡ true) × (not was.won ≡ true)
    last_two = both (is_nil was.seat.reclaim.walked) (not was.won) (both (was.seat.homing.chain == 0) _ (settled_so was.seat was.won fits.kept.done).1).1

    empty : IsEmptyHanded was
    empty =
        let settled = settled_so was.seat was.won fits.kept.done in
        record { hand = settled.0.hand; tail = settled.0.tail; chain = zero_so was.seat.homing.chain (both (was.seat.homing.chain == 0) _ settled.1).0; won = not_true was.won last_two.1 }

    knowing : IsKnowing was
    knowing p has =
        ⊎_elim
        (λ h. (unwrap_or (count_of was.facts p) 0, some_so (count_of was.facts p) (known_one plan.shape was.facts was.seat.owned fits.kept.owned p h).1))
        (λ h. (unwrap_or (count_of was.facts p) 0, some_so (count_of was.facts p) (known_one plan.shape was.facts was.seat.held fits.kept.held p h).1))
        has

    resting : (is_between was.seat.phase ≡ true) × (is_reclaiming was.seat.phase ≡ false)
    resting = rests_so was.seat phase fits.stands

    pub may_take : K.may_take was.client (map place_of (pointers was.facts was.seat.owned)) → MayTry K opens step plan m.0.number was
    may_take allowed = record {
      below = fits.below;
      quiet = resting.1;
      empty = empty;
      known = knowing;
      allowed = subst (λ l. K.may_take was.client l) (places_back was.facts was.seat.owned) allowed;
    }

    module _ (n : Seated K opens step plan) where
      abbrev now : Part View'
      now = n.0.part

      -- an object was taken
      module _ (q : Pointer) (takes : TakesOne K opens step plan m n q) where
        own_known : are_known plan.shape now.facts (place_of q ∷ was.seat.owned) ≡ true
        own_known =
            and_so (is_place plan.shape (place_of q) && is_some (count_of now.facts (place_of q))) _
            (and_so (is_place plan.shape (place_of q)) (is_some (count_of now.facts (place_of q))) (so_place plan.shape (place_of q) takes.inside) (ap is_some takes.count))
            (known_agree was.facts now.facts plan.shape was.seat.owned (λ p h. takes.counts p (inl h)) fits.kept.owned)

        taken_done : Done K opens step plan m n takes.looks (event m.0.number (Given q)) now phase
        taken_done =
            done K opens step plan m n takes.looks (event m.0.number (Given q)) now phase phase fits takes.goes (ap is_between takes.phase ∙ resting.0) (stands_same now.seat was.seat phase takes.phase takes.token fits.stands) fits.inside
            (record {
              done = done_again now takes.rests (ap (λ r. is_nil r.walked) takes.reclaim ∙ last_two.0);
              owned = subst (λ l. are_known plan.shape now.facts l ≡ true) (sym takes.owned) own_known;
              held =
                  subst (λ l. are_known plan.shape now.facts l ≡ true) (sym takes.held)
                  (known_agree was.facts now.facts plan.shape was.seat.held (λ p h. takes.counts p (inr h)) fits.kept.held);
              pinned = subst (λ l. may_hold phase l ≡ true) (sym takes.held) fits.kept.pinned;
            })

        this_one : pointer_of now.facts (place_of q) ≡ q
        this_one = let c = ap (λ x. unwrap_or x 0) takes.count in λ i. record { locale = q.locale; index = q.index; count = c i }

        taken_owned : pointers now.facts now.seat.owned ≡ q ∷ pointers was.facts was.seat.owned
        taken_owned =
            let rest = pointers_agree was.facts now.facts was.seat.owned (λ p h. takes.counts p (inl h)) in
            ap (λ l. pointers now.facts l) takes.owned ∙ (λ i. this_one i ∷ rest i)

        taken_held : pointers now.facts now.seat.held ≡ pointers was.facts was.seat.held
        taken_held = ap (λ l. pointers now.facts l) takes.held ∙ pointers_agree was.facts now.facts was.seat.held (λ p h. takes.counts p (inr h))

      -- none was
      module _ (shaped : IsShape plan.shape) (asked : ℕ) (fault : TakeFault) (refuses : Refuses K opens step plan asked fault m n) where
        some_read : (f : TakeFault) → TakeCause plan.shape asked (Err f) [] → ⊥
        some_read (NoRoom l) cause = cause.1.taken (record { locale = 0; index = 1 }) (let ls = shaped.0.0 in let os = shaped.2.0 in record { locale = omega arith; some_object = omega arith; index = omega arith })
        some_read (Spent count) cause = false≢true cause.1.2

        refused_goes : Goes K opens step plan m n refuses.looks [] now
        refused_goes =
            let cause = refuses.cause in
            ⊎_elim (λ t. absurd (some_read fault (subst (TakeCause plan.shape asked (Err fault)) (last_empty cause.before cause.last (sym cause.words ∙ t.1)) cause.cause))) (λ t. t) refuses.under.so

        refused_done : Done K opens step plan m n refuses.looks [] now phase
        refused_done =
            let same = refuses.under.same in
            done K opens step plan m n refuses.looks [] now phase phase fits refused_goes (ap is_between same.phase ∙ resting.0) (stands_same now.seat was.seat phase same.phase same.token fits.stands) fits.inside
            (record {
              done = done_again now refuses.rests (ap (λ r. is_nil r.walked) same.reclaim ∙ last_two.0);
              owned =
                  subst (λ l. are_known plan.shape now.facts l ≡ true) (sym same.owned)
                  (known_agree was.facts now.facts plan.shape was.seat.owned (λ p h. same.counts p (inl h)) fits.kept.owned);
              held =
                  subst (λ l. are_known plan.shape now.facts l ≡ true) (sym same.held)
                  (known_agree was.facts now.facts plan.shape was.seat.held (λ p h. same.counts p (inr h)) fits.kept.held);
              pinned = subst (λ l. may_hold phase l ≡ true) (sym same.held) fits.kept.pinned;
            })

        refused_owned : pointers now.facts now.seat.owned ≡ pointers was.facts was.seat.owned
        refused_owned =
            let same = refuses.under.same in ap (λ l. pointers now.facts l) same.owned ∙ pointers_agree was.facts now.facts was.seat.owned (λ p h. same.counts p (inl h))

        refused_held : pointers now.facts now.seat.held ≡ pointers was.facts was.seat.held
        refused_held =
            let same = refuses.under.same in ap (λ l. pointers now.facts l) same.held ∙ pointers_agree was.facts now.facts was.seat.held (λ p h. same.counts p (inr h))

      -- either
      abbrev pub words_of : (asked : ℕ) (result : Result Pointer TakeFault) → TakesSeat K opens step plan asked m n result → List (Look WordName)
      words_of asked (Ok q) takes = takes.0.looks
      words_of asked (Err fault) refuses = refuses.looks

      module _ (shaped : IsShape plan.shape) (asked : ℕ) where
        pub take_done : (result : Result Pointer TakeFault) (takes : TakesSeat K opens step plan asked m n result) → Done K opens step plan m n (words_of asked result takes) (taken_items m.0.number result) now phase
        take_done (Ok q) takes = taken_done q takes.0
        take_done (Err fault) refuses = refused_done shaped asked fault refuses

        pub take_reads : (result : Result Pointer TakeFault) (takes : TakesSeat K opens step plan asked m n result) → TakeReads plan.shape asked result (words_of asked result takes)
        take_reads (Ok q) takes = takes.1
        take_reads (Err fault) refuses = refuses.cause

        pub take_owned : (result : Result Pointer TakeFault) → TakesSeat K opens step plan asked m n result → pointers now.facts now.seat.owned ≡ owned_then (pointers was.facts was.seat.owned) result
        take_owned (Ok q) takes = taken_owned q takes.0
        take_owned (Err fault) refuses = refused_owned shaped asked fault refuses

        pub take_held : (result : Result Pointer TakeFault) → TakesSeat K opens step plan asked m n result → pointers now.facts now.seat.held ≡ pointers was.facts was.seat.held
        take_held (Ok q) takes = taken_held q takes.0
        take_held (Err fault) refuses = refused_held shaped asked fault refuses

        pub take_same : (result : Result Pointer TakeFault) → TakesSeat K opens step plan asked m n result → now.seat.held ≡ was.seat.held
        take_same (Ok q) takes = takes.0.held
        take_same (Err fault) refuses = refuses.under.same.held

        pub take_knows : (result : Result Pointer TakeFault) → TakesSeat K opens step plan asked m n result → now.client ≡ knows_then K was.client result
        take_knows (Ok q) takes = takes.0.client
        take_knows (Err fault) refuses = refuses.under.same.client

        pub take_inside : (result : Result Pointer TakeFault) → TakesSeat K opens step plan asked m n result → IsInside plan.shape result
        take_inside (Ok q) takes = takes.0.inside
        take_inside (Err fault) refuses = tt

        pub take_told : (result : Result Pointer TakeFault) → TakesSeat K opens step plan asked m n result → IsTold asked result
        take_told (Ok q) takes = tt
        take_told (Err fault) refuses = refuses.tells

        pub take_spent : (result : Result Pointer TakeFault) → TakesSeat K opens step plan asked m n result → (count : ℕ) → result ≡ Err (Spent count) → CanSpend plan n.0.seen
        take_spent (Ok q) takes count is = absurd cc
        take_spent (Err fault) refuses count is = refuses.can_spend count cc
