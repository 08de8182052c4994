-- What the steps of a reclaim come to from its global election to its scan.
use Rattle.std.proofs.Common.{◌≡◌, ◌≢◌, ◌<◌, ◌*◌, ℕ, true, List, [], ◌∷◌, Ok, Err, refl, ap, sym, ◌∙◌, subst, arith, inl, inr, append-nil}
use Rattle.pass_book.specs.declared.entries.Look.{Look}
use Rattle.epoch_laws.specs.declared.events.Item.TheVariants.{Claim, Leave as Leaves}
use Rattle.epoch_laws.specs.declared.steps.Kind.TheVariants.{ElectGlobal, Leave}
use Rattle.epoch_laws.specs.ReclaimSteps.{has_global, MayLeave}
use Rattle.epoch_laws.specs.Seats.{Phase, WonLocal, WonGlobal, Stopped, LostGlobal, LeftGlobal}
use Rattle.epoch_laws.specs.Words.{WordName}
use Rattle.epoch_table.specs.declared.parts.Plan.{Plan}
use Rattle.epoch_table.specs.declared.parts.Part.{Part}
use Rattle.epoch_table.specs.Clients.{ClientTerms}
use Rattle.epoch_table.specs.Deeds.{deed}
use Rattle.epoch_table.specs.Events.{items_in}
use Rattle.epoch_table.specs.Facts.{facts_after}
use Rattle.epoch_table.specs.Kinds.{looks_of, entries_of_items, MayMake, Makes}
use Rattle.epoch_manager.specs.declared.faults.NotNow.{NotNow}
use Rattle.epoch_manager.specs.declared.faults.NotNow.TheVariants.{LocalBusy, GlobalBusy, EpochsSpent, Held}
use Rattle.epoch_manager.specs.Reclaiming.{scanned, epoch_read, looking, reclaimed_to, global_read, IsRefusedBy, IsRefusedGlobally, LooksAndScans, EntersGlobally}
use Rattle.epoch_manager.proofs.Marks.{global_mark}
use Rattle.epoch_manager.proofs.ReclaimSteps.{global_won, global_lost, global_left, global_row, leave_row}
use Rattle.epoch_manager.proofs.TokenSteps.{Seated, Goes, Among, made_of, as_among, then_among}

module _ {C View' Call Reply State' : Type 0} (K : ClientTerms C View' Call Reply State') (opens : State' → Type 0) (step : State' → Call → Reply → State' → Type 0) (plan : Plan C) where
  pub may_elect : (m : Seated K opens step plan) → m.0.number < plan.callers → m.0.part.seat.phase ≡ WonLocal → MayMake K plan m.0.number ElectGlobal m.0.part
  may_elect m below is = record { row = global_row plan.shape plan.callers m.0.number m.0.part.seat m.0.part.facts below is; made = tt; allowed = tt }

  -- the part in another phase
  abbrev in_phase : Phase → Part View' → Part View'
  in_phase phase part = record part { seat = record part.seat { phase = phase } }

  module _ (m j : Seated K opens step plan) (found : ℕ) (elects : Makes K opens step plan ElectGlobal m found j) where
    pub busy_so : found ≢ 0 → EntersGlobally K opens step plan m j (Err GlobalBusy)
    busy_so ne =
        let made = made_of K opens step plan ElectGlobal m j found _ (global_lost plan.shape plan.callers m.0.number m.0.part.seat m.0.part.facts found ne) elects in
        let meets = elects.1.0.meets in
        let one : found ≡ 1 = global_mark plan.start.count (items_in meets.0) found meets.2 ne in (
          global_read found ∷ [],
          [],
          (ap (λ w. global_read w ∷ []) one, refl),
          (LostGlobal, m.0.part.seat.reclaim.epoch, m.0.part.seat.reclaim.scan, inl refl, as_among K opens step plan m j (global_read found ∷ []) [] (in_phase LostGlobal m.0.part) made),
        )

    module _ (is : found ≡ 0) where
      won_so : Goes K opens step plan m j (global_read 0 ∷ []) (entries_of_items m.0.number (Claim m.0.number true ∷ [])) (in_phase WonGlobal m.0.part)
      won_so =
          let made = made_of K opens step plan ElectGlobal m j found _ (global_won plan.shape plan.callers m.0.number m.0.part.seat m.0.part.facts found is) elects in
          subst (λ w. Goes K opens step plan m j (global_read w ∷ []) (entries_of_items m.0.number (Claim m.0.number true ∷ [])) (in_phase WonGlobal m.0.part)) is made

      pub phase_won : j.0.part.seat.phase ≡ WonGlobal
      phase_won = ap (λ (p : Part View'). p.seat.phase) won_so.1

      pub still_below : m.0.number < plan.callers → j.0.number < plan.callers
      still_below below = let number = won_so.0.same.number in omega arith

      module _ (k : Seated K opens step plan) where
        pub entered_so : (epoch : ℕ) → LooksAndScans K opens step plan j k (Ok epoch) → EntersGlobally K opens step plan m k (Ok epoch)
        entered_so epoch looks =
            let all = plan.shape.locales * plan.shape.tokens in
            let words = looks.1.0 in
            let last = scanned plan.shape.tokens all (looking epoch m.0.part) in
            let goes : Goes K opens step plan j k (epoch_read epoch ∷ words) [] last = subst (λ (p : Part View'). Goes K opens step plan j k (epoch_read epoch ∷ words) [] (scanned plan.shape.tokens all (looking epoch p))) won_so.1 looks.1.2 in (
              looks.0,
              (
                words,
                looks.1.1,
                then_among K opens step plan m j k (global_read 0 ∷ []) (epoch_read epoch ∷ words) (entries_of_items m.0.number (Claim m.0.number true ∷ [])) [] (in_phase WonGlobal m.0.part) last
                    (as_among K opens step plan m j (global_read 0 ∷ []) (entries_of_items m.0.number (Claim m.0.number true ∷ [])) (in_phase WonGlobal m.0.part) won_so)
                    (as_among K opens step plan j k (epoch_read epoch ∷ words) [] last goes),
              ),
            )

        module _ (fault : NotNow) (looks : LooksAndScans K opens step plan j k (Err fault)) where
          stopped_so : Goes K opens step plan j k looks.0 [] (reclaimed_to Stopped looks.2.0 looks.2.1 m.0.part)
          stopped_so = subst (λ (p : Part View'). Goes K opens step plan j k looks.0 [] (reclaimed_to Stopped looks.2.0 looks.2.1 p)) won_so.1 looks.2.2

          pub has_it : has_global k.0.part.seat.phase ≡ true
          unfolding has_global
          has_it = ap (λ (p : Part View'). has_global p.seat.phase) stopped_so.1

          pub may_leave : m.0.number < plan.callers → m.0.part.seat.hand ≡ [] → MayMake K plan k.0.number Leave k.0.part
          may_leave below none =
              let first = won_so.0.same.number in
              let second = stopped_so.0.same.number in
              let is = stopped_so.1 in
              record {
                row = leave_row plan.shape plan.callers k.0.number k.0.part.seat k.0.part.facts (omega arith)
                    (subst (λ (p : Part View'). MayLeave plan.shape.locales p.seat.phase p.seat.reclaim) (sym is) tt)
                    (ap (λ (p : Part View'). p.seat.hand) is ∙ none);
                made = tt;
                allowed = tt;
              }

          refused : (f : NotNow) → IsRefusedBy plan.shape f looks.0 → IsRefusedGlobally plan.shape m.0.number f (global_read 0 ∷ looks.0) (Claim m.0.number true ∷ Leaves m.0.number true ∷ [])
          refused LocalBusy is = absurd is
          refused GlobalBusy is = absurd is
          refused EpochsSpent is = (looks.0, is, refl, refl)
          refused (Held locale number word) is = (looks.0, is, refl, refl)

          pub refused_so : (n : Seated K opens step plan) → Makes K opens step plan Leave k 0 n → EntersGlobally K opens step plan m n (Err fault)
          unfolding has_global
          refused_so n leaves =
              let epoch = looks.2.0 in
              let scan = looks.2.1 in
              let claim = entries_of_items m.0.number (Claim m.0.number true ∷ []) in
              let left = entries_of_items m.0.number (Leaves m.0.number true ∷ []) in
              let made = made_of K opens step plan Leave k n 0 _ (global_left plan.shape plan.callers k.0.number k.0.part.seat k.0.part.facts 0 has_it) leaves in
              let number : k.0.number ≡ m.0.number = stopped_so.0.same.number ∙ won_so.0.same.number in
              let last = reclaimed_to LeftGlobal epoch scan m.0.part in
              let goes : Goes K opens step plan k n [] left last =
              subst (λ (i : ℕ). Goes K opens step plan k n [] (entries_of_items i (Leaves i true ∷ [])) last) number
              (subst (λ (p : Part View'). Goes K opens step plan k n (looks_of (deed p.seat Leave) 0) (entries_of_items k.0.number (Leaves k.0.number true ∷ [])) (record (in_phase LeftGlobal p) { facts = facts_after p.seat Leave p.facts 0 })) stopped_so.1 made) in
              let two =
              then_among K opens step plan m j k (global_read 0 ∷ []) looks.0 claim [] (in_phase WonGlobal m.0.part) (reclaimed_to Stopped epoch scan m.0.part)
              (as_among K opens step plan m j (global_read 0 ∷ []) claim (in_phase WonGlobal m.0.part) won_so) (as_among K opens step plan j k looks.0 [] (reclaimed_to Stopped epoch scan m.0.part) stopped_so) in
              let words : List (Look WordName) = global_read 0 ∷ looks.0 in
              let all = then_among K opens step plan m k n words [] claim left (reclaimed_to Stopped epoch scan m.0.part) last two (as_among K opens step plan k n [] left last goes) in (
                words,
                Claim m.0.number true ∷ Leaves m.0.number true ∷ [],
                refused fault looks.1,
                (LeftGlobal, epoch, scan, inr refl, subst (λ l. Among K opens step plan m n l (entries_of_items m.0.number (Claim m.0.number true ∷ Leaves m.0.number true ∷ [])) last) (append-nil words) all),
              )
