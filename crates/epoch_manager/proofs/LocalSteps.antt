-- What the steps of a reclaim come to from its first election to its scan.
use Rattle.std.proofs.Common.{◌≡◌, ◌≢◌, ◌<◌, ◌*◌, ◌⊎◌, ◌++◌, ℕ, true, false, List, [], ◌∷◌, Ok, Err, refl, ap, sym, ◌∙◌, subst, arith, ⊎_elim, append-nil}
use Rattle.pass_book.specs.declared.entries.Look.{Look}
use Rattle.pass_book.specs.declared.entries.Entry.{Entry}
use Rattle.epoch_laws.specs.declared.events.Item.{Item}
use Rattle.epoch_laws.specs.declared.events.Item.TheVariants.{Claim, Leave as Leaves}
use Rattle.epoch_laws.specs.declared.steps.Kind.TheVariants.{ElectLocal, Leave}
use Rattle.epoch_laws.specs.ReclaimSteps.{has_global, MayLeave}
use Rattle.epoch_laws.specs.Seats.{Phase, Reclaim, Registered, WonLocal, LostGlobal, LeftGlobal}
use Rattle.epoch_laws.specs.Words.{WordName}
use Rattle.epoch_table.specs.declared.events.Happens.{Happens}
use Rattle.epoch_table.specs.declared.parts.Plan.{Plan}
use Rattle.epoch_table.specs.declared.parts.Part.{Part}
use Rattle.epoch_table.specs.Clients.{ClientTerms}
use Rattle.epoch_table.specs.Deeds.{deed}
use Rattle.epoch_table.specs.Events.{items_in}
use Rattle.epoch_table.specs.Facts.{facts_after}
use Rattle.epoch_table.specs.Kinds.{looks_of, entry_of, entries_of_items, MayMake, Makes}
use Rattle.epoch_manager.specs.declared.faults.NotNow.{NotNow}
use Rattle.epoch_manager.specs.declared.faults.NotNow.TheVariants.{LocalBusy, GlobalBusy, EpochsSpent, Held}
use Rattle.epoch_manager.specs.Reclaiming.{scanned, epoch_read, looking, reclaimed_to, global_read, local_read, IsRefusedGlobally, IsRefused, EntersGlobally, EntersReclaim}
use Rattle.epoch_manager.proofs.Marks.{local_mark}
use Rattle.epoch_manager.proofs.ReclaimSteps.{local_won, local_lost, local_left, local_row, leave_row}
use Rattle.epoch_manager.proofs.TokenSteps.{Seated, Goes, Among, made_of, as_among, then_among}

pub entries_append : {Call Reply : Type 0} (c : ℕ) (xs ys : List Item) → ◌≡◌ {A = List (Entry (Happens Call Reply) (Unit {0}))} (entries_of_items c (xs ++ ys)) (entries_of_items c xs ++ entries_of_items c ys)
entries_append c [] ys = refl
entries_append c (x ∷ xs) ys = ap (λ l. entry_of c x ∷ l) (entries_append c xs ys)

-- the global election is left, or was never won
may_leave_then : (locales : ℕ) (phase : Phase) (r : Reclaim) → (phase ≡ LostGlobal) ⊎ (phase ≡ LeftGlobal) → MayLeave locales phase r
may_leave_then locales phase r is = ⊎_elim (λ e. subst (λ p. MayLeave locales p r) (sym e) tt) (λ e. subst (λ p. MayLeave locales p r) (sym e) tt) is

not_global : (phase : Phase) → (phase ≡ LostGlobal) ⊎ (phase ≡ LeftGlobal) → has_global phase ≡ false
unfolding has_global
not_global phase is = ⊎_elim (λ e. ap has_global e) (λ e. ap has_global e) is

module _ {C View' Call Reply State' : Type 0} (K : ClientTerms C View' Call Reply State') (opens : State' → Type 0) (step : State' → Call → Reply → State' → Type 0) (plan : Plan C) where
  pub may_elect : (m : Seated K opens step plan) → m.0.number < plan.callers → m.0.part.seat.phase ≡ Registered → K.may_reclaim m.0.part.client m.0.part.seat.owned → MayMake K plan m.0.number ElectLocal m.0.part
  may_elect m below is allowed = record { row = local_row plan.shape plan.callers m.0.number m.0.part.seat m.0.part.facts below is; made = tt; allowed = allowed }

  abbrev in_phase : Phase → Part View' → Part View'
  in_phase phase part = record part { seat = record part.seat { phase = phase } }

  module _ (m j : Seated K opens step plan) (found : ℕ) (elects : Makes K opens step plan ElectLocal m found j) where
    abbrev at : ℕ
    at = m.0.part.seat.token.locale

    pub busy_so : m.0.part.seat.phase ≡ Registered → found ≢ 0 → EntersReclaim K opens step plan m j (Err LocalBusy)
    busy_so is ne =
        let made = made_of K opens step plan ElectLocal m j found _ (local_lost plan.shape plan.callers m.0.number m.0.part.seat m.0.part.facts found ne) elects in
        let meets = elects.1.0.meets in
        let one : found ≡ 1 = local_mark plan.start.count (items_in meets.0) at found meets.2 ne in
        let epoch = m.0.part.seat.reclaim.epoch in
        let scan = m.0.part.seat.reclaim.scan in
        let goes : Goes K opens step plan m j (local_read at found ∷ []) [] (reclaimed_to Registered epoch scan m.0.part) =
        subst (λ (p : Phase). Goes K opens step plan m j (local_read at found ∷ []) [] (reclaimed_to p epoch scan m.0.part)) is made in
        (local_read at found ∷ [], [], (ap (λ w. local_read at w ∷ []) one, refl), (epoch, scan, as_among K opens step plan m j (local_read at found ∷ []) [] (reclaimed_to Registered epoch scan m.0.part) goes))

    module _ (is : found ≡ 0) where
      abbrev claim : List (Entry (Happens Call Reply) (Unit {0}))
      claim = entries_of_items m.0.number (Claim m.0.number false ∷ [])

      won_so : Goes K opens step plan m j (local_read at 0 ∷ []) claim (in_phase WonLocal m.0.part)
      won_so =
          let made = made_of K opens step plan ElectLocal m j found _ (local_won plan.shape plan.callers m.0.number m.0.part.seat m.0.part.facts found is) elects in
          subst (λ w. Goes K opens step plan m j (local_read at w ∷ []) claim (in_phase WonLocal m.0.part)) is made

      won_among : Among K opens step plan m j (local_read at 0 ∷ []) claim (in_phase WonLocal m.0.part)
      won_among = as_among K opens step plan m j (local_read at 0 ∷ []) claim (in_phase WonLocal m.0.part) won_so

      pub phase_won : j.0.part.seat.phase ≡ WonLocal
      phase_won = ap (λ (p : Part View'). p.seat.phase) won_so.1

      pub hand_still : m.0.part.seat.hand ≡ [] → j.0.part.seat.hand ≡ []
      hand_still none = ap (λ (p : Part View'). p.seat.hand) won_so.1 ∙ none

      pub still_below : m.0.number < plan.callers → j.0.number < plan.callers
      still_below below = let number = won_so.0.same.number in omega arith

      module _ (k : Seated K opens step plan) where
        pub entered_so : (epoch : ℕ) → EntersGlobally K opens step plan j k (Ok epoch) → EntersReclaim K opens step plan m k (Ok epoch)
        entered_so epoch enters =
            let all = plan.shape.locales * plan.shape.tokens in
            let words = enters.1.0 in
            let more = global_read 0 ∷ epoch_read epoch ∷ words in
            let last = scanned plan.shape.tokens all (looking epoch m.0.part) in
            let goes : Among K opens step plan j k more (entries_of_items m.0.number (Claim m.0.number true ∷ [])) last =
            subst (λ (i : ℕ). Among K opens step plan j k more (entries_of_items i (Claim i true ∷ [])) last) won_so.0.same.number
            (subst (λ (p : Part View'). Among K opens step plan j k more (entries_of_items j.0.number (Claim j.0.number true ∷ [])) (scanned plan.shape.tokens all (looking epoch p))) won_so.1 enters.1.2) in (
              enters.0,
              (
                words,
                enters.1.1,
                then_among K opens step plan m j k (local_read at 0 ∷ []) more claim (entries_of_items m.0.number (Claim m.0.number true ∷ [])) (in_phase WonLocal m.0.part) last won_among goes,
              ),
            )

        module _ (fault : NotNow) (enters : EntersGlobally K opens step plan j k (Err fault)) where
          abbrev to : Phase → Part View'
          to phase = reclaimed_to phase enters.3.1 enters.3.2 m.0.part

          stopped_so : Among K opens step plan j k enters.0 (entries_of_items m.0.number enters.1) (to enters.3.0)
          stopped_so =
              subst (λ (i : ℕ). Among K opens step plan j k enters.0 (entries_of_items i enters.1) (to enters.3.0)) won_so.0.same.number
              (subst (λ (p : Part View'). Among K opens step plan j k enters.0 (entries_of_items j.0.number enters.1) (reclaimed_to enters.3.0 enters.3.1 enters.3.2 p)) won_so.1 enters.3.4)

          pub has_none : has_global k.0.part.seat.phase ≡ false
          has_none = ap (λ (p : Part View'). has_global p.seat.phase) stopped_so.1 ∙ not_global enters.3.0 enters.3.3

          pub token_still : k.0.part.seat.token ≡ m.0.part.seat.token
          token_still = ap (λ (p : Part View'). p.seat.token) stopped_so.1

          pub may_leave : m.0.number < plan.callers → m.0.part.seat.hand ≡ [] → MayMake K plan k.0.number Leave k.0.part
          may_leave below none =
              let first = won_so.0.same.number in
              let second = stopped_so.0.same.number in
              let now = stopped_so.1 in
              record {
                row = leave_row plan.shape plan.callers k.0.number k.0.part.seat k.0.part.facts (omega arith)
                    (subst (λ (p : Part View'). MayLeave plan.shape.locales p.seat.phase p.seat.reclaim) (sym now) (may_leave_then plan.shape.locales enters.3.0 _ enters.3.3))
                    (ap (λ (p : Part View'). p.seat.hand) now ∙ none);
                made = tt;
                allowed = tt;
              }

          abbrev items : List Item
          items = Claim m.0.number false ∷ (enters.1 ++ Leaves m.0.number false ∷ [])

          refused : (f : NotNow) → IsRefusedGlobally plan.shape m.0.number f enters.0 enters.1 → IsRefused plan.shape m.0.number at f (local_read at 0 ∷ enters.0) items
          refused LocalBusy so = absurd so.1
          refused GlobalBusy so = (enters.0, enters.1, so, refl, refl)
          refused EpochsSpent so = (enters.0, enters.1, so, refl, refl)
          refused (Held locale number word) so = (enters.0, enters.1, so, refl, refl)

          -- what the leave of the local election does
          leaves_so : (n : Seated K opens step plan) → Makes K opens step plan Leave k 0 n → Goes K opens step plan k n [] (entries_of_items m.0.number (Leaves m.0.number false ∷ [])) (to Registered)
          unfolding has_global
          leaves_so n leaves =
              let made = made_of K opens step plan Leave k n 0 _ (local_left plan.shape plan.callers k.0.number k.0.part.seat k.0.part.facts 0 has_none) leaves in
              let number : k.0.number ≡ m.0.number = stopped_so.0.same.number ∙ won_so.0.same.number in
              let Left : Phase → Type 0 =
              λ ph. Goes K opens step plan k n (looks_of (deed (to ph).seat Leave) 0) (entries_of_items m.0.number (Leaves m.0.number false ∷ [])) (record (in_phase Registered (to ph)) { facts = facts_after (to ph).seat Leave (to ph).facts 0 }) in
              let now : Left enters.3.0 =
              subst (λ (i : ℕ). Goes K opens step plan k n (looks_of (deed (to enters.3.0).seat Leave) 0) (entries_of_items i (Leaves i false ∷ [])) (record (in_phase Registered (to enters.3.0)) { facts = facts_after (to enters.3.0).seat Leave (to enters.3.0).facts 0 })) number
              (subst (λ (p : Part View'). Goes K opens step plan k n (looks_of (deed p.seat Leave) 0) (entries_of_items k.0.number (Leaves k.0.number false ∷ [])) (record (in_phase Registered p) { facts = facts_after p.seat Leave p.facts 0 })) stopped_so.1 made) in
              ⊎_elim (λ e. subst Left e now) (λ e. subst Left e now) enters.3.3

          pub refused_so : (n : Seated K opens step plan) → Makes K opens step plan Leave k 0 n → EntersReclaim K opens step plan m n (Err fault)
          refused_so n leaves =
              let left = entries_of_items m.0.number (Leaves m.0.number false ∷ []) in
              let between = entries_of_items m.0.number enters.1 in
              let words : List (Look WordName) = local_read at 0 ∷ enters.0 in
              let last = to Registered in
              let two = then_among K opens step plan m j k (local_read at 0 ∷ []) enters.0 claim between (in_phase WonLocal m.0.part) (to enters.3.0) won_among stopped_so in
              let all = then_among K opens step plan m k n words [] (claim ++ between) left (to enters.3.0) last two (as_among K opens step plan k n [] left last (leaves_so n leaves)) in
              let whole : entries_of_items m.0.number items ≡ (claim ++ between) ++ left = ap (λ l. entry_of m.0.number (Claim m.0.number false) ∷ l) (entries_append m.0.number enters.1 (Leaves m.0.number false ∷ [])) in (
                words,
                items,
                refused fault (subst (λ i. IsRefusedGlobally plan.shape i fault enters.0 enters.1) won_so.0.same.number enters.2),
                (
                  enters.3.1,
                  enters.3.2,
                  subst (λ l. Among K opens step plan m n words l last) (sym whole)
                      (subst (λ l. Among K opens step plan m n l ((claim ++ between) ++ left) last) (append-nil words) all),
                ),
              )
