-- What an advance and its spread come to.
use Rattle.std.proofs.Common.{◌≡◌, ◌<◌, ◌+◌, ℕ, [], ◌∷◌, ap, sym, ◌∙◌, subst, arith}
use Rattle.epoch_laws.specs.declared.events.Item.TheVariants.{Advance as Advances}
use Rattle.epoch_laws.specs.declared.steps.Kind.TheVariants.{Advance, Spread}
use Rattle.epoch_table.specs.declared.parts.Plan.{Plan}
use Rattle.epoch_table.specs.declared.parts.Part.{Part}
use Rattle.epoch_table.specs.Clients.{ClientTerms}
use Rattle.epoch_table.specs.Kinds.{entries_of_items, MayMake, Makes}
use Rattle.epoch_manager.specs.Reclaiming.{HasScanned, advanced, AdvancesTo}
use Rattle.epoch_manager.proofs.ReclaimSteps.{advance_told, spread_told, advance_row, spread_row}
use Rattle.epoch_manager.proofs.TokenSteps.{Seated, Goes, made_of, as_among, then_among}

module _ {C View' Call Reply State' : Type 0} (K : ClientTerms C View' Call Reply State') (opens : State' → Type 0) (step : State' → Call → Reply → State' → Type 0) (plan : Plan C) (epoch : ℕ) (m : Seated K opens step plan)
    (scanned : HasScanned plan.shape.locales epoch m.0.part) where
  pub may_advance : m.0.number < plan.callers → MayMake K plan m.0.number Advance m.0.part
  may_advance below = record { row = advance_row plan.shape plan.callers m.0.number m.0.part.seat m.0.part.facts below scanned.phase scanned.all; made = tt; allowed = tt }

  pub advance_so : (j : Seated K opens step plan) → Makes K opens step plan Advance m (epoch + 1) j → AdvancesTo K opens step plan (epoch + 1) 0 m j
  advance_so j makes =
      let made = made_of K opens step plan Advance m j (epoch + 1) _ (advance_told plan.shape plan.callers m.0.number m.0.part.seat m.0.part.facts (epoch + 1)) makes in
      as_among K opens step plan m j [] (entries_of_items m.0.number (Advances m.0.number (epoch + 1) ∷ [])) (advanced 0 m.0.part)
      (subst (λ e. Goes K opens step plan m j [] (entries_of_items m.0.number (Advances m.0.number (e + 1) ∷ [])) (advanced 0 m.0.part)) scanned.read made)

  module _ (k : ℕ) (j : Seated K opens step plan) (so : AdvancesTo K opens step plan (epoch + 1) k m j) where
    pub epoch_still : epoch ≡ j.0.part.seat.reclaim.epoch
    epoch_still = sym (ap (λ (p : Part View'). p.seat.reclaim.epoch) so.1 ∙ scanned.read)

    pub spread_here : k ≡ j.0.part.seat.reclaim.spread
    spread_here = sym (ap (λ (p : Part View'). p.seat.reclaim.spread) so.1)

    pub may_spread : m.0.number < plan.callers → k < plan.shape.locales → MayMake K plan j.0.number Spread j.0.part
    may_spread below low =
        let number = so.0.same.number in
        record {
          row = spread_row plan.shape plan.callers j.0.number j.0.part.seat j.0.part.facts (omega arith) (ap (λ (p : Part View'). p.seat.phase) so.1) (subst (λ i. i < plan.shape.locales) spread_here low);
          made = tt;
          allowed = tt;
        }

    pub one_spread : (n : Seated K opens step plan) → Makes K opens step plan Spread j (epoch + 1) n → AdvancesTo K opens step plan (epoch + 1) (k + 1) m n
    one_spread n makes =
        let made = made_of K opens step plan Spread j n (epoch + 1) _ (spread_told plan.shape plan.callers j.0.number j.0.part.seat j.0.part.facts (epoch + 1)) makes in
        let goes : Goes K opens step plan j n [] [] (advanced (k + 1) m.0.part) =
        subst (λ (p : Part View'). Goes K opens step plan j n [] [] (record p { seat = record p.seat { reclaim = record p.seat.reclaim { spread = p.seat.reclaim.spread + 1 } } })) so.1 made in
        then_among K opens step plan m j n [] [] (entries_of_items m.0.number (Advances m.0.number (epoch + 1) ∷ [])) [] (advanced k m.0.part) (advanced (k + 1) m.0.part) so (as_among K opens step plan j n [] [] (advanced (k + 1) m.0.part) goes)
