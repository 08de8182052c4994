-- What the calls on an object of the pass's own come to.
use Rattle.std.proofs.Common.{◌≡◌, ◌<◌, ℕ, true, false, [], Some, refl, ap, sym, ◌∙◌}
use Rattle.std.specs.Prelude.{Contains}
use Rattle.pgas_base.specs.Pointers.{Pointer}
use Rattle.pool_core.specs.Headers.{header_word}
use Rattle.pool_core.specs.declared.headers.State.TheVariants.{Shown as ShownState}
use Rattle.epoch_laws.specs.declared.events.EpochEvent.TheVariants.{Shown as IsShown}
use Rattle.epoch_laws.specs.declared.steps.Kind.TheVariants.{Show}
use Rattle.epoch_laws.specs.Needs.{event}
use Rattle.epoch_laws.specs.Places.{Place, place_of, without}
use Rattle.epoch_laws.specs.Seats.{Seat, is_reclaiming}
use Rattle.epoch_laws.proofs.Lists.{among-append_left}
use Rattle.epoch_laws.proofs.Updates.{at_place}
use Rattle.epoch_table.specs.declared.parts.Plan.{Plan}
use Rattle.epoch_table.specs.declared.parts.Part.{Part}
use Rattle.epoch_table.specs.Clients.{ClientTerms, Fills, Shows}
use Rattle.epoch_table.specs.Facts.{Facts, count_of, facts_after}
use Rattle.epoch_table.specs.Kinds.{MayMake, Makes}
use Rattle.epoch_table.specs.RowSteps.{MayFill, FillsRow, filled}
use Rattle.epoch_table.specs.Rule.{is_between}
use Rattle.epoch_table.proofs.Knowledge.{header_read}
use Rattle.epoch_manager.specs.declared.phases.Phase.{Phase}
use Rattle.epoch_manager.specs.declared.phases.Phase.TheVariants.{Idle, Registered, Pinned}
use Rattle.epoch_manager.specs.Fits.{stands_as, PassFits}
use Rattle.epoch_manager.specs.Managers.{pointers, others}
use Rattle.epoch_manager.proofs.Known.{IsKnownAmong, one_of, known_but, known_agree, pointers_agree, pointers_without}
use Rattle.epoch_manager.proofs.PassClauses.{stands_idle, stands_registered, stands_pinned, Done, done}
use Rattle.epoch_manager.proofs.Rows.{show_row, touch_row}
use Rattle.epoch_manager.proofs.Told.{show_told}
use Rattle.epoch_manager.proofs.TokenSteps.{Seated, made_of}

-- a pass between two calls is in no reclaim
pub rests_so : (seat : Seat) (phase : Phase) → stands_as seat phase ≡ true → (is_between seat.phase ≡ true) × (is_reclaiming seat.phase ≡ false)
unfolding is_reclaiming
rests_so seat Idle stands = let is = stands_idle seat Idle refl stands in (ap is_between is, ap is_reclaiming is)
rests_so seat (Registered t) stands = let is = (stands_registered seat (Registered t) t refl stands).0 in (ap is_between is, ap is_reclaiming is)
rests_so seat (Pinned t) stands = let is = (stands_pinned seat (Pinned t) t refl stands).0 in (ap is_between is, ap is_reclaiming is)

-- what is known of counts after a show
shown_agree : (seat : Seat) (facts : Facts) (q : Pointer) (found : ℕ) → count_of facts (place_of q) ≡ Some q.count → (p : Place) → count_of (facts_after seat (Show q) facts found) p ≡ count_of facts p
shown_agree seat facts q found count =
    at_place (λ p x. x ≡ count_of facts p) (count_of facts) (place_of q) _
    (ap (λ h. Some h.count) (header_read (record { count = q.count; state = ShownState })) ∙ sym count)
    (λ p ne. refl)

module _ {C View' Call Reply State' : Type 0} (K : ClientTerms C View' Call Reply State') (opens : State' → Type 0) (step : State' → Call → Reply → State' → Type 0) (plan : Plan C) (m n : Seated K opens step plan) (phase : Phase) (fits : PassFits plan m.0 phase) (q : Pointer)
    (has : Contains (pointers m.0.part.facts m.0.part.seat.owned) q) where
  pub own : IsKnownAmong plan.shape m.0.part.facts m.0.part.seat.owned q
  own = one_of plan.shape m.0.part.facts m.0.part.seat.owned q fits.kept.owned has

  resting : (is_between m.0.part.seat.phase ≡ true) × (is_reclaiming m.0.part.seat.phase ≡ false)
  resting = rests_so m.0.part.seat phase fits.stands

  -- ---- a fill

  pub may_fill : (at value : ℕ) → at < plan.shape.width → K.may m.0.part.client (Fills q at value) → MayFill K plan m.0.number q at value m.0.part
  may_fill at value low allowed = record {
    read = record {
      low = low;
      row = touch_row plan.shape plan.callers m.0.number m.0.part.seat m.0.part.facts fits.below q own.inside resting.1 own.count (among-append_left (place_of q) m.0.part.seat.owned m.0.part.seat.held own.among);
    };
    owned = own.among;
    allowed = allowed;
  }

  pub fill_done : (at value : ℕ) → FillsRow K opens step plan q at value m n → Done K opens step plan m n [] [] (filled K plan m.0.number m.0.part q at value) phase
  fill_done at value fills =
      done K opens step plan m n [] [] (filled K plan m.0.number m.0.part q at value) phase phase fits fills resting.0 fits.stands fits.inside
      (record { done = fits.kept.done; owned = fits.kept.owned; held = fits.kept.held; pinned = fits.kept.pinned })

  -- ---- a show

  pub may_show : K.may m.0.part.client (Shows q) → MayMake K plan m.0.number (Show q) m.0.part
  may_show allowed = record { row = show_row plan.shape plan.callers m.0.number m.0.part.seat m.0.part.facts fits.below q own.inside resting.1 own.count own.among; made = tt; allowed = allowed }

  abbrev pub shown_part : Part View'
  shown_part = record {
    seat = record m.0.part.seat { owned = without (place_of q) m.0.part.seat.owned };
    facts = facts_after m.0.part.seat (Show q) m.0.part.facts (header_word q.count ShownState);
    won = m.0.part.won;
    client = K.after m.0.part.client (Shows q) 0;
  }

  agree : (p : Place) → count_of shown_part.facts p ≡ count_of m.0.part.facts p
  agree = shown_agree m.0.part.seat m.0.part.facts q (header_word q.count ShownState) own.count

  pub show_done : Makes K opens step plan (Show q) m (header_word q.count ShownState) n → Done K opens step plan m n [] (event m.0.number (IsShown q)) shown_part phase
  show_done makes =
      let goes = made_of K opens step plan (Show q) m n (header_word q.count ShownState) _ (show_told plan.shape plan.callers m.0.number m.0.part.seat m.0.part.facts q (header_word q.count ShownState)) makes in
      let left = known_but plan.shape m.0.part.facts (place_of q) m.0.part.seat.owned fits.kept.owned in
      done K opens step plan m n [] (event m.0.number (IsShown q)) shown_part phase phase fits goes resting.0 fits.stands fits.inside
      (record {
        done = fits.kept.done;
        owned = known_agree m.0.part.facts shown_part.facts plan.shape shown_part.seat.owned (λ p h. agree p) left;
        held = known_agree m.0.part.facts shown_part.facts plan.shape m.0.part.seat.held (λ p h. agree p) fits.kept.held;
        pinned = fits.kept.pinned;
      })

  pub show_owned : Makes K opens step plan (Show q) m (header_word q.count ShownState) n → pointers n.0.part.facts n.0.part.seat.owned ≡ others q (pointers m.0.part.facts m.0.part.seat.owned)
  show_owned makes =
      let d = show_done makes in
      ap (λ (p : Part View'). pointers p.facts p.seat.owned) d.goes.1
      ∙ (pointers_agree m.0.part.facts shown_part.facts shown_part.seat.owned (λ p h. agree p) ∙ pointers_without m.0.part.facts q m.0.part.seat.owned)

  pub show_held : Makes K opens step plan (Show q) m (header_word q.count ShownState) n → pointers n.0.part.facts n.0.part.seat.held ≡ pointers m.0.part.facts m.0.part.seat.held
  show_held makes =
      let d = show_done makes in
      ap (λ (p : Part View'). pointers p.facts p.seat.held) d.goes.1 ∙ pointers_agree m.0.part.facts shown_part.facts m.0.part.seat.held (λ p h. agree p)
