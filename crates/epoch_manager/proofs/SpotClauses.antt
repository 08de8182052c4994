-- What the clauses of steps on words of a client, and of reads of rows, say.
use Rattle.std.proofs.Common.{◌≡◌, ◌⊎◌, ◌<◌, ℕ, true, List, [], Option, Some, None, ◌∙◌, ⊎_elim}
use Rattle.std.specs.List.{Contains}
use Rattle.std.proofs.lemmas.List.{append-nil}
use Rattle.pass_book.specs.declared.entries.Entry.{Entry}
use Rattle.pgas_base.specs.Pointers.{Pointer}
use Rattle.pgas_base.specs.declared.spots.Spot.{Spot}
use Rattle.pgas_base.specs.declared.spots.Spot.TheVariants.{Own as OwnSpot, Row as RowSpot}
use Rattle.epoch_laws.specs.declared.steps.Kind.TheVariants.{Touch}
use Rattle.epoch_laws.specs.Places.{place_of, is_among}
use Rattle.epoch_laws.proofs.Lists.{among-append_left, among-append_right}
use Rattle.pass_table.proofs.Going.{enters_of, nothing_of}
use Rattle.epoch_table.specs.declared.events.Happens.{Happens}
use Rattle.epoch_table.specs.declared.events.Happens.TheVariants.{Enters as IsEntry}
use Rattle.epoch_table.specs.declared.parts.Plan.{Plan}
use Rattle.epoch_table.specs.declared.parts.Part.{Part}
use Rattle.epoch_table.specs.Clients.{ClientTerms, Change as SpotChange, Steps}
use Rattle.epoch_table.specs.Events.{PastOpens, PastSteps}
use Rattle.epoch_table.specs.Knowledge.{Row}
use Rattle.epoch_table.specs.RowSteps.{MayRead, Reads}
use Rattle.epoch_table.specs.Rule.{manager_terms, is_between}
use Rattle.epoch_table.specs.Spots.{happened, acted, entries_acted, Reaches, MayStep, StepsAt}
use Rattle.epoch_manager.specs.declared.phases.Phase.{Phase}
use Rattle.epoch_manager.specs.Fits.{stands_as, IsKept, PassFits}
use Rattle.epoch_manager.specs.Managers.{pointers}
use Rattle.epoch_manager.specs.SpotCalls.{IsReached, EntersWhat}
use Rattle.epoch_manager.proofs.Known.{IsKnownAmong, one_of}
use Rattle.epoch_manager.proofs.ObjectSteps.{rests_so}
use Rattle.epoch_manager.proofs.PassClauses.{fits_after, Changed}
use Rattle.epoch_manager.proofs.Rows.{touch_row}
use Rattle.epoch_manager.proofs.TokenSteps.{Seated, Goes, as_among}

module _ {C View' Call Reply State' : Type 0} (K : ClientTerms C View' Call Reply State') (opens : State' → Type 0) (step : State' → Call → Reply → State' → Type 0) (plan : Plan C) where
  -- a call whose steps went so, and whose pass is between two calls again, in the same phase
  pub record Whole (m n : Seated K opens step plan) (entries : List (Entry (Happens Call Reply) (Unit {0}))) (part : Part View') (phase : Phase) : Type 0 where
    pub goes : Goes K opens step plan m n [] entries part
    pub rests : n.0.rests ≡ true
    pub carried : n.1 ≡ m.1
    pub fits : PassFits plan n.0 phase

  pub whole : (m n : Seated K opens step plan) (entries : List (Entry (Happens Call Reply) (Unit {0}))) (part : Part View') (phase : Phase) → PassFits plan m.0 phase → Goes K opens step plan m n [] entries part → is_between part.seat.phase ≡ true → stands_as part.seat phase ≡ true
      → IsKept plan.shape part phase → Whole m n entries part phase
  whole m n entries part phase fits goes between stands kept = record {
    goes = goes;
    rests = goes.3 ∙ between;
    carried = goes.2;
    fits = fits_after K opens step plan m n [] entries part phase phase fits (as_among K opens step plan m n [] entries part goes) stands fits.inside kept;
  }

  module _ (m n : Seated K opens step plan) where
    -- no word of the machine was read
    pub unread : (entries : List (Entry (Happens Call Reply) (Unit {0}))) (part : Part View') → Goes K opens step plan m n [] entries part → n.0.looked ≡ m.0.looked
    unread entries part goes = goes.0.looked ∙ append-nil m.0.looked

    pub enters_what : (part : Part View') (made : Option (Call × Reply)) → Goes K opens step plan m n [] (happened m.0.number made) part → EntersWhat K opens step plan (Changed K opens step plan m n []) made
    enters_what part None goes = nothing_of (manager_terms K) (PastOpens opens) (PastSteps step) plan m.0 n.0 [] goes.0
    enters_what part (Some made) goes = enters_of (manager_terms K) (PastOpens opens) (PastSteps step) plan m.0 n.0 [] (IsEntry made.0 made.1) tt goes.0

  module _ (m n : Seated K opens step plan) (phase : Phase) (fits : PassFits plan m.0 phase) where
    held_one : (q : Pointer) → Contains (pointers m.0.part.facts m.0.part.seat.held) q → IsKnownAmong plan.shape m.0.part.facts m.0.part.seat.held q
    held_one q has = one_of plan.shape m.0.part.facts m.0.part.seat.held q fits.kept.held has

    own_one : (q : Pointer) → Contains (pointers m.0.part.facts m.0.part.seat.owned) q → IsKnownAmong plan.shape m.0.part.facts m.0.part.seat.owned q
    own_one q has = one_of plan.shape m.0.part.facts m.0.part.seat.owned q fits.kept.owned has

    row_held : (q : Pointer) → IsKnownAmong plan.shape m.0.part.facts m.0.part.seat.held q → Row plan.shape plan.callers m.0.number m.0.part.seat m.0.part.facts (Touch q)
    row_held q one =
        touch_row plan.shape plan.callers m.0.number m.0.part.seat m.0.part.facts fits.below q one.inside (rests_so m.0.part.seat phase fits.stands).1 one.count
        (among-append_right (place_of q) m.0.part.seat.owned m.0.part.seat.held one.among)

    row_owned : (q : Pointer) → IsKnownAmong plan.shape m.0.part.facts m.0.part.seat.owned q → Row plan.shape plan.callers m.0.number m.0.part.seat m.0.part.facts (Touch q)
    row_owned q one =
        touch_row plan.shape plan.callers m.0.number m.0.part.seat m.0.part.facts fits.below q one.inside (rests_so m.0.part.seat phase fits.stands).1 one.count
        (among-append_left (place_of q) m.0.part.seat.owned m.0.part.seat.held one.among)

    -- ---- steps

    pub reaches_so : (spot : Spot) → IsReached plan (pointers m.0.part.facts m.0.part.seat.held) spot → Reaches K plan m.0.number spot m.0.part
    reaches_so (OwnSpot word) low = low
    reaches_so (RowSpot q at) has = let one = held_one q has.1 in (has.0, one.among, row_held q one)

    pub may_step : (spot : Spot) (change : SpotChange) → IsReached plan (pointers m.0.part.facts m.0.part.seat.held) spot → K.may m.0.part.client (Steps spot change) → MayStep K plan m.0.number spot change m.0.part
    may_step spot change reached allowed = record { reaches = reaches_so spot reached; allowed = allowed; rests = (rests_so m.0.part.seat phase fits.stands).1 }

    pub step_done : (spot : Spot) (change : SpotChange) (told : ℕ) → StepsAt K opens step plan spot change m told n
        → Whole m n (entries_acted K plan m.0.number m.0.part (Steps spot change) told) (acted K plan m.0.number m.0.part (Steps spot change) told) phase
    step_done spot change told steps =
        whole m n (entries_acted K plan m.0.number m.0.part (Steps spot change) told) (acted K plan m.0.number m.0.part (Steps spot change) told) phase fits steps.1 (rests_so m.0.part.seat phase fits.stands).0 fits.stands
        (record { done = fits.kept.done; owned = fits.kept.owned; held = fits.kept.held; pinned = fits.kept.pinned })

    -- ---- reads

    pub may_read : (q : Pointer) (at : ℕ) → at < plan.shape.width → Contains (pointers m.0.part.facts m.0.part.seat.held) q ⊎ Contains (pointers m.0.part.facts m.0.part.seat.owned) q
        → MayRead plan m.0.number q at m.0.part
    may_read q at low has = record { low = low; row = ⊎_elim (λ h. row_held q (held_one q h)) (λ h. row_owned q (own_one q h)) has }

    pub read_done : (q : Pointer) (at found : ℕ) → Reads K opens step plan q at m found n → Whole m n [] m.0.part phase
    read_done q at found reads = whole m n [] m.0.part phase fits reads.1 (rests_so m.0.part.seat phase fits.stands).0 fits.stands fits.kept

    pub among_held : (q : Pointer) → Contains (pointers m.0.part.facts m.0.part.seat.held) q → is_among (place_of q) m.0.part.seat.held ≡ true
    among_held q has = (held_one q has).among

    pub among_owned : (q : Pointer) → Contains (pointers m.0.part.facts m.0.part.seat.owned) q → is_among (place_of q) m.0.part.seat.owned ≡ true
    among_owned q has = (own_one q has).among
