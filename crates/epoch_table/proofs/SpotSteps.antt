-- A step on a spot keeps the rule, where the client allows it.
use Rattle.std.proofs.Common.{◌≡◌, ◌<◌, ℕ, true, List, [], ◌++◌, slice_index, Option, cond, refl, ap, sym, ◌∙◌, subst, inr, arith}
use Rattle.atomic_table.specs.Table.{Me, Act, keeps as holding}
use Rattle.pass_book.specs.Histories.{IsLegal}
use Rattle.pgas_base.specs.declared.shapes.Shape.{Shape}
use Rattle.pgas_base.specs.declared.spots.Spot.{Spot}
use Rattle.pgas_base.specs.declared.spots.Spot.TheVariants.{Own as OwnSpot, Row as RowSpot}
use Rattle.pgas_base.specs.Pointers.{Pointer}
use Rattle.pool_core.specs.declared.headers.State.TheVariants.{Shown}
use Rattle.epoch_laws.specs.declared.steps.Kind.TheVariants.{Touch}
use Rattle.epoch_laws.specs.HoldSteps.{touch}
use Rattle.epoch_laws.specs.Places.{place_of, is_among, with_number}
use Rattle.epoch_laws.specs.Seats.{Seat}
use Rattle.epoch_laws.specs.States.{State, IsPlace}
use Rattle.epoch_laws.specs.Steps.{move}
use Rattle.epoch_laws.specs.Words.{WordName}
use Rattle.pass_table.specs.declared.views.View.{View}
use Rattle.pass_table.specs.Terms.{Moment, Effect, Acts, seeing}
use Rattle.pass_table.specs.Steps.{Steps as StepsOf}
use Rattle.pass_table.proofs.Going.{goes_to}
use Rattle.epoch_table.specs.declared.events.Happens.{Happens}
use Rattle.epoch_table.specs.declared.parts.Plan.{Plan}
use Rattle.epoch_table.specs.declared.parts.Part.{Part}
use Rattle.epoch_table.specs.Layout.{InRow, OfClient, site_of, place, table_words, IsSite}
use Rattle.epoch_table.specs.Events.{entries_in, PastOpens, PastSteps}
use Rattle.epoch_table.specs.Knowledge.{Row}
use Rattle.epoch_table.specs.Clients.{ClientTerms, Scene, Action, Steps, Change, changed, answered, with_spot, known_after, entered, Keeps, KeptBySteps, IsAt, thing_of}
use Rattle.epoch_table.specs.Rule.{row_word, scene_of, ManagerRule, manager_terms}
use Rattle.epoch_table.specs.Spots.{happened, FindsAt, acted, entries_acted, TellsAt, Reaches, MayStep, PermittedAt, StepsAt}
use Rattle.epoch_table.proofs.Places.{row_within}
use Rattle.epoch_table.proofs.Writing.{in_row, row_stays}
use Rattle.epoch_table.proofs.MachineSteps.{now, reached, things_inside}
use Rattle.epoch_table.proofs.ClientSteps.{scene_before, scene_written, acts_at}
use Rattle.epoch_table.proofs.SpotWords.{shown_thing, words_after, words_stay, things_after}

module _ {Self View' : Type 0} (plan : Plan Self) (c : ℕ) where
  -- an object that a pass may touch is one of the shape
  pub place_in_row : (q : Pointer) (part : Part View') → Row plan.shape plan.callers c part.seat part.facts (Touch q) → IsPlace plan.shape (place_of q)
  unfolding move touch
  place_in_row q part row = row.0.1.0

module _ {Self View' Call Reply State' : Type 0} (K : ClientTerms Self View' Call Reply State') (plan : Plan Self) (c : ℕ) where
  -- a spot that it reaches has a word in the table
  pub site_so : (spot : Spot) (part : Part View') → Reaches K plan c spot part → IsSite plan.shape (site_of spot)
  site_so (OwnSpot word) part low = tt
  site_so (RowSpot q n) part has = (place_in_row plan c q part has.2, has.0)

-- the place in the one shape is that in another that is equal
pub spot_place : (shape other : Shape) (spot : Spot) (n : ℕ) → other ≡ shape → n ≡ place shape (site_of spot) → n ≡ place other (site_of spot)
spot_place shape other spot n same is = is ∙ ap (λ s. place s (site_of spot)) (sym same)

module _ {Self View' Call Reply State' : Type 0} (K : ClientTerms Self View' Call Reply State') (opens : State' → Type 0) (step : State' → Call → Reply → State' → Type 0)
    (plan : Plan Self) (m : Moment (Unit {0}) (Happens Call Reply) (Unit {0}) (Part View')) (rule : ManagerRule K plan m) where
  -- an object that a pass holds is shown, with the count that the pass knows
  held_shown : (c : ℕ) (q : Pointer) → is_among (place_of q) ((m.parts c).seat).held ≡ true → Row plan.shape plan.callers c (m.parts c).seat (m.parts c).facts (Touch q)
      → (now K opens step plan m rule).words.header (place_of q) ≡ record { count = q.count; state = Shown }
  held_shown c q among row =
      let s = now K opens step plan m rule in
      let held = (reached K opens step plan m rule).held c (place_of q) (subst (λ (x : Seat). is_among (place_of q) x.held ≡ true) (rule.seats c) among) in
      let count : (s.words.header (place_of q)).count ≡ q.count = (rule.facts c).count (place_of q) q.count (inr among) row.1 in
      let shown = held.shown in
      λ i. record { count = count i; state = shown i }

  -- so its row's words are there for the client
  pub row_is_at : (c : ℕ) (q : Pointer) (n : ℕ) → n < plan.shape.width → is_among (place_of q) ((m.parts c).seat).held ≡ true → Row plan.shape plan.callers c (m.parts c).seat (m.parts c).facts (Touch q)
      → IsAt K plan.client plan.shape (scene_of plan.shape m.words (now K opens step plan m rule) m.history (λ d. (m.parts d).client)) (RowSpot q n) (slice_index m.words (place plan.shape (InRow (place_of q) n)))
  row_is_at c q n low among touches =
      let s = now K opens step plan m rule in
      let row = row_word plan.shape m.words (place_of q) in
      let object = shown_thing (s.tag (place_of q)) row q (s.words.header (place_of q)) (held_shown c q among touches) in
      let inside = place_in_row plan c q (m.parts c) touches in
      (low, (object.0, row, object.1, object.2, rw (in_row plan.shape (place_of q) n inside low) refl))

  -- what stands at a spot that a pass reaches, as the client sees it
  pub stands_at : (c : ℕ) (spot : Spot) → Reaches K plan c spot (m.parts c)
      → IsAt K plan.client plan.shape (scene_of plan.shape m.words (now K opens step plan m rule) m.history (λ d. (m.parts d).client)) spot (slice_index m.words (place plan.shape (site_of spot)))
  stands_at c (OwnSpot word) low = (subst (λ n. word < n) rule.owns low, refl)
  stands_at c (RowSpot q n) has = row_is_at c q n has.0 has.1 has.2

module _ {Self View' Call Reply State' : Type 0} (K : ClientTerms Self View' Call Reply State') (opens : State' → Type 0) (step : State' → Call → Reply → State' → Type 0) (kept : KeptBySteps K opens step)
    (plan : Plan Self) (m : Moment (Unit {0}) (Happens Call Reply) (Unit {0}) (Part View')) (rule : ManagerRule K plan m) (c : ℕ) (spot : Spot) (change : Change) (may : MayStep K plan c spot change (m.parts c)) where
  abbrev at : ℕ
  at = place plan.shape (site_of spot)

  abbrev found : ℕ
  found = slice_index m.words at

  abbrev number : ℕ
  number = changed change found

  abbrev told : ℕ
  told = answered change found

  abbrev action : Action
  action = Steps spot change

  abbrev o : Option (Call × Reply)
  o = K.enters (m.parts c).client action told

  abbrev view : View'
  view = K.after (m.parts c).client action told

  abbrev s : State
  s = now K opens step plan m rule

  abbrev x : Scene View' Call Reply
  x = scene_before K opens step plan m rule c number view o

  is_site : IsSite plan.shape (site_of spot)
  is_site = site_so K plan c spot (m.parts c) may.reaches

  is_at : IsAt K plan.client plan.shape x spot found
  is_at = stands_at K opens step plan m rule c spot may.reaches

  -- to the client the number is written at the spot
  scene_is : known_after K (with_spot x spot number) c action told ≡ scene_written K opens step plan m rule c number view o spot
  scene_is = by spot may.reaches is_site
    where
      by : (a : Spot) → Reaches K plan c a (m.parts c) → IsSite plan.shape (site_of a) → known_after K (with_spot x a number) c action told ≡ scene_written K opens step plan m rule c number view o a
      by (OwnSpot word) low is =
          let words = sym (words_after plan.shape m.words plan.own rule.wide word low number) in
          λ i. record {
            words = words i;
            entries = entered (entries_in m.history) c o;
            views = with_number (λ d. (m.parts d).client) c view;
            deferrals = x.deferrals;
            things = λ p. thing_of (s.words.header p) (s.tag p) (λ n. sym (row_stays plan.shape m.words (OfClient word) is refl number p n) i);
            owned = x.owned;
          }
      by (RowSpot q n) has is =
          let things = sym (things_after plan.shape m.words plan.own rule.wide q n is number s.words.header s.tag) in
          λ i. record {
            words = λ w. sym (words_stay plan.shape m.words plan.own rule.wide q n is number w) i;
            entries = entered (entries_in m.history) c o;
            views = with_number (λ d. (m.parts d).client) c view;
            deferrals = x.deferrals;
            things = things i;
            owned = x.owned;
          }

  keeps : Keeps K opens step plan.client plan.shape x (scene_written K opens step plan m rule c number view o spot)
  keeps = subst (Keeps K opens step plan.client plan.shape x) scene_is (kept plan.client plan.shape x c spot change found rule.client may.allowed is_at)

  pub finds : FindsAt K plan c m.history (m.parts c) spot change told
  finds = record { found = found; tells = refl; scene = x; holds = rule.client; entries = refl; deferrals = refl; knows = refl; inside = things_inside K opens step plan m rule; at = is_at }

  pub steps_so : IsLegal (PastOpens opens) (PastSteps step) ((manager_terms K).start plan) m.history → (carried : List (ℕ × Unit {0}))
      → Acts (manager_terms K) (PastOpens opens) (PastSteps step) plan m at number c carried (seeing m.history [] (happened c o) (acted K plan c (m.parts c) action told) carried) holding
  steps_so legal carried = acts_at K opens step plan m rule c number view o spot is_site may.rests keeps.0 legal keeps.1 carried

module _ {Self View' Call Reply State' : Type 0} (K : ClientTerms Self View' Call Reply State') where
  -- and it stands in the table
  pub spot_within : (shape : Shape) (plan : Plan Self) (spot : Spot) (c : ℕ) (part : Part View') (n : ℕ) → plan.shape ≡ shape → Reaches K plan c spot part
      → n ≡ place shape (site_of spot) → n < table_words shape plan.own
  spot_within shape plan spot c part n same reaches is = by spot reaches (site_so K plan c spot part reaches) (spot_place shape plan.shape spot n same is)
    where
      by : (a : Spot) → Reaches K plan c a part → IsSite plan.shape (site_of a) → n ≡ place plan.shape (site_of a) → n < table_words shape plan.own
      by (OwnSpot word) low site at = subst (λ (x : Shape). n < table_words x plan.own) same (omega (arith, low, at))
      by (RowSpot q w) has site at = subst (λ (x : Shape). n < table_words x plan.own) same (let within = row_within plan.shape (place_of q) w site.0 site.1 in omega (arith, within, at))

module _ {Self View' Call Reply State' : Type 0} (K : ClientTerms Self View' Call Reply State') (opens : State' → Type 0) (step : State' → Call → Reply → State' → Type 0) (kept : KeptBySteps K opens step)
    (plan : Plan Self) (slots : ℕ) (spot : Spot) (change : Change) (me : Me (Unit {0}) (View (Happens Call Reply) (Unit {0}) (Plan Self) (Part View') WordName)) (may : MayStep K plan me.0.number spot change me.0.part) where
  -- on its word it is permitted
  pub permitted_at : (said : ℕ → ℕ) → ((n : ℕ) → said n ≡ answered change n) → PermittedAt K opens step plan slots spot change me (place plan.shape (site_of spot)) (changed change) said
  permitted_at said same m rule has rested below callers legal homes small =
      let c : ℕ = me.0.number in
      let found : ℕ = slice_index m.words (place plan.shape (site_of spot)) in
      let G : Part View' → Type 0 = λ p. (e : Effect (Unit {0}) (Happens Call Reply) (Unit {0}) (Part View') WordName) × (act : Act (Unit {0}))
      × Acts (manager_terms K) (PastOpens opens) (PastSteps step) plan m (place plan.shape (site_of spot)) (changed change found) c me.1 e act
      × TellsAt K plan c spot change p me.1 (said found) e in
      let may' : MayStep K plan c spot change (m.parts c) = subst (MayStep K plan c spot change) (sym has) may in
      let tells : TellsAt K plan c spot change (m.parts c) me.1 (answered change found)
      (seeing m.history [] (entries_acted K plan c (m.parts c) (Steps spot change) (answered change found)) (acted K plan c (m.parts c) (Steps spot change) (answered change found)) me.1) =
      (finds K opens step kept plan m rule c spot change may', (m.history, refl)) in
      let all : G (m.parts c) = (
        _,
        holding,
        steps_so K opens step kept plan m rule c spot change may' legal me.1,
        subst (λ n. TellsAt K plan c spot change (m.parts c) me.1 n (seeing m.history [] (entries_acted K plan c (m.parts c) (Steps spot change) (answered change found)) (acted K plan c (m.parts c) (Steps spot change) (answered change found)) me.1)) (sym (same found)) tells,
      ) in
      subst G has all

module _ {Self View' Call Reply State' : Type 0} (K : ClientTerms Self View' Call Reply State') (opens : State' → Type 0) (step : State' → Call → Reply → State' → Type 0) (plan : Plan Self)
    (spot : Spot) (change : Change) (me : Me (Unit {0}) (View (Happens Call Reply) (Unit {0}) (Plan Self) (Part View') WordName)) where
  -- what it does to its caller's seat
  pub steps_at : (told : ℕ) (n : Me (Unit {0}) (View (Happens Call Reply) (Unit {0}) (Plan Self) (Part View') WordName))
      → StepsOf (manager_terms K) (PastOpens opens) (PastSteps step) plan (λ told e. TellsAt K plan me.0.number spot change me.0.part me.1 told e) me told n → StepsAt K opens step plan spot change me told n
  steps_at told n steps =
      let entries = entries_acted K plan me.0.number me.0.part (Steps spot change) told in
      let so = steps.told.1 in
      let goes = goes_to (manager_terms K) (PastOpens opens) (PastSteps step) plan (λ told e. TellsAt K plan me.0.number spot change me.0.part me.1 told e) me told n steps
      [] entries (acted K plan me.0.number me.0.part (Steps spot change) told) me.1 so in
      let sees : steps.effect.sees ≡ true = ap (λ e. e.sees) so.1 in
      let makes : steps.effect.entries ≡ entries = ap (λ e. e.entries) so.1 in
      let seen : n.0.seen ≡ steps.effect.history ++ entries =
      ap (λ x. x.0.seen) steps.after ∙ (ap (λ b. cond b (steps.effect.history ++ steps.effect.entries) me.0.seen) sees ∙ ap (λ l. steps.effect.history ++ l) makes) in
      ((steps.effect.history, steps.begins, seen, steps.told.0), goes)
