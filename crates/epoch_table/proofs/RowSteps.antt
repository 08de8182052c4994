-- A read of a row keeps the rule, and so does a fill of the row of an object of the pass's own, where the client allows it.
use Rattle.std.proofs.Common.{◌≡◌, ◌<◌, ℕ, true, false, List, [], ◌++◌, set, slice_index, Option, None, cond, refl, ap, sym, ◌∙◌, subst, inl, ⊎_elim, arith}
use mathlib.Core.Path.{fun_ext}
use Rattle.std.proofs.lemmas.Bool.Decides.{eqb_tells}
use Rattle.std.proofs.lemmas.List.{append-nil, set-get_or}
use Rattle.atomic_table.specs.Table.{Me, Act, keeps as holding}
use Rattle.pass_book.specs.Histories.{IsLegal}
use Rattle.pgas_base.specs.declared.shapes.Shape.{Shape}
use Rattle.pgas_base.specs.declared.spots.Spot.TheVariants.{Row as RowSpot}
use Rattle.pgas_base.specs.Pointers.{Pointer}
use Rattle.epoch_laws.specs.HoldSteps.{touch}
use Rattle.epoch_laws.specs.Places.{place_of, is_among, with_number, with_place}
use Rattle.epoch_laws.specs.Seats.{Seat, is_reclaiming}
use Rattle.epoch_laws.specs.States.{State}
use Rattle.epoch_laws.specs.Steps.{move}
use Rattle.epoch_laws.specs.Words.{WordName}
use Rattle.epoch_laws.proofs.Updates.{number_here, number_there}
use Rattle.pass_table.specs.declared.views.View.{View}
use Rattle.pass_table.specs.Terms.{Moment, Effect, Acts, seeing}
use Rattle.pass_table.specs.Steps.{Steps as StepsOf}
use Rattle.pass_table.proofs.Going.{goes_to}
use Rattle.epoch_table.specs.declared.events.Happens.{Happens}
use Rattle.epoch_table.specs.declared.parts.Plan.{Plan}
use Rattle.epoch_table.specs.declared.parts.Part.{Part}
use Rattle.epoch_table.specs.Layout.{InRow, OfClient, place, table_words, IsSite}
use Rattle.epoch_table.specs.Events.{PastOpens, PastSteps, entries_in}
use Rattle.epoch_table.specs.Clients.{ClientTerms, Scene, Thing, Fills, KeptByFills, Owned, thing, thing_of, with_row, knows_after}
use Rattle.epoch_table.specs.Rule.{row_word, ManagerRule, manager_terms}
use Rattle.epoch_table.specs.RowSteps.{MayRead, MayFill, FindsOwn, FindsIn, TellsRead, filled, TellsFill, PermittedRead, PermittedFill, Reads, FillsRow}
use Rattle.epoch_table.proofs.Places.{row_within}
use Rattle.epoch_table.proofs.Writing.{in_row}
use Rattle.epoch_table.proofs.Scenes.{owned_fits}
use Rattle.epoch_table.proofs.MachineSteps.{now, reached, things_inside}
use Rattle.epoch_table.proofs.ClientSteps.{scene_before, scene_written, acts_at}
use Rattle.epoch_table.proofs.SpotWords.{words_stay, things_after}
use Rattle.epoch_table.proofs.SpotSteps.{place_in_row, row_is_at}

module _ {Self View' : Type 0} (plan : Plan Self) (c : ℕ) (q : Pointer) (at : ℕ) (part : Part View') (may : MayRead plan c q at part) where
  -- the word is one of a row, and stands in the table
  pub row_so : IsSite plan.shape (InRow (place_of q) at)
  row_so = (place_in_row plan c q part may.row, may.low)

  pub row_low : (shape : Shape) (n : ℕ) → plan.shape ≡ shape → n ≡ place shape (InRow (place_of q) at) → n < table_words shape plan.own
  row_low shape n same is =
      subst (λ (x : Shape). n < table_words x plan.own) same
      (let at_plan : n ≡ place plan.shape (InRow (place_of q) at) = is ∙ ap (λ x. place x (InRow (place_of q) at)) (sym same) in
      let within = row_within plan.shape (place_of q) at row_so.0 row_so.1 in
      omega (arith, within, at_plan))

  -- the pass isn't in a reclaim
  row_rests : is_reclaiming part.seat.phase ≡ false
  unfolding move touch
  row_rests = may.row.0.1.1.0

module _ {Self View' Call Reply State' : Type 0} (K : ClientTerms Self View' Call Reply State') (opens : State' → Type 0) (step : State' → Call → Reply → State' → Type 0)
    (plan : Plan Self) (m : Moment (Unit {0}) (Happens Call Reply) (Unit {0}) (Part View')) (rule : ManagerRule K plan m) (c : ℕ) (q : Pointer) (at : ℕ) (may : MayRead plan c q at (m.parts c)) where
  abbrev word : ℕ
  word = place plan.shape (InRow (place_of q) at)

  abbrev found : ℕ
  found = slice_index m.words word

  abbrev s : State
  s = now K opens step plan m rule

  abbrev row : ℕ → ℕ
  row = row_word plan.shape m.words (place_of q)

  abbrev view : View'
  view = (m.parts c).client

  abbrev x : Scene View' Call Reply
  x = scene_before K opens step plan m rule c found view None

  -- an object of its own stands so
  own_here : is_among (place_of q) ((m.parts c).seat).owned ≡ true → x.things (place_of q) ≡ thing q Owned row
  own_here among =
      let p = place_of q in
      let sound = reached K opens step plan m rule in
      let owned : is_among p (s.seat c).owned ≡ true = subst (λ (y : Seat). is_among p y.owned ≡ true) (rule.seats c) among in
      let state = (owned_fits s sound.map sound.sound c p owned).state in
      let count : (s.words.header p).count ≡ q.count = (rule.facts c).count p q.count (inl (inl among)) may.row.1 in
      λ i. thing_of (record { count = count i; state = state i }) (s.tag p) row

  found_here : row at ≡ found
  found_here = rw (in_row plan.shape (place_of q) at (row_so plan c q at (m.parts c) may).0 may.low) refl

  finds_own : is_among (place_of q) ((m.parts c).seat).owned ≡ true → FindsOwn K plan c m.history (m.parts c) q at found
  finds_own among = record {
    scene = x;
    holds = rule.client;
    entries = refl;
    deferrals = refl;
    knows = refl;
    owns = ap (λ (y : Seat). y.owned) (sym (rule.seats c));
    inside = things_inside K opens step plan m rule;
    row = row;
    here = own_here among;
    says = found_here;
  }

  finds_in : FindsIn K plan c m.history (m.parts c) q at found
  finds_in = record {
    held = λ among. record {
      found = found;
      tells = refl;
      scene = x;
      holds = rule.client;
      entries = refl;
      deferrals = refl;
      knows = refl;
      inside = things_inside K opens step plan m rule;
      at = row_is_at K opens step plan m rule c q at may.low among may.row;
    };
    owned = finds_own;
  }

  -- where the number found is written again, nothing changes
  same_scene : scene_written K opens step plan m rule c found view None (RowSpot q at) ≡ x
  same_scene =
      let words : set m.words word found ≡ m.words = set-get_or m.words word 0 in
      let views : ◌≡◌ {A = ℕ → View'} (with_number x.views c view) x.views =
      fun_ext (λ d. ⊎_elim (λ h. ap (with_number x.views c view) h.1 ∙ (number_here x.views c view ∙ ap x.views (sym h.1))) (λ h. number_there x.views c view d h.1) (eqb_tells d c)) in
      λ i. record {
        words = λ w. slice_index (words i) (place plan.shape (OfClient w));
        entries = entries_in m.history;
        views = views i;
        deferrals = x.deferrals;
        things = λ p. thing_of (s.words.header p) (s.tag p) (row_word plan.shape (words i) p);
        owned = x.owned;
      }

  reads_so : IsLegal (PastOpens opens) (PastSteps step) ((manager_terms K).start plan) m.history → (carried : List (ℕ × Unit {0}))
      → Acts (manager_terms K) (PastOpens opens) (PastSteps step) plan m word found c carried (seeing m.history [] [] (m.parts c) carried) holding
  reads_so legal carried =
      acts_at K opens step plan m rule c found view None (RowSpot q at) (row_so plan c q at (m.parts c) may) (row_rests plan c q at (m.parts c) may)
      (subst (K.holds plan.client plan.shape) (sym same_scene) rule.client) legal (λ l. l) carried

module _ {Self View' Call Reply State' : Type 0} (K : ClientTerms Self View' Call Reply State') (opens : State' → Type 0) (step : State' → Call → Reply → State' → Type 0) (kept : KeptByFills K)
    (plan : Plan Self) (m : Moment (Unit {0}) (Happens Call Reply) (Unit {0}) (Part View')) (rule : ManagerRule K plan m) (c : ℕ) (q : Pointer) (at value : ℕ) (may : MayFill K plan c q at value (m.parts c)) where
  abbrev after : View'
  after = K.after (m.parts c).client (Fills q at value) 0

  abbrev before : Scene View' Call Reply
  before = scene_before K opens step plan m rule c value after None

  abbrev old_row : ℕ → ℕ
  old_row = row_word plan.shape m.words (place_of q)

  site : IsSite plan.shape (InRow (place_of q) at)
  site = row_so plan c q at (m.parts c) may.read

  here : before.things (place_of q) ≡ thing q Owned old_row
  here = own_here K opens step plan m rule c q at may.read may.owned

  abbrev new : Option Thing
  new = thing q Owned (with_number old_row at value)

  -- to the client the word of its object is filled
  filled_scene : knows_after K (record before { things = with_place before.things (place_of q) new }) c (Fills q at value) 0 ≡ scene_written K opens step plan m rule c value after None (RowSpot q at)
  filled_scene =
      let s = now K opens step plan m rule in
      let things = sym (things_after plan.shape m.words plan.own rule.wide q at site value s.words.header s.tag ∙ ap (λ o. with_place before.things (place_of q) (with_row o at value)) here) in
      λ i. record {
        words = λ w. sym (words_stay plan.shape m.words plan.own rule.wide q at site value w) i;
        entries = entries_in m.history;
        views = with_number (λ d. (m.parts d).client) c after;
        deferrals = before.deferrals;
        things = things i;
        owned = before.owned;
      }

  keeps : K.holds plan.client plan.shape (scene_written K opens step plan m rule c value after None (RowSpot q at))
  keeps =
      let among : is_among (place_of q) (before.owned c) ≡ true = subst (λ (y : Seat). is_among (place_of q) y.owned ≡ true) (rule.seats c) may.owned in
      subst (K.holds plan.client plan.shape) filled_scene (kept plan.client plan.shape before c q at value old_row rule.client may.allowed may.read.low among here)

  fills_so : IsLegal (PastOpens opens) (PastSteps step) ((manager_terms K).start plan) m.history → (carried : List (ℕ × Unit {0}))
      → Acts (manager_terms K) (PastOpens opens) (PastSteps step) plan m (place plan.shape (InRow (place_of q) at)) value c carried (seeing m.history [] [] (filled K plan c (m.parts c) q at value) carried) holding
  fills_so legal carried = acts_at K opens step plan m rule c value after None (RowSpot q at) site (row_rests plan c q at (m.parts c) may.read) keeps legal (λ l. l) carried

module _ {Self View' Call Reply State' : Type 0} (K : ClientTerms Self View' Call Reply State') (opens : State' → Type 0) (step : State' → Call → Reply → State' → Type 0)
    (plan : Plan Self) (slots : ℕ) (q : Pointer) (at : ℕ) (me : Me (Unit {0}) (View (Happens Call Reply) (Unit {0}) (Plan Self) (Part View') WordName)) where
  -- a read is permitted on its word
  pub permitted_read : MayRead plan me.0.number q at me.0.part → PermittedRead K opens step plan slots q at me (place plan.shape (InRow (place_of q) at))
  permitted_read may m rule has rested below callers legal homes small =
      let c : ℕ = me.0.number in
      let word : ℕ = place plan.shape (InRow (place_of q) at) in
      let G : Part View' → Type 0 = λ p. (e : Effect (Unit {0}) (Happens Call Reply) (Unit {0}) (Part View') WordName) × (act : Act (Unit {0}))
      × Acts (manager_terms K) (PastOpens opens) (PastSteps step) plan m word (slice_index m.words word) c me.1 e act
      × TellsRead K plan c q at p me.1 (slice_index m.words word) e in
      let may' : MayRead plan c q at (m.parts c) = subst (MayRead plan c q at) (sym has) may in
      let all : G (m.parts c) = (_, holding, reads_so K opens step plan m rule c q at may' legal me.1, (finds_in K opens step plan m rule c q at may', (m.history, refl))) in
      subst G has all

  -- and a fill
  pub permitted_fill : KeptByFills K → (value : ℕ) → MayFill K plan me.0.number q at value me.0.part → PermittedFill K opens step plan slots q at value me (place plan.shape (InRow (place_of q) at))
  permitted_fill kept value may m rule has rested below callers legal homes small =
      let c : ℕ = me.0.number in
      let word : ℕ = place plan.shape (InRow (place_of q) at) in
      let G : Part View' → Type 0 = λ p. (e : Effect (Unit {0}) (Happens Call Reply) (Unit {0}) (Part View') WordName) × (act : Act (Unit {0}))
      × Acts (manager_terms K) (PastOpens opens) (PastSteps step) plan m word value c me.1 e act
      × TellsFill K plan c q at value p me.1 e in
      let may' : MayFill K plan c q at value (m.parts c) = subst (MayFill K plan c q at value) (sym has) may in
      let all : G (m.parts c) = (_, holding, fills_so K opens step kept plan m rule c q at value may' legal me.1, (m.history, refl)) in
      subst G has all

module _ {Self View' Call Reply State' : Type 0} (K : ClientTerms Self View' Call Reply State') (opens : State' → Type 0) (step : State' → Call → Reply → State' → Type 0) (plan : Plan Self)
    (q : Pointer) (at : ℕ) (me : Me (Unit {0}) (View (Happens Call Reply) (Unit {0}) (Plan Self) (Part View') WordName)) where
  -- what a read does to its caller's seat
  pub reads_at : (found : ℕ) (n : Me (Unit {0}) (View (Happens Call Reply) (Unit {0}) (Plan Self) (Part View') WordName))
      → StepsOf (manager_terms K) (PastOpens opens) (PastSteps step) plan (λ found e. TellsRead K plan me.0.number q at me.0.part me.1 found e) me found n → Reads K opens step plan q at me found n
  reads_at found n steps =
      let so = steps.told.1 in
      let goes = goes_to (manager_terms K) (PastOpens opens) (PastSteps step) plan (λ found e. TellsRead K plan me.0.number q at me.0.part me.1 found e) me found n steps [] [] me.0.part me.1 so in
      let sees : steps.effect.sees ≡ true = ap (λ e. e.sees) so.1 in
      let makes : steps.effect.entries ≡ [] = ap (λ e. e.entries) so.1 in
      let seen : n.0.seen ≡ steps.effect.history =
      ap (λ x. x.0.seen) steps.after ∙ (ap (λ b. cond b (steps.effect.history ++ steps.effect.entries) me.0.seen) sees ∙ (ap (λ l. steps.effect.history ++ l) makes ∙ append-nil steps.effect.history)) in
      (subst (λ h. FindsIn K plan me.0.number h me.0.part q at found) (sym seen) steps.told.0, goes)

  -- and what a fill does
  pub fills_at : (value told : ℕ) (n : Me (Unit {0}) (View (Happens Call Reply) (Unit {0}) (Plan Self) (Part View') WordName))
      → StepsOf (manager_terms K) (PastOpens opens) (PastSteps step) plan (λ told e. TellsFill K plan me.0.number q at value me.0.part me.1 e) me told n → FillsRow K opens step plan q at value me n
  fills_at value told n steps =
      goes_to (manager_terms K) (PastOpens opens) (PastSteps step) plan (λ told e. TellsFill K plan me.0.number q at value me.0.part me.1 e) me told n steps [] [] (filled K plan me.0.number me.0.part q at value) me.1 steps.told
