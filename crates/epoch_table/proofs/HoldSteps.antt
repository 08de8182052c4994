-- A hold of a link keeps the rule: what the link names is shown and not deferred, and the client's law on holds keeps the rest.
use Rattle.std.proofs.Common.{◌≡◌, ◌≢◌, ◌⊎◌, ◌==◌, ◌<◌, ℕ, Bool, true, false, if◌then◌else◌, List, [], ◌++◌, length, set, slice_index, Option, None, cond, refl, ap, sym, ◌∙◌, subst, inl, inr, ⊎_elim, eq-eqb, ne_eqb, append_assoc}
use mathlib.Core.Path.{fun_ext}
use Rattle.std.proofs.lemmas.Bool.Decides.{eqb_tells}
use Rattle.std.proofs.lemmas.List.{set-get_or}
use Rattle.std.proofs.lemmas.List.Elements.{All-nil, All-append}
use Rattle.atomic_table.specs.Table.{Me, Act, keeps as holding}
use Rattle.pass_book.specs.declared.entries.Entry.{Entry}
use Rattle.pass_book.specs.Histories.{IsLegal}
use Rattle.pgas_base.specs.declared.shapes.Shape.{Shape}
use Rattle.pgas_base.specs.declared.spots.Spot.{Spot}
use Rattle.pgas_base.specs.declared.spots.Spot.TheVariants.{Own as OwnSpot, Row as RowSpot}
use Rattle.pgas_base.specs.Pointers.{Pointer, word_of}
use Rattle.pool_core.specs.declared.headers.Header.{Header}
use Rattle.pool_core.specs.declared.headers.State.TheVariants.{Shown}
use Rattle.epoch_laws.specs.declared.events.EpochEvent.TheVariants.{Held}
use Rattle.epoch_laws.specs.declared.events.Item.{Item}
use Rattle.epoch_laws.specs.declared.steps.Kind.TheVariants.{Hold}
use Rattle.epoch_laws.specs.Needs.{AllMet, event}
use Rattle.epoch_laws.specs.Places.{place_of, joined_by, with_number}
use Rattle.epoch_laws.specs.Seats.{Seat, is_reclaiming}
use Rattle.epoch_laws.specs.States.{State, IsPlace}
use Rattle.epoch_laws.specs.Steps.{move}
use Rattle.epoch_laws.specs.Words.{WordName}
use Rattle.epoch_laws.proofs.Words.{IsSmall, place_in-word_of, small_in_shape, word_not_none}
use Rattle.pass_table.specs.declared.views.View.{View}
use Rattle.pass_table.specs.Terms.{Moment, Effect, Acts, put, moved, seeing}
use Rattle.pass_table.specs.Steps.{Steps as StepsOf}
use Rattle.pass_table.proofs.Going.{goes_to}
use Rattle.pass_table.proofs.Lists.{put_here, put_else}
use Rattle.epoch_table.specs.declared.events.Happens.{Happens}
use Rattle.epoch_table.specs.declared.parts.Plan.{Plan}
use Rattle.epoch_table.specs.declared.parts.Part.{Part}
use Rattle.epoch_table.specs.Layout.{OfClient, site_of, place, IsSite}
use Rattle.epoch_table.specs.Events.{entries_in, PastOpens, PastSteps}
use Rattle.epoch_table.specs.Facts.{facts_after}
use Rattle.epoch_table.specs.Clients.{ClientTerms, Scene, Links, IsLink, Holds, Looks, KeptByHolds, Keeps, IsAt, Live, thing, thing_of, known_after, entered, is_link}
use Rattle.epoch_table.specs.Rule.{row_word, scene_of, ManagerRule, manager_terms}
use Rattle.epoch_table.specs.Kinds.{entries_of_items}
use Rattle.epoch_table.specs.Spots.{happened, FindsAt, acted}
use Rattle.epoch_table.specs.Holds.{pointer_in, IsLinkWord, MayHold, part_held, entries_held, TellsHold, PermittedHold, HoldsAt}
use Rattle.epoch_table.proofs.Facts.{count_back}
use Rattle.epoch_table.proofs.Histories.{entries_own}
use Rattle.epoch_table.proofs.Entering.{happened_own}
use Rattle.epoch_table.proofs.Scenes.{live_is}
use Rattle.epoch_table.proofs.MachineSteps.{now, shape_is, seats_are, reached, things_inside}
use Rattle.epoch_table.proofs.ClientSteps.{scene_before, scene_written, acts_at}
use Rattle.epoch_table.proofs.SpotSteps.{site_so, stands_at}
use Rattle.epoch_table.proofs.HeldRule.{hold_needs, part_holding, moment_held, rule_held, legal_held, same_scene}

-- a pointer is read back from its word
pub pointer_back : (q : Pointer) → IsSmall q → pointer_in (word_of q) ≡ q
pointer_back q small =
    let p = place_in-word_of q small in
    let n = count_back q.locale q.index q.count small.count in
    λ i. record { locale = (p i).locale; index = (p i).index; count = n i }

put_twice : {A : Type 0} (all : ℕ → A) (c : ℕ) (first last : A) → ◌≡◌ {A = ℕ → A} (put (put all c first) c last) (put all c last)
put_twice all c first last =
    fun_ext
    (λ d.
    ⊎_elim
    (λ h. put_here (put all c first) c last d h.1 ∙ sym (put_here all c last d h.1))
    (λ h. let ne = h.1 in put_else (put all c first) c last d ne ∙ (put_else all c first d ne ∙ sym (put_else all c last d ne)))
    (eqb_tells d c))

-- the word is that of a pointer to an object of the shape, which is shown and not deferred
record Names (s : State) (word : ℕ) (q : Pointer) : Type 0 where
  inside : IsPlace s.shape (place_of q)
  shown : s.words.header (place_of q) ≡ record { count = q.count; state = Shown }
  none : s.tag (place_of q) ≡ None
  word_is : word_of q ≡ word
  some : word ≢ 0

module _ {Self View' Call Reply State' : Type 0} (K : ClientTerms Self View' Call Reply State') (links : Links K) where
  -- what stands at a link is 0, or names an object
  link_at : (client : Self) (shape : Shape) (x : Scene View' Call Reply) → K.holds client shape x → (spot : Spot) (n : ℕ) → is_link K spot ≡ true → IsAt K client shape x spot n → IsLink K x n
  link_at client shape x holds (OwnSpot word) n link at = subst (IsLink K x) at.1 ((links client shape x holds).0 word at.0 link)
  link_at client shape x holds (RowSpot q w) n link at =
      let here = at.1 in subst (IsLink K x) here.4 ((links client shape x holds).1 (place_of q) q.count w here.1 here.0 here.2 here.3 at.0 link)

module _ {Self View' Call Reply State' : Type 0} (K : ClientTerms Self View' Call Reply State') (opens : State' → Type 0) (step : State' → Call → Reply → State' → Type 0)
    (plan : Plan Self) (m : Moment (Unit {0}) (Happens Call Reply) (Unit {0}) (Part View')) (rule : ManagerRule K plan m) where
  names : (n : ℕ) (q : Pointer) (row : ℕ → ℕ) → n ≡ word_of q
      → (scene_of plan.shape m.words (now K opens step plan m rule) m.history (λ d. (m.parts d).client)).things (place_of q) ≡ thing q Live row → Names (now K opens step plan m rule) n (pointer_in n)
  names n q row is here =
      let s = now K opens step plan m rule in
      let live = live_is (s.words.header (place_of q)) (s.tag (place_of q)) (row_word plan.shape m.words (place_of q)) row q here in
      let inside = things_inside K opens step plan m rule (place_of q) _ here in
      let fits = (reached K opens step plan m rule).sound.fit (place_of q) in
      let low : q.count < 4294967296 = subst (λ (h : Header). h.count < 4294967296) live.0 fits.bound in
      let small : IsSmall q = small_in_shape plan.shape q rule.is_shape inside low in
      let back : pointer_in n ≡ q = ap pointer_in is ∙ pointer_back q small in
      subst (Names s n) (sym back)
      (record {
        inside = subst (λ (x : Shape). IsPlace x (place_of q)) (sym (shape_is K opens step plan m rule)) inside;
        shown = live.0;
        none = live.1;
        word_is = sym is;
        some = λ e. word_not_none q small (sym is ∙ e);
      })

module _ {Self View' Call Reply State' : Type 0} (K : ClientTerms Self View' Call Reply State') (opens : State' → Type 0) (step : State' → Call → Reply → State' → Type 0) (kept : KeptByHolds K opens step)
    (plan : Plan Self) (m : Moment (Unit {0}) (Happens Call Reply) (Unit {0}) (Part View')) (rule : ManagerRule K plan m) (c : ℕ) (spot : Spot) where
  abbrev at : ℕ
  at = place plan.shape (site_of spot)

  abbrev found : ℕ
  found = slice_index m.words at

  abbrev s : State
  s = now K opens step plan m rule

  abbrev view : View'
  view = K.after (m.parts c).client (Holds spot) found

  abbrev o : Option (Call × Reply)
  o = K.enters (m.parts c).client (Holds spot) found

  abbrev x : Scene View' Call Reply
  x = scene_before K opens step plan m rule c found view o

  -- the words stay
  scene_is : known_after K x c (Holds spot) found ≡ scene_written K opens step plan m rule c found view o spot
  scene_is =
      let words : m.words ≡ set m.words at found = sym (set-get_or m.words at 0) in
      λ i. record {
        words = λ w. slice_index (words i) (place plan.shape (OfClient w));
        entries = entered (entries_in m.history) c o;
        views = with_number x.views c view;
        deferrals = x.deferrals;
        things = λ p. thing_of (s.words.header p) (s.tag p) (row_word plan.shape (words i) p);
        owned = x.owned;
      }

  -- what the client enters, where the machine's part is done or there is none
  client_holds : is_link K spot ≡ true → IsAt K plan.client plan.shape x spot found → IsSite plan.shape (site_of spot) → is_reclaiming (m.parts c).seat.phase ≡ false
      → IsLegal (PastOpens opens) (PastSteps step) ((manager_terms K).start plan) m.history → (carried : List (ℕ × Unit {0}))
      → Acts (manager_terms K) (PastOpens opens) (PastSteps step) plan m at found c carried (seeing m.history [] (happened c o) (acted K plan c (m.parts c) (Holds spot) found) carried) holding
  client_holds link stands site rests legal carried =
      let keeps : Keeps K opens step plan.client plan.shape x (scene_written K opens step plan m rule c found view o spot) =
      subst (Keeps K opens step plan.client plan.shape x) scene_is (kept plan.client plan.shape x c spot found rule.client link stands) in
      acts_at K opens step plan m rule c found view o spot site rests keeps.0 legal keeps.1 carried

module _ {Self View' Call Reply State' : Type 0} (K : ClientTerms Self View' Call Reply State') (opens : State' → Type 0) (step : State' → Call → Reply → State' → Type 0) (links : Links K) (kept : KeptByHolds K opens step)
    (plan : Plan Self) (m : Moment (Unit {0}) (Happens Call Reply) (Unit {0}) (Part View')) (rule : ManagerRule K plan m) (c : ℕ) (spot : Spot) (may : MayHold K plan c spot (m.parts c)) where
  abbrev at' : ℕ
  at' = place plan.shape (site_of spot)

  abbrev word : ℕ
  word = slice_index m.words at'

  abbrev q : Pointer
  q = pointer_in word

  abbrev before : Seat
  before = (m.parts c).seat

  abbrev scene_now : Scene View' Call Reply
  scene_now = scene_of plan.shape m.words (now K opens step plan m rule) m.history (λ d. (m.parts d).client)

  abbrev made : Option (Call × Reply)
  made = K.enters (m.parts c).client (Holds spot) word

  stands : IsAt K plan.client plan.shape scene_now spot word
  stands = stands_at K opens step plan m rule c spot may.reaches

  site : IsSite plan.shape (site_of spot)
  site = site_so K plan c spot (m.parts c) may.reaches

  named : (word ≡ 0) ⊎ Names (now K opens step plan m rule) word q
  named = ⊎_elim inl (λ l. inr (names K opens step plan m rule word l.0 l.1 l.2 l.3)) (link_at K links plan.client plan.shape scene_now rule.client spot word may.link stands)

  pub link_word : IsLinkWord plan.shape before (m.parts c).facts word
  link_word =
      ⊎_elim inl
      (λ n.
      inr
      (record {
        inside = subst (λ (y : Shape). IsPlace y (place_of q)) (shape_is K opens step plan m rule) n.inside;
        word_is = n.word_is;
        count = λ k has known. ap (λ (h : Header). h.count) (sym n.shown) ∙ (rule.facts c).count (place_of q) k has known;
      }))
      named

  pub finds : FindsAt K plan c m.history (m.parts c) spot Looks word
  finds = record { found = word; tells = refl; scene = scene_now; holds = rule.client; entries = refl; deferrals = refl; knows = refl; inside = things_inside K opens step plan m rule; at = stands }

  rests : is_reclaiming before.phase ≡ false
  unfolding is_reclaiming
  rests = ap is_reclaiming may.pinned

  -- the effect where the link is 0, or not
  abbrev effect : Bool → List (ℕ × Unit {0}) → Effect (Unit {0}) (Happens Call Reply) (Unit {0}) (Part View') WordName
  effect none carried =
      seeing m.history [] (entries_of_items c (if none then [] else event c (Held before.token q)) ++ happened c made)
      (record (m.parts c) {
        seat = if none then before else record before { held = joined_by (place_of q) before.held };
        facts = if none then (m.parts c).facts else facts_after before (Hold q) (m.parts c).facts word;
        client = K.after (m.parts c).client (Holds spot) word;
      })
      carried

  module _ (legal : IsLegal (PastOpens opens) (PastSteps step) ((manager_terms K).start plan) m.history) (carried : List (ℕ × Unit {0})) where
    holds_none : Acts (manager_terms K) (PastOpens opens) (PastSteps step) plan m at' word c carried (effect true carried) holding
    holds_none = client_holds K opens step kept plan m rule c spot may.link stands site rests legal carried

    holds_some : c < plan.callers → Names (now K opens step plan m rule) word q → Acts (manager_terms K) (PastOpens opens) (PastSteps step) plan m at' word c carried (effect false carried) holding
    holds_some below n =
        let s = now K opens step plan m rule in
        let items : List Item = event c (Held before.token q) in
        let row : AllMet (move s c (Hold q)).needs =
        hold_needs s c q (subst (λ k. c < k) (sym (seats_are K opens step plan m rule)) below) n.inside (ap (λ (y : Seat). y.phase) (sym (rule.seats c)) ∙ may.pinned) n.shown n.none
        (subst (λ (y : Seat). length y.held < 4) (rule.seats c) may.room) in
        let held = moment_held K opens step plan m rule c q row in
        let rule' = rule_held K opens step plan m rule c q row in
        let part : Part View' = part_holding K opens step plan m rule c q row in
        let here : held.parts c ≡ part = put_here m.parts c part c refl in
        let stands' = subst (λ (y : Scene View' Call Reply). IsAt K plan.client plan.shape y spot word) (sym (same_scene K opens step plan m rule c q row)) stands in
        let G : Part View' → Type 0 = λ p. Acts (manager_terms K) (PastOpens opens) (PastSteps step) plan held at' word c carried
        (seeing held.history [] (happened c (K.enters p.client (Holds spot) word)) (record p { client = K.after p.client (Holds spot) word }) carried) holding in
        let acts : G part =
        subst G here
        (client_holds K opens step kept plan held rule' c spot may.link stands' site (subst (λ (p : Part View'). is_reclaiming p.seat.phase ≡ false) (sym here) rests)
        (legal_held K opens step plan m rule c q row legal) carried) in
        let grows = append_assoc m.history (entries_of_items c items) (happened c made) in
        let last : Part View' = record part { client = K.after (m.parts c).client (Holds spot) word } in
        let parts = put_twice m.parts c part last in
        let same : moved (manager_terms K) (PastOpens opens) (PastSteps step) held at' word c carried holding (seeing held.history [] (happened c made) last carried)
        ≡ moved (manager_terms K) (PastOpens opens) (PastSteps step) m at' word c carried holding (effect false carried) =
        λ i. record { words = set m.words at' word; homes = m.homes; history = grows i; parts = parts i } in
        record {
          valid = tt;
          slots = refl;
          history = refl;
          own = All-append (λ (e : Entry (Happens Call Reply) (Unit {0})). e.caller ≡ c) (entries_of_items c items) (happened c made) (entries_own c items) (happened_own c made);
          quiet = λ blind. absurd cc;
          legal = subst (IsLegal (PastOpens opens) (PastSteps step) ((manager_terms K).start plan)) grows acts.legal;
          shows = All-nil _;
          rule = subst (ManagerRule K plan) same acts.rule;
        }

    pub holds_so : c < plan.callers → Acts (manager_terms K) (PastOpens opens) (PastSteps step) plan m at' word c carried (effect (word == 0) carried) holding
    holds_so below =
        let G : Bool → Type 0 = λ b. Acts (manager_terms K) (PastOpens opens) (PastSteps step) plan m at' word c carried (effect b carried) holding in
        ⊎_elim (λ e. subst G (sym (eq-eqb word 0 e)) holds_none) (λ n. subst G (sym (ne_eqb word 0 n.some)) (holds_some below n)) named

module _ {Self View' Call Reply State' : Type 0} (K : ClientTerms Self View' Call Reply State') (opens : State' → Type 0) (step : State' → Call → Reply → State' → Type 0)
    (plan : Plan Self) (slots : ℕ) (spot : Spot) (me : Me (Unit {0}) (View (Happens Call Reply) (Unit {0}) (Plan Self) (Part View') WordName)) where
  -- it is permitted on its word
  pub permitted_hold : Links K → KeptByHolds K opens step → MayHold K plan me.0.number spot me.0.part → PermittedHold K opens step plan slots spot me (place plan.shape (site_of spot))
  permitted_hold links kept may m rule has rested below callers legal homes small =
      let c : ℕ = me.0.number in
      let at = place plan.shape (site_of spot) in
      let found : ℕ = slice_index m.words at in
      let G : Part View' → Type 0 = λ p. (e : Effect (Unit {0}) (Happens Call Reply) (Unit {0}) (Part View') WordName) × (act : Act (Unit {0}))
      × Acts (manager_terms K) (PastOpens opens) (PastSteps step) plan m at found c me.1 e act
      × TellsHold K plan c spot p me.1 found e in
      let may' : MayHold K plan c spot (m.parts c) = subst (MayHold K plan c spot) (sym has) may in
      let all : G (m.parts c) = (
        _,
        holding,
        holds_so K opens step links kept plan m rule c spot may' legal me.1 below,
        (link_word K opens step links kept plan m rule c spot may', finds K opens step links kept plan m rule c spot may', (m.history, refl)),
      ) in
      subst G has all

module _ {Self View' Call Reply State' : Type 0} (K : ClientTerms Self View' Call Reply State') (opens : State' → Type 0) (step : State' → Call → Reply → State' → Type 0) (plan : Plan Self)
    (spot : Spot) (me : Me (Unit {0}) (View (Happens Call Reply) (Unit {0}) (Plan Self) (Part View') WordName)) where
  -- what it does to its caller's seat
  pub holds_at : (found : ℕ) (n : Me (Unit {0}) (View (Happens Call Reply) (Unit {0}) (Plan Self) (Part View') WordName))
      → StepsOf (manager_terms K) (PastOpens opens) (PastSteps step) plan (λ found e. TellsHold K plan me.0.number spot me.0.part me.1 found e) me found n → HoldsAt K opens step plan spot me found n
  holds_at found n steps =
      let entries = entries_held K plan me.0.number spot me.0.part found in
      let so = steps.told.2 in
      let goes = goes_to (manager_terms K) (PastOpens opens) (PastSteps step) plan (λ found e. TellsHold K plan me.0.number spot me.0.part me.1 found e) me found n steps
      [] entries (part_held K plan me.0.number spot me.0.part found) me.1 so in
      let sees : steps.effect.sees ≡ true = ap (λ e. e.sees) so.1 in
      let makes : steps.effect.entries ≡ entries = ap (λ e. e.entries) so.1 in
      let seen : n.0.seen ≡ steps.effect.history ++ entries =
      ap (λ x. x.0.seen) steps.after ∙ (ap (λ b. cond b (steps.effect.history ++ steps.effect.entries) me.0.seen) sees ∙ ap (λ l. steps.effect.history ++ l) makes) in
      (steps.told.0, (steps.effect.history, steps.begins, seen, steps.told.1), goes)
