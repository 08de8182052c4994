-- A step on a spot that changes nothing of the machine: the rule is kept where the client's is.
use Rattle.std.proofs.Common.{◌≡◌, ◌+◌, ◌≤◌, ℕ, Bool, true, false, List, [], ◌++◌, set, slice_index, Option, refl, ap, sym, ◌∙◌, subst, ⊎_elim, length-set}
use mathlib.Core.Path.{fun_ext}
use Rattle.std.proofs.lemmas.Bool.{false≢true}
use Rattle.std.proofs.lemmas.Bool.Decides.{eqb_tells}
use Rattle.std.proofs.lemmas.List.Elements.{All-nil}
use Rattle.atomic_table.specs.Table.{keeps as holding}
use Rattle.pass_book.specs.declared.entries.Entry.{Entry}
use Rattle.pass_book.specs.Histories.{IsLegal}
use Rattle.pgas_base.specs.declared.spots.Spot.{Spot}
use Rattle.epoch_laws.specs.Places.{with_number}
use Rattle.epoch_laws.specs.Seats.{is_reclaiming}
use Rattle.epoch_laws.specs.States.{State}
use Rattle.epoch_laws.proofs.Updates.{number_here, number_there}
use Rattle.pass_table.specs.Terms.{Moment, Acts, put, seeing}
use Rattle.pass_table.proofs.Lists.{put_here, put_else}
use Rattle.epoch_table.specs.declared.events.Happens.{Happens}
use Rattle.epoch_table.specs.declared.parts.Plan.{Plan}
use Rattle.epoch_table.specs.declared.parts.Part.{Part}
use Rattle.epoch_table.specs.Layout.{OfClient, site_of, place, IsSite}
use Rattle.epoch_table.specs.Events.{HasNoReturn, items_in, entries_in, PastOpens, PastSteps}
use Rattle.epoch_table.specs.Facts.{AreFacts}
use Rattle.epoch_table.specs.Heads.{givens, winners}
use Rattle.epoch_table.specs.Clients.{ClientTerms, Scene, entered, deferrals_in, thing_of}
use Rattle.epoch_table.specs.Rule.{row_word, scene_of, ManagerRule, manager_terms}
use Rattle.epoch_table.specs.Spots.{happened}
use Rattle.epoch_table.proofs.MachineSteps.{now}
use Rattle.epoch_table.proofs.Entering.{items_stay, entries_grow, own_stay, happened_own, legal_entered}
use Rattle.epoch_table.proofs.SpotWords.{named_stay}

-- what holds of each holds still where one is another of which it holds
pub of_put : {A : Type 0} (all : ℕ → A) (c : ℕ) (new : A) (P : ℕ → A → Type 0) → ((d : ℕ) → P d (all d)) → P c new → (d : ℕ) → P d (put all c new d)
of_put all c new P each one d =
    ⊎_elim (λ h. subst (P d) (sym (put_here all c new d h.1)) (subst (λ e. P e new) (sym h.1) one)) (λ h. subst (P d) (sym (put_else all c new d h.1)) (each d)) (eqb_tells d c)

module _ {Self View' Call Reply State' : Type 0} (K : ClientTerms Self View' Call Reply State') (opens : State' → Type 0) (step : State' → Call → Reply → State' → Type 0)
    (plan : Plan Self) (m : Moment (Unit {0}) (Happens Call Reply) (Unit {0}) (Part View')) (rule : ManagerRule K plan m) (c number : ℕ) (view : View') (o : Option (Call × Reply)) where
  -- the state that the words show
  abbrev s : State
  s = now K opens step plan m rule

  -- what the client speaks of now
  abbrev pub scene_before : Scene View' Call Reply
  scene_before = scene_of plan.shape m.words s m.history (λ d. (m.parts d).client)

  -- and where the number is written at a spot, the pass then knows so much, and this happened
  abbrev pub scene_written : Spot → Scene View' Call Reply
  scene_written a =
      let words = set m.words (place plan.shape (site_of a)) number in
      record scene_before {
        words = λ w. slice_index words (place plan.shape (OfClient w));
        entries = entered (entries_in m.history) c o;
        views = with_number (λ d. (m.parts d).client) c view;
        things = λ p. thing_of (s.words.header p) (s.tag p) (row_word plan.shape words p);
      }

  abbrev pub part_then : Part View'
  part_then = record (m.parts c) { client = view }

  abbrev parts_then : ℕ → Part View'
  parts_then = put m.parts c part_then

  abbrev history_then : List (Entry (Happens Call Reply) (Unit {0}))
  history_then = m.history ++ happened c o

  -- what holds of the part of each pass that an action leaves as it was holds still
  of_parts : (P : ℕ → Part View' → Type 0) → ((d : ℕ) → P d (m.parts d)) → P c part_then → (d : ℕ) → P d (parts_then d)
  of_parts = of_put m.parts c part_then

  won_then : ◌≡◌ {A = ℕ → Bool} (λ d. (parts_then d).won) (λ d. (m.parts d).won)
  won_then = fun_ext (of_parts (λ d p. p.won ≡ (m.parts d).won) (λ d. refl) refl)

  views_then : ◌≡◌ {A = ℕ → View'} (λ d. (parts_then d).client) (with_number (λ d. (m.parts d).client) c view)
  views_then =
      fun_ext
      (λ d.
      ⊎_elim
      (λ h. ap (λ p. p.client) (put_here m.parts c part_then d h.1) ∙ (sym (number_here (λ d. (m.parts d).client) c view) ∙ ap (with_number (λ d. (m.parts d).client) c view) (sym h.1)))
      (λ h. ap (λ p. p.client) (put_else m.parts c part_then d h.1) ∙ sym (number_there (λ d. (m.parts d).client) c view d h.1))
      (eqb_tells d c))

  module _ (spot : Spot) (is_site : IsSite plan.shape (site_of spot)) (rests : is_reclaiming (m.parts c).seat.phase ≡ false) (holds : K.holds plan.client plan.shape (scene_written spot)) where
    abbrev words_then : List ℕ
    words_then = set m.words (place plan.shape (site_of spot)) number

    scene_then : scene_of plan.shape words_then s history_then (λ d. (parts_then d).client) ≡ scene_written spot
    scene_then =
        let entries = entries_grow m.history c o in
        let views = views_then in
        let items = items_stay m.history c o in
        λ i. record {
          words = λ w. slice_index words_then (place plan.shape (OfClient w));
          entries = entries i;
          views = views i;
          deferrals = deferrals_in (items i);
          things = λ p. thing_of (s.words.header p) (s.tag p) (row_word plan.shape words_then p);
          owned = λ d. (s.seat d).owned;
        }

    rule_then : ManagerRule K plan record { words = words_then; homes = m.homes; history = history_then; parts = parts_then }
    rule_then = record {
      is_shape = rule.is_shape;
      is_start = rule.is_start;
      count = rule.count;
      steps = rule.steps;
      run = rule.run;
      listed = items_stay m.history c o ∙ rule.listed;
      own = own_stay m.history c o rule.own;
      owns = rule.owns;
      wide = length-set m.words _ _ ∙ rule.wide;
      shown = λ name is. named_stay plan.shape m.words plan.own rule.wide spot is_site number name is ∙ rule.shown name is;
      seats = of_parts (λ d p. p.seat ≡ s.seat d) rule.seats (rule.seats c);
      facts = of_parts (λ d p. AreFacts s.words p.seat p.facts) rule.facts (rule.facts c);
      heads = λ l.
          subst (λ won. (s.words.free_head l).count ≤ plan.start.stack + givens (items_in history_then) + winners plan.callers won) (sym won_then)
          (subst (λ items. (s.words.free_head l).count ≤ plan.start.stack + givens items + winners plan.callers (λ d. (m.parts d).won)) (sym (items_stay m.history c o)) (rule.heads l));
      small = rule.small;
      low = rule.low;
      returns = λ none. subst HasNoReturn (sym (items_stay m.history c o)) (rule.returns none);
      reclaims = of_parts (λ d p. is_reclaiming p.seat.phase ≡ true → K.may_reclaim p.client p.seat.owned) rule.reclaims (λ r. absurd (false≢true (sym rests ∙ r)));
      client = subst (K.holds plan.client plan.shape) (sym scene_then) holds;
    }

    pub acts_at : IsLegal (PastOpens opens) (PastSteps step) ((manager_terms K).start plan) m.history
        → (IsLegal opens step (K.start plan.client) (entries_in m.history) → IsLegal opens step (K.start plan.client) (entered (entries_in m.history) c o)) → (carried : List (ℕ × Unit {0}))
        → Acts (manager_terms K) (PastOpens opens) (PastSteps step) plan m (place plan.shape (site_of spot)) number c carried (seeing m.history [] (happened c o) part_then carried) holding
    acts_at legal keeps carried = record {
      valid = tt;
      slots = refl;
      history = refl;
      own = happened_own c o;
      quiet = λ blind. absurd cc;
      legal = legal_entered opens step ((manager_terms K).start plan) m.history c o legal keeps;
      shows = All-nil _;
      rule = rule_then;
    }
