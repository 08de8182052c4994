-- A hold as a step of the machine: the rule is kept where it is listed, before anything that the client enters.
use Rattle.std.proofs.Common.{◌≡◌, ◌<◌, ◌≤◌, ◌+◌, ℕ, Bool, true, List, [], ◌∷◌, ◌++◌, None, length, slice_index, refl, ap, ap₂, sym, ◌∙◌, subst, inr, ⊎_elim, arith}
use mathlib.Core.Path.{fun_ext}
use Rattle.std.proofs.lemmas.List.{append-nil}
use Rattle.std.proofs.lemmas.Bool.Decides.{eqb_tells}
use Rattle.pass_book.specs.declared.entries.Entry.{Entry}
use Rattle.pass_book.specs.Histories.{IsLegal}
use Rattle.pgas_base.specs.Pointers.{Pointer}
use Rattle.pgas_base.specs.Shapes.{IsShape}
use Rattle.pool_core.specs.declared.headers.Header.{Header}
use Rattle.pool_core.specs.declared.headers.State.TheVariants.{Shown}
use Rattle.epoch_laws.specs.declared.events.EpochEvent.TheVariants.{Held}
use Rattle.epoch_laws.specs.declared.events.Item.{Item}
use Rattle.epoch_laws.specs.declared.steps.Kind.TheVariants.{Hold}
use Rattle.epoch_laws.specs.declared.steps.Step.{Step}
use Rattle.epoch_laws.specs.HoldSteps.{hold}
use Rattle.epoch_laws.specs.Histories.{IsLegalHistory}
use Rattle.epoch_laws.specs.Items.{happenings, IsExactRelease}
use Rattle.epoch_laws.specs.Needs.{AllMet, Outcome, event}
use Rattle.epoch_laws.specs.Places.{Place, place_of, joined_by}
use Rattle.epoch_laws.specs.Runs.{IsRun, state_after, items_of}
use Rattle.epoch_laws.specs.Seats.{Seat, Pinned, is_reclaiming}
use Rattle.epoch_laws.specs.States.{State, IsPlace}
use Rattle.epoch_laws.specs.Steps.{move}
use Rattle.epoch_laws.specs.Words.{Words}
use Rattle.epoch_laws.proofs.Frames.{leaves_others, others_kept}
use Rattle.epoch_laws.proofs.Onward.{allowed_then, after_then, items_then as run_items_then}
use Rattle.epoch_laws.proofs.Theorem.{events_are_legal, release_is_exact}
use Rattle.epoch_laws.proofs.Updates.{number_here}
use Rattle.pass_table.specs.Terms.{Moment, put}
use Rattle.pass_table.proofs.Lists.{put_here, put_else}
use Rattle.epoch_table.specs.declared.events.Happens.{Happens}
use Rattle.epoch_table.specs.declared.parts.Plan.{Plan}
use Rattle.epoch_table.specs.declared.parts.Part.{Part}
use Rattle.epoch_table.specs.Layout.{OfClient, place}
use Rattle.epoch_table.specs.Events.{HasNoReturn, items_in, PastOpens, PastSteps}
use Rattle.epoch_table.specs.Facts.{AreFacts, facts_after}
use Rattle.epoch_table.specs.Heads.{winners, givens}
use Rattle.epoch_table.specs.Knowledge.{told}
use Rattle.epoch_table.specs.Clients.{ClientTerms, thing_of, deferrals_in}
use Rattle.epoch_table.specs.Rule.{AreShown, AreSmall, AreLow, row_word, scene_of, ManagerRule, manager_terms}
use Rattle.epoch_table.specs.Kinds.{entries_of_items}
use Rattle.epoch_table.proofs.Facts.{own_facts, other_facts}
use Rattle.epoch_table.proofs.Heads.{givens_then}
use Rattle.epoch_table.proofs.Histories.{items_then, entries_then, own_then, deferrals_then, legal_then}
use Rattle.epoch_table.proofs.Keeps.{small_kept}
use Rattle.epoch_table.proofs.Lows.{low_kept}
use Rattle.epoch_table.proofs.Quiet.{held_untouched}
use Rattle.epoch_table.proofs.Returns.{no_returns_then}
use Rattle.epoch_table.proofs.MachineSteps.{now, first_state, shape_is, reached}
use Rattle.epoch_table.proofs.ClientSteps.{of_put}

-- the row of a hold is met by an object of the shape that is shown and not deferred
pub hold_needs : (s : State) (c : ℕ) (q : Pointer) → c < s.seats → IsPlace s.shape (place_of q) → (s.seat c).phase ≡ Pinned → s.words.header (place_of q) ≡ record { count = q.count; state = Shown }
    → s.tag (place_of q) ≡ None → length (s.seat c).held < 4 → AllMet (move s c (Hold q)).needs
unfolding move hold
hold_needs s c q below inside pinned shown none room = (below, (inside, (pinned, (shown, (none, (room, tt))))))

abbrev seat_holding : Seat → Pointer → Seat
seat_holding seat q = record seat { held = joined_by (place_of q) seat.held }

-- what it leaves its seat, and lists
held_told : (s : State) (c : ℕ) (q : Pointer) (seat : Seat) → seat ≡ s.seat c → told (move s c (Hold q)).outcome c ≡ record { seat = seat_holding seat q; items = event c (Held seat.token q) }
unfolding move hold
held_told s c q seat same =
    ap (λ (x : Seat). record { seat = x; items = event c (Held (s.seat c).token q) }) (number_here s.seat c (seat_holding (s.seat c) q))
    ∙ ap (λ (x : Seat). record { seat = seat_holding x q; items = event c (Held x.token q) }) (sym same)

held_words : (s : State) (c : ℕ) (q : Pointer) → (move s c (Hold q)).outcome.next.words ≡ s.words
unfolding move hold
held_words s c q = refl

no_given : (c : ℕ) (seat : Seat) (q : Pointer) → givens (event c (Held seat.token q)) ≡ 0
unfolding givens
no_given c seat q = refl

no_deferral : (c : ℕ) (seat : Seat) (q : Pointer) → deferrals_in (event c (Held seat.token q)) ≡ []
unfolding deferrals_in
no_deferral c seat q = refl

no_return : (c : ℕ) (seat : Seat) (q : Pointer) → HasNoReturn (event c (Held seat.token q))
unfolding HasNoReturn
no_return c seat q = tt

module _ {Self View' Call Reply State' : Type 0} (K : ClientTerms Self View' Call Reply State') (opens : State' → Type 0) (step : State' → Call → Reply → State' → Type 0) (plan : Plan Self)
    (m : Moment (Unit {0}) (Happens Call Reply) (Unit {0}) (Part View')) (rule : ManagerRule K plan m) (c : ℕ) (q : Pointer) (row : AllMet (move (now K opens step plan m rule) c (Hold q)).needs) where
  abbrev s : State
  s = now K opens step plan m rule

  abbrev before : Seat
  before = (m.parts c).seat

  abbrev items : List Item
  items = event c (Held before.token q)

  -- the part, the parts and the history then
  abbrev pub part_holding : Part View'
  part_holding = record (m.parts c) { seat = seat_holding before q; facts = facts_after before (Hold q) (m.parts c).facts 0 }

  abbrev parts_then : ℕ → Part View'
  parts_then = put m.parts c part_holding

  abbrev history_then : List (Entry (Happens Call Reply) (Unit {0}))
  history_then = m.history ++ entries_of_items c items

  abbrev pub moment_held : Moment (Unit {0}) (Happens Call Reply) (Unit {0}) (Part View')
  moment_held = record { words = m.words; homes = m.homes; history = history_then; parts = parts_then }

  abbrev made : Outcome
  made = (move s c (Hold q)).outcome

  told_is : told made c ≡ record { seat = seat_holding before q; items = items }
  told_is = held_told s c q before (rule.seats c)

  abbrev steps_then : List Step
  steps_then = rule.steps ++ record { seat = c; kind = Hold q } ∷ []

  state_is : state_after (first_state K opens step plan m rule) steps_then ≡ made.next
  state_is = after_then (first_state K opens step plan m rule) rule.steps (record { seat = c; kind = Hold q })

  run_then : IsRun plan.shape plan.start plan.callers steps_then
  run_then = allowed_then (first_state K opens step plan m rule) rule.steps (record { seat = c; kind = Hold q }) rule.run row

  items_are : items_of (first_state K opens step plan m rule) steps_then ≡ items_in m.history ++ items
  items_are = run_items_then (first_state K opens step plan m rule) rule.steps (record { seat = c; kind = Hold q }) ∙ ap₂ (λ xs ys. xs ++ ys) (sym rule.listed) (ap (λ t. t.items) told_is)

  -- the history stays legal
  pub legal_held : IsLegal (PastOpens opens) (PastSteps step) ((manager_terms K).start plan) m.history → IsLegal (PastOpens opens) (PastSteps step) ((manager_terms K).start plan) history_then
  legal_held legal =
      let events : IsLegalHistory plan.start.count (happenings (items_in m.history ++ items)) =
      subst (λ l. IsLegalHistory plan.start.count (happenings l)) items_are (events_are_legal plan.shape plan.start plan.callers steps_then rule.is_shape rule.count run_then) in
      let exact : IsExactRelease plan.start.epoch plan.start.count (items_in m.history ++ items) =
      subst (λ l. IsExactRelease plan.start.epoch plan.start.count l) items_are (release_is_exact plan.shape plan.start plan.callers steps_then rule.is_shape rule.count run_then) in
      legal_then opens step ((manager_terms K).start plan) m.history c items refl (inr (_, refl)) legal events exact

  seats_then : (d : ℕ) → (parts_then d).seat ≡ made.next.seat d
  seats_then d =
      ⊎_elim
      (λ h. ap (λ (p : Part View'). p.seat) (put_here m.parts c part_holding d h.1) ∙ (sym (ap (λ t. t.seat) told_is) ∙ ap made.next.seat (sym h.1)))
      (λ h. ap (λ (p : Part View'). p.seat) (put_else m.parts c part_holding d h.1) ∙ (rule.seats d ∙ sym (others_kept s c (Hold q) d h.1)))
      (eqb_tells d c)

  shape_so : IsShape s.shape
  shape_so = subst IsShape (sym (shape_is K opens step plan m rule)) rule.is_shape

  -- what each pass knows is still so
  facts_then : (d : ℕ) → AreFacts made.next.words (parts_then d).seat (parts_then d).facts
  facts_then d =
      let sound = reached K opens step plan m rule in
      ⊎_elim
      (λ h.
      subst (λ (p : Part View'). AreFacts made.next.words p.seat p.facts) (sym (put_here m.parts c part_holding d h.1))
      (subst (λ (x : Seat). AreFacts made.next.words x part_holding.facts) (ap (λ t. t.seat) told_is)
      (own_facts s c shape_so sound.map sound.sound sound.current rule.small 0 (Hold q) (m.parts c).facts row tt (subst (λ (x : Seat). AreFacts s.words x (m.parts c).facts) (rule.seats c) (rule.facts c)))))
      (λ h.
      let ne = h.1 in
      subst (λ (p : Part View'). AreFacts made.next.words p.seat p.facts) (sym (put_else m.parts c part_holding d ne))
      (subst (λ (x : Seat). AreFacts made.next.words x (m.parts d).facts) (sym (rule.seats d))
      (other_facts s made.next d (m.parts d).facts
      (leaves_others plan.start.epoch plan.start.count s (items_of (first_state K opens step plan m rule) rule.steps) sound (record { seat = c; kind = Hold q }) row d ne)
      (subst (λ (x : Seat). AreFacts s.words x (m.parts d).facts) (rule.seats d) (rule.facts d)))))
      (eqb_tells d c)

  won_then : ◌≡◌ {A = ℕ → Bool} (λ d. (parts_then d).won) (λ d. (m.parts d).won)
  won_then = fun_ext (of_put m.parts c part_holding (λ d p. p.won ≡ (m.parts d).won) (λ d. refl) refl)

  views_then : ◌≡◌ {A = ℕ → View'} (λ d. (parts_then d).client) (λ d. (m.parts d).client)
  views_then = fun_ext (of_put m.parts c part_holding (λ d p. p.client ≡ (m.parts d).client) (λ d. refl) refl)

  givens_so : givens (items_in history_then) ≡ givens (items_in m.history) + 0
  givens_so = ap givens (items_then m.history c items) ∙ (givens_then (items_in m.history) items ∙ ap (λ n. givens (items_in m.history) + n) (no_given c before q))

  heads_then : (l : ℕ) → (made.next.words.free_head l).count ≤ plan.start.stack + givens (items_in history_then) + winners plan.callers (λ d. (parts_then d).won)
  heads_then l =
      let same : (made.next.words.free_head l).count ≡ (s.words.free_head l).count = ap (λ (w : Words). (w.free_head l).count) (held_words s c q) in
      let was = rule.heads l in
      let more = givens_so in
      subst (λ (won : ℕ → Bool). (made.next.words.free_head l).count ≤ plan.start.stack + givens (items_in history_then) + winners plan.callers won) (sym won_then) (omega (arith, same, was, more))

  -- to the client nothing has changed
  scene_stays : scene_of plan.shape m.words (state_after (first_state K opens step plan m rule) steps_then) history_then (λ d. (parts_then d).client) ≡ scene_of plan.shape m.words s m.history (λ d. (m.parts d).client)
  scene_stays =
      let after = state_after (first_state K opens step plan m rule) steps_then in
      let still = held_untouched s c q in
      let header : ◌≡◌ {A = Place → Header} after.words.header s.words.header = ap (λ (x : State). x.words.header) state_is ∙ still.header in
      let tag = ap (λ (x : State). x.tag) state_is ∙ still.tag in
      let owned : ◌≡◌ {A = ℕ → List Place} (λ d. (after.seat d).owned) (λ d. (s.seat d).owned) = fun_ext (λ d. ap (λ (x : State). (x.seat d).owned) state_is ∙ still.owned d) in
      let entries = entries_then m.history c items in
      let views = views_then in
      let deferrals : deferrals_in (items_in history_then) ≡ deferrals_in (items_in m.history) =
      ap deferrals_in (items_then m.history c items) ∙ (deferrals_then (items_in m.history) items ∙ (ap (λ l. deferrals_in (items_in m.history) ++ l) (no_deferral c before q) ∙ append-nil (deferrals_in (items_in m.history)))) in
      λ i. record {
        words = λ w. slice_index m.words (place plan.shape (OfClient w));
        entries = entries i;
        views = views i;
        deferrals = deferrals i;
        things = λ p. thing_of (header i p) (tag i p) (row_word plan.shape m.words p);
        owned = owned i;
      }

  pub rule_held : ManagerRule K plan moment_held
  rule_held = record {
    is_shape = rule.is_shape;
    is_start = rule.is_start;
    count = rule.count;
    steps = steps_then;
    run = run_then;
    listed = items_then m.history c items ∙ sym items_are;
    own = own_then m.history c items rule.own (refl, tt);
    owns = rule.owns;
    wide = rule.wide;
    shown = subst (λ (x : State). AreShown plan.shape m.words x.words) (sym state_is) (subst (AreShown plan.shape m.words) (sym (held_words s c q)) rule.shown);
    seats = λ d. seats_then d ∙ ap (λ (x : State). x.seat d) (sym state_is);
    facts = λ d. subst (λ (x : State). AreFacts x.words (parts_then d).seat (parts_then d).facts) (sym state_is) (facts_then d);
    heads = λ l. subst (λ (x : State). (x.words.free_head l).count ≤ plan.start.stack + givens (items_in history_then) + winners plan.callers (λ d. (parts_then d).won)) (sym state_is) (heads_then l);
    small = subst AreSmall (sym state_is) (small_kept s rule.small c (Hold q) shape_so row);
    low = subst AreLow (sym state_is) (low_kept s rule.low c (Hold q) row);
    returns = λ none. subst HasNoReturn (sym (items_then m.history c items)) (no_returns_then (items_in m.history) items (rule.returns none) (no_return c before q));
    reclaims = of_put m.parts c part_holding (λ d p. is_reclaiming p.seat.phase ≡ true → K.may_reclaim p.client p.seat.owned) rule.reclaims (rule.reclaims c);
    client = subst (K.holds plan.client plan.shape) (sym scene_stays) rule.client;
  }

  pub same_scene : scene_of plan.shape m.words (now K opens step plan moment_held rule_held) history_then (λ d. (parts_then d).client) ≡ scene_of plan.shape m.words s m.history (λ d. (m.parts d).client)
  unfolding rule_held
  same_scene = scene_stays
