-- What the clauses of a hold say.
use Rattle.std.proofs.Common.{◌≡◌, ◌⊎◌, ◌↔◌, ◌==◌, ◌&&◌, ◌<◌, ◌+◌, ◌*◌, ◌++◌, ℕ, suc, Bool, true, false, if◌then◌else◌, List, [], ◌∷◌, Option, Some, None, map, length, refl, ap, sym, ◌∙◌, subst, inl, inr, ⊎_elim, arith, eq-eqb, ne_eqb}
use Rattle.std.specs.Prelude.{is_some, unwrap_or, IfSome, IsNone}
use Rattle.std.specs.List.{Contains, list_any}
use Rattle.std.proofs.lemmas.Bool.{false≢true, cases_Bool}
use Rattle.std.proofs.lemmas.List.{length-map}
use Rattle.pass_book.specs.declared.entries.Entry.{Entry}
use Rattle.pass_book.specs.Pages.{Gains}
use Rattle.pass_table.specs.Views.{page_of}
use Rattle.pass_table.proofs.Going.{gains_of}
use Rattle.pgas_base.specs.declared.shapes.Shape.{Shape}
use Rattle.pgas_base.specs.declared.spots.Spot.{Spot}
use Rattle.pgas_base.specs.Pointers.{Pointer, IsPointer, NamesPointer, word_of}
use Rattle.pgas_base.specs.Shapes.{IsShape}
use Rattle.epoch_laws.specs.declared.steps.Kind.TheVariants.{Hold}
use Rattle.epoch_laws.specs.declared.tokens.Token.{Token}
use Rattle.epoch_laws.specs.Places.{Place, place_of, place_in, pointer_at, index_in, is_among, joined_by}
use Rattle.epoch_laws.specs.Seats.{Seat}
use Rattle.epoch_laws.specs.States.{IsPlace}
use Rattle.epoch_laws.proofs.Lists.{among_nil, among_here, among_more, among_cons}
use Rattle.epoch_laws.proofs.Updates.{place_here, at_place, same_place_tells}
use Rattle.epoch_laws.proofs.Words.{IsSmall, word_not_none}
use Rattle.epoch_table.specs.declared.events.Happens.{Happens}
use Rattle.epoch_table.specs.declared.parts.Plan.{Plan}
use Rattle.epoch_table.specs.declared.parts.Part.{Part}
use Rattle.epoch_table.specs.Clients.{ClientTerms, Holds, is_link}
use Rattle.epoch_table.specs.Events.{PastOpens, PastSteps}
use Rattle.epoch_table.specs.Facts.{Facts, count_of, facts_after, Keeps}
use Rattle.epoch_table.specs.Holds.{pointer_in, IsLinkWord, MayHold, part_held, entries_held, HoldsAt}
use Rattle.epoch_table.specs.Kinds.{entries_of_items}
use Rattle.epoch_table.specs.Rule.{manager_terms, is_between}
use Rattle.epoch_table.specs.Spots.{happened}
use Rattle.epoch_table.proofs.HoldSteps.{pointer_back}
use Rattle.epoch_manager.specs.declared.phases.Phase.{Phase}
use Rattle.epoch_manager.specs.declared.phases.Phase.TheVariants.{Pinned}
use Rattle.epoch_manager.specs.Fits.{is_place, are_known, may_hold, IsKept, PassFits}
use Rattle.epoch_manager.specs.HeldNumbers.{number_of, joined_number, joined_numbers}
use Rattle.epoch_manager.specs.HoldCalls.{link_word, HoldsThen, held_items}
use Rattle.epoch_manager.specs.Managers.{pointer_of, pointers}
use Rattle.epoch_manager.specs.SpotCalls.{IsReached}
use Rattle.epoch_manager.proofs.Known.{both, and_so, place_so, so_place, some_so, one_of, AgreeOn, pointers_agree, known_agree}
use Rattle.epoch_manager.proofs.ObjectSteps.{rests_so}
use Rattle.epoch_manager.proofs.PassClauses.{stands_pinned}
use Rattle.epoch_manager.proofs.SpotClauses.{Whole, whole, reaches_so}
use Rattle.epoch_manager.proofs.TokenSteps.{Seated, Goes}

-- ---- objects and their numbers

-- of objects whose counts are known
pub known_one : (shape : Shape) (facts : Facts) (places : List Place) → are_known shape facts places ≡ true → (p : Place) → is_among p places ≡ true → IsPlace shape p × (is_some (count_of facts p) ≡ true)
known_one shape facts [] known p h = absurd (among_nil p h)
known_one shape facts (x ∷ places) known p h =
    let two = both (is_place shape x && is_some (count_of facts x)) (are_known shape facts places) known in
    let one = both (is_place shape x) (is_some (count_of facts x)) two.0 in
    ⊎_elim
    (λ e. subst (λ r. IsPlace shape r × (is_some (count_of facts r) ≡ true)) (sym e) (place_so shape x one.0, one.1))
    (λ h. known_one shape facts places two.1 p h.1)
    (among_cons p x places h)

-- an index of the shape fits below the locale
index_low : (shape : Shape) → IsShape shape → (p : Place) → IsPlace shape p → p.index < 16777216
index_low shape is p inside = let i = inside.index in let o = is.2 in omega arith

parts_so : (l i k j : ℕ) → i < 16777216 → j < 16777216 → l * 16777216 + i ≡ k * 16777216 + j → (l ≡ k) × (i ≡ j)
parts_so l i k j hi hj e = (omega arith, omega arith)

numbers_tell : (p q : Place) → p.index < 16777216 → q.index < 16777216 → number_of p ≡ number_of q → p ≡ q
numbers_tell p q hp hq e = let parts = parts_so p.locale p.index q.locale q.index hp hq e in λ i. record { locale = parts.0 i; index = parts.1 i }

among_number : (p : Place) (places : List Place) → p.index < 16777216 → ((q : Place) → is_among q places ≡ true → q.index < 16777216)
    → is_among p places ≡ list_any (λ m. m == number_of p) (map number_of places)
unfolding is_among
among_number p [] low all = refl
among_number p (x ∷ places) low all =
    ⊎_elim
    (λ h. rw (h.0, eq-eqb (number_of x) (number_of p) (ap number_of (sym h.1))) refl)
    (λ h. let ne = h.1 in rw (h.0, ne_eqb (number_of x) (number_of p) (λ e. ne (sym (numbers_tell x p (all x (among_here x places)) low e)))) (among_number p places low (λ q a. all q (among_more q x places a))))
    (same_place_tells p x)

numbers_joined : (shape : Shape) → IsShape shape → (facts : Facts) (places : List Place) → are_known shape facts places ≡ true → (p : Place) → IsPlace shape p
    → map number_of (joined_by p places) ≡ joined_number (number_of p) (map number_of places)
unfolding joined_by
numbers_joined shape is facts places known p inside =
    let same = among_number p places (index_low shape is p inside) (λ q a. index_low shape is q (known_one shape facts places known q a).0) in
    let numbers = map number_of places in
    ⊎_elim
    (λ t. let u : list_any (λ m. m == number_of p) numbers ≡ true = sym same ∙ t in rw (t, u) refl)
    (λ f. let u : list_any (λ m. m == number_of p) numbers ≡ false = sym same ∙ f in rw (f, u) refl)
    (cases_Bool (is_among p places))

-- the numbers stay where the objects do
pub numbers_stay : {View' : Type 0} (numbers : List ℕ) (old part new : Part View') → numbers ≡ map number_of old.seat.held → new ≡ part → part.seat.held ≡ old.seat.held → numbers ≡ map number_of new.seat.held
numbers_stay numbers old part new is same held = is ∙ (ap (λ l. map number_of l) (sym held) ∙ ap (λ p. map number_of p.seat.held) (sym same))

-- ---- an object that is held

contained : (facts : Facts) (p : Place) (places : List Place) → is_among p places ≡ true → Contains (pointers facts places) (pointer_of facts p)
contained facts p [] h = absurd (among_nil p h)
contained facts p (x ∷ places) h =
    ⊎_elim
    (λ e. subst (λ r. Contains (pointers facts (x ∷ places)) (pointer_of facts r)) (sym e) (0, omega arith, refl))
    (λ h. let c = contained facts p places h.1 in (suc c.0, (let l = c.1 in omega (arith, l)), c.2))
    (among_cons p x places h)

module _ (shape : Shape) (seat : Seat) (facts : Facts) (q : Pointer) (n : ℕ) (inside : IsPlace shape (place_of q)) (count : (k : ℕ) → Keeps seat (place_of q) → count_of facts (place_of q) ≡ Some k → q.count ≡ k) where
  abbrev facts_then : Facts
  facts_then = facts_after seat (Hold q) facts n

  -- what is known of the objects that the seat has stays so
  agree : (places : List Place) → are_known shape facts places ≡ true → ((p : Place) → is_among p places ≡ true → Keeps seat p) → AgreeOn facts facts_then places
  agree places known keeps =
      at_place (λ p x. is_among p places ≡ true → x ≡ count_of facts p) (count_of facts) (place_of q) (Some q.count)
      (λ h.
      let is = some_so (count_of facts (place_of q)) (known_one shape facts places known (place_of q) h).1 in
      ap (λ k. Some k) (count (unwrap_or (count_of facts (place_of q)) 0) (keeps (place_of q) h) is) ∙ sym is)
      (λ p ne h. refl)

  now_known : count_of facts_then (place_of q) ≡ Some q.count
  now_known = place_here (count_of facts) (place_of q) (Some q.count)

  -- the pointer to it
  this_one : pointer_of facts_then (place_of q) ≡ q
  this_one = let c = ap (λ x. unwrap_or x 0) now_known in λ i. record { locale = q.locale; index = q.index; count = c i }

  held_known : are_known shape facts seat.held ≡ true → are_known shape facts_then (joined_by (place_of q) seat.held) ≡ true
  unfolding joined_by
  held_known known =
      let rest = known_agree facts facts_then shape seat.held (agree seat.held known (λ p h. inr h)) known in
      ⊎_elim
      (λ t. rw t rest)
      (λ f. rw f (and_so (is_place shape (place_of q) && is_some (count_of facts_then (place_of q))) (are_known shape facts_then seat.held) (and_so (is_place shape (place_of q)) (is_some (count_of facts_then (place_of q))) (so_place shape (place_of q) inside) (ap is_some now_known)) rest))
      (cases_Bool (is_among (place_of q) seat.held))

  held_then : are_known shape facts seat.held ≡ true → HoldsThen (pointers facts seat.held) (Some q) (pointers facts_then (joined_by (place_of q) seat.held))
  unfolding joined_by
  held_then known =
      let agrees = agree seat.held known (λ p h. inr h) in
      let rest = pointers_agree facts facts_then seat.held agrees in
      ⊎_elim
      (λ t.
      let same : pointer_of facts (place_of q) ≡ q = ap (λ x. pointer_at (place_of q) (unwrap_or x 0)) (sym (agrees (place_of q) t)) ∙ this_one in
      rw t (inl (subst (Contains (pointers facts seat.held)) same (contained facts (place_of q) seat.held t), rest)))
      (λ f. rw f (inr (λ has. false≢true (sym f ∙ (one_of shape facts seat.held q known has).among), (λ i. this_one i ∷ rest i))))
      (cases_Bool (is_among (place_of q) seat.held))

-- ---- the word that was read

small_of : (q : Pointer) → IsPointer q → IsSmall q
small_of q is = record { locale = is.locale; some_object = is.some_object; index = is.index; count = is.count }

names : (shape : Shape) → IsShape shape → (word : ℕ) → IsPlace shape (place_in word) → NamesPointer word
unfolding place_in index_in
names shape is word inside = (inside.some_object, (let l = inside.locale in let a = is.0 in omega arith))

pub link_named : (shape : Shape) → IsShape shape → (seat : Seat) (facts : Facts) (word : ℕ) → IsLinkWord shape seat facts word → (word ≡ 0) ⊎ NamesPointer word
link_named shape is seat facts word link = ⊎_elim (λ e. inl e) (λ l. inr (names shape is word l.inside)) link

-- it is 0 where no pointer has it
word_so : (shape : Shape) → IsShape shape → (seat : Seat) (facts : Facts) (word : ℕ) → IsLinkWord shape seat facts word → (found : Option Pointer) → IfSome found (λ q. word_of q ≡ word) → IsNone found ↔ (¬ NamesPointer word)
    → word ≡ link_word found
word_so shape is seat facts word link None some none = ⊎_elim (λ e. e) (λ l. absurd (none.0 refl (names shape is word l.inside))) link
word_so shape is seat facts word link (Some q) some none = sym some

-- what a link leads to, by its pointer
record Leads (shape : Shape) (seat : Seat) (facts : Facts) (q : Pointer) : Type 0 where
  inside : IsPlace shape (place_of q)
  count : (k : ℕ) → Keeps seat (place_of q) → count_of facts (place_of q) ≡ Some k → q.count ≡ k

leads_so : (shape : Shape) (seat : Seat) (facts : Facts) (q : Pointer) → IsPointer q → IsLinkWord shape seat facts (word_of q) → Leads shape seat facts q
leads_so shape seat facts q is link =
    let small = small_of q is in
    let back = pointer_back q small in
    ⊎_elim
    (λ e. absurd (word_not_none q small e))
    (λ l. subst (Leads shape seat facts) back (record { inside = l.inside; count = l.count }))
    link

module _ {C View' Call Reply State' : Type 0} (K : ClientTerms C View' Call Reply State') (opens : State' → Type 0) (step : State' → Call → Reply → State' → Type 0) (plan : Plan C) (is_shape : IsShape plan.shape)
    (m n : Seated K opens step plan) (phase : Phase) (fits : PassFits plan m.0 phase) (t : Token) (is : phase ≡ Pinned t) (spot : Spot) where
  abbrev part : Part View'
  part = m.0.part

  pub may_hold_so : IsReached plan (pointers part.facts part.seat.held) spot → is_link K spot ≡ true → length (pointers part.facts part.seat.held) < 4 → MayHold K plan m.0.number spot part
  may_hold_so reached link room = record {
    reaches = reaches_so K opens step plan m n phase fits spot reached;
    link = link;
    pinned = (stands_pinned part.seat phase t is fits.stands).0;
    room = subst (λ k. k < 4) (length-map part.seat.held (pointer_of part.facts)) room;
  }

  abbrev client_then : Option Pointer → View'
  client_then found = K.after part.client (Holds spot) (link_word found)

  -- the part afterwards, and what is entered
  abbrev part_with : Option Pointer → Part View'
  part_with None = record part { client = client_then None }
  part_with (Some q) = record part { seat = record part.seat { held = joined_by (place_of q) part.seat.held }; facts = facts_after part.seat (Hold q) part.facts (word_of q); client = client_then (Some q) }

  abbrev pub entries_with : Token → Option Pointer → List (Entry (Happens Call Reply) (Unit {0}))
  entries_with token found = entries_of_items m.0.number (held_items m.0.number token found) ++ happened m.0.number (K.enters part.client (Holds spot) (link_word found))

  part_at : (found : Option Pointer) → IfSome found IsPointer → part_held K plan m.0.number spot part (link_word found) ≡ part_with found
  part_at None pointer = refl
  part_at (Some q) pointer =
      let small = small_of q pointer in
      let G : Bool → Part View' = λ b. record part {
        seat = if b then part.seat else record part.seat { held = joined_by (place_in (word_of q)) part.seat.held };
        facts = if b then part.facts else facts_after part.seat (Hold (pointer_in (word_of q))) part.facts (word_of q);
        client = client_then (Some q);
      } in
      subst (λ b. G b ≡ part_with (Some q)) (sym (ne_eqb (word_of q) 0 (word_not_none q small)))
      (ap
      (λ (r : Pointer). record part { seat = record part.seat { held = joined_by (place_of r) part.seat.held }; facts = facts_after part.seat (Hold r) part.facts (word_of q); client = client_then (Some q) })
      (pointer_back q small))

  entries_at : (found : Option Pointer) → IfSome found IsPointer → entries_held K plan m.0.number spot part (link_word found) ≡ entries_with part.seat.token found
  entries_at None pointer = refl
  entries_at (Some q) pointer =
      let small = small_of q pointer in
      let last = happened m.0.number (K.enters part.client (Holds spot) (word_of q)) in
      let G : Bool → List (Entry (Happens Call Reply) (Unit {0})) = λ b. entries_of_items m.0.number (if b then [] else held_items m.0.number part.seat.token (Some (pointer_in (word_of q)))) ++ last in
      subst (λ b. G b ≡ entries_with part.seat.token (Some q)) (sym (ne_eqb (word_of q) 0 (word_not_none q small)))
      (ap (λ (r : Pointer). entries_of_items m.0.number (held_items m.0.number part.seat.token (Some r)) ++ last) (pointer_back q small))

  kept_with : (found : Option Pointer) → IfSome found (Leads plan.shape part.seat part.facts) → IsKept plan.shape (part_with found) phase
  kept_with None leads = record { done = fits.kept.done; owned = fits.kept.owned; held = fits.kept.held; pinned = fits.kept.pinned }
  kept_with (Some q) leads = record {
    done = fits.kept.done;
    owned = known_agree part.facts (part_with (Some q)).facts plan.shape part.seat.owned (agree plan.shape part.seat part.facts q (word_of q) leads.inside leads.count part.seat.owned fits.kept.owned (λ p h. inl (inl h))) fits.kept.owned;
    held = held_known plan.shape part.seat part.facts q (word_of q) leads.inside leads.count fits.kept.held;
    pinned = subst (λ (x : Phase). may_hold x (joined_by (place_of q) part.seat.held) ≡ true) (sym is) refl;
  }

  -- the pass is between two calls again
  pub rests_held : (word : ℕ) → HoldsAt K opens step plan spot m word n → n.0.rests ≡ true
  rests_held word holds = holds.2.3 ∙ by (word == 0)
    where
      by : (none : Bool) → is_between (if none then part.seat else record part.seat { held = joined_by (place_in word) part.seat.held }).phase ≡ true
      by true = (rests_so part.seat phase fits.stands).0
      by false = (rests_so part.seat phase fits.stands).0

  module _ (word : ℕ) (found : Option Pointer) (some : IfSome found (λ q. word_of q ≡ word)) (pointer : IfSome found IsPointer) (none : IsNone found ↔ (¬ NamesPointer word)) (holds : HoldsAt K opens step plan spot m word n) where
    word_is : word ≡ link_word found
    word_is = word_so plan.shape is_shape part.seat part.facts word holds.0 found some none

    pub holds_link : HoldsAt K opens step plan spot m (link_word found) n
    holds_link = subst (λ w. HoldsAt K opens step plan spot m w n) word_is holds

    leads : IfSome found (Leads plan.shape part.seat part.facts)
    leads = by found pointer holds_link.0
      where
        by : (o : Option Pointer) → IfSome o IsPointer → IsLinkWord plan.shape part.seat part.facts (link_word o) → IfSome o (Leads plan.shape part.seat part.facts)
        by None p link = tt
        by (Some q) p link = leads_so plan.shape part.seat part.facts q p link

    pub place_found : IfSome found (λ q. IsPlace plan.shape (place_of q))
    place_found = by found leads
      where
        by : (o : Option Pointer) → IfSome o (Leads plan.shape part.seat part.facts) → IfSome o (λ q. IsPlace plan.shape (place_of q))
        by None l = tt
        by (Some q) l = l.inside

    goes_with : Goes K opens step plan m n [] (entries_with part.seat.token found) (part_with found)
    goes_with =
        subst (λ (p : Part View'). Goes K opens step plan m n [] (entries_with part.seat.token found) p) (part_at found pointer)
        (subst (λ e. Goes K opens step plan m n [] e (part_held K plan m.0.number spot part (link_word found))) (entries_at found pointer) holds_link.2)

    pub hold_done : Whole K opens step plan m n (entries_with part.seat.token found) (part_with found) phase
    hold_done = by found leads goes_with
      where
        by : (o : Option Pointer) → IfSome o (Leads plan.shape part.seat part.facts) → Goes K opens step plan m n [] (entries_with part.seat.token found) (part_with o) → Whole K opens step plan m n (entries_with part.seat.token found) (part_with o) phase
        by None l goes = whole K opens step plan m n (entries_with part.seat.token found) (part_with None) phase fits goes (rests_so part.seat phase fits.stands).0 fits.stands (kept_with None l)
        by (Some q) l goes = whole K opens step plan m n (entries_with part.seat.token found) (part_with (Some q)) phase fits goes (rests_so part.seat phase fits.stands).0 fits.stands (kept_with (Some q) l)

    pub now_owned : pointers n.0.part.facts n.0.part.seat.owned ≡ pointers part.facts part.seat.owned
    now_owned = ap (λ (p : Part View'). pointers p.facts p.seat.owned) goes_with.1 ∙ by found leads
      where
        by : (o : Option Pointer) → IfSome o (Leads plan.shape part.seat part.facts) → pointers (part_with o).facts (part_with o).seat.owned ≡ pointers part.facts part.seat.owned
        by None l = refl
        by (Some q) l =
            pointers_agree part.facts (part_with (Some q)).facts part.seat.owned (agree plan.shape part.seat part.facts q (word_of q) l.inside l.count part.seat.owned fits.kept.owned (λ p h. inl (inl h)))

    pub now_held : HoldsThen (pointers part.facts part.seat.held) found (pointers n.0.part.facts n.0.part.seat.held)
    now_held =
        subst (λ (p : Part View'). HoldsThen (pointers part.facts part.seat.held) found (pointers p.facts p.seat.held)) (sym goes_with.1) (by found leads)
      where
        by : (o : Option Pointer) → IfSome o (Leads plan.shape part.seat part.facts) → HoldsThen (pointers part.facts part.seat.held) o (pointers (part_with o).facts (part_with o).seat.held)
        by None l = refl
        by (Some q) l = held_then plan.shape part.seat part.facts q (word_of q) l.inside l.count fits.kept.held

    pub now_among : IfSome found (λ q. Contains (pointers n.0.part.facts n.0.part.seat.held) q)
    now_among = by found now_held
      where
        by : (o : Option Pointer) → HoldsThen (pointers part.facts part.seat.held) o (pointers n.0.part.facts n.0.part.seat.held) → IfSome o (λ q. Contains (pointers n.0.part.facts n.0.part.seat.held) q)
        by None held = tt
        by (Some q) held = ⊎_elim (λ h. subst (λ l. Contains l q) (sym h.1) h.0) (λ h. subst (λ l. Contains l q) (sym h.1) (0, omega arith, refl)) held

    pub now_numbered : map number_of n.0.part.seat.held ≡ joined_numbers found (map number_of part.seat.held)
    now_numbered = ap (λ (p : Part View'). map number_of p.seat.held) goes_with.1 ∙ by found leads
      where
        by : (o : Option Pointer) → IfSome o (Leads plan.shape part.seat part.facts) → map number_of (part_with o).seat.held ≡ joined_numbers o (map number_of part.seat.held)
        by None l = refl
        by (Some q) l = numbers_joined plan.shape is_shape part.facts part.seat.held fits.kept.held (place_of q) l.inside

    pub now_knows : n.0.part.client ≡ client_then found
    now_knows = ap (λ (p : Part View'). p.client) goes_with.1 ∙ by found
      where
        by : (o : Option Pointer) → (part_with o).client ≡ client_then o
        by None = refl
        by (Some q) = refl

    -- what is entered, by the token of the phase, and the history where the number was found
    pub gains_so : (token : Token) → phase ≡ Pinned token → Gains (PastOpens opens) (PastSteps step) ((manager_terms K).start plan) m.0.number (page_of m.0) (page_of n.0) (entries_with token found)
    gains_so token so =
        subst (λ u. Gains (PastOpens opens) (PastSteps step) ((manager_terms K).start plan) m.0.number (page_of m.0) (page_of n.0) (entries_with u found)) (stands_pinned part.seat phase token so fits.stands).1
        (gains_of (manager_terms K) (PastOpens opens) (PastSteps step) plan m.0 n.0 [] (entries_with part.seat.token found) goes_with.0)

    pub seen_so : (token : Token) → phase ≡ Pinned token → n.0.seen ≡ holds_link.1.0 ++ entries_with token found
    seen_so token so =
        subst (λ u. n.0.seen ≡ holds_link.1.0 ++ entries_with u found) (stands_pinned part.seat phase token so fits.stands).1 (subst (λ e. n.0.seen ≡ holds_link.1.0 ++ e) (entries_at found pointer) holds_link.1.2)
