-- Looks at headers, and an object of the hand that becomes the caller's own.
use Rattle.std.proofs.Common.{◌≡◌, ◌≢◌, ◌⊎◌, ◌<◌, ◌≤◌, ◌==◌, ◌+◌, ◌++◌, ◌^◌, ℕ, Bool, true, false, if◌then◌else◌, List, [], ◌∷◌, Option, Some, None, refl, ap, ap₂, sym, ◌∙◌, subst, inl, inr, ⊎_elim, arith, eq-eqb}
use Rattle.std.specs.Prelude.{is_some}
use Rattle.std.proofs.lemmas.Bool.{false≢true}
use prog.Atomic.{either}
use Rattle.pass_book.specs.declared.entries.Look.{Look}
use Rattle.pgas_base.specs.Pointers.{Pointer}
use Rattle.pool_core.specs.Headers.{header_word}
use Rattle.pool_core.specs.declared.headers.State.TheVariants.{Free, Own}
use Rattle.epoch_laws.specs.declared.events.EpochEvent.TheVariants.{Given}
use Rattle.epoch_laws.specs.declared.steps.Kind.TheVariants.{TakeLook, TakeTry}
use Rattle.epoch_laws.specs.Needs.{event}
use Rattle.epoch_laws.specs.Places.{Place, is_among, without}
use Rattle.epoch_laws.specs.Seats.{is_reclaiming}
use Rattle.epoch_laws.specs.States.{IsPlace}
use Rattle.epoch_laws.specs.TakeSteps.{is_free, is_free_with, look_count}
use Rattle.epoch_laws.specs.Words.{WordName, header_of}
use Rattle.epoch_laws.proofs.Lists.{among_here}
use Rattle.epoch_laws.proofs.Updates.{at_place, place_here, place_there, same_place_tells}
use Rattle.epoch_table.specs.declared.parts.Plan.{Plan}
use Rattle.epoch_table.specs.declared.parts.Part.{Part}
use Rattle.epoch_table.specs.Clients.{ClientTerms, Takes}
use Rattle.epoch_table.specs.Facts.{Facts, Keeps, count_of, facts_after}
use Rattle.epoch_table.specs.Kinds.{entries_of_items, MayMake, Makes}
use Rattle.epoch_table.specs.Numbers.{header_in}
use Rattle.epoch_table.proofs.Knowledge.{header_read}
use Rattle.epoch_manager.specs.Takes.{later, last_header, SaysFree, IsTakenHeader, IsFreeHeader}
use Rattle.epoch_manager.specs.TakeSeats.{Has, IsKnowing, IsEmptyHanded, HasOne, SeatOf, Under, Scans, TakesOne, OwnsOne}
use Rattle.epoch_manager.proofs.TakeRows.{take_look_row, take_try_row, take_look_told, take_try_told}
use Rattle.epoch_manager.proofs.Takes.{none_of, one_of, of_both, under_none, under_one, under_then, after_under, goes_own, had_still, headers_before, headers_after, heads-append, number_still}
use Rattle.epoch_manager.proofs.TokenSteps.{Goes, made_of}

-- the header of a free object says so
free_header : (n : ℕ) → header_in (header_word n Free) ≡ record { count = n; state = Free }
free_header n = header_read (record { count = n; state = Free })

owned_header : (n : ℕ) → header_in (header_word n Own) ≡ record { count = n; state = Own }
owned_header n = header_read (record { count = n; state = Own })

free_with : (n : ℕ) → is_free_with (record { count = n; state = Free }) n ≡ true
unfolding is_free
free_with n = eq-eqb n n refl

pub header_here : (p : Place) (word : ℕ) → last_header (record { name = header_of p; word = word } ∷ []) p ≡ Some word
header_here p word = ⊎_elim (λ e. rw e.0 refl) (λ e. let ne = e.1 in absurd (ne refl)) (same_place_tells p p)

pub header_else : (p q : Place) (word : ℕ) → q ≢ p → last_header (record { name = header_of p; word = word } ∷ []) q ≡ None
header_else p q word ne = ⊎_elim (λ e. absurd (ne (sym e.1))) (λ e. rw e.0 refl) (same_place_tells p q)

module _ {C View' Call Reply State' : Type 0} (K : ClientTerms C View' Call Reply State') (opens : State' → Type 0) (step : State' → Call → Reply → State' → Type 0) (plan : Plan C) where
  abbrev S : Type 0
  S = SeatOf K opens step plan

  abbrev pub at_ : ℕ → ℕ → Place
  at_ l i = record { locale = l; index = i }

  abbrev pub seen_part : ℕ → ℕ → ℕ → Part View' → Part View'
  seen_part l i found part = record part {
    seat = record part.seat { free_look = if is_free (header_in found).state then Some (record { locale = l; index = i; count = (header_in found).count }) else None };
    facts = facts_after part.seat (TakeLook l i) part.facts found;
  }

  pub may_see : (m : S) (l i : ℕ) → m.0.number < plan.callers → is_reclaiming m.0.part.seat.phase ≡ false → IsPlace plan.shape (at_ l i) → MayMake K plan m.0.number (TakeLook l i) m.0.part
  may_see m l i below rests inside = record { row = take_look_row plan.shape plan.callers m.0.number m.0.part.seat m.0.part.facts below rests l i inside; made = tt; allowed = tt }

  module _ (m n : S) (l i found : ℕ) (makes : Makes K opens step plan (TakeLook l i) m found n) where
    abbrev read : List (Look WordName)
    read = record { name = header_of (at_ l i); word = found } ∷ []

    see_goes : Goes K opens step plan m n read [] (seen_part l i found m.0.part)
    see_goes = made_of K opens step plan (TakeLook l i) m n found _ (take_look_told plan.shape plan.callers m.0.number m.0.part.seat m.0.part.facts l i found) makes

    pub see_part : n.0.part ≡ seen_part l i found m.0.part
    see_part = see_goes.1

    see_same : ((p : Place) → Has m.0.part p → count_of (facts_after m.0.part.seat (TakeLook l i) m.0.part.facts found) p ≡ count_of m.0.part.facts p) → Under K opens step plan m n read
    see_same counts = under_one K opens step plan m n read (seen_part l i found m.0.part) see_goes (record { phase = refl; token = refl; owned = refl; held = refl; reclaim = refl; client = refl; counts = counts })

    keeps_of : (p : Place) → Has m.0.part p → Keeps m.0.part.seat p
    keeps_of p has = ⊎_elim (λ h. inl (inl h)) (λ h. inr h) has

    pub see_known : IsKnowing m.0.part → Under K opens step plan m n read
    see_known knows =
        see_same
        (λ p.
        at_place (λ q x. Has m.0.part q → x ≡ count_of m.0.part.facts q) (count_of m.0.part.facts) (at_ l i) (Some (header_in found).count)
        (λ has. let known = knows (at_ l i) has in ap Some (makes.0.0 known.0 (keeps_of (at_ l i) has) known.1) ∙ sym known.1)
        (λ q ne has. refl)
        p)

    pub see_other : (Has m.0.part (at_ l i) → ⊥) → Under K opens step plan m n read
    see_other none = see_same (λ p has. place_there (count_of m.0.part.facts) (at_ l i) (Some (header_in found).count) p (λ e. none (subst (Has m.0.part) e has)))

  -- ---- the header of each object of a locale

  pub scan_none : (l : ℕ) (m : S) → IsEmptyHanded m.0.part → Scans K opens step plan l 0 m m false
  scan_none l m empty = record {
    looks = [];
    under = under_none K opens step plan m;
    rests = empty;
    local = none_of l;
    heads = λ k. refl;
    headers = λ p local some most. absurd (omega arith);
    taken = λ free p local some most. absurd (omega arith);
    found = λ t. absurd (false≢true t);
  }

  pub knowing_still : (m n : S) (looks : List (Look WordName)) → Under K opens step plan m n looks → IsKnowing m.0.part → IsKnowing n.0.part
  knowing_still m n looks under knows p has =
      let before : Has m.0.part p = had_still K opens step plan m.0.part n.0.part under.same p has in
      let known = knows p before in
      (known.0, under.same.counts p before ∙ known.1)

  pub scan_more : (l number : ℕ) (m k n : S) (free says found : Bool) (word : ℕ) → Scans K opens step plan l number m k free → IsKnowing m.0.part → Makes K opens step plan (TakeLook l (number + 1)) k word n
      → (found ≡ false → (free ≡ false) × (¬ SaysFree word)) → (found ≡ true → (free ≡ true) ⊎ SaysFree word) → Scans K opens step plan l (number + 1) m n found
  scan_more l number m k n free says found word was knows makes tells finds =
      let p0 : Place = at_ l (number + 1) in
      let one : List (Look WordName) = record { name = header_of p0; word = word } ∷ [] in
      let under = see_known k n l (number + 1) word makes (knowing_still m k was.looks was.under knows) in
      let part = see_part k n l (number + 1) word makes in
      let last_so : (P : Option ℕ → Type 0) → (P None → ⊥) → P (Some word) → (p : Place) → (p.index ≤ number → P (last_header was.looks p)) → p.locale ≡ l → p.index ≤ number + 1 → P (last_header (was.looks ++ one) p) =
      λ P none here p before local most.
      ⊎_elim
      (λ e. headers_after P none was.looks one p (subst (λ q. P (last_header one q)) (sym e.1) (subst P (sym (header_here p0 word)) here)))
      (λ e.
      let ne = e.1 in
      subst P (sym (headers_before was.looks one p (header_else p0 p word ne)))
      (before (let off : p.index ≢ number + 1 = (λ same. ne (ap₂ (λ a b. at_ a b) local same)) in omega (arith, most, off))))
      (same_place_tells p p0) in
      record {
        looks = was.looks ++ one;
        under = under_then K opens step plan m k n was.looks one was.under under;
        rests = subst IsEmptyHanded (sym part) (record { hand = was.rests.hand; tail = was.rests.tail; chain = was.rests.chain; won = was.rests.won });
        local = of_both l was.looks one was.local (one_of l (header_of p0) word refl);
        heads = λ h. heads-append was.looks one h ∙ ap (λ x. later x None) (was.heads h);
        headers = λ p local some most. last_so (λ o. is_some o ≡ true) false≢true refl p (λ less. was.headers p local some less) local most;
        taken = λ none p local some most. let t = tells none in last_so IsTakenHeader (λ h. h) t.1 p (λ less. was.taken t.0 p local some less) local most;
        found = λ some.
            ⊎_elim
            (λ f.
            let one_is = was.found f in
            let low = one_is.2 in
            let p1 : Place = at_ l one_is.0 in
            let ne : p1 ≢ p0 = (λ e. let i : one_is.0 ≡ number + 1 = ap (λ q. q.index) e in absurd (omega (arith, low, i))) in
            (one_is.0, one_is.1, omega (arith, low), subst IsFreeHeader (sym (headers_before was.looks one p1 (header_else p0 p1 word ne))) one_is.3))
            (λ s. (number + 1, omega arith, omega arith, headers_after IsFreeHeader (λ h. h) was.looks one p0 (subst IsFreeHeader (sym (header_here p0 word)) s)))
            (finds some);
      }

  -- ---- an object of the hand

  module _ (m k n : S) (l i count header found : ℕ) (below : m.0.number < plan.callers) (rests : is_reclaiming m.0.part.seat.phase ≡ false) (one : HasOne plan.shape m.0.part (at_ l i))
      (counted : (c : ℕ) → c < 2 ^ 32 → header ≡ header_word c Free → count ≡ c) (looks : Makes K opens step plan (TakeLook l i) m header k) where
    in_hand : is_among (at_ l i) m.0.part.seat.hand ≡ true
    in_hand = subst (λ h. is_among (at_ l i) h ≡ true) (sym one.hand) (among_here (at_ l i) [])

    is_header : header ≡ header_word count Free
    is_header = let free = looks.0.1 in_hand in free.2 ∙ ap (λ c. header_word c Free) (sym (counted free.0 free.1 free.2))

    pub count_low : count < 4294967296
    count_low = let free = looks.0.1 in_hand in let low = free.1 in let is = counted free.0 free.1 free.2 in omega (arith, low, is)

    says : header_in header ≡ record { count = count; state = Free }
    says = ap header_in is_header ∙ free_header count

    k_part : k.0.part ≡ seen_part l i header m.0.part
    k_part = see_part m k l i header looks

    pub k_look : k.0.part.seat.free_look ≡ Some (record { locale = l; index = i; count = count })
    unfolding is_free
    k_look = ap (λ (p : Part View'). p.seat.free_look) k_part ∙ ap (λ h. if is_free h.state then Some (record { locale = l; index = i; count = h.count }) else None) says

    pub k_count : count ≡ look_count k.0.part.seat.free_look
    unfolding look_count
    k_count = sym (ap look_count k_look)

    k_under : Under K opens step plan m k (record { name = header_of (at_ l i); word = header } ∷ [])
    k_under = see_other m k l i header looks one.others

    k_facts : count_of k.0.part.facts (at_ l i) ≡ Some count
    k_facts = ap (λ (p : Part View'). count_of p.facts (at_ l i)) k_part ∙ (place_here (count_of m.0.part.facts) (at_ l i) (Some (header_in header).count) ∙ ap (λ h. Some h.count) says)

    k_hand : k.0.part.seat.hand ≡ at_ l i ∷ []
    k_hand = ap (λ (p : Part View'). p.seat.hand) k_part ∙ one.hand

    pub may_own : K.may_take m.0.part.client m.0.part.seat.owned → MayMake K plan k.0.number (TakeTry l i) k.0.part
    may_own allowed =
        let same = k_under.same in
        let number = number_still K opens step plan m k (record { name = header_of (at_ l i); word = header } ∷ []) k_under in
        record {
          row =
              take_try_row plan.shape plan.callers k.0.number k.0.part.seat k.0.part.facts (omega (arith, below, number)) (ap is_reclaiming same.phase ∙ rests) l i count one.inside k_look
              (subst (λ h. is_among (at_ l i) h ≡ true) (sym k_hand) (among_here (at_ l i) []));
          made = tt;
          allowed = (subst (λ o. K.may_take k.0.part.client o) (sym same.owned) (subst (λ v. K.may_take v m.0.part.seat.owned) (sym same.client) allowed), k_facts ∙ ap Some k_count);
        }

    module _ (tries : Makes K opens step plan (TakeTry l i) k found n) where
      abbrev pub owned_facts : Facts
      owned_facts = facts_after k.0.part.seat (TakeTry l i) k.0.part.facts found

      is_found : found ≡ header_word count Free
      is_found = tries.0 ∙ ap (λ c. header_word c Free) (sym k_count)

      won : is_free_with (header_in found) (look_count k.0.part.seat.free_look) ≡ true
      won = ap₂ is_free_with (ap header_in is_found ∙ free_header count) (sym k_count) ∙ free_with count

      abbrev pub owned_part : Part View'
      owned_part = record {
        seat = record k.0.part.seat { hand = without (at_ l i) k.0.part.seat.hand; owned = at_ l i ∷ k.0.part.seat.owned };
        facts = owned_facts;
        won = false;
        client = K.after k.0.part.client (Takes (record { locale = l; index = i; count = look_count k.0.part.seat.free_look })) 0;
      }

      n_goes : Goes K opens step plan k n (record { name = header_of (at_ l i); word = found } ∷ []) (entries_of_items k.0.number (event k.0.number (Given (record { locale = l; index = i; count = look_count k.0.part.seat.free_look })))) owned_part
      n_goes =
          let goes = made_of K opens step plan (TakeTry l i) k n found _ (take_try_told plan.shape plan.callers k.0.number k.0.part.seat k.0.part.facts l i found won) tries in
          subst (λ b. Goes K opens step plan k n (record { name = header_of (at_ l i); word = found } ∷ []) (entries_of_items k.0.number (event k.0.number (Given (record { locale = l; index = i; count = look_count k.0.part.seat.free_look })))) (record owned_part { won = b })) (rw won refl) goes

      found_count : (header_in (either (found == header_word (look_count k.0.part.seat.free_look) Free) (header_word (look_count k.0.part.seat.free_look) Own) found)).count ≡ count
      found_count =
          let is : (found == header_word (look_count k.0.part.seat.free_look) Free) ≡ true = eq-eqb found _ tries.0 in
          rw is (ap (λ h. h.count) (owned_header (look_count k.0.part.seat.free_look)) ∙ sym k_count)

      nothing_left : without (at_ l i) k.0.part.seat.hand ≡ []
      unfolding without
      nothing_left = ap (without (at_ l i)) k_hand ∙ ⊎_elim (λ e. rw e.0 refl) (λ e. let ne = e.1 in absurd (ne refl)) (same_place_tells (at_ l i) (at_ l i))

      pub own_takes : OwnsOne K opens step plan m n (record { locale = l; index = i; count = count })
      own_takes =
          let q : Pointer = record { locale = l; index = i; count = count } in
          let same = k_under.same in
          let more : List (Look WordName) = record { name = header_of (at_ l i); word = found } ∷ [] in
          let number = number_still K opens step plan m k (record { name = header_of (at_ l i); word = header } ∷ []) k_under in
          let goes : Goes K opens step plan k n more (entries_of_items m.0.number (event m.0.number (Given q))) owned_part =
          subst (λ c. Goes K opens step plan k n more (entries_of_items c (event c (Given q))) owned_part) number
          (subst (λ c. Goes K opens step plan k n more (entries_of_items k.0.number (event k.0.number (Given (record { locale = l; index = i; count = c })))) owned_part) (sym k_count) n_goes) in
          let part = n_goes.1 in
          let all = after_under K opens step plan m k n (record { name = header_of (at_ l i); word = header } ∷ []) more (entries_of_items m.0.number (event m.0.number (Given q))) owned_part k_under goes in
          let takes : TakesOne K opens step plan m n q = record {
            looks = record { name = header_of (at_ l i); word = header } ∷ more;
            goes = goes_own K opens step plan m n _ (entries_of_items m.0.number (event m.0.number (Given q))) owned_part all;
            phase = ap (λ (p : Part View'). p.seat.phase) part ∙ same.phase;
            token = ap (λ (p : Part View'). p.seat.token) part ∙ same.token;
            owned = ap (λ (p : Part View'). p.seat.owned) part ∙ ap (λ o. at_ l i ∷ o) same.owned;
            held = ap (λ (p : Part View'). p.seat.held) part ∙ same.held;
            reclaim = ap (λ (p : Part View'). p.seat.reclaim) part ∙ same.reclaim;
            client = ap (λ (p : Part View'). p.client) part ∙ ap₂ (λ v c. K.after v (Takes (record { locale = l; index = i; count = c })) 0) same.client (sym k_count);
            rests = record {
              hand = ap (λ (p : Part View'). p.seat.hand) part ∙ nothing_left;
              tail = ap (λ (p : Part View'). p.seat.homing.tail) part ∙ (ap (λ (p : Part View'). p.seat.homing.tail) k_part ∙ one.tail);
              chain = ap (λ (p : Part View'). p.seat.homing.chain) part ∙ (ap (λ (p : Part View'). p.seat.homing.chain) k_part ∙ one.chain);
              won = ap (λ (p : Part View'). p.won) part;
            };
            inside = one.inside;
            count = ap (λ (p : Part View'). count_of p.facts (at_ l i)) part ∙ (place_here _ (at_ l i) _ ∙ ap Some found_count);
            counts = λ p has.
                let ne : p ≢ at_ l i = (λ e. one.others (subst (Has m.0.part) e has)) in
                ap (λ (x : Part View'). count_of x.facts p) part ∙ (place_there _ (at_ l i) _ p ne ∙ (place_there (count_of k.0.part.facts) (at_ l i) None p ne ∙ same.counts p has));
          } in record {
            takes = takes;
            local = of_both l (record { name = header_of (at_ l i); word = header } ∷ []) more (one_of l (header_of (at_ l i)) header refl) (one_of l (header_of (at_ l i)) found refl);
            heads = λ h. refl;
            free = ap (later _) (header_here (at_ l i) found) ∙ ap Some is_found;
          }
