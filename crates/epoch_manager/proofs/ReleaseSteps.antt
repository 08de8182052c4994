-- An object of a collected chain is walked over, released, and gathered where it became free.
use Rattle.std.proofs.Common.{◌≡◌, ◌≢◌, ◌<◌, ◌==◌, ◌+◌, ◌++◌, ℕ, true, false, if◌then◌else◌, List, [], ◌∷◌, Option, Some, None, refl, ap, sym, ◌∙◌, subst, arith, ⊎_elim, eq-eqb, ne_eqb}
use Rattle.std.specs.Prelude.{fold}
use Rattle.std.proofs.lemmas.Bool.{cases_Bool, false_from_ne_true}
use Rattle.std.proofs.lemmas.List.Sums.{fold-append}
use Rattle.pass_book.specs.declared.entries.Entry.{Entry}
use Rattle.pass_book.specs.declared.entries.Look.{Look}
use Rattle.pass_book.specs.Histories.{entries_of}
use Rattle.pass_book.specs.Pages.{IsPage}
use Rattle.pass_table.specs.Views.{page_of}
use Rattle.pgas_base.specs.Pointers.{Pointer, IsPointer, word_of}
use Rattle.pool_core.specs.Headers.{header_word, released_word}
use Rattle.pool_core.specs.declared.headers.State.TheVariants.{Free, Worn}
use Rattle.epoch_laws.specs.declared.steps.Kind.TheVariants.{Walk, Release}
use Rattle.epoch_laws.specs.Locations.{IsDistinct}
use Rattle.epoch_laws.specs.Places.{Place, place_of, place_in, is_among, without}
use Rattle.epoch_laws.specs.ReclaimSteps.{last_count}
use Rattle.epoch_laws.specs.Seats.{Advanced}
use Rattle.epoch_laws.specs.States.{IsPlace}
use Rattle.epoch_laws.specs.Words.{WordName, next_of}
use Rattle.epoch_laws.proofs.Lists.{among_here, left_rest, without_one, among_none}
use Rattle.epoch_laws.proofs.Updates.{place_here, place_there}
use Rattle.epoch_laws.proofs.Words.{place_in-word_of, word_not_none}
use Rattle.epoch_table.specs.declared.events.Happens.{Happens}
use Rattle.epoch_table.specs.declared.events.Happens.TheVariants.{Lists as HasListed, Enters as HasEntered}
use Rattle.epoch_table.specs.declared.parts.Plan.{Plan}
use Rattle.epoch_table.specs.declared.parts.Part.{Part}
use Rattle.epoch_table.specs.Clients.{ClientTerms, Frees}
use Rattle.epoch_table.specs.Facts.{Facts, count_of, next_word_of, facts_after}
use Rattle.epoch_table.specs.Kinds.{entries_of_items, MayMake, Makes}
use Rattle.epoch_table.specs.Numbers.{count_in, header_in}
use Rattle.epoch_table.specs.Released.{released_after, released_by}
use Rattle.epoch_table.proofs.Knowledge.{header_read}
use Rattle.epoch_manager.specs.TakeSeats.{Has}
use Rattle.epoch_manager.specs.declared.homes.HomeChain.{HomeChain}
use Rattle.epoch_manager.specs.Gathering.{Gathers, HasFree, GathersOn}
use Rattle.epoch_manager.specs.Releasing.{IsWalking, IsKeptBy, freed_items, FreesOne, ReleasesOne, released_of}
use Rattle.epoch_manager.proofs.Gatherings.{gathers_still}
use Rattle.epoch_manager.proofs.HandChains.{small_of}
use Rattle.epoch_manager.proofs.HomeWalks.{count_back}
use Rattle.epoch_manager.proofs.ReclaimSteps.{walk_row, walk_told, release_row, release_free, release_worn}
use Rattle.epoch_manager.proofs.ReleaseLists.{released_gathered, lists_gathered}
use Rattle.epoch_manager.proofs.TokenSteps.{Seated, Goes, Among, made_of, as_among, then_among}

one_without : (p : Place) → without p (p ∷ []) ≡ []
one_without p = sym (without_one p (p ∷ [])) ∙ left_rest p [] (among_none p, tt)

-- ---- what a caller has released

module _ {Call Reply : Type 0} where
  drop_others : (c : ℕ) (places : List Place) (e : Entry (Happens Call Reply) (Unit {0})) → (e.caller == c) ≡ false → released_after c places e ≡ places
  drop_others c places e other = by_call e.call
    where
      by_call : (call : Happens Call Reply) → released_after c places (record e { call = call }) ≡ places
      by_call (HasListed item) = rw other refl
      by_call (HasEntered call reply) = refl

  kept_own : (c : ℕ) (places : List Place) (h : List (Entry (Happens Call Reply) (Unit {0}))) → fold (released_after c) places (entries_of c h) ≡ fold (released_after c) places h
  kept_own c places [] = refl
  kept_own c places (e ∷ h) =
      ⊎_elim
      (λ is. rw is (kept_own c (released_after c places e) h))
      (λ is. rw is (kept_own c places h ∙ ap (λ l. fold (released_after c) l h) (sym (drop_others c places e is))))
      (cases_Bool (e.caller == c))

  -- only its own entries count
  pub released_own : (c : ℕ) (h : List (Entry (Happens Call Reply) (Unit {0}))) → released_by c (entries_of c h) ≡ released_by c h
  unfolding released_by
  released_own c h = kept_own c [] h

  -- one more
  pub released_more : (c : ℕ) (h : List (Entry (Happens Call Reply) (Unit {0}))) (q : Pointer) → released_by c (h ++ entries_of_items c (freed_items c (q ∷ []))) ≡ place_of q ∷ released_by c h
  unfolding released_by
  released_more c h q =
      fold-append (released_after c) [] h (entries_of_items c (freed_items c (q ∷ [])))
      ∙ ap (λ b. if b then place_of q ∷ fold (released_after c) [] h else fold (released_after c) [] h) (eq-eqb c c refl)

module _ {C View' Call Reply State' : Type 0} (K : ClientTerms C View' Call Reply State') (opens : State' → Type 0) (step : State' → Call → Reply → State' → Type 0) (plan : Plan C) where
  -- what was freed, where an object was
  pub freed_then : (q : Pointer) (m n : Seated K opens step plan) (looks : List (Look WordName)) (part : Part View') → Among K opens step plan m n looks (entries_of_items m.0.number (freed_items m.0.number (q ∷ []))) part
      → released_of K opens step plan n ≡ place_of q ∷ released_of K opens step plan m
  freed_then q m n looks part goes =
      ap (λ c. released_by c n.0.mine) goes.0.same.number ∙ (ap (released_by m.0.number) goes.0.mine ∙ released_more m.0.number m.0.mine q)

  -- what a seat has seen says the same
  pub seen_released : (n : Seated K opens step plan) → IsPage n.0.number (page_of n.0) → released_by n.0.number n.0.seen ≡ released_of K opens step plan n
  seen_released n own = sym (ap (released_by n.0.number) own ∙ released_own n.0.number n.0.seen)

  module _ (q : Pointer) (m : Seated K opens step plan) (below : m.0.number < plan.callers) (chains : ℕ → Option HomeChain) (walking : IsWalking plan.shape chains m.0.part) (is : IsPointer q) (inside : IsPlace plan.shape (place_of q)) (at : m.0.part.seat.reclaim.chain ≡ word_of q) where
    abbrev p0 : Place
    p0 = place_in m.0.part.seat.reclaim.chain

    pub place_is : p0 ≡ place_of q
    place_is = ap place_in at ∙ place_in-word_of q (small_of q is)

    count_is : count_in m.0.part.seat.reclaim.chain ≡ q.count
    count_is = ap count_in at ∙ count_back q is.count

    pub may_walk : MayMake K plan m.0.number Walk m.0.part
    may_walk = record {
      row = walk_row plan.shape plan.callers m.0.number m.0.part.seat m.0.part.facts below walking.phase (λ e. word_not_none q (small_of q is) (sym at ∙ e));
      made = tt;
      allowed = tt;
    }

    module _ (word : ℕ) (a : Seated K opens step plan) (walks : Makes K opens step plan Walk m word a) where
      abbrev walked : Part View'
      walked = record m.0.part {
        seat = record m.0.part.seat { reclaim = record m.0.part.seat.reclaim { chain = word; walked = p0 ∷ m.0.part.seat.reclaim.walked } };
        facts = facts_after m.0.part.seat Walk m.0.part.facts word;
      }

      abbrev look : List (Look WordName)
      look = record { name = next_of p0; word = word } ∷ []

      walked_so : Goes K opens step plan m a look [] walked
      walked_so = made_of K opens step plan Walk m a word _ (walk_told plan.shape plan.callers m.0.number m.0.part.seat m.0.part.facts word) walks

      pub may_release : MayMake K plan a.0.number (Release q) a.0.part
      may_release =
          let number = walked_so.0.same.number in
          let now = walked_so.1 in
          record {
            row = release_row plan.shape plan.callers a.0.number a.0.part.seat a.0.part.facts (omega arith) q inside (ap (λ (p : Part View'). p.seat.phase) now ∙ walking.phase)
                (ap (λ (p : Part View'). is_among (place_of q) p.seat.reclaim.walked) now ∙ subst (λ x. is_among (place_of q) (x ∷ m.0.part.seat.reclaim.walked) ≡ true) (sym place_is) (among_here (place_of q) m.0.part.seat.reclaim.walked))
                (ap (λ (p : Part View'). count_of p.facts (place_of q)) now ∙ (ap (count_of walked.facts) (sym place_is) ∙ (place_here (count_of m.0.part.facts) p0 _ ∙ ap Some count_is)));
            made = tt;
            allowed = tt;
          }

      none_has : (p : Place) → Has m.0.part p → p ≢ place_of q
      none_has p has e =
          let new = walks.0.1 in
          let same : p ≡ p0 = e ∙ sym place_is in
          ⊎_elim
          (λ h. absurd (cc (h, ap (λ x. is_among x m.0.part.seat.owned) same, new.owned)))
          (λ h. absurd (cc (h, ap (λ x. is_among x m.0.part.seat.held) same, new.held)))
          has

      none_in_hand : (p : Place) → is_among p m.0.part.seat.hand ≡ true → p ≢ place_of q
      none_in_hand p h e =
          let new = walks.0.1 in
          let same : p ≡ p0 = e ∙ sym place_is in
          absurd (cc (h, ap (λ x. is_among x m.0.part.seat.hand) same, new.hand))

      emptied : without (place_of q) (p0 ∷ m.0.part.seat.reclaim.walked) ≡ []
      emptied = ap (λ l. without (place_of q) (p0 ∷ l)) walking.walked ∙ (ap (λ x. without (place_of q) (x ∷ [])) place_is ∙ one_without (place_of q))

      module _ (b : Seated K opens step plan) (releases : Makes K opens step plan (Release q) a (released_word q.count) b) where
        abbrev freed_facts : Facts
        freed_facts = facts_after walked.seat (Release q) walked.facts (released_word q.count)

        -- what is known of other objects is as it was
        counts_apart : (p : Place) → p ≢ place_of q → count_of freed_facts p ≡ count_of m.0.part.facts p
        counts_apart p ne = place_there _ (place_of q) _ p ne ∙ (place_there _ (place_of q) None p ne ∙ place_there (count_of m.0.part.facts) p0 _ p (λ e. ne (e ∙ place_is)))

        nexts_apart : (p : Place) → p ≢ place_of q → next_word_of freed_facts p ≡ next_word_of m.0.part.facts p
        nexts_apart p ne =
            let other : p ≢ p0 = (λ e. ne (e ∙ place_is)) in
            place_there (next_word_of walked.facts) (place_of q) None p ne ∙ (place_there _ p0 (Some word) p other ∙ place_there (next_word_of m.0.part.facts) p0 None p other)

        counts_else : (p : Place) → Has m.0.part p → count_of freed_facts p ≡ count_of m.0.part.facts p
        counts_else p has = counts_apart p (none_has p has)

        -- so the chains of the hand are
        gathers_freed : Gathers plan.shape m.0.part.seat.hand freed_facts chains
        gathers_freed =
            gathers_still plan.shape m.0.part.seat.hand m.0.part.facts freed_facts chains walking.gathers (λ p h. counts_apart p (none_in_hand p h)) (λ p h. nexts_apart p (none_in_hand p h))

        abbrev worn_of : Part View' → Part View'
        worn_of p = record p {
          seat = record p.seat { reclaim = record p.seat.reclaim { walked = without (place_of q) p.seat.reclaim.walked } };
          facts = facts_after p.seat (Release q) p.facts (released_word q.count);
          client = K.after p.client (Frees q) 0;
        }

        abbrev freed_of : Part View' → Part View'
        freed_of p = record (worn_of p) { seat = record (worn_of p).seat { hand = place_of q ∷ p.seat.hand } }

        -- ---- what is left, in both cases

        abbrev items : (c : ℕ) → List (Entry (Happens Call Reply) (Unit {0}))
        items c = entries_of_items c (freed_items c (q ∷ []))

        to_release : (last : Part View') → Goes K opens step plan a b [] (items a.0.number) last → Among K opens step plan m b look (items m.0.number) last
        to_release last goes =
            let goes' : Goes K opens step plan a b [] (items m.0.number) last = subst (λ c. Goes K opens step plan a b [] (items c) last) walked_so.0.same.number goes in
            then_among K opens step plan m a b look [] [] (items m.0.number) walked last (as_among K opens step plan m a look [] walked walked_so) (as_among K opens step plan a b [] (items m.0.number) last goes')

        distinct_now : (last : Part View') → Among K opens step plan m b look (items m.0.number) last → IsDistinct (place_of q ∷ released_of K opens step plan m)
        distinct_now last goes =
            let same : b.0.number ≡ a.0.number = goes.0.same.number ∙ sym walked_so.0.same.number in
            subst IsDistinct (seen_released b goes.0.sound.own ∙ freed_then q m b look last goes) (subst (λ c. IsDistinct (released_by c b.0.seen)) (sym same) releases.3)

        one_so : (last : Part View') → Among K opens step plan m b look (items m.0.number) last → IsKeptBy m.0.part last → last.client ≡ K.after m.0.part.client (Frees q) 0 → last.seat.phase ≡ Advanced
            → last.seat.reclaim ≡ record m.0.part.seat.reclaim { chain = word; walked = [] } → FreesOne K opens step plan q word m b
        one_so last goes kept client phase reclaim =
            let is_last = goes.1 in
            let released = freed_then q m b look last goes in
            record {
              lists = record {
                looks = look;
                goes = subst (λ (p : Part View'). Among K opens step plan m b look (items m.0.number) p) (sym is_last) goes;
                kept = subst (IsKeptBy m.0.part) (sym is_last) kept;
                client = ap (λ (p : Part View'). p.client) is_last ∙ client;
              };
              phase = ap (λ (p : Part View'). p.seat.phase) is_last ∙ phase;
              reclaim = ap (λ (p : Part View'). p.seat.reclaim) is_last ∙ reclaim;
              leads = walks.0.0;
              released = released;
              distinct = subst IsDistinct (sym released) (distinct_now last goes);
            }

        -- ---- worn

        pub worn_so : q.count ≡ last_count → ReleasesOne K opens step plan q word chains m b
        worn_so full =
            let made = made_of K opens step plan (Release q) a b (released_word q.count) _ (release_worn plan.shape plan.callers a.0.number a.0.part.seat a.0.part.facts q (released_word q.count) full) releases in
            let last = worn_of walked in
            let goes : Goes K opens step plan a b [] (items a.0.number) last = subst (λ (p : Part View'). Goes K opens step plan a b [] (items a.0.number) (worn_of p)) walked_so.1 made in
            let whole = to_release last goes in
            record {
              frees =
                  one_so last whole (record { token = refl; owned = refl; held = refl; chain = refl; won = refl; counts = counts_else }) refl walking.phase (ap (λ w. record m.0.part.seat.reclaim { chain = word; walked = w }) emptied);
              walking = subst (IsWalking plan.shape chains) (sym whole.1) (record { phase = walking.phase; walked = emptied; gathers = gathers_freed; tail = walking.tail });
            }

        -- ---- free

        module _ (ne : q.count ≢ last_count) where
          abbrev free : Pointer
          free = record { locale = q.locale; index = q.index; count = q.count + 1 }

          freed_so : Goes K opens step plan a b [] (items a.0.number) (freed_of walked)
          freed_so =
              let made = made_of K opens step plan (Release q) a b (released_word q.count) _ (release_free plan.shape plan.callers a.0.number a.0.part.seat a.0.part.facts q (released_word q.count) ne) releases in
              subst (λ (p : Part View'). Goes K opens step plan a b [] (items a.0.number) (freed_of p)) walked_so.1 made

          free_word : (header_in (released_word q.count)).count ≡ q.count + 1
          free_word = ap (λ x. (header_in (if x then header_word q.count Worn else header_word (q.count + 1) Free)).count) (ne_eqb q.count last_count ne) ∙ ap (λ h. h.count) (header_read (record { count = q.count + 1; state = Free }))

          free_pointer : IsPointer free
          free_pointer = let low = is.count in record { locale = is.locale; some_object = is.some_object; index = is.index; count = omega arith }

          pub has_free : HasFree plan.shape b.0.part free chains
          has_free =
              subst (λ (p : Part View'). HasFree plan.shape p free chains) (sym freed_so.1)
              (record {
                back = m.0.part.seat.hand;
                hand = refl;
                fresh = false_from_ne_true _ (λ h. none_in_hand (place_of q) h refl);
                gathers = gathers_freed;
                free = record { local = refl; pointer = free_pointer; inside = inside; count = place_here _ (place_of q) _ ∙ ap Some free_word };
                none = walking.tail;
              })

          pub still_below : b.0.number < plan.callers
          still_below =
              let first = walked_so.0.same.number in
              let second = freed_so.0.same.number in
              omega arith

          frees_so : FreesOne K opens step plan q word m b
          frees_so =
              one_so (freed_of walked) (to_release (freed_of walked) freed_so) (record { token = refl; owned = refl; held = refl; chain = refl; won = refl; counts = counts_else }) refl walking.phase
              (ap (λ w. record m.0.part.seat.reclaim { chain = word; walked = w }) emptied)

          pub free_so : (n : Seated K opens step plan) (now : ℕ → Option HomeChain) → GathersOn K opens step plan now b n → ReleasesOne K opens step plan q word now m n
          free_so n now on =
              let frees = frees_so in
              let released = released_gathered K opens step plan b n now on in
              let reclaim = on.under.same.reclaim ∙ frees.reclaim in
              record {
                frees = record {
                  lists = lists_gathered K opens step plan m b n _ _ now frees.lists on;
                  phase = on.under.same.phase ∙ frees.phase;
                  reclaim = reclaim;
                  leads = frees.leads;
                  released = released ∙ frees.released;
                  distinct = subst IsDistinct (sym released) frees.distinct;
                };
                walking = record { phase = on.under.same.phase ∙ frees.phase; walked = ap (λ r. r.walked) reclaim; gathers = on.gathers; tail = on.none };
              }
