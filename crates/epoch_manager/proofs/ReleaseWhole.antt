-- What a whole reclaim comes to, from its advance to its leaves.
use Rattle.std.proofs.Common.{◌≡◌, ◌<◌, ◌+◌, ◌*◌, ◌++◌, ℕ, true, false, if◌then◌else◌, List, [], ◌∷◌, length, Option, Ok, None, refl, ap, sym, ◌∙◌, subst, arith, eq-eqb, length-append, append-nil}
use mathlib.Core.Path.{fun_ext}
use Rattle.std.specs.Prelude.{fold}
use Rattle.std.proofs.lemmas.List.Sums.{fold-append}
use Rattle.pass_book.specs.declared.entries.Entry.{Entry}
use Rattle.pass_book.specs.declared.entries.Look.{Look}
use Rattle.epoch_laws.specs.declared.events.Item.{Item}
use Rattle.epoch_laws.specs.declared.events.Item.TheVariants.{Advance as Advances, Claim, Leave as Leaves}
use Rattle.epoch_laws.specs.declared.steps.Kind.TheVariants.{Leave}
use Rattle.epoch_laws.specs.Places.{Place, is_among}
use Rattle.epoch_laws.specs.ReclaimSteps.{has_global, MayLeave, IsDone}
use Rattle.epoch_laws.specs.Seats.{Advanced, LeftGlobal}
use Rattle.epoch_laws.specs.States.{IsPlace}
use Rattle.epoch_laws.specs.Words.{WordName}
use Rattle.epoch_laws.proofs.Lists.{among_nil}
use Rattle.epoch_table.specs.declared.events.Happens.{Happens}
use Rattle.epoch_table.specs.declared.parts.Plan.{Plan}
use Rattle.epoch_table.specs.declared.parts.Part.{Part}
use Rattle.epoch_table.specs.Clients.{ClientTerms}
use Rattle.epoch_table.specs.Deeds.{deed}
use Rattle.epoch_table.specs.Facts.{facts_after}
use Rattle.epoch_table.specs.Kinds.{entries_of_items, looks_of, MayMake, Makes}
use Rattle.epoch_table.specs.Released.{released_after, released_by}
use Rattle.epoch_manager.specs.declared.homes.HomeChain.{HomeChain}
use Rattle.epoch_manager.specs.Gathering.{Gathers, GathersOn, no_chains}
use Rattle.epoch_manager.specs.Reclaiming.{scanned, looking, local_read, global_read, epoch_read, EntersReclaim, AdvancesTo}
use Rattle.epoch_manager.specs.Releasing.{IsReleasing, IsKeptBy, freed_items, frees_after, reclaim_items, resting, Lists, ReleasesList, ReleasesAll, LeavesBoth, ReclaimsSeat, released_of}
use Rattle.epoch_manager.proofs.Gatherings.{gathers_none, nothing_gathered}
use Rattle.epoch_manager.proofs.LocalSteps.{entries_append}
use Rattle.epoch_manager.proofs.ReclaimSteps.{leave_row, global_left, local_left}
use Rattle.epoch_manager.proofs.ReleaseLists.{kept_then, freed-append, lists_then, lists_gathered, released_gathered, number_on}
use Rattle.epoch_manager.proofs.TokenSteps.{Seated, Goes, Among, made_of, as_among, then_among}

module _ {C View' Call Reply State' : Type 0} (K : ClientTerms C View' Call Reply State') (opens : State' → Type 0) (step : State' → Call → Reply → State' → Type 0) (plan : Plan C) where
  -- ---- the lists of all locales

  none_since : (c epoch : ℕ) (h : List (Entry (Happens Call Reply) (Unit {0}))) → released_by c (h ++ entries_of_items c (Advances c epoch ∷ [])) ≡ []
  unfolding released_by
  none_since c epoch h =
      fold-append (released_after c) [] h (entries_of_items c (Advances c epoch ∷ []))
      ∙ ap (λ b. if b then [] else fold (released_after c) [] h) (eq-eqb c c refl)

  module _ (m : Seated K opens step plan) (epoch : ℕ) where
    pub first_so : m.0.part.seat.reclaim.epoch ≡ epoch → m.0.part.seat.hand ≡ [] → m.0.part.seat.homing.tail ≡ None → (j : Seated K opens step plan) → AdvancesTo K opens step plan (epoch + 1) plan.shape.locales m j
        → (chains : ℕ → Option HomeChain) → ((l : ℕ) → chains l ≡ None) → ReleasesAll K opens step plan epoch 0 0 chains m j
    first_so read hand tail j advances chains empty =
        let is = advances.1 in
        let entries = entries_of_items m.0.number (Advances m.0.number (epoch + 1) ∷ []) in
        let none : released_of K opens step plan j ≡ [] = ap (λ c. released_by c j.0.mine) advances.0.same.number ∙ (ap (released_by m.0.number) advances.0.mine ∙ none_since m.0.number (epoch + 1) m.0.mine) in
        record {
          pointers = [];
          went = record {
            looks = [];
            goes = subst (λ (p : Part View'). Among K opens step plan m j [] entries p) (sym is) advances;
            kept = subst (IsKeptBy m.0.part) (sym is) (record { token = refl; owned = refl; held = refl; chain = refl; won = refl; counts = λ p h. refl });
            client = ap (λ (p : Part View'). p.client) is;
          };
          releasing = subst (IsReleasing plan.shape epoch 0 0 chains) (sym is)
              (record {
                walking = record {
                  phase = refl;
                  walked = refl;
                  gathers = subst (λ l. Gathers plan.shape l m.0.part.facts chains) (sym hand) (subst (Gathers plan.shape [] m.0.part.facts) (sym (fun_ext empty)) (gathers_none plan.shape m.0.part.facts));
                  tail = tail;
                };
                read = read;
                spread = refl;
                collected = refl;
                chain = refl;
              });
          count = refl;
          has = record { many = ap length none; inside = λ p h. absurd (among_nil p (subst (λ l. is_among p l ≡ true) none h)); low = omega arith };
        }

    pub list_so : (at freed total : ℕ) (chains now : ℕ → Option HomeChain) (j n : Seated K opens step plan) → ReleasesAll K opens step plan epoch at freed chains m j → ReleasesList K opens step plan epoch at freed 0 total now j n
        → ReleasesAll K opens step plan epoch (at + 1) total now m n
    list_so at freed total chains now j n so next =
        let number : j.0.number ≡ m.0.number = number_on K opens step plan m j _ _ so.went in
        let on : Lists K opens step plan j n (freed_items m.0.number next.pointers) next.pointers = subst (λ c. Lists K opens step plan j n (freed_items c next.pointers) next.pointers) number next.lists in
        let all = lists_then K opens step plan m j n (Advances m.0.number (epoch + 1) ∷ freed_items m.0.number so.pointers) (freed_items m.0.number next.pointers) so.pointers next.pointers so.went on in
        let first = so.count in
        let second = next.count in
        let longer = length-append so.pointers next.pointers in
        record {
          pointers = so.pointers ++ next.pointers;
          went = subst (λ l. Lists K opens step plan m n (Advances m.0.number (epoch + 1) ∷ l) (so.pointers ++ next.pointers)) (sym (freed-append m.0.number so.pointers next.pointers)) all;
          releasing = next.releasing;
          count = omega arith;
          has = next.has;
        }

    -- what is left goes home
    pub gathered_so : (at freed : ℕ) (chains : ℕ → Option HomeChain) (j n : Seated K opens step plan) → ReleasesAll K opens step plan epoch at freed chains m j → GathersOn K opens step plan no_chains j n → ReleasesAll K opens step plan epoch at freed no_chains m n
    gathered_so at freed chains j n so on =
        let same = on.under.same in
        let releasing = so.releasing in
        let released = released_gathered K opens step plan j n no_chains on in
        record {
          pointers = so.pointers;
          went = lists_gathered K opens step plan m j n _ _ no_chains so.went on;
          releasing = record {
            walking = record { phase = same.phase ∙ releasing.walking.phase; walked = ap (λ r. r.walked) same.reclaim ∙ releasing.walking.walked; gathers = on.gathers; tail = on.none };
            read = ap (λ r. r.epoch) same.reclaim ∙ releasing.read;
            spread = ap (λ r. r.spread) same.reclaim ∙ releasing.spread;
            collected = ap (λ r. r.collected) same.reclaim ∙ releasing.collected;
            chain = ap (λ r. r.chain) same.reclaim ∙ releasing.chain;
          };
          count = so.count;
          has = record { many = ap length released ∙ so.has.many; inside = subst (λ (l : List Place). (p : Place) → is_among p l ≡ true → IsPlace plan.shape p) (sym released) so.has.inside; low = so.has.low };
        }

    pub below_all : (at freed : ℕ) (chains : ℕ → Option HomeChain) (j : Seated K opens step plan) → ReleasesAll K opens step plan epoch at freed chains m j → m.0.number < plan.callers → j.0.number < plan.callers
    below_all at freed chains j so below = let number = number_on K opens step plan m j _ _ so.went in omega arith

  -- ---- the leaves

  module _ (m : Seated K opens step plan) (below : m.0.number < plan.callers) (phase : m.0.part.seat.phase ≡ Advanced) (done : IsDone plan.shape.locales m.0.part.seat.reclaim) (hand : m.0.part.seat.hand ≡ []) where
    pub has_it : has_global m.0.part.seat.phase ≡ true
    unfolding has_global
    has_it = ap has_global phase

    pub may_leave : MayMake K plan m.0.number Leave m.0.part
    may_leave = record {
      row = leave_row plan.shape plan.callers m.0.number m.0.part.seat m.0.part.facts below (subst (λ p. MayLeave plan.shape.locales p m.0.part.seat.reclaim) (sym phase) done) hand;
      made = tt;
      allowed = tt;
    }

    module _ (k : Seated K opens step plan) (leaves : Makes K opens step plan Leave m 0 k) where
      abbrev left : Part View'
      left = record m.0.part { seat = record m.0.part.seat { phase = LeftGlobal } }

      left_so : Goes K opens step plan m k [] (entries_of_items m.0.number (Leaves m.0.number true ∷ [])) left
      unfolding has_global
      left_so =
          let made = made_of K opens step plan Leave m k 0 _ (global_left plan.shape plan.callers m.0.number m.0.part.seat m.0.part.facts 0 has_it) leaves in
          subst
          (λ p.
          Goes K opens step plan m k (looks_of (deed (record m.0.part.seat { phase = p }) Leave) 0) (entries_of_items m.0.number (Leaves m.0.number true ∷ []))
          (record left { facts = facts_after (record m.0.part.seat { phase = p }) Leave m.0.part.facts 0 }))
          phase made

      pub has_none : has_global k.0.part.seat.phase ≡ false
      unfolding has_global
      has_none = ap (λ (p : Part View'). has_global p.seat.phase) left_so.1

      pub token_left : k.0.part.seat.token ≡ m.0.part.seat.token
      token_left = ap (λ (p : Part View'). p.seat.token) left_so.1

      pub may_leave_local : MayMake K plan k.0.number Leave k.0.part
      may_leave_local =
          let number = left_so.0.same.number in
          let is = left_so.1 in
          record {
            row = leave_row plan.shape plan.callers k.0.number k.0.part.seat k.0.part.facts (omega arith) (subst (λ (p : Part View'). MayLeave plan.shape.locales p.seat.phase p.seat.reclaim) (sym is) tt) (ap (λ (p : Part View'). p.seat.hand) is ∙ hand);
            made = tt;
            allowed = tt;
          }

      pub leaves_both : (n : Seated K opens step plan) → Makes K opens step plan Leave k 0 n → LeavesBoth K opens step plan m n
      unfolding has_global
      leaves_both n ends =
          let made = made_of K opens step plan Leave k n 0 _ (local_left plan.shape plan.callers k.0.number k.0.part.seat k.0.part.facts 0 has_none) ends in
          let first = entries_of_items m.0.number (Leaves m.0.number true ∷ []) in
          let second = entries_of_items m.0.number (Leaves m.0.number false ∷ []) in
          let last = resting m.0.part in
          let goes : Goes K opens step plan k n [] second last =
          subst (λ (i : ℕ). Goes K opens step plan k n [] (entries_of_items i (Leaves i false ∷ [])) last) left_so.0.same.number
          (subst (λ (p : Part View'). Goes K opens step plan k n (looks_of (deed p.seat Leave) 0) (entries_of_items k.0.number (Leaves k.0.number false ∷ [])) (record (resting p) { facts = facts_after p.seat Leave p.facts 0 })) left_so.1 made) in
          then_among K opens step plan m k n [] [] first second left last (as_among K opens step plan m k [] first left left_so) (as_among K opens step plan k n [] second last goes)

  -- ---- all of it

  module _ (m j k n : Seated K opens step plan) (epoch freed : ℕ) (enters : EntersReclaim K opens step plan m j (Ok epoch)) (all : ReleasesAll K opens step plan epoch plan.shape.locales freed no_chains j k) (leaves : LeavesBoth K opens step plan k n) where
    abbrev entered : Part View'
    entered = scanned plan.shape.tokens (plan.shape.locales * plan.shape.tokens) (looking epoch m.0.part)

    j_is : j.0.part ≡ entered
    j_is = enters.1.2.1

    j_number : j.0.number ≡ m.0.number
    j_number = enters.1.2.0.same.number

    k_number : k.0.number ≡ m.0.number
    k_number = number_on K opens step plan j k _ _ all.went ∙ j_number

    nothing : k.0.part.seat.hand ≡ []
    nothing = nothing_gathered plan.shape k.0.part.seat.hand k.0.part.facts all.releasing.walking.gathers

    abbrev leave_items : List Item
    leave_items = Leaves m.0.number true ∷ Leaves m.0.number false ∷ []

    abbrev words : List (Look WordName)
    words = local_read m.0.part.seat.token.locale 0 ∷ global_read 0 ∷ epoch_read epoch ∷ (enters.1.0 ++ all.went.looks)

    abbrev items : List Item
    items = Claim m.0.number false ∷ Claim m.0.number true ∷ Advances m.0.number (epoch + 1) ∷ freed_items m.0.number all.pointers

    released_on : Among K opens step plan m k words (entries_of_items m.0.number items) k.0.part
    released_on =
        let claims = entries_of_items m.0.number (Claim m.0.number false ∷ Claim m.0.number true ∷ []) in
        let on : Among K opens step plan j k all.went.looks (entries_of_items m.0.number (Advances m.0.number (epoch + 1) ∷ freed_items m.0.number all.pointers)) k.0.part =
        subst (λ c. Among K opens step plan j k all.went.looks (entries_of_items c (Advances c (epoch + 1) ∷ freed_items c all.pointers)) k.0.part) j_number all.went.goes in
        then_among K opens step plan m j k (local_read m.0.part.seat.token.locale 0 ∷ global_read 0 ∷ epoch_read epoch ∷ enters.1.0) all.went.looks claims (entries_of_items m.0.number (Advances m.0.number (epoch + 1) ∷ freed_items m.0.number all.pointers)) entered k.0.part
        enters.1.2 on

    left_on : Among K opens step plan m n words (entries_of_items m.0.number (reclaim_items m.0.number (epoch + 1) all.pointers)) (resting k.0.part)
    left_on =
        let last : Among K opens step plan k n [] (entries_of_items m.0.number leave_items) (resting k.0.part) =
        subst (λ c. Among K opens step plan k n [] (entries_of_items c (Leaves c true ∷ Leaves c false ∷ [])) (resting k.0.part)) k_number leaves in
        let both = then_among K opens step plan m k n words [] (entries_of_items m.0.number items) (entries_of_items m.0.number leave_items) k.0.part (resting k.0.part) released_on last in
        let same = entries_append m.0.number items leave_items in
        subst (λ l. Among K opens step plan m n l (entries_of_items m.0.number (reclaim_items m.0.number (epoch + 1) all.pointers)) (resting k.0.part)) (append-nil words)
        (subst (λ l. Among K opens step plan m n (words ++ []) l (resting k.0.part)) (sym same) both)

    pub whole_so : ReclaimsSeat K opens step plan (epoch + 1) freed m n
    whole_so =
        let is = left_on.1 in
        let walking = all.releasing.walking in
        record {
          epoch = epoch;
          one_more = refl;
          not_last = enters.0;
          passed = enters.1.0;
          are_passed = enters.1.1;
          more = all.went.looks;
          pointers = all.pointers;
          count = all.count;
          goes = subst (λ (p : Part View'). Among K opens step plan m n words (entries_of_items m.0.number (reclaim_items m.0.number (epoch + 1) all.pointers)) p) (sym is) left_on;
          kept = kept_then m.0.part k.0.part n.0.part
              (kept_then m.0.part j.0.part k.0.part (subst (IsKeptBy m.0.part) (sym j_is) (record { token = refl; owned = refl; held = refl; chain = refl; won = refl; counts = λ p h. refl })) all.went.kept)
              (subst (IsKeptBy k.0.part) (sym is) (record { token = refl; owned = refl; held = refl; chain = refl; won = refl; counts = λ p h. refl }));
          client = ap (λ (p : Part View'). p.client) is ∙ (all.went.client ∙ ap (λ (p : Part View'). frees_after K p.client all.pointers) j_is);
          phase = ap (λ (p : Part View'). p.seat.phase) is;
          walked = ap (λ (p : Part View'). p.seat.reclaim.walked) is ∙ walking.walked;
          hand = ap (λ (p : Part View'). p.seat.hand) is ∙ nothing;
          tail = ap (λ (p : Part View'). p.seat.homing.tail) is ∙ walking.tail;
        }
