-- What trying locales for an object comes to, one after another.
use Rattle.std.proofs.Common.{Option, Some, None, ◌≡◌, ◌⊎◌, ◌<◌, ◌≤◌, ◌||◌, ◌+◌, ◌-◌, ◌++◌, ℕ, Bool, true, false, List, [], ◌∷◌, refl, ap, sym, ◌∙◌, subst, inl, inr, ⊎_elim, arith}
use Rattle.std.specs.Prelude.{is_some, not, Contains, Ok}
use Rattle.std.specs.List.{range_with_len}
use Rattle.std.proofs.lemmas.Bool.{false≢true}
use Rattle.std.proofs.lemmas.Bool.Decides.{eqb_tells}
use Rattle.std.proofs.lemmas.List.Elements.{Contains-append_left, Contains-append_right, Contains-append_cases}
use Rattle.pass_book.specs.declared.entries.Look.{Look}
use Rattle.pass_table.specs.Words.{AreTries}
use Rattle.pgas_base.specs.Pointers.{Pointer}
use Rattle.epoch_laws.specs.declared.events.EpochEvent.TheVariants.{Given}
use Rattle.epoch_laws.specs.Needs.{event}
use Rattle.epoch_laws.specs.Places.{Place, place_of}
use Rattle.epoch_laws.specs.Seats.{is_reclaiming}
use Rattle.epoch_laws.specs.StackSteps.{last_stack_count}
use Rattle.epoch_laws.specs.Words.{WordName}
use Rattle.epoch_table.specs.declared.parts.Plan.{Plan}
use Rattle.epoch_table.specs.Clients.{ClientTerms, Takes}
use Rattle.epoch_table.specs.Kinds.{entries_of_items}
use Rattle.epoch_manager.specs.declared.faults.TakeFault.TheVariants.{NoRoom, Spent as LastCount}
use Rattle.epoch_manager.specs.declared.gets.Get.{Get}
use Rattle.epoch_manager.specs.declared.gets.Get.TheVariants.{Empty, Spent}
use Rattle.epoch_manager.specs.Takes.{later, last_header, last_head, is_spent, IsTakenHeader, IsFreeHeader}
use Rattle.epoch_manager.specs.Tours.{AreOf, IsGot, order_from, GoesAgain, TakeReads}
use Rattle.epoch_manager.specs.TakeCalls.{Refuses}
use Rattle.epoch_manager.specs.TakeSeats.{IsEmptyHanded, SeatOf, Under, Reads, Gets, GetsHead, Scans, TakesOne, OwnsOne, Misses, MayTry}
use Rattle.epoch_manager.proofs.HeaderTakes.{knowing_still}
use Rattle.epoch_manager.proofs.Takes.{headers-append, heads-append, headers_before, headers_after, heads_before, of_both, unspent_later, spent_later, under_none, under_then, after_under, number_still, has_still, can_still, gets_then}
use Rattle.epoch_manager.proofs.TokenSteps.{Goes}
use Rattle.epoch_manager.proofs.Tours.{other_head, contains_one, contains_none, one_contained, order_below, order_has, range_more, range_split, range_ends, ranges_apart, tour_one, tour_then, no_head, no_header, got_after, got_before, tries_none, tries_more}

-- of two flags
either_so : (a b : Bool) → (a || b) ≡ true → (a ≡ true) ⊎ (b ≡ true)
either_so true b is = inl refl
either_so false b is = inr is

neither_so : (a b : Bool) → (a || b) ≡ false → (a ≡ false) × (b ≡ false)
neither_so true b is = absurd (false≢true (sym is))
neither_so false b is = (refl, is)

some_first : (a b : Option ℕ) → is_some a ≡ true → is_some (later a b) ≡ true
some_first a None is = is
some_first a (Some w) is = refl

module _ {C View' Call Reply State' : Type 0} (K : ClientTerms C View' Call Reply State') (opens : State' → Type 0) (step : State' → Call → Reply → State' → Type 0) (plan : Plan C) where
  abbrev S : Type 0
  S = SeatOf K opens step plan

  -- what getting an object comes to, after the head was read
  pub head_then : (l : ℕ) (m k n : S) (result : Get) (head : Option ℕ) → Reads K opens step plan l m k head → is_spent head ≡ false → is_some head ≡ true → Gets K opens step plan l k n result → GetsHead K opens step plan l m n result
  head_then l m k n result head a unspent some g = (later head g.0, some_first head g.0 some, gets_then K opens step plan l m k n result head g.0 a unspent g.1)

  -- ---- one locale

  pub spent_misses : (l : ℕ) (m n : S) → GetsHead K opens step plan l m n Spent → Misses K opens step plan (l ∷ []) m n true false
  spent_misses l m n g =
      let reads = g.2.0 in
      let spent : is_spent (last_head reads.looks l) ≡ true = ap is_spent reads.head_so ∙ g.2.2 in record {
        looks = reads.looks;
        under = reads.under;
        rests = g.2.1;
        tour =
            tour_one plan.shape l reads.looks
            (record { local = reads.local; head = ap is_some reads.head_so ∙ g.1; headers = λ p at inside. ap is_some (reads.unheaded p) ∙ sym (ap not spent) });
        spends = λ t. (l, contains_one l, spent);
        can_spend = λ t. g.2.3;
        unspent = λ f. absurd (false≢true (sym f));
        found = λ t. absurd (false≢true t);
        taken = λ f. absurd (false≢true (sym f));
      }

  pub empty_misses : (l : ℕ) (m k n : S) (free : Bool) → l < plan.shape.locales → GetsHead K opens step plan l m k Empty → Scans K opens step plan l plan.shape.objects k n free → Misses K opens step plan (l ∷ []) m n false free
  empty_misses l m k n free low g scans =
      let reads = g.2.0 in
      let xs = reads.looks in
      let ys = scans.looks in
      let head : last_head (xs ++ ys) l ≡ g.0 = heads_before xs ys l (scans.heads l) ∙ reads.head_so in
      let local : AreOf l (xs ++ ys) = of_both l xs ys reads.local scans.local in
      let unspent : is_spent (last_head (xs ++ ys) l) ≡ false = ap is_spent head ∙ g.2.2 in record {
        looks = xs ++ ys;
        under = under_then K opens step plan m k n xs ys reads.under scans.under;
        rests = scans.rests;
        tour =
            tour_one plan.shape l (xs ++ ys)
            (record {
              local = local;
              head = ap is_some head ∙ g.1;
              headers = λ p at inside. headers_after (λ o. is_some o ≡ true) false≢true xs ys p (scans.headers p at inside.some_object inside.index) ∙ sym (ap not unspent);
            });
        spends = λ t. absurd (false≢true t);
        can_spend = λ t. absurd (false≢true t);
        unspent = λ f i. ⊎_elim (λ e. ap (λ j. is_spent (last_head (xs ++ ys) j)) e.1 ∙ unspent) (λ e. ap is_spent (other_head l (xs ++ ys) i local e.1)) (eqb_tells i l);
        found = λ some.
            let one = scans.found some in
            let p : Place = record { locale = l; index = one.0 } in
            (p, contains_one l, record { locale = low; some_object = one.1; index = one.2 }, headers_after IsFreeHeader (λ h. h) xs ys p one.3);
        taken = λ f none p on inside. headers_after IsTakenHeader (λ h. h) xs ys p (scans.taken none p (sym (one_contained l p.locale on)) inside.some_object inside.index);
      }

  -- ---- locales so far, and then others

  pub misses_none : (m : S) → IsEmptyHanded m.0.part → Misses K opens step plan [] m m false false
  misses_none m empty = record {
    looks = [];
    under = under_none K opens step plan m;
    rests = empty;
    tour = refl;
    spends = λ t. absurd (false≢true t);
    can_spend = λ t. absurd (false≢true t);
    unspent = λ f l. refl;
    found = λ t. absurd (false≢true t);
    taken = λ f none p on. absurd (contains_none p.locale on);
  }

  module _ (m k n : S) (a b : Bool) where
    module _ (one two : List ℕ) (s f : Bool) (was : Misses K opens step plan one m k s f) (now : Misses K opens step plan two k n a b) (apart : (l : ℕ) → Contains one l → Contains two l → ⊥) where
      abbrev xs : List (Look WordName)
      xs = was.looks

      abbrev ys : List (Look WordName)
      ys = now.looks

      pub misses_then : Misses K opens step plan (one ++ two) m n (s || a) (f || b)
      misses_then = record {
        looks = xs ++ ys;
        under = under_then K opens step plan m k n xs ys was.under now.under;
        rests = now.rests;
        tour = tour_then plan.shape one two xs ys was.tour now.tour;
        spends = λ t.
            ⊎_elim
            (λ first.
            let l = was.spends first in
            (l.0, Contains-append_left one two l.0 l.1, ap is_spent (heads_before xs ys l.0 (no_head plan.shape two ys l.0 now.tour (apart l.0 l.1))) ∙ l.2))
            (λ second. let l = now.spends second in (l.0, Contains-append_right one two l.0 l.1, ap is_spent (heads-append xs ys l.0) ∙ spent_later (last_head xs l.0) (last_head ys l.0) l.2))
            (either_so s a t);
        can_spend = λ t. ⊎_elim (λ first. can_still K opens step plan k n ys now.under (was.can_spend first)) (λ second. now.can_spend second) (either_so s a t);
        unspent = λ unspent l. let both = neither_so s a unspent in ap is_spent (heads-append xs ys l) ∙ unspent_later (last_head xs l) (last_head ys l) (was.unspent both.0 l) (now.unspent both.1 l);
        found = λ t.
            ⊎_elim
            (λ first.
            let p = was.found first in
            (p.0, Contains-append_left one two p.0.locale p.1, p.2, subst IsFreeHeader (sym (headers_before xs ys p.0 (no_header plan.shape two ys p.0 now.tour (apart p.0.locale p.1)))) p.3))
            (λ second. let p = now.found second in (p.0, Contains-append_right one two p.0.locale p.1, p.2, headers_after IsFreeHeader (λ h. h) xs ys p.0 p.3))
            (either_so f b t);
        taken = λ unspent none p on inside.
            let spends = neither_so s a unspent in
            let frees = neither_so f b none in
            ⊎_elim
            (λ first. subst IsTakenHeader (sym (headers_before xs ys p (no_header plan.shape two ys p now.tour (apart p.locale first)))) (was.taken spends.0 frees.0 p first inside))
            (λ second. headers_after IsTakenHeader (λ h. h) xs ys p (now.taken spends.1 frees.1 p second inside))
            (Contains-append_cases one two p.locale on);
      }

  -- one more locale was tried
  pub range_misses : (from l : ℕ) (m k n : S) (s f a b : Bool) → from ≤ l → Misses K opens step plan (range_with_len from (l - from)) m k s f → Misses K opens step plan (l ∷ []) k n a b
      → Misses K opens step plan (range_with_len from (l + 1 - from)) m n (s || a) (f || b)
  range_misses from l m k n s f a b low was now =
      subst (λ order. Misses K opens step plan order m n (s || a) (f || b)) (sym (range_more from l low))
      (misses_then m k n a b (range_with_len from (l - from)) (l ∷ []) s f was now (λ i c d. range_ends from l (subst (Contains (range_with_len from (l - from))) (sym (one_contained l i d)) c)))

  -- all were
  pub round_misses : (first many : ℕ) (m k n : S) (s f a b : Bool) → Misses K opens step plan (range_with_len first (many - first)) m k s f → Misses K opens step plan (range_with_len 0 first) k n a b
      → Misses K opens step plan (order_from first many) m n (s || a) (f || b)
  round_misses first many m k n s f a b was now = misses_then m k n a b (range_with_len first (many - first)) (range_with_len 0 first) s f was now (λ l. ranges_apart first many l)

  -- ---- an object is taken after steps of no entry

  pub takes_after : (Says : List (Look WordName) → Type 0) (m k n : S) (looks : List (Look WordName)) (q : Pointer) → Under K opens step plan m k looks → (takes : TakesOne K opens step plan k n q) → Says (looks ++ takes.looks)
      → (all : TakesOne K opens step plan m n q) × Says all.looks
  takes_after Says m k n looks q under takes says =
      let same = under.same in (
        record {
          looks = looks ++ takes.looks;
          goes =
              after_under K opens step plan m k n looks takes.looks (entries_of_items m.0.number (event m.0.number (Given q))) n.0.part under
              (subst (λ c. Goes K opens step plan k n takes.looks (entries_of_items c (event c (Given q))) n.0.part) (number_still K opens step plan m k looks under) takes.goes);
          phase = takes.phase ∙ same.phase;
          token = takes.token ∙ same.token;
          owned = takes.owned ∙ ap (λ o. record { locale = q.locale; index = q.index } ∷ o) same.owned;
          held = takes.held ∙ same.held;
          reclaim = takes.reclaim ∙ same.reclaim;
          client = takes.client ∙ ap (λ v. K.after v (Takes q) 0) same.client;
          rests = takes.rests;
          inside = takes.inside;
          count = takes.count;
          counts = λ p has. takes.counts p (has_still K opens step plan m.0.part k.0.part same p has) ∙ same.counts p has;
        },
        says,
      )

  abbrev pub Got : List ℕ → S → S → Pointer → Type 0
  Got order m n q = (takes : TakesOne K opens step plan m n q) × IsGot plan.shape order q takes.looks

  -- the first that was tried
  pub got_one : (l : ℕ) (m k n : S) (head : Option ℕ) (q : Pointer) → Reads K opens step plan l m k head → is_some head ≡ true → is_spent head ≡ false → OwnsOne K opens step plan k n q → q.locale ≡ l → Got (l ∷ []) m n q
  got_one l m k n head q reads some unspent owns at =
      subst (λ i. Got (i ∷ []) m n q) at
      (let here = subst (λ i. Reads K opens step plan i m k head) (sym at) reads in
      let looks = owns.takes.looks in
      let last : last_head (here.looks ++ looks) q.locale ≡ head = heads_before here.looks looks q.locale (owns.heads q.locale) ∙ here.head_so in
      takes_after (IsGot plan.shape (q.locale ∷ []) q) m k n here.looks q here.under owns.takes
      (record {
        passed = [];
        left = [];
        in_order = refl;
        before = [];
        here = here.looks ++ looks;
        words = refl;
        tour = refl;
        local = of_both q.locale here.looks looks here.local owns.local;
        head = ap is_some last ∙ some;
        unspent = ap is_spent last ∙ unspent;
        free = headers-append here.looks looks (place_of q) ∙ ap (later (last_header here.looks (place_of q))) owns.free;
      }))

  -- one after others
  pub got_later : (one two : List ℕ) (m k n : S) (s f : Bool) (q : Pointer) → Misses K opens step plan one m k s f → Got two k n q → Got (one ++ two) m n q
  got_later one two m k n s f q was got =
      takes_after (IsGot plan.shape (one ++ two) q) m k n was.looks q was.under got.0 (got_after plan.shape one two q was.looks got.0.looks was.tour got.1)

  pub range_got : (from l to : ℕ) (m k n : S) (s f : Bool) (q : Pointer) → from ≤ l → l < to → Misses K opens step plan (range_with_len from (l - from)) m k s f → Got (l ∷ []) k n q → Got (range_with_len from (to - from)) m n q
  range_got from l to m k n s f q low high was got =
      let sofar = got_later (range_with_len from (l - from)) (l ∷ []) m k n s f q was got in
      subst (λ order. Got order m n q) (sym (range_split from l to low high)) (sofar.0, got_before plan.shape (range_with_len from (l - from) ++ l ∷ []) (range_with_len (l + 1) (to - (l + 1))) q sofar.0.looks sofar.1)

  pub round_got : (first many : ℕ) (m n : S) (q : Pointer) → Got (range_with_len first (many - first)) m n q → Got (order_from first many) m n q
  round_got first many m n q got = (got.0, got_before plan.shape (range_with_len first (many - first)) (range_with_len 0 first) q got.0.looks got.1)

  -- the next locales may be tried
  pub may_still : (m k : S) (looks : List (Look WordName)) → Under K opens step plan m k looks → IsEmptyHanded k.0.part → MayTry K opens step plan m.0.number m.0.part → MayTry K opens step plan k.0.number k.0.part
  may_still m k looks under rests may =
      let same = under.same in
      let number = number_still K opens step plan m k looks under in
      let low = may.below in
      record {
        below = omega (arith, low, number);
        quiet = ap is_reclaiming same.phase ∙ may.quiet;
        empty = rests;
        known = knowing_still K opens step plan m k looks under may.known;
        allowed = subst (λ o. K.may_take k.0.part.client o) (sym same.owned) (subst (λ v. K.may_take v m.0.part.seat.owned) (sym same.client) may.allowed);
      }

  -- ---- rounds

  -- rounds after each of which a take goes on
  pub record HasGone (asked : ℕ) (m n : S) : Type 0 where
    pub looks : List (Look WordName)
    pub under : Under K opens step plan m n looks
    pub rests : IsEmptyHanded n.0.part
    pub again : AreTries (GoesAgain plan.shape asked) looks

  pub gone_none : (asked : ℕ) (m : S) → IsEmptyHanded m.0.part → HasGone asked m m
  gone_none asked m empty = record { looks = []; under = under_none K opens step plan m; rests = empty; again = tries_none (GoesAgain plan.shape asked) }

  -- an object is got in the next
  pub gone_takes : (asked : ℕ) (m k n : S) (q : Pointer) → HasGone asked m k → Got (order_from asked plan.shape.locales) k n q → (all : TakesOne K opens step plan m n q) × TakeReads plan.shape asked (Ok q) all.looks
  gone_takes asked m k n q was got =
      takes_after (TakeReads plan.shape asked (Ok q)) m k n was.looks q was.under got.0
      (record { before = was.looks; last = got.0.looks; words = refl; again = was.again; cause = got.1 })

  module _ (asked : ℕ) (low : asked < plan.shape.locales) (m k n : S) (was : HasGone asked m k) (spent free : Bool) (now : Misses K opens step plan (order_from asked plan.shape.locales) k n spent free) where
    all_under : Under K opens step plan m n (was.looks ++ now.looks)
    all_under = under_then K opens step plan m k n was.looks now.looks was.under now.under

    pub gone_on : spent ≡ false → free ≡ true → HasGone asked m n
    gone_on unspent some =
        let p = now.found some in record {
          looks = was.looks ++ now.looks;
          under = all_under;
          rests = now.rests;
          again = tries_more (GoesAgain plan.shape asked) was.looks now.looks was.again (record { round = now.tour; unspent = now.unspent unspent; free = (p.0, p.2, p.3) });
        }

    pub spent_refuses : spent ≡ true → Refuses K opens step plan asked (LastCount last_stack_count) m n
    spent_refuses is =
        let l = now.spends is in record {
          looks = was.looks ++ now.looks;
          under = all_under;
          rests = now.rests;
          cause = record {
            before = was.looks;
            last = now.looks;
            words = refl;
            again = was.again;
            cause = (now.tour, (l.0, order_below asked plan.shape.locales l.0 (omega arith) l.1, l.2));
          };
          tells = refl;
          can_spend = λ count e. now.can_spend is;
        }

    pub no_room_refuses : spent ≡ false → free ≡ false → Refuses K opens step plan asked (NoRoom asked) m n
    no_room_refuses unspent none = record {
      looks = was.looks ++ now.looks;
      under = all_under;
      rests = now.rests;
      cause = record {
        before = was.looks;
        last = now.looks;
        words = refl;
        again = was.again;
        cause = (
          now.tour,
          record {
            unspent = λ l inside. now.unspent unspent l;
            taken = λ p inside. now.taken unspent none p (order_has asked plan.shape.locales p.locale (omega arith) inside.locale) inside;
          },
        );
      };
      tells = refl;
      can_spend = λ count e. absurd cc;
    }
