-- One seat takes in the passes of an object, one after another, and the last state shows the whole book.
use Rattle.std.proofs.Common.{◌≡◌, ◌≢◌, ℕ, zero, suc, List, [], ◌∷◌, ◌++◌, set, get_or, map, length, ◌<◌, arith, refl, ap, sym, ◌∙◌, subst, inl, inr, ⊎_elim, append_assoc, Some, slice_get, Bool}
use Rattle.std.specs.List.{All, Contains}
use Rattle.std.proofs.lemmas.List.{length-map}
use Rattle.std.proofs.lemmas.List.Elements.{All-nil, All-append}
use mathlib.Core.Option.{some}
use lib.ListN.{get_elem?}
use Rattle.atomic_table.specs.Table.{State as Table, Joins, Final, Seen}
use Rattle.atomic_table.proofs.Lists.{at_set, set_else}
use Rattle.pass_book.specs.Pages.{Book}
use Rattle.pass_table.specs.declared.views.Role.{Role}
use Rattle.pass_table.specs.declared.views.Role.TheVariants.{Opener, Caller, Note, Spent}
use Rattle.pass_table.specs.declared.views.Merged.{Merged}
use Rattle.pass_table.specs.declared.views.View.{View}
use Rattle.pass_table.specs.declared.passes.Pass.{Pass}
use Rattle.pass_table.specs.declared.tables.PassTable.{PassTable}
use Rattle.pass_table.specs.Terms.{Terms, put}
use Rattle.pass_table.specs.Views.{merging, spent, numbers_of}
use Rattle.pass_table.specs.Rule.{MergedFits, FitsAs, KnowsPlan, TableInvariant}
use Rattle.pass_table.specs.Passes.{plan_of, pass_view, caller_of, page}
use Rattle.pass_table.specs.Closings.{AreOfAllCallers, Gathered, ClosesWith}
use Rattle.pass_table.proofs.Lists.{put_here, put_else, all_cons, all_one, all_mid, all_at, all_below, pairs_cons, contained}
use Rattle.pass_table.proofs.Seating.{reseated, caller_fits, caller_knows}

module _ {Call Reply State Part : Type 0} (rests : Part → Bool) (book : Book Call Reply State) (parts : ℕ → Part) (seat : ℕ → ℕ) (made c id other : ℕ) where
  -- a caller in another seat than the one that is spent has the seat that it had
  seat_kept : (k number : ℕ) → seat c ≡ other → k ≢ other → seat number ≡ k → put seat c id number ≡ k
  seat_kept k number mine away there = put_else seat c id number (λ same. away (sym there ∙ (ap seat same ∙ mine))) ∙ there

  merged_kept : (k : ℕ) (l : List (Merged Call Reply Part)) → seat c ≡ other → k ≢ other → All (MergedFits rests book parts seat made k) l → All (MergedFits rests book parts (put seat c id) made k) l
  merged_kept k l mine away all j d within =
      let one = all j d within in
      record { below = one.below; seated = seat_kept k (get_or l j d).caller mine away one.seated; page = one.page; part = one.part; rested = one.rested }

  -- what holds of each caller whose pass was taken in, and of the view's own, holds of all of a view's callers
  numbers_all : {Plan Name : Type 0} (k : ℕ) (v : View Call Reply Plan Part Name) (P : ℕ → Type 0) → ((m : Merged Call Reply Part) → MergedFits rests book parts seat made k m → P m.caller) → P v.number
      → All (MergedFits rests book parts seat made k) v.merged → All P (numbers_of v)
  numbers_all k v P gives own merged = All-append P (map (λ (m : Merged Call Reply Part). m.caller) v.merged) (v.number ∷ []) (each v.merged merged) (all_one P v.number own)
    where
      each : (l : List (Merged Call Reply Part)) → All (MergedFits rests book parts seat made k) l → All P (map (λ (m : Merged Call Reply Part). m.caller) l)
      each [] all = All-nil P
      each (m ∷ l) all = all_cons P m.caller (map (λ (x : Merged Call Reply Part). x.caller) l) (gives m (all 0 m (omega arith))) (each l (λ j d within. all (suc j) d (omega arith)))

  seat_fits : {Plan Name : Type 0} (k : ℕ) (u : View Call Reply Plan Part Name) (role : Role) → seat c ≡ other → k ≢ other → FitsAs rests book parts seat made k u role → FitsAs rests book parts (put seat c id) made k u role
  seat_fits k u Opener mine away fits = fits
  seat_fits k u Caller mine away fits = record {
    below = fits.below;
    seated = seat_kept k u.number mine away fits.seated;
    page = fits.page;
    part = fits.part;
    rested = fits.rested;
    pending = fits.pending;
    merged = merged_kept k u.merged mine away fits.merged;
    distinct = fits.distinct;
  }
  seat_fits k u Note mine away fits = fits
  seat_fits k u Spent mine away fits = tt

module _ {Slot Call Reply State Plan Part Name : Type 0} (T : Terms Slot Call Reply State Plan Part Name) (opens : State → Type 0) (step : State → Call → Reply → State → Type 0) (plan : Plan) where
  -- one caller's pass takes in another's
  pub joins_pass : (id : ℕ) (v : View Call Reply Plan Part Name) (other : ℕ) (w : View Call Reply Plan Part Name) → v.role ≡ Caller → w.role ≡ Caller
      → Joins (TableInvariant T opens step plan) id v other w (merging v w) (spent T)
  joins_pass id v other w role role' s is here apart there =
      let c : ℕ = w.number in
      let seat' : ℕ → ℕ = put is.seat c id in
      let views' : List (View Call Reply Plan Part Name) = set s.views id (merging v w) in
      let there' : get_elem? s.views other ≡ some w = sym (set_else s.views id other (merging v w) apart) ∙ there in
      let fits = caller_fits T opens step plan s is id v here role in
      let knows = caller_knows T opens step plan s is id v here role in
      let fits' = caller_fits T opens step plan s is other w there' role' in
      let away : id ≢ other = λ same. apart (sym same) in
      let m : Merged Call Reply Part = record { caller = c; mine = w.mine; seen = w.seen; part = w.part; rests = w.rests } in
      let taken : MergedFits T.rests is.book is.parts seat' is.made id m = record {
        below = fits'.below;
        seated = put_here is.seat c id c refl;
        page = fits'.page;
        part = fits'.part;
        rested = fits'.rested;
      } in
      let own : FitsAs T.rests is.book is.parts seat' is.made id (merging v w) v.role =
      subst (FitsAs T.rests is.book is.parts seat' is.made id (merging v w)) (sym role)
      record {
        below = fits.below;
        seated = seat_kept T.rests is.book is.parts is.seat is.made c id other id v.number fits'.seated away fits.seated;
        page = fits.page;
        part = fits.part;
        rested = fits.rested;
        pending = fits.pending;
        merged = all_cons (MergedFits T.rests is.book is.parts seat' is.made id) m v.merged taken
            (merged_kept T.rests is.book is.parts is.seat is.made c id other id v.merged fits'.seated away fits.merged);
        distinct = pairs_cons (λ x y. x ≢ y) c (numbers_of v)
            (λ k d within same. apart (sym fits'.seated ∙ (ap is.seat same ∙ numbers_all T.rests is.book is.parts is.seat is.made c id other id v (λ n. is.seat n ≡ id) (λ m one. one.seated) fits.seated fits.merged k d within))) fits.distinct;
      } in
      reseated T opens step plan s is seat' (set views' other (spent T))
      (λ k u at.
      ⊎_elim (λ t. subst (λ x. KnowsPlan T.rests is.book is.parts seat' is.made k plan x x.role) t.1 tt)
      (λ t.
      ⊎_elim (λ r. subst (λ x. KnowsPlan T.rests is.book is.parts seat' is.made k plan x x.role) r.1 (subst (KnowsPlan T.rests is.book is.parts seat' is.made k plan (merging v w)) (sym role) knows))
      (λ r. is.seats.knows k u r.1)
      (at_set s.views id k (merging v w) u t.1))
      (at_set views' other k (spent T) u at))
      (λ k u at.
      ⊎_elim (λ t. subst (λ x. FitsAs T.rests is.book is.parts seat' is.made k x x.role) t.1 tt)
      (λ t.
      ⊎_elim
      (λ r. subst (λ j. FitsAs T.rests is.book is.parts seat' is.made j u u.role) (sym r.0) (subst (λ x. FitsAs T.rests is.book is.parts seat' is.made id x x.role) r.1 own))
      (λ r. seat_fits T.rests is.book is.parts is.seat is.made c id other k u u.role fits'.seated t.0 (is.seats.fits k u r.1))
      (at_set s.views id k (merging v w) u t.1))
      (at_set views' other k (spent T) u at))

module _ {Slot Call Reply Plan Part Name : Type 0} where
  -- the view has the pages of the passes that are no longer left, and their numbers
  abbrev pub GathersRest : View Call Reply Plan Part Name → List (Pass Slot Call Reply Plan Part Name) → List (Pass Slot Call Reply Plan Part Name) → Type 0
  GathersRest v all left = (rest : List (Pass Slot Call Reply Plan Part Name)) × (all ≡ left ++ rest) × All (λ p. Gathered v p) rest
      × (map (λ (p : Pass Slot Call Reply Plan Part Name). caller_of p) rest ≡ numbers_of v)

  still : (v w : View Call Reply Plan Part Name) (p : Pass Slot Call Reply Plan Part Name) → Gathered v p → Gathered (merging v w) p
  still v w p has = ⊎_elim (λ t. inl t) (λ t. inr (suc t.0, t.1, t.2, t.3, t.4, t.5, t.6)) has

  taken : (v : View Call Reply Plan Part Name) (p : Pass Slot Call Reply Plan Part Name) → Gathered (merging v (pass_view p)) p
  taken v p = inr (zero, record { caller = caller_of p; mine = (pass_view p).mine; seen = (pass_view p).seen; part = (pass_view p).part; rests = (pass_view p).rests }, refl, refl, refl, refl, refl)

  -- the first pass
  pub gathers_first : (all left : List (Pass Slot Call Reply Plan Part Name)) (p : Pass Slot Call Reply Plan Part Name) → all ≡ left ++ p ∷ [] → GathersRest (pass_view p) all left
  gathers_first all left p is = (
    p ∷ [],
    is,
    all_cons (λ q. Gathered (pass_view p) q) p [] (inl (refl, refl, refl, refl)) (All-nil _),
    ap (λ (l : List (Merged Call Reply Part)). map (λ (m : Merged Call Reply Part). m.caller) l ++ caller_of p ∷ []) (sym p.seat.single),
  )

  -- one more
  pub gathers_more : (v w : View Call Reply Plan Part Name) (all left left' : List (Pass Slot Call Reply Plan Part Name)) (p : Pass Slot Call Reply Plan Part Name) → w ≡ merging v (pass_view p) → left ≡ left' ++ p ∷ [] → GathersRest v all left → GathersRest w all left'
  gathers_more v w all left left' p is one rest =
      let whole : all ≡ left' ++ (p ∷ rest.0) = rest.1 ∙ (ap (λ l. l ++ rest.0) one ∙ append_assoc left' (p ∷ []) rest.0) in
      subst (λ u. GathersRest u all left') (sym is)
      (p ∷ rest.0, whole, all_cons (λ q. Gathered (merging v (pass_view p)) q) p rest.0 (taken v p) (λ k d below. still v (pass_view p) (get_or rest.0 k d) (rest.2 k d below)), ap (λ l. caller_of p ∷ l) rest.3)

  -- all
  pub gathers_all : (v : View Call Reply Plan Part Name) (all left : List (Pass Slot Call Reply Plan Part Name)) → left ≡ [] → GathersRest v all left → All (λ p. Gathered v p) all
  gathers_all v all left none rest = subst (All (λ p. Gathered v p)) (sym (rest.1 ∙ ap (λ l. l ++ rest.0) none)) rest.2

  pub gathers_numbers : (v : View Call Reply Plan Part Name) (all left : List (Pass Slot Call Reply Plan Part Name)) → left ≡ [] → GathersRest v all left → map (λ (p : Pass Slot Call Reply Plan Part Name). caller_of p) all ≡ numbers_of v
  gathers_numbers v all left none rest = ap (map (λ (p : Pass Slot Call Reply Plan Part Name). caller_of p)) (rest.1 ∙ ap (λ l. l ++ rest.0) none) ∙ rest.3

  -- what holds of all passes holds of the one that is taken next
  pub next_of : (P : Pass Slot Call Reply Plan Part Name → Type 0) (v : View Call Reply Plan Part Name) (all left left' : List (Pass Slot Call Reply Plan Part Name)) (p : Pass Slot Call Reply Plan Part Name) → left ≡ left' ++ p ∷ [] → GathersRest v all left → All P all → P p
  next_of P v all left left' p one rest each =
      let whole : all ≡ left' ++ (p ∷ rest.0) = rest.1 ∙ (ap (λ l. l ++ rest.0) one ∙ append_assoc left' (p ∷ []) rest.0) in
      all_mid P left' p rest.0 (subst (All P) whole each)

module _ {C O Slot Call Reply State Plan Part Name : Type 0} (T : Terms Slot Call Reply State Plan Part Name) (opens : State → Type 0) (step : State → Call → Reply → State → Type 0) where
  module _ (d : PassTable C O Slot Plan Part Name Call Reply State) (s : Table Slot (View Call Reply Plan Part Name)) (is : TableInvariant T opens step (plan_of d) s) (id : ℕ) (v : View Call Reply Plan Part Name)
      (here : get_elem? s.views id ≡ some v) (role : v.role ≡ Caller) where
    -- a pass has its page in the book, and its caller knows what it says
    page_in : (p : Pass Slot Call Reply Plan Part Name) → Gathered v p → (slice_get is.book.pages (caller_of p) ≡ Some (page p)) × (is.parts (caller_of p) ≡ (pass_view p).part) × ((pass_view p).rests ≡ T.rests (pass_view p).part)
    page_in p has =
        let fits = caller_fits T opens step (plan_of d) s is id v here role in
        ⊎_elim
        (λ t. (ap (slice_get is.book.pages) (sym t.0) ∙ (fits.page ∙ ap Some t.1), ap is.parts (sym t.0) ∙ (fits.part ∙ t.2), sym t.3 ∙ (fits.rested ∙ ap T.rests t.2)))
        (λ t.
        let one = all_at (MergedFits T.rests is.book is.parts is.seat is.made id) v.merged t.0 t.1 fits.merged t.2 in
        (ap (slice_get is.book.pages) (sym t.3) ∙ (one.page ∙ ap Some t.4), ap is.parts (sym t.3) ∙ (one.part ∙ t.5), sym t.6 ∙ (one.rested ∙ ap T.rests t.5)))
        has

    -- as many passes as there are callers are those of all callers
    every_caller : (passes : List (Pass Slot Call Reply Plan Part Name)) → map (λ (p : Pass Slot Call Reply Plan Part Name). caller_of p) passes ≡ numbers_of v → length passes ≡ T.callers (plan_of d) → AreOfAllCallers (T.callers (plan_of d)) passes
    every_caller passes numbers count c below =
        let fits = caller_fits T opens step (plan_of d) s is id v here role in
        let within : (x : ℕ) → x < is.made → x < T.callers (plan_of d) = λ x less. (let most = is.seats.most in omega arith) in
        let all : All (λ x. x < T.callers (plan_of d)) (numbers_of v) =
        numbers_all T.rests is.book is.parts is.seat is.made 0 0 0 id v (λ x. x < T.callers (plan_of d)) (λ m one. within m.caller one.below) (within v.number fits.below) fits.merged in
        let long : length (numbers_of v) ≡ T.callers (plan_of d) = ap length (sym numbers) ∙ (length-map passes (λ (p : Pass Slot Call Reply Plan Part Name). caller_of p) ∙ count) in
        subst (λ l. Contains l c) (sym numbers) (all_below (numbers_of v) (T.callers (plan_of d)) c fits.distinct all long below)

  -- the last state shows the whole book
  pub closes : (d : PassTable C O Slot Plan Part Name Call Reply State) (passes : List (Pass Slot Call Reply Plan Part Name)) (words : List ℕ) (slots : List Slot) (id : ℕ) (v : View Call Reply Plan Part Name)
      → Final (Seen (TableInvariant T opens step (plan_of d)) id v) words slots → v.role ≡ Caller → All (λ p. Gathered v p) passes → map (λ (p : Pass Slot Call Reply Plan Part Name). caller_of p) passes ≡ numbers_of v → length passes ≡ T.callers (plan_of d)
      → ClosesWith T opens step d passes words slots
  closes d passes words slots id v last role gathered numbers count =
      let s : Table Slot (View Call Reply Plan Part Name) = last.0 in
      let is = last.1.0 in
      let here = last.1.1 in
      let every = every_caller d s is id v here role passes numbers count in record {
        book = is.book;
        legal = is.history.legal;
        start = is.history.start;
        callers = is.history.pages;
        each = λ k p below. (page_in d s is id v here role (get_or passes k p) (gathered k p below)).0;
        all = every;
        homes = s.homes;
        many = last.3;
        home = last.4;
        parts = is.parts;
        told = λ k p below. (page_in d s is id v here role (get_or passes k p) (gathered k p below)).1;
        rest = λ c below.
            let one = contained (λ (p : Pass Slot Call Reply Plan Part Name). caller_of p) (λ p. Gathered v p) passes c gathered (every c below) in
            let has = page_in d s is id v here role one.0 one.1 in
            ap (λ k. T.rests (is.parts k)) (sym one.2) ∙ (ap T.rests has.1 ∙ (sym has.2 ∙ one.0.rests));
        rule = subst (λ ws. T.holds (plan_of d) record { words = ws; homes = s.homes; history = is.book.history; parts = is.parts }) last.2 is.words;
      }
