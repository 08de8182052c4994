-- An object opens with an empty history, and its opener makes one pass for each caller.
use Rattle.std.proofs.Common.{◌≡◌, ◌≢◌, ℕ, zero, suc, ◌+◌, ◌<◌, List, [], ◌∷◌, length, map, set, refl, ap, sym, ◌∙◌, subst, arith, ⊎_elim, get_or, Some, slice_get, length-set}
use Rattle.std.specs.Prelude.{replicate}
use Rattle.std.proofs.lemmas.List.Elements.{All-nil}
use Rattle.std.proofs.lemmas.List.{length-replicate}
use mathlib.Core.Option.{some, some-ne-none, some-injective}
use lib.ListN.{get_elem?}
use Rattle.atomic_table.specs.Table.{Splits, opening}
use Rattle.atomic_table.proofs.Lists.{at_set}
use Rattle.pass_book.specs.declared.entries.Entry.{Entry}
use Rattle.pass_book.specs.Pages.{Book, Page, IsPageOf}
use Rattle.pass_table.specs.declared.views.Role.{Role}
use Rattle.pass_table.specs.declared.views.Role.TheVariants.{Opener, Caller, Note, Spent}
use Rattle.pass_table.specs.declared.views.View.{View}
use Rattle.pass_table.specs.Terms.{Terms, put}
use Rattle.pass_table.specs.Views.{blank, opener, opener_next, newcomer}
use Rattle.pass_table.specs.Rule.{FitsAs, KnowsPlan, TableInvariant}
use Rattle.pass_table.proofs.Lists.{at_end, put_here, put_else, pairs_one}

blank_page : {Call Reply : Type 0} (n c : ℕ) (page : Page Call Reply) → slice_get (replicate n blank) c ≡ Some page → page ≡ blank
blank_page zero c page at = absurd cc
blank_page (suc n) zero page at = cc
blank_page (suc n) (suc c) page at = blank_page n c page at

blank_there : {Call Reply : Type 0} (n c : ℕ) → c < n → slice_get (replicate n (blank {Call = Call} {Reply = Reply})) c ≡ Some blank
blank_there zero c below = absurd (omega arith)
blank_there (suc n) zero below = refl
blank_there {Call} {Reply} (suc n) (suc c) below = blank_there {Call = Call} {Reply = Reply} n c (omega arith)

module _ {Slot Call Reply State Plan Part Name : Type 0} (T : Terms Slot Call Reply State Plan Part Name) (opens : State → Type 0) (step : State → Call → Reply → State → Type 0) (plan : Plan) where
  first_view : (k : ℕ) (v : View Call Reply Plan Part Name) → get_elem? (opener T plan ∷ []) k ≡ some v → (k ≡ 0) × (opener T plan ≡ v)
  first_view zero v at = (refl, some-injective (opener T plan) v at)
  first_view (suc k) v at = absurd (some-ne-none v (sym at))

  -- the rule holds of a new table
  pub opens_with : (words : List ℕ) (slots : List Slot) → opens (T.start plan) → T.holds plan record { words = words; homes = map some slots; history = []; parts = λ _. T.first }
      → TableInvariant T opens step plan (opening words slots (opener T plan))
  opens_with words slots opens' holds =
      let n : ℕ = T.callers plan in
      let pages : List (Page Call Reply) = replicate n blank in
      let book : Book Call Reply State = record { start = T.start plan; history = []; pages = pages } in record {
        book = book;
        parts = λ _. T.first;
        seat = λ _. 0;
        made = 0;
        history = record {
          legal = record {
            legal = (T.start plan, (opens', refl));
            callers = All-nil (λ (e : Entry Call Reply). e.caller < length pages);
            pages = λ c page at. subst (IsPageOf c []) (sym (blank_page n c page at)) record { whole = refl; own = refl; begins = ([], refl) };
          };
          start = refl;
          pages = length-replicate n blank;
        };
        words = holds;
        seats = record {
          most = omega arith;
          unmade = λ c past. (refl, λ less. blank_there n c less);
          knows = λ k v at. subst (λ x. KnowsPlan T.rests book (λ _. T.first) (λ _. 0) 0 k plan x x.role) (first_view k v at).1 refl;
          fits = λ k v at.
              let here = first_view k v at in
              subst (λ j. FitsAs T.rests book (λ _. T.first) (λ _. 0) 0 j v v.role) (sym here.0)
              (subst (λ x. FitsAs T.rests book (λ _. T.first) (λ _. 0) 0 0 x x.role) here.1 (refl, refl));
        };
      }

  -- a seat that is not the opener's fits as before, once there is another caller
  raised : (book : Book Call Reply State) (parts : ℕ → Part) (seat : ℕ → ℕ) (made room k : ℕ) (u : View Call Reply Plan Part Name) (role : Role) → k ≢ 0
      → FitsAs T.rests book parts seat made k u role → FitsAs T.rests book parts (put seat made room) (made + 1) k u role
  raised book parts seat made room k u Opener away fits = absurd (away fits.0)
  raised book parts seat made room k u Caller away fits = record {
    below = (let below = fits.below in omega arith);
    seated = put_else seat made room u.number (λ same. let below = fits.below in omega arith) ∙ fits.seated;
    page = fits.page;
    part = fits.part;
    rested = fits.rested;
    pending = fits.pending;
    merged = λ j d within.
        let one = fits.merged j d within in record {
          below = (let below = one.below in omega arith);
          seated = put_else seat made room (get_or u.merged j d).caller (λ same. let below = one.below in omega arith) ∙ one.seated;
          page = one.page;
          part = one.part;
          rested = one.rested;
        };
    distinct = fits.distinct;
  }
  raised book parts seat made room k u Note away fits = fits
  raised book parts seat made room k u Spent away fits = tt

  -- the opener makes the next caller's pass
  splits_pass : (v : View Call Reply Plan Part Name) → v.role ≡ Opener → v.number < T.callers plan → Splits (TableInvariant T opens step plan) 0 v (opener_next v) (newcomer T v)
  splits_pass v role less s is here =
      let made : ℕ = is.made in
      let seat' : ℕ → ℕ = put is.seat made (length s.views) in
      let views' : List (View Call Reply Plan Part Name) = set s.views 0 (opener_next v) in
      let long : length views' ≡ length s.views = length-set s.views 0 (opener_next v) in
      let opens' : (◌≡◌ {A = ℕ} 0 0) × (v.number ≡ made) = subst (FitsAs T.rests is.book is.parts is.seat is.made 0 v) role (is.seats.fits 0 v here) in
      let knows : v.plan ≡ Some plan = subst (KnowsPlan T.rests is.book is.parts is.seat is.made 0 plan v) role (is.seats.knows 0 v here) in
      let was = is.seats.unmade v.number (omega arith) in
      let next : FitsAs T.rests is.book is.parts seat' (made + 1) 0 (opener_next v) v.role =
      subst (FitsAs T.rests is.book is.parts seat' (made + 1) 0 (opener_next v)) (sym role) (refl, ap (λ n. n + 1) opens'.1) in
      let comes : (k : ℕ) → k ≡ length views' → FitsAs T.rests is.book is.parts seat' (made + 1) k (newcomer T v) Caller = λ k at. record {
        below = (let number : v.number ≡ made = opens'.1 in omega arith);
        seated = put_here is.seat made (length s.views) v.number opens'.1 ∙ (sym long ∙ sym at);
        page = was.1 less;
        part = was.0;
        rested = refl;
        pending = (is.book.history, refl);
        merged = All-nil _;
        distinct = pairs_one (λ x y. x ≢ y) v.number;
      } in record {
        book = is.book;
        parts = is.parts;
        seat = seat';
        made = made + 1;
        history = is.history;
        words = is.words;
        seats = record {
          most = (let number : v.number ≡ made = opens'.1 in omega arith);
          unmade = λ c past. is.seats.unmade c (omega arith);
          knows = λ k u at.
              ⊎_elim
              (λ t.
              ⊎_elim (λ r. subst (λ x. KnowsPlan T.rests is.book is.parts seat' (made + 1) k plan x x.role) r.1 (subst (KnowsPlan T.rests is.book is.parts seat' (made + 1) k plan (opener_next v)) (sym role) knows))
              (λ r. is.seats.knows k u r.1)
              (at_set s.views 0 k (opener_next v) u t))
              (λ t. subst (λ x. KnowsPlan T.rests is.book is.parts seat' (made + 1) k plan x x.role) t.1 knows)
              (at_end views' (newcomer T v) u k at);
          fits = λ k u at.
              ⊎_elim
              (λ t.
              ⊎_elim
              (λ r. subst (λ j. FitsAs T.rests is.book is.parts seat' (made + 1) j u u.role) (sym r.0) (subst (λ x. FitsAs T.rests is.book is.parts seat' (made + 1) 0 x x.role) r.1 next))
              (λ r. raised is.book is.parts is.seat made (length s.views) k u u.role r.0 (is.seats.fits k u r.1))
              (at_set s.views 0 k (opener_next v) u t))
              (λ t. subst (λ x. FitsAs T.rests is.book is.parts seat' (made + 1) k x x.role) t.1 (comes k t.0))
              (at_end views' (newcomer T v) u k at);
        };
      }

  -- the same, of the seat that has the first number
  pub splits_first : (id : ℕ) (v : View Call Reply Plan Part Name) → id ≡ 0 → v.role ≡ Opener → v.number < T.callers plan → Splits (TableInvariant T opens step plan) id v (opener_next v) (newcomer T v)
  splits_first id v first role less = subst (λ k. Splits (TableInvariant T opens step plan) k v (opener_next v) (newcomer T v)) (sym first) (splits_pass v role less)
