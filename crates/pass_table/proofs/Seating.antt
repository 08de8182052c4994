-- What a change of one seat, or of one caller's page, leaves of the other seats.
use Rattle.std.proofs.Common.{Bool, ◌≡◌, ◌≢◌, ℕ, ◌<◌, List, set, ap, sym, ◌∙◌, subst, arith, ⊎_elim, get_or, Some, slice_get}
use mathlib.Core.Option.{some}
use mathlib.Core.List.{IsPrefix}
use lib.ListN.{get_elem?}
use Rattle.atomic_table.specs.Table.{State as Table}
use Rattle.atomic_table.proofs.Lists.{at_set}
use Rattle.pass_book.specs.Pages.{Book}
use Rattle.pass_book.proofs.Prefixes.{prefix_trans}
use Rattle.pass_table.specs.declared.views.Role.{Role}
use Rattle.pass_table.specs.declared.views.Role.TheVariants.{Opener, Caller, Note, Spent}
use Rattle.pass_table.specs.declared.views.Merged.{Merged}
use Rattle.pass_table.specs.declared.views.View.{View}
use Rattle.pass_table.specs.Terms.{Terms}
use Rattle.pass_table.specs.Rule.{CallerFits, FitsAs, KnowsPlan, SeatsFit, TableInvariant}

-- another seat's caller is not this one
pub not_seated : (c : ℕ) (seat : ℕ → ℕ) (id k other : ℕ) → seat c ≡ id → k ≢ id → seat other ≡ k → other ≢ c
not_seated c seat id k other mine away there same = away (sym there ∙ (ap seat same ∙ mine))

module _ {Call Reply State Plan Part Name : Type 0} (rests : Part → Bool) (book book' : Book Call Reply State) (parts parts' : ℕ → Part) (seat : ℕ → ℕ) (made id c : ℕ) (others : (other : ℕ) → other ≢ c → parts' other ≡ parts other)
    (mine : seat c ≡ id) (pages : (other : ℕ) → other ≢ c → slice_get book'.pages other ≡ slice_get book.pages other) (grows : IsPrefix book.history book'.history) where
  -- a view in another seat fits as before
  pub fits_kept : (k : ℕ) (v : View Call Reply Plan Part Name) (role : Role) → k ≢ id → FitsAs rests book parts seat made k v role → FitsAs rests book' parts' seat made k v role
  fits_kept k v Opener away fits = fits
  fits_kept k v Caller away fits =
      let isnt = not_seated c seat id k v.number mine away fits.seated in record {
        below = fits.below;
        seated = fits.seated;
        page = pages v.number isnt ∙ fits.page;
        part = others v.number isnt ∙ fits.part;
        rested = fits.rested;
        pending = prefix_trans v.pending_note book.history book'.history fits.pending grows;
        merged = λ j d within.
            let one = fits.merged j d within in
            let p : Merged Call Reply Part = get_or v.merged j d in
            let isnt' = not_seated c seat id k p.caller mine away one.seated in record {
              below = one.below;
              seated = one.seated;
              page = pages p.caller isnt' ∙ one.page;
              part = others p.caller isnt' ∙ one.part;
              rested = one.rested;
            };
        distinct = fits.distinct;
      }
  fits_kept k v Note away fits = prefix_trans v.seen book.history book'.history fits grows
  fits_kept k v Spent away fits = tt

module _ {Slot Call Reply State Plan Part Name : Type 0} (T : Terms Slot Call Reply State Plan Part Name) (opens : State → Type 0) (step : State → Call → Reply → State → Type 0) (plan : Plan) where
  -- A caller's own step changes its seat alone
  pub seats_after : (book book' : Book Call Reply State) (parts parts' : ℕ → Part) (seat : ℕ → ℕ) (made id c : ℕ) (views : List (View Call Reply Plan Part Name)) (w : View Call Reply Plan Part Name)
      → SeatsFit T opens step plan book parts seat made views → seat c ≡ id → c < made
      → ((other : ℕ) → other ≢ c → parts' other ≡ parts other) → ((other : ℕ) → other ≢ c → slice_get book'.pages other ≡ slice_get book.pages other) → IsPrefix book.history book'.history
      → w.role ≡ Caller → w.plan ≡ Some plan → CallerFits T.rests book' parts' seat made id w
      → SeatsFit T opens step plan book' parts' seat made (set views id w)
  seats_after book book' parts parts' seat made id c views w fits mine below others pages grows role knows own = record {
    most = fits.most;
    unmade = λ o past.
        let isnt : o ≢ c = (λ same. omega arith) in
        let was = fits.unmade o past in
        (others o isnt ∙ was.0, λ less. pages o isnt ∙ was.1 less);
    knows = λ k u at.
        ⊎_elim
        (λ t. subst (λ x. KnowsPlan T.rests book' parts' seat made k plan x x.role) t.1 (subst (KnowsPlan T.rests book' parts' seat made k plan w) (sym role) knows))
        (λ t. fits.knows k u t.1)
        (at_set views id k w u at);
    fits = λ k u at.
        ⊎_elim
        (λ t.
        subst (λ j. FitsAs T.rests book' parts' seat made j u u.role) (sym t.0)
        (subst (λ x. FitsAs T.rests book' parts' seat made id x x.role) t.1 (subst (FitsAs T.rests book' parts' seat made id w) (sym role) own)))
        (λ t. fits_kept T.rests book book' parts parts' seat made id c others mine pages grows k u u.role t.0 (fits.fits k u t.1))
        (at_set views id k w u at);
  }

  -- the same words, history and parts, with other views that fit
  pub reseated : (s : Table Slot (View Call Reply Plan Part Name)) (is : TableInvariant T opens step plan s) (seat' : ℕ → ℕ) (views' : List (View Call Reply Plan Part Name))
      → ((k : ℕ) (v : View Call Reply Plan Part Name) → get_elem? views' k ≡ some v → KnowsPlan T.rests is.book is.parts seat' is.made k plan v v.role)
      → ((k : ℕ) (v : View Call Reply Plan Part Name) → get_elem? views' k ≡ some v → FitsAs T.rests is.book is.parts seat' is.made k v v.role)
      → TableInvariant T opens step plan record { words = s.words; homes = s.homes; views = views' }
  reseated s is seat' views' knows fits = record {
    book = is.book;
    parts = is.parts;
    seat = seat';
    made = is.made;
    history = is.history;
    words = is.words;
    seats = record { most = is.seats.most; unmade = is.seats.unmade; knows = knows; fits = fits };
  }

  -- what the rule says of the caller in a seat
  module _ (s : Table Slot (View Call Reply Plan Part Name)) (is : TableInvariant T opens step plan s) (id : ℕ) (v : View Call Reply Plan Part Name) (here : get_elem? s.views id ≡ some v) (role : v.role ≡ Caller) where
    pub caller_fits : CallerFits T.rests is.book is.parts is.seat is.made id v
    caller_fits = subst (FitsAs T.rests is.book is.parts is.seat is.made id v) role (is.seats.fits id v here)

    pub caller_knows : v.plan ≡ Some plan
    caller_knows = subst (KnowsPlan T.rests is.book is.parts is.seat is.made id plan v) role (is.seats.knows id v here)
