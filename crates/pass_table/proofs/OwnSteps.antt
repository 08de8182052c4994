-- A step of a client's call keeps the table's rule, where it is permitted.
use Rattle.std.proofs.Common.{◌≡◌, ℕ, ◌<◌, Bool, true, false, cond, [], ◌++◌, set, refl, ap, ap₂, sym, ◌∙◌, subst, arith, slice_index, Some, slice_get, length-set, ◌≢◌}
use Rattle.std.specs.Prelude.{IfSome}
use Rattle.std.specs.List.{All}
use Rattle.std.proofs.lemmas.List.{append-nil}
use Rattle.std.proofs.lemmas.List.Elements.{All-nil}
use Rattle.std.proofs.lemmas.Option.{slice_get_within}
use mathlib.Core.Option.{some}
use mathlib.Core.List.{IsPrefix}
use lib.ListN.{get_elem?}
use Rattle.atomic_table.specs.Table.{State as Table, Me, Act, Allows, carried_after, homes_after}
use Rattle.pass_book.specs.declared.entries.Look.{Look}
use Rattle.pass_book.specs.Histories.{IsLegal, IsOfCallers}
use Rattle.pass_book.specs.Pages.{Book, Page, with_entries}
use Rattle.pass_book.proofs.Prefixes.{prefix_more, prefix_trans}
use Rattle.pass_book.proofs.Sublists.{of_callers-begin}
use Rattle.pass_book.proofs.Legal.{legal-begin}
use Rattle.pass_book.proofs.BookLaws.{entries_keep, got_here, got_else}
use Rattle.pass_table.specs.declared.views.Role.TheVariants.{Caller}
use Rattle.pass_table.specs.declared.views.View.{View}
use Rattle.pass_table.specs.Terms.{Terms, Effect, Acts, Permits, put}
use Rattle.pass_table.specs.Views.{page_of}
use Rattle.pass_table.specs.Rule.{MergedFits, HistoryFits, TableInvariant}
use Rattle.pass_table.specs.Steps.{IsSound, view_after, Steps}
use Rattle.pass_table.proofs.Lists.{put_here, put_else}
use Rattle.pass_table.proofs.Seating.{seats_after, caller_fits, caller_knows}

module _ {Slot Call Reply State Plan Part Name : Type 0} (T : Terms Slot Call Reply State Plan Part Name) (opens : State → Type 0) (step : State → Call → Reply → State → Type 0) (plan : Plan) where
  -- a page of a legal book is sound to its caller
  pub sound_of : (book : Book Call Reply State) (v : View Call Reply Plan Part Name) → HistoryFits T opens step plan book → slice_get book.pages v.number ≡ Some (page_of v) → IsSound T opens step plan v
  sound_of book v fits at =
      let of = fits.legal.pages v.number (page_of v) at in
      let callers : IsOfCallers (T.callers plan) book.history = subst (λ n. IsOfCallers n book.history) fits.pages fits.legal.callers in
      record {
        below = subst (λ n. v.number < n) fits.pages (slice_get_within book.pages v.number (page_of v) at);
        own = of.own;
        legal = legal-begin opens step (T.start plan) v.seen book.history of.begins (subst (λ s. IsLegal opens step s book.history) fits.start fits.legal.legal);
        callers = of_callers-begin (T.callers plan) v.seen book.history of.begins callers;
      }

  module _ (s : Table Slot (View Call Reply Plan Part Name)) (is : TableInvariant T opens step plan s) (id i n : ℕ) (me : Me Slot (View Call Reply Plan Part Name)) (here : get_elem? s.views id ≡ some me.0)
      (role : me.0.role ≡ Caller) (single : me.0.merged ≡ []) (e : Effect Slot Call Reply Part Name) (act : Act Slot)
      (acts : Acts T opens step plan record { words = s.words; homes = s.homes; history = is.book.history; parts = is.parts } i n me.0.number me.1 e act) where
    abbrev pub after : Table Slot (View Call Reply Plan Part Name)
    after = record { words = set s.words i n; homes = homes_after s.homes me.1 act; views = set s.views id (view_after T opens step plan me.0 e) }

    -- the rule after the step, and what its caller then knows
    abbrev pub Kept : Type 0
    Kept = TableInvariant T opens step plan after × IsSound T opens step plan (view_after T opens step plan me.0 e)

    -- with another book in which only the caller's page has changed
    kept_with : (book' : Book Call Reply State) → HistoryFits T opens step plan book' → book'.history ≡ is.book.history ++ e.entries
        → ((other : ℕ) → other ≢ me.0.number → slice_get book'.pages other ≡ slice_get is.book.pages other)
        → slice_get book'.pages me.0.number ≡ Some (page_of (view_after T opens step plan me.0 e)) → Kept
    kept_with book' history grown others own =
        let fits = caller_fits T opens step plan s is id me.0 here role in
        let w : View Call Reply Plan Part Name = view_after T opens step plan me.0 e in
        let grows : IsPrefix is.book.history book'.history = subst (IsPrefix is.book.history) (sym grown) (prefix_more is.book.history e.entries) in (
          record {
            book = book';
            parts = put is.parts me.0.number e.part;
            seat = is.seat;
            made = is.made;
            history = history;
            words =
                subst (λ h. T.holds plan record { words = set s.words i n; homes = homes_after s.homes me.1 act; history = h; parts = put is.parts me.0.number e.part }) (sym grown)
                acts.rule;
            seats = seats_after T opens step plan is.book book' is.parts (put is.parts me.0.number e.part) is.seat is.made id me.0.number s.views w is.seats fits.seated fits.below
                (λ other isnt. put_else is.parts me.0.number e.part other isnt) others grows role (caller_knows T opens step plan s is id me.0 here role)
                record {
                  below = fits.below;
                  seated = fits.seated;
                  page = own;
                  part = put_here is.parts me.0.number e.part me.0.number refl;
                  rested = refl;
                  pending = prefix_trans me.0.pending_note is.book.history book'.history fits.pending grows;
                  merged = subst (λ l. All (MergedFits T.rests book' (put is.parts me.0.number e.part) is.seat is.made id) l) (sym single) (All-nil _);
                  distinct = fits.distinct;
                };
          },
          sound_of book' w history own,
        )

    kept_by : (b : Bool) → e.sees ≡ b → Kept
    kept_by true sees =
        let fits = caller_fits T opens step plan s is id me.0 here role in
        let book' : Book Call Reply State = with_entries is.book me.0.number (page_of me.0) e.entries in
        let legal : IsLegal opens step is.book.start (is.book.history ++ e.entries) = subst (λ t. IsLegal opens step t (is.book.history ++ e.entries)) (sym is.history.start) acts.legal in
        let kept = (entries_keep opens step is.book me.0.number (page_of me.0) e.entries is.history.legal fits.page acts.own legal).0 in
        let p' : Page Call Reply = record { mine = me.0.mine ++ e.entries; seen = is.book.history ++ e.entries } in
        let seen : cond e.sees (e.history ++ e.entries) me.0.seen ≡ is.book.history ++ e.entries = ap (λ b. cond b (e.history ++ e.entries) me.0.seen) sees ∙ ap (λ h. h ++ e.entries) acts.history in
        kept_with book' record { legal = kept; start = is.history.start; pages = length-set is.book.pages me.0.number p' ∙ is.history.pages } refl
        (λ other isnt. got_else is.book.pages me.0.number other p' isnt)
        (got_here is.book.pages me.0.number p' (slice_get_within is.book.pages me.0.number (page_of me.0) fits.page) ∙ ap (λ h. Some (record { mine = me.0.mine ++ e.entries; seen = h })) (sym seen))
    kept_by false blind =
        let fits = caller_fits T opens step plan s is id me.0 here role in
        let none : e.entries ≡ [] = (acts.quiet blind).0 in
        let seen : cond e.sees (e.history ++ e.entries) me.0.seen ≡ me.0.seen = ap (λ b. cond b (e.history ++ e.entries) me.0.seen) blind in
        let same : me.0.mine ++ e.entries ≡ me.0.mine = ap (λ l. me.0.mine ++ l) none ∙ append-nil me.0.mine in
        kept_with is.book is.history (sym (ap (λ l. is.book.history ++ l) none ∙ append-nil is.book.history)) (λ other isnt. refl)
        (fits.page ∙ ap₂ (λ m h. Some (record { mine = m; seen = h })) (sym same) (sym seen))

    pub kept : Kept
    kept = kept_by e.sees refl

  -- a step that the client permits is one that the table allows, where it tells of the number found, or of the number stored
  pub allows : (slots id i : ℕ) (me : Me Slot (View Call Reply Plan Part Name)) (f said : ℕ → ℕ) (tells : Plan → ℕ → Effect Slot Call Reply Part Name → Type 0)
      → me.0.role ≡ Caller → me.0.merged ≡ [] → Permits T opens step plan slots me.0.number me.0.rests me.0.part me.1 i f (λ found. tells plan (said found))
      → Allows (TableInvariant T opens step plan) slots id me i f (λ found m'. IfSome me.0.plan (λ p. Steps T opens step p (tells p) me (said found) m'))
  allows slots id i me f said tells role single permits s is homes here small =
      let fits = caller_fits T opens step plan s is id me.0 here role in
      let callers : IsOfCallers (T.callers plan) is.book.history = subst (λ n. IsOfCallers n is.book.history) is.history.pages is.history.legal.callers in
      let legal : IsLegal opens step (T.start plan) is.book.history = subst (λ t. IsLegal opens step t is.book.history) is.history.start is.history.legal.legal in
      let may = permits record { words = s.words; homes = s.homes; history = is.book.history; parts = is.parts } is.words fits.part fits.rested
      (let most = is.seats.most in let below = fits.below in omega arith) callers legal homes small in
      let e : Effect Slot Call Reply Part Name = may.0 in
      let acts = may.2 in
      let found : ℕ = said (slice_index s.words i) in
      let w : View Call Reply Plan Part Name = view_after T opens step plan me.0 e in
      let both = kept s is id i (f (slice_index s.words i)) me here role single e may.1 acts in
      let steps : Steps T opens step plan (tells plan) me found (w, carried_after me.1 may.1) = record {
        effect = e;
        after = ap (λ l. let m : Me Slot (View Call Reply Plan Part Name) = (w, l) in m) (sym acts.slots);
        begins = subst (IsPrefix me.0.seen) (sym acts.history) (is.history.legal.pages me.0.number (page_of me.0) fits.page).begins;
        shows = subst (λ h. All (λ (look : Look Name). T.shows plan h look.name look.word) e.looks) (sym acts.history) acts.shows;
        quiet = acts.quiet;
        before = sound_of is.book me.0 is.history fits.page;
        rested = fits.rested;
        sound = both.1;
        told = may.3;
      } in (
        w,
        may.1,
        acts.valid,
        both.0,
        subst (λ o. IfSome o (λ p. Steps T opens step p (tells p) me found (w, carried_after me.1 may.1))) (sym (caller_knows T opens step plan s is id me.0 here role)) steps,
      )
