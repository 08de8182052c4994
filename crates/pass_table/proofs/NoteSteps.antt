-- A note is made, taken in, and learnt; and word 0 is looked at.
use Rattle.std.proofs.Common.{Bool, ◌≡◌, ℕ, true, List, [], ◌∷◌, ◌++◌, set, refl, ap, sym, ◌∙◌, subst, ⊎_elim, slice_index, Some, slice_get, length-set}
use Rattle.std.specs.Prelude.{IfSome}
use Rattle.std.specs.List.{All}
use Rattle.std.proofs.lemmas.List.{append-nil, set-get_or}
use Rattle.std.proofs.lemmas.List.Elements.{All-nil}
use Rattle.std.proofs.lemmas.Option.{slice_get_within}
use mathlib.Core.Option.{some}
use mathlib.Core.Logic.{dite}
use mathlib.Core.List.{IsPrefix}
use native.Mathlib.Decide.{ℕ_discrete}
use lib.ListN.{get_elem?}
use Rattle.atomic_table.specs.Table.{Me, keeps as holding, Allows, Splits, Joins}
use Rattle.atomic_table.proofs.Lists.{at_set, set_else, set_again}
use Rattle.pass_book.specs.declared.entries.Entry.{Entry}
use Rattle.pass_book.specs.declared.entries.Look.{Look}
use Rattle.pass_book.specs.Histories.{IsLegal, IsOfCallers}
use Rattle.pass_book.specs.Pages.{Book, longer, with_note}
use Rattle.pass_book.proofs.Prefixes.{prefix_self}
use Rattle.pass_book.proofs.BookLaws.{note_keeps, got_here, got_else}
use Rattle.pass_table.specs.declared.views.Role.TheVariants.{Caller, Note}
use Rattle.pass_table.specs.declared.views.View.{View}
use Rattle.pass_table.specs.Terms.{Terms, Effect, Permits, put}
use Rattle.pass_table.specs.Views.{page_of, noted, with_pending, spent}
use Rattle.pass_table.specs.Rule.{MergedFits, FitsAs, KnowsPlan, HistoryFits, TableInvariant}
use Rattle.pass_table.specs.Steps.{LearnsNote, SeesFirst, FirstShows}
use Rattle.pass_table.proofs.Lists.{at_end, put_here, put_else, all_one}
use Rattle.pass_table.proofs.Seating.{seats_after, reseated, caller_fits, caller_knows}
use Rattle.pass_table.proofs.OwnSteps.{sound_of}

module _ {Slot Call Reply State Plan Part Name : Type 0} (T : Terms Slot Call Reply State Plan Part Name) (opens : State → Type 0) (step : State → Call → Reply → State → Type 0) (plan : Plan) where
  -- a caller makes a note of what it has seen
  pub splits_note : (id : ℕ) (v : View Call Reply Plan Part Name) → v.role ≡ Caller → Splits (TableInvariant T opens step plan) id v v (noted v)
  splits_note id v role s is here =
      let same : set s.views id v ≡ s.views = set_again s.views id v here in
      let fits = caller_fits T opens step plan s is id v here role in
      let knows = caller_knows T opens step plan s is id v here role in
      reseated T opens step plan s is is.seat (set s.views id v ++ noted v ∷ [])
      (λ k u at.
      ⊎_elim (λ t. is.seats.knows k u (subst (λ l. get_elem? l k ≡ some u) same t)) (λ t. subst (λ x. KnowsPlan T.rests is.book is.parts is.seat is.made k plan x x.role) t.1 knows)
      (at_end (set s.views id v) (noted v) u k at))
      (λ k u at.
      ⊎_elim (λ t. is.seats.fits k u (subst (λ l. get_elem? l k ≡ some u) same t))
      (λ t. subst (λ x. FitsAs T.rests is.book is.parts is.seat is.made k x x.role) t.1 (is.history.legal.pages v.number (page_of v) fits.page).begins)
      (at_end (set s.views id v) (noted v) u k at))

  -- a caller is handed what a note has seen, and the note is spent
  pub joins_note : (id : ℕ) (v : View Call Reply Plan Part Name) (other : ℕ) (w : View Call Reply Plan Part Name) → v.role ≡ Caller → w.role ≡ Note
      → Joins (TableInvariant T opens step plan) id v other w (with_pending v w) (spent T)
  joins_note id v other w role note s is here apart there =
      let views' : List (View Call Reply Plan Part Name) = set s.views id (with_pending v w) in
      let fits = caller_fits T opens step plan s is id v here role in
      let knows = caller_knows T opens step plan s is id v here role in
      let there' : get_elem? s.views other ≡ some w = sym (set_else s.views id other (with_pending v w) apart) ∙ there in
      let seen : IsPrefix w.seen is.book.history = subst (FitsAs T.rests is.book is.parts is.seat is.made other w) note (is.seats.fits other w there') in
      let own : FitsAs T.rests is.book is.parts is.seat is.made id (with_pending v w) v.role =
      subst (FitsAs T.rests is.book is.parts is.seat is.made id (with_pending v w)) (sym role)
      record { below = fits.below; seated = fits.seated; page = fits.page; part = fits.part; rested = fits.rested; pending = seen; merged = fits.merged; distinct = fits.distinct } in
      reseated T opens step plan s is is.seat (set views' other (spent T))
      (λ k u at.
      ⊎_elim (λ t. subst (λ x. KnowsPlan T.rests is.book is.parts is.seat is.made k plan x x.role) t.1 tt)
      (λ t.
      ⊎_elim (λ r. subst (λ x. KnowsPlan T.rests is.book is.parts is.seat is.made k plan x x.role) r.1 (subst (KnowsPlan T.rests is.book is.parts is.seat is.made k plan (with_pending v w)) (sym role) knows))
      (λ r. is.seats.knows k u r.1)
      (at_set s.views id k (with_pending v w) u t.1))
      (at_set views' other k (spent T) u at))
      (λ k u at.
      ⊎_elim (λ t. subst (λ x. FitsAs T.rests is.book is.parts is.seat is.made k x x.role) t.1 tt)
      (λ t.
      ⊎_elim
      (λ r. subst (λ j. FitsAs T.rests is.book is.parts is.seat is.made j u u.role) (sym r.0) (subst (λ x. FitsAs T.rests is.book is.parts is.seat is.made id x x.role) r.1 own))
      (λ r. is.seats.fits k u r.1)
      (at_set s.views id k (with_pending v w) u t.1))
      (at_set views' other k (spent T) u at))

  -- the load after a note was taken in
  pub learns_note : (slots id : ℕ) (me : Me Slot (View Call Reply Plan Part Name)) → me.0.role ≡ Caller → me.0.merged ≡ [] → FirstShows T plan
      → Allows (TableInvariant T opens step plan) slots id me 0 (λ n. n) (λ found m'. IfSome me.0.plan (λ p. LearnsNote T opens step p me.0 m'.0 found) × (m'.1 ≡ me.1))
  learns_note slots id me role single first s is homes here small =
      let v : View Call Reply Plan Part Name = me.0 in
      let h : List (Entry Call Reply) = is.book.history in
      let found : ℕ = slice_index s.words 0 in
      let fits = caller_fits T opens step plan s is id v here role in
      let knows = caller_knows T opens step plan s is id v here role in
      let w : View Call Reply Plan Part Name = record v { seen = longer v.seen v.pending_note; pending_note = []; looked = v.looked ++ record { name = T.first_word; word = found } ∷ [] } in
      let book' : Book Call Reply State = with_note is.book v.number (page_of v) v.pending_note in
      let kept = note_keeps opens step is.book v.number (page_of v) v.pending_note is.history.legal fits.page fits.pending in
      let fits' : HistoryFits T opens step plan book' = record { legal = kept.0; start = is.history.start; pages = length-set is.book.pages v.number (page_of w) ∙ is.history.pages } in
      let own : slice_get book'.pages v.number ≡ Some (page_of w) = got_here is.book.pages v.number (page_of w) (slice_get_within is.book.pages v.number (page_of v) fits.page) in
      let same : set s.words 0 found ≡ s.words = set-get_or s.words 0 0 in (
        w,
        holding,
        tt,
        subst (λ ws. TableInvariant T opens step plan record { words = ws; homes = s.homes; views = set s.views id w }) (sym same) record {
          book = book';
          parts = is.parts;
          seat = is.seat;
          made = is.made;
          history = fits';
          words = is.words;
          seats = seats_after T opens step plan is.book book' is.parts is.parts is.seat is.made id v.number s.views w is.seats fits.seated fits.below (λ other isnt. refl)
              (λ other isnt. got_else is.book.pages v.number other (page_of w) isnt) (prefix_self h) role knows
              record {
                below = fits.below;
                seated = fits.seated;
                page = own;
                part = fits.part;
                rested = fits.rested;
                pending = (h, refl);
                merged = subst (λ l. All (MergedFits T.rests book' is.parts is.seat is.made id) l) (sym single) (All-nil _);
                distinct = fits.distinct;
              };
        },
        (
          subst (λ o. IfSome o (λ p. LearnsNote T opens step p v w found)) (sym knows) record {
            after = refl;
            old_begins = kept.1.old_begins;
            note_begins = kept.1.note_begins;
            sound = sound_of T opens step plan book' w fits' own;
            meets = record {
              met = h;
              fits = kept.0.pages v.number (page_of w) own;
              legal = subst (λ t. IsLegal opens step t h) is.history.start is.history.legal.legal;
              callers = subst (λ n. IsOfCallers n h) is.history.pages is.history.legal.callers;
              shows = first record { words = s.words; homes = s.homes; history = h; parts = is.parts } is.words;
            };
          },
          refl,
        ),
      )

  -- a look at word 0 is permitted to every caller
  pub looks_at_first : (slots caller : ℕ) (rests : Bool) (part : Part) (carried : List (ℕ × Slot)) → FirstShows T plan → Permits T opens step plan slots caller rests part carried 0 (λ n. n) (λ found e. SeesFirst T part carried found e)
  looks_at_first slots caller rests part carried first m holds has rested below callers legal homes small =
      let found : ℕ = slice_index m.words 0 in
      let e : Effect Slot Call Reply Part Name = record { sees = true; history = m.history; entries = []; looks = record { name = T.first_word; word = found } ∷ []; part = part; carried = carried } in
      let words : set m.words 0 found ≡ m.words = set-get_or m.words 0 0 in
      let history : m.history ++ [] ≡ m.history = append-nil m.history in
      let same : (other : ℕ) → put m.parts caller part other ≡ m.parts other = λ other.
      dite (ℕ_discrete other caller) (λ it. put_here m.parts caller part other it ∙ (sym has ∙ ap m.parts (sym it))) (λ isnt. put_else m.parts caller part other isnt) in
      let parts : put m.parts caller part ≡ m.parts = λ j. λ other. same other j in (
        e,
        holding,
        record {
          valid = tt;
          slots = refl;
          history = refl;
          own = All-nil _;
          quiet = λ blind. absurd cc;
          legal = subst (IsLegal opens step (T.start plan)) (sym history) legal;
          shows = all_one (λ (x : Look Name). T.shows plan m.history x.name x.word) record { name = T.first_word; word = found } (first m holds);
          rule =
              subst (λ ws. T.holds plan record { words = ws; homes = m.homes; history = m.history ++ []; parts = put m.parts caller part }) (sym words)
              (subst (λ h. T.holds plan record { words = m.words; homes = m.homes; history = h; parts = put m.parts caller part }) (sym history)
              (subst (λ ps. T.holds plan record { words = m.words; homes = m.homes; history = m.history; parts = ps }) (sym parts) holds));
        },
        record { sees = refl; entries = refl; looks = refl; same = refl; held = refl },
      )
