-- What has been run by its workers, closed: an answer.
use Rattle.std.proofs.Common.{◌≡◌, ℕ, ◌<◌, List, [], ◌∷◌, ◌++◌, length, map, take, drop, slice_index_or, slice_get, Some, All, cond, Bool, arith, refl, ap, sym, ◌∙◌, subst, eq-eqb}
use Rattle.std.specs.List.{flat_map}
use Rattle.std.proofs.lemmas.List.{append-nil, get_or-map, length-map}
use Rattle.std.proofs.lemmas.Option.{slice_get-get_or}
use Rattle.std.proofs.Math.Seq.{take-append_seam}
use mathlib.Core.List.{IsPrefix}
use Rattle.pass_book.specs.declared.entries.Entry.{Entry}
use Rattle.pass_book.specs.Histories.{entries_of, IsOfOthers, IsOfCallers}
use Rattle.pass_book.specs.Pages.{Page, IsPage, IsPageOf}
use Rattle.pass_book.proofs.Prefixes.{prefix_self, prefix_trans}
use Rattle.pass_book.proofs.Sublists.{rest_of_others, of_callers-rest}
use Rattle.script_text.specs.declared.scripts.Call.{Call}
use Rattle.script_text.specs.declared.replies.Reply.{Reply}
use Rattle.script_text.specs.declared.replies.Replies.{Replies}
use Rattle.script_text.specs.Replies.{reply_lists, left_items}
use Rattle.script_engine.specs.declared.rounds.Worker.{Worker}
use Rattle.script_engine.specs.Numbers.{AreInOrder}
use Rattle.script_engine.specs.Runs.{IsAt, HaveRun, AreNew, AreHired, AreDismissed, HaveAnswered}

-- a list that was written from its beginning to its end
pub all_written : {A : Type 0} (xs ys : List A) (n : ℕ) → n ≡ length xs → length ys ≡ length xs → take n (ys ++ drop (length ys) xs) ≡ ys
all_written {A} xs ys n is same = ap (λ (k : ℕ). take k (ys ++ drop (length ys) xs)) (is ∙ sym same) ∙ take-append_seam ys (drop (length ys) xs)

pub hired_count : {Pass : Type 0} (passes : List Pass) (workers : List (Worker Pass)) → AreHired passes workers → length workers ≡ length passes
hired_count {Pass} passes workers hired = sym (length-map workers (λ (w : Worker Pass). w.pass)) ∙ ap length hired.have

module _ {Pass Asked Told : Type 0} (fits : Pass → Type 0) (caller : Pass → ℕ) (page : Pass → Page Asked Told) (Says : ℕ → Call → Reply → List (Entry Asked Told) → List (Entry Asked Told) → Type 0) where
  -- Before the first round nothing has been done.
  pub not_run : (callers : ℕ) (passes : List Pass) (workers : List (Worker Pass)) → AreNew fits caller page callers passes → AreHired passes workers → HaveRun fits caller page Says [] workers
  not_run callers passes workers new hired = record { history = []; parts = []; answers = refl; each = at }
    where
      at : (k : ℕ) (d : Worker Pass) → k < length workers → IsAt fits caller page Says k [] [] (slice_index_or workers k d)
      at k d within =
          let same : slice_index_or passes k d.pass ≡ (slice_index_or workers k d).pass = ap (λ (l : List Pass). slice_index_or l k d.pass) (sym hired.have) ∙ get_or-map (λ (w : Worker Pass). w.pass) workers k d d.pass within in
          let inside : k < length passes = subst (λ (l : List Pass). k < length l) hired.have (omega (arith, length-map workers (λ (w : Worker Pass). w.pass))) in
          let empty : page (slice_index_or workers k d).pass ≡ record { mine = []; seen = [] } = ap page (sym same) ∙ new.empty k d.pass inside in
          record {
            number = ap caller (sym same) ∙ new.number k d.pass inside;
            fit = subst fits same (new.fit k d.pass inside);
            synced = record {
              begins = subst (λ (p : Page Asked Told). IsPrefix [] p.seen) (sym empty) (prefix_self []);
              whole = ap (λ (p : Page Asked Told). p.mine) empty;
              own = subst (IsPage k) (sym empty) refl;
            };
            replies = hired.unasked k d within;
          }

  -- the passes that are left are fit
  pub fit_still : (rounds : List (List (List Call))) (workers : List (Worker Pass)) (passes : List Pass) (replies : List (List Reply)) → HaveRun fits caller page Says rounds workers → AreDismissed workers passes replies → All fits passes
  fit_still rounds [] passes replies run gone k d within = absurd (omega (arith, ap length gone.had))
  fit_still rounds (w ∷ ws) passes replies run gone k d within =
      let inside : k < length (w ∷ ws) = omega (arith, within, ap length gone.had, length-map (w ∷ ws) (λ (v : Worker Pass). v.pass)) in
      let same : slice_index_or passes k d ≡ (slice_index_or (w ∷ ws) k w).pass = ap (λ (l : List Pass). slice_index_or l k d) gone.had ∙ get_or-map (λ (v : Worker Pass). v.pass) (w ∷ ws) k w d inside in
      subst fits (sym same) (run.each k w inside).fit

  -- and in order
  pub still_in_order : (rounds : List (List (List Call))) (workers : List (Worker Pass)) (passes : List Pass) (replies : List (List Reply)) → HaveRun fits caller page Says rounds workers → AreDismissed workers passes replies → AreInOrder caller passes
  still_in_order rounds [] passes replies run gone k d within = absurd (omega (arith, ap length gone.had))
  still_in_order rounds (w ∷ ws) passes replies run gone k d within =
      let inside : k < length (w ∷ ws) = omega (arith, within, ap length gone.had, length-map (w ∷ ws) (λ (v : Worker Pass). v.pass)) in
      let same : slice_index_or passes k d ≡ (slice_index_or (w ∷ ws) k w).pass = ap (λ (l : List Pass). slice_index_or l k d) gone.had ∙ get_or-map (λ (v : Worker Pass). v.pass) (w ∷ ws) k w d inside in
      ap caller same ∙ (run.each k w inside).number

  -- of none of the callers
  nobody : (callers : ℕ) (rest : List (Entry Asked Told)) → IsOfCallers callers rest → ((c : ℕ) → c < callers → IsOfOthers c rest) → rest ≡ []
  nobody callers [] all none = refl
  nobody callers (e ∷ rest) all none =
      let here : entries_of e.caller (e ∷ rest) ≡ [] = none e.caller (all 0 e (omega arith)) in
      let own : entries_of e.caller (e ∷ rest) ≡ e ∷ entries_of e.caller rest = ap (λ (b : Bool). cond b (e ∷ entries_of e.caller rest) (entries_of e.caller rest)) (eq-eqb e.caller e.caller refl) in
      absurd (cc (sym own ∙ here))

  -- The closed history is what had been seen of all rounds.
  pub finished : (leaves : List (Entry Asked Told) → List ℕ → Type 0) (callers : ℕ) (rounds : List (List (List Call))) (workers : List (Worker Pass)) (passes : List Pass) (replies : Replies) (history : List (Entry Asked Told))
      → 0 < callers → length workers ≡ callers → HaveRun fits caller page Says rounds workers → AreDismissed workers passes (reply_lists replies)
      → leaves history (left_items replies.left) → IsOfCallers callers history → All (λ pass. IsPageOf (caller pass) history (page pass)) passes → HaveAnswered Says leaves callers rounds replies
  finished leaves callers rounds workers passes replies history some count run gone left all pages = record {
    parts = run.parts;
    joined = record { each = ap length gone.got ∙ (length-map workers (λ (w : Worker Pass). w.replies.items) ∙ count); joined = joined };
    history = run.history;
    answers = run.answers;
    callers = subst (IsOfCallers callers) (sym whole) all;
    left = subst (λ (h : List (Entry Asked Told)). leaves h (left_items replies.left)) (sym whole) left;
  }
    where
      page_at : (c : ℕ) (d : Worker Pass) → c < callers → IsPageOf c history (page (slice_index_or workers c d).pass)
      page_at c d below =
          let within : c < length workers = omega (arith, count) in
          let same : slice_index_or passes c d.pass ≡ (slice_index_or workers c d).pass = ap (λ (l : List Pass). slice_index_or l c d.pass) gone.had ∙ get_or-map (λ (w : Worker Pass). w.pass) workers c d d.pass within in
          let inside : c < length passes = subst (λ (l : List Pass). c < length l) (sym gone.had) (omega (arith, length-map workers (λ (w : Worker Pass). w.pass))) in
          let here = subst (λ (p : Pass). IsPageOf (caller p) history (page p)) same (pages c d.pass inside) in
          subst (λ (n : ℕ). IsPageOf n history (page (slice_index_or workers c d).pass)) (run.each c d within).number here

      begins : (ws : List (Worker Pass)) → ws ≡ workers → IsPrefix run.history history
      begins [] none = absurd (omega (arith, count, ap length none))
      begins (d ∷ ws) is =
          prefix_trans run.history (page (slice_index_or workers 0 d).pass).seen history ((run.each 0 d (omega (arith, count))).synced.begins) ((page_at 0 d some).begins)

      others : (ws : List (Worker Pass)) → ws ≡ workers → (p : IsPrefix run.history history) (c : ℕ) → c < callers → IsOfOthers c p.0
      others [] none p c below = absurd (omega (arith, count, ap length none))
      others (d ∷ ws) is p c below = rest_of_others c run.history history (sym (page_at c d below).whole ∙ (run.each c d (omega (arith, count))).synced.whole) p

      whole : run.history ≡ history
      whole =
          let p = begins workers refl in
          let rest = of_callers-rest callers run.history p.0 (subst (IsOfCallers callers) (sym p.1) all) in
          sym (append-nil run.history) ∙ (ap (λ (l : List (Entry Asked Told)). run.history ++ l) (sym (nobody callers p.0 rest (others workers refl p))) ∙ p.1)

      joined_at : (ws : List (Worker Pass)) → ws ≡ workers → (c : ℕ) → c < callers → slice_get (reply_lists replies) c ≡ Some (flat_map (λ round. slice_index_or round c []) run.parts)
      joined_at [] none c below = absurd (omega (arith, count, ap length none))
      joined_at (d ∷ ws) is c below =
          let within : c < length workers = omega (arith, count) in
          let inside : c < length (map (λ (w : Worker Pass). w.replies.items) workers) = omega (arith, length-map workers (λ (w : Worker Pass). w.replies.items)) in
          ap (λ (l : List (List Reply)). slice_get l c) gone.got
          ∙ (slice_get-get_or (map (λ (w : Worker Pass). w.replies.items) workers) c [] inside
          ∙ ap Some (get_or-map (λ (w : Worker Pass). w.replies.items) workers c d [] within ∙ (run.each c d within).replies))

      joined : (c : ℕ) → c < callers → slice_get (reply_lists replies) c ≡ Some (flat_map (λ round. slice_index_or round c []) run.parts)
      joined = joined_at workers refl
