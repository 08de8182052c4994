-- What callers tell one another, one after another.
use Rattle.std.proofs.Common.{◌≡◌, ◌≢◌, ◌⊎◌, inl, inr, ℕ, zero, suc, ◌+◌, ◌<◌, ◌≤◌, List, ◌∷◌, length, slice_index_or, slice_set, arith, refl, ap, sym, ◌∙◌, subst, get_or-set_other}
use Rattle.std.proofs.Math.ListN.{length-set}
use Rattle.std.proofs.lemmas.List.{get_or_default}
use Rattle.std.proofs.lemmas.Grind.{get_or-set_at}
use Rattle.std.specs.Global.{Vec}
use mathlib.Core.List.{IsPrefix}
use Rattle.pass_book.specs.declared.entries.Entry.{Entry}
use Rattle.pass_book.specs.Pages.{Page, IsPage}
use Rattle.pass_book.proofs.Prefixes.{prefix_self, prefix_trans}
use Rattle.script_text.specs.declared.scripts.Call.{Call}
use Rattle.script_engine.specs.declared.rounds.Worker.{Worker}
use Rattle.script_engine.specs.Rounds.{Informs}
use Rattle.script_engine.specs.Workers.{AreFit, IsStill, AreStill, HasLearnt, HasTold, HaveTold, IsTold, AreTold, AllTold, IsSpread, AreSpread}

same_or_not : (k j : ℕ) → (k ≡ j) ⊎ (k ≢ j)
same_or_not zero zero = inl refl
same_or_not zero (suc j) = inr (λ e. omega (arith, e))
same_or_not (suc k) zero = inr (λ e. omega (arith, e))
same_or_not (suc k) (suc j) = elim (same_or_not k j) [ inl e ↦ inl (ap suc e) | inr n ↦ inr (λ e. n (omega (arith, e))) ]

module _ {Pass Asked Told : Type 0} (fits : Pass → Type 0) (caller : Pass → ℕ) (page : Pass → Page Asked Told) where
  pub still_all : (workers : List (Worker Pass)) → AreFit fits workers → AreStill fits caller page workers workers
  still_all workers fit = (refl, λ k d within. record { fit = fit k d within; same = refl; unmoved = refl; replies = refl })

  still_fit : (olds news : List (Worker Pass)) → AreStill fits caller page olds news → AreFit fits news
  still_fit olds news still k d within = (still.1 k d (omega (arith, still.0))).fit

  still_trans : (u v w : Worker Pass) → IsStill fits caller page u v → IsStill fits caller page v w → IsStill fits caller page u w
  still_trans u v w a b = record { fit = b.fit; same = b.same ∙ a.same; unmoved = b.unmoved ∙ a.unmoved; replies = b.replies ∙ a.replies }

  pub still_set : (olds news : List (Worker Pass)) (k : ℕ) (d w : Worker Pass) → AreStill fits caller page olds news → k < length olds → IsStill fits caller page (slice_index_or news k d) w
      → AreStill fits caller page olds (slice_set news k w)
  still_set olds news k d w still within one = (length-set news k w ∙ still.0, at)
    where
      here : k < length news
      here = omega (arith, still.0)

      at : (j : ℕ) (e : Worker Pass) → j < length olds → IsStill fits caller page (slice_index_or olds j e) (slice_index_or (slice_set news k w) j e)
      at j e below = elim (same_or_not j k) [ inl same ↦ set_here j e below same | inr not ↦ set_there j e below not ]
        where
          set_here : (j : ℕ) (e : Worker Pass) → j < length olds → j ≡ k → IsStill fits caller page (slice_index_or olds j e) (slice_index_or (slice_set news k w) j e)
          set_here j e below same =
              let old = subst (λ (v : Worker Pass). IsStill fits caller page (slice_index_or olds j e) v) (ap (λ (i : ℕ). slice_index_or news i e) same ∙ get_or_default news k e d here) (still.1 j e below) in
              let new = still_trans (slice_index_or olds j e) (slice_index_or news k d) w old one in
              subst (λ (v : Worker Pass). IsStill fits caller page (slice_index_or olds j e) v) (sym (get_or-set_at news k j w e same here)) new

          set_there : (j : ℕ) (e : Worker Pass) → j < length olds → j ≢ k → IsStill fits caller page (slice_index_or olds j e) (slice_index_or (slice_set news k w) j e)
          set_there j e below not = subst (λ (v : Worker Pass). IsStill fits caller page (slice_index_or olds j e) v) (sym (get_or-set_other news k j w e not)) (still.1 j e below)

  pub learnt_self : (pass : Pass) → fits pass → IsPage (caller pass) (page pass) → HasLearnt fits caller page pass pass
  learnt_self pass fit own = record { fit = fit; same = refl; mine = refl; begins = prefix_self (page pass).seen; own = own }

  -- what a pass learns by one note
  pub learnt_once : (p q : Pass) (giver : Page Asked Told) → fits q → caller q ≡ caller p → Informs (caller p) giver (page p) (page q) → HasLearnt fits caller page p q
  learnt_once p q giver fit same told = record { fit = fit; same = same; mine = told.mine; begins = told.begins; own = told.own }

  -- a pass that learns once more
  pub learnt_more : (p q r : Pass) → HasLearnt fits caller page p q → HasLearnt fits caller page q r → HasLearnt fits caller page p r
  learnt_more p q r a b = record {
    fit = b.fit;
    same = b.same ∙ a.same;
    mine = b.mine ∙ a.mine;
    begins = prefix_trans (page p).seen (page q).seen (page r).seen a.begins b.begins;
    own = subst (λ (n : ℕ). IsPage n (page r)) a.same b.own;
  }

  pub learnt_own : (p q : Pass) → HasLearnt fits caller page p q → IsPage (caller q) (page q)
  learnt_own p q a = subst (λ (n : ℕ). IsPage n (page q)) (sym a.same) a.own

  -- a beginning of what was told stays one
  told_later : (its : List Call) (pass : Pass) (history more : List (Entry Asked Told)) → IsPrefix history more → HasTold fits caller page its pass history → HasTold fits caller page its pass more
  told_later its pass history more p (inl none) = inl none
  told_later its pass history more p (inr told) = inr (prefix_trans (page pass).seen history more told p)

  -- one caller more has told
  pub told_more : (count : ℕ) (calls : List (Vec Call)) (workers : List (Worker Pass)) (history more : List (Entry Asked Told)) (its : Vec Call) (worker : Worker Pass) → count < length calls → count < length workers
      → HaveTold fits caller page count calls workers history → IsPrefix history more → HasTold fits caller page (slice_index_or calls count its).items (slice_index_or workers count worker).pass more
      → HaveTold fits caller page (count + 1) calls workers more
  told_more count calls workers history more its worker some within told p one k other d below = elim (same_or_not k count) [ inl same ↦ here same | inr not ↦ there not ]
    where
      here : k ≡ count → HasTold fits caller page (slice_index_or calls k other).items (slice_index_or workers k d).pass more
      here same =
          let a : slice_index_or calls count its ≡ slice_index_or calls k other = get_or_default calls count its other some ∙ ap (λ (i : ℕ). slice_index_or calls i other) (sym same) in
          let b : slice_index_or workers count worker ≡ slice_index_or workers k d = get_or_default workers count worker d within ∙ ap (λ (i : ℕ). slice_index_or workers i d) (sym same) in
          subst (λ (v : Worker Pass). HasTold fits caller page (slice_index_or calls k other).items v.pass more) b (subst (λ (v : Vec Call). HasTold fits caller page v.items (slice_index_or workers count worker).pass more) a one)

      there : k ≢ count → HasTold fits caller page (slice_index_or calls k other).items (slice_index_or workers k d).pass more
      there not = told_later (slice_index_or calls k other).items (slice_index_or workers k d).pass history more p (told k other d (omega arith))

  pub told_none : (history : List (Entry Asked Told)) (workers : List (Worker Pass)) → AreTold fits caller page history 0 workers workers
  told_none history workers = record { each = refl; told = λ k d below. absurd (omega arith); others = λ k d least. refl }

  -- one worker more has been told
  pub tell_more : (history : List (Entry Asked Told)) (count : ℕ) (olds news : List (Worker Pass)) (d : Worker Pass) (pass : Pass) → count < length olds → AreTold fits caller page history count olds news
      → HasLearnt fits caller page (slice_index_or news count d).pass pass → IsPrefix history (page pass).seen
      → AreTold fits caller page history (count + 1) olds (slice_set news count record { pass = pass; replies = (slice_index_or news count d).replies })
  tell_more history count olds news d pass within told learnt begins = record { each = length-set news count w ∙ told.each; told = each; others = others }
    where
      w : Worker Pass
      w = record { pass = pass; replies = (slice_index_or news count d).replies }

      here : count < length news
      here = omega (arith, told.each)

      each : (k : ℕ) (e : Worker Pass) → k < count + 1 → IsTold fits caller page history (slice_index_or olds k e) (slice_index_or (slice_set news count w) k e)
      each k e below = elim (same_or_not k count) [ inl same ↦ now same | inr not ↦ before not ]
        where
          now : k ≡ count → IsTold fits caller page history (slice_index_or olds k e) (slice_index_or (slice_set news count w) k e)
          now same =
              let old : slice_index_or news count d ≡ slice_index_or olds k e = get_or_default news count d e here ∙ (told.others count e (omega arith) ∙ ap (λ (i : ℕ). slice_index_or olds i e) (sym same)) in
              let one : IsTold fits caller page history (slice_index_or news count d) w = record { learnt = learnt; replies = refl; begins = begins } in
              subst (λ (v : Worker Pass). IsTold fits caller page history (slice_index_or olds k e) v) (sym (get_or-set_at news count k w e same here)) (subst (λ (v : Worker Pass). IsTold fits caller page history v w) old one)

          before : k ≢ count → IsTold fits caller page history (slice_index_or olds k e) (slice_index_or (slice_set news count w) k e)
          before not = subst (λ (v : Worker Pass). IsTold fits caller page history (slice_index_or olds k e) v) (sym (get_or-set_other news count k w e not)) (told.told k e (omega arith))

      others : (k : ℕ) (e : Worker Pass) → count + 1 ≤ k → slice_index_or (slice_set news count w) k e ≡ slice_index_or olds k e
      others k e least = get_or-set_other news count k w e (λ same. omega (arith, same)) ∙ told.others k e (omega arith)

  -- the pass has learnt from the first callers, and then from one more
  pub gather_step : (olds news : List (Worker Pass)) (calls : List (Vec Call)) (k : ℕ) (its : Vec Call) (worker other : Worker Pass) (p q r : Pass) → length calls ≡ length olds → k < length olds
      → AreStill fits caller page olds news → HasLearnt fits caller page p q → HaveTold fits caller page k calls olds (page q).seen
      → IsStill fits caller page (slice_index_or news k worker) other → HasLearnt fits caller page q r → HasTold fits caller page (slice_index_or calls k its).items (slice_index_or news k worker).pass (page r).seen
      → AreStill fits caller page olds (slice_set news k other) × HasLearnt fits caller page p r × HaveTold fits caller page (k + 1) calls olds (page r).seen
  gather_step olds news calls k its worker other p q r each within still learnt told one more tells =
      let here = still.1 k worker within in
      let tell : HasTold fits caller page (slice_index_or calls k its).items (slice_index_or olds k worker).pass (page r).seen =
      elim tells [ inl none ↦ inl none | inr begins ↦ inr (subst (λ (u : Page Asked Told). IsPrefix u.seen (page r).seen) here.unmoved begins) ] in (
        still_set olds news k worker other still within one,
        learnt_more p q r learnt more,
        told_more k calls olds (page q).seen (page r).seen its worker (omega (arith, each)) within told more.begins tell,
      )

  -- the first workers have been told what the pass has seen, and then one more
  pub spread_step : (olds news : List (Worker Pass)) (k : ℕ) (worker : Worker Pass) (p q pass : Pass) → k < length olds → page q ≡ page p
      → AreTold fits caller page (page p).seen k olds news → fits pass → caller pass ≡ caller (slice_index_or news k worker).pass → Informs (caller (slice_index_or news k worker).pass) (page q) (page (slice_index_or news k worker).pass) (page pass)
      → AreTold fits caller page (page p).seen (k + 1) olds (slice_set news k record { pass = pass; replies = (slice_index_or news k worker).replies })
  spread_step olds news k worker p q pass within still told fit same informs =
      let begins : IsPrefix (page p).seen (page pass).seen = subst (λ (u : Page Asked Told). IsPrefix u.seen (page pass).seen) still informs.told in
      tell_more (page p).seen k olds news worker pass within told (learnt_once (slice_index_or news k worker).pass pass (page q) fit same informs) begins

  told_from : (history : List (Entry Asked Told)) (old mid new : Worker Pass) → IsStill fits caller page old mid → IsTold fits caller page history mid new → IsTold fits caller page history old new
  told_from history old mid new still told = record {
    learnt = record {
      fit = told.learnt.fit;
      same = told.learnt.same ∙ still.same;
      mine = told.learnt.mine ∙ ap (λ (p : Page Asked Told). p.mine) still.unmoved;
      begins = subst (λ (p : Page Asked Told). IsPrefix p.seen (page new.pass).seen) still.unmoved told.learnt.begins;
      own = subst (λ (n : ℕ). IsPage n (page new.pass)) still.same told.learnt.own;
    };
    replies = told.replies ∙ still.replies;
    begins = told.begins;
  }

  -- a pass that only gave a note
  learnt_still : (p q r : Pass) → HasLearnt fits caller page p q → fits r → caller r ≡ caller q → page r ≡ page q → HasLearnt fits caller page p r
  learnt_still p q r a fit same still = record {
    fit = fit;
    same = same ∙ a.same;
    mine = ap (λ (u : Page Asked Told). u.mine) still ∙ a.mine;
    begins = subst (λ (u : Page Asked Told). IsPrefix (page p).seen u.seen) (sym still) a.begins;
    own = subst (λ (u : Page Asked Told). IsPage (caller p) u) (sym still) a.own;
  }

  -- gathered, and then spread
  pub spread_all : (calls theirs : List (Vec Call)) (its : Vec Call) (workers others mids news : List (Worker Pass)) (first : Worker Pass) (q r : Pass) → calls ≡ its ∷ theirs → workers ≡ first ∷ others
      → AreStill fits caller page others mids → HasLearnt fits caller page first.pass q → HaveTold fits caller page (length others) theirs others (page q).seen
      → fits r → caller r ≡ caller q → page r ≡ page q → AreTold fits caller page (page q).seen (length mids) mids news
      → AreSpread fits caller page calls workers (record { pass = r; replies = first.replies } ∷ news)
  spread_all calls theirs its workers others mids news first q r all whole still learnt gathered fit same unmoved told =
      let seen : (page r).seen ≡ (page q).seen = ap (λ (u : Page Asked Told). u.seen) unmoved in
      let here : IsSpread fits caller page theirs first others record { pass = r; replies = first.replies } news = record {
        learnt = learnt_still first.pass q r learnt fit same unmoved;
        replies = refl;
        gathered = subst (λ (h : List (Entry Asked Told)). HaveTold fits caller page (length others) theirs others h) (sym seen) gathered;
        spread = subst (λ (h : List (Entry Asked Told)). AllTold fits caller page h others news) (sym seen) (told.each ∙ still.0, each);
      } in
      subst (λ (l : List (Worker Pass)). AreSpread fits caller page calls l (record { pass = r; replies = first.replies } ∷ news)) (sym whole)
      (subst (λ (l : List (Vec Call)). AreSpread fits caller page l (first ∷ others) (record { pass = r; replies = first.replies } ∷ news)) (sym all) here)
    where
      each : (k : ℕ) (d : Worker Pass) → k < length others → IsTold fits caller page (page q).seen (slice_index_or others k d) (slice_index_or news k d)
      each k d below = told_from (page q).seen (slice_index_or others k d) (slice_index_or mids k d) (slice_index_or news k d) (still.1 k d below) (told.told k d (omega (arith, still.0)))
