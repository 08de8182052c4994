-- One round more, and what stands behind it.
use Rattle.std.proofs.Common.{◌≡◌, ◌⊎◌, inl, inr, ℕ, zero, suc, ◌+◌, ◌<◌, ◌≤◌, ◌^◌, All, List, [], ◌∷◌, ◌++◌, length, map, take, drop, slice_index_or, slice_get, Some, arith, refl, ap, sym, ◌∙◌, subst, append_assoc, length-append, drop-cons}
use Rattle.std.specs.List.{flat_map}
use Rattle.std.specs.Global.{Vec}
use Rattle.std.proofs.lemmas.Grind.{flat_map-append}
use Rattle.std.proofs.lemmas.List.{append-nil, get_or-map, get_or_default, get_or_past, length-map, map-append, take-append-drop, take_more}
use Rattle.std.proofs.lemmas.Option.{get_or_from_slice_get, slice_get_within, slice_get_cases, slice_get-get_or}
use mathlib.Core.List.{IsPrefix}
use Rattle.pass_book.specs.declared.entries.Entry.{Entry}
use Rattle.pass_book.specs.Pages.{Page, IsPage}
use Rattle.pass_book.proofs.Prefixes.{prefix_self, prefix_trans}
use Rattle.script_text.specs.declared.scripts.Call.{Call}
use Rattle.script_text.specs.declared.scripts.Round.{Round}
use Rattle.script_text.specs.declared.replies.Reply.{Reply}
use Rattle.script_text.specs.Scripts.{plain_round}
use Rattle.script_engine.specs.declared.rounds.Worker.{Worker}
use Rattle.script_engine.specs.Answers.{Stands, AnswersRound, AnswersRounds}
use Rattle.script_engine.specs.Replied.{Replied}
use Rattle.script_engine.specs.Rounds.{IsSynced, Makes, Widens, WentOn}
use Rattle.script_engine.specs.Runs.{IsAt, HaveRun, IsAskedOf, calls_of}
use Rattle.script_engine.specs.Workers.{AreReady, AreFit, AreOwn, Worked, AllWorked, HasLearnt, IsSpread, AreSpread}
use Rattle.script_engine.proofs.Crews.{ready_from}
use Rattle.script_engine.proofs.ManyCallers.{only_adds, stays_page, went_on}

module _ {Asked Told : Type 0} (Says : ℕ → Call → Reply → List (Entry Asked Told) → List (Entry Asked Told) → Type 0) where
  -- one round behind several
  rounds_more : (before : List (Entry Asked Told)) (rounds : List (List (List Call))) (parts : List (List (List Reply))) (history : List (Entry Asked Told)) (calls : List (List Call)) (replies : List (List Reply)) (part : List (Entry Asked Told))
      → AnswersRounds Says before rounds parts history → AnswersRound Says (before ++ history) calls replies part → AnswersRounds Says before (rounds ++ calls ∷ []) (parts ++ replies ∷ []) (history ++ part)
  rounds_more before [] [] history calls replies part none one =
      let first = subst (λ (h : List (Entry Asked Told)). AnswersRound Says h calls replies part) (ap (λ (h : List (Entry Asked Told)). before ++ h) none ∙ append-nil before) one in
      (part, [], first, refl, ap (λ (h : List (Entry Asked Told)). h ++ part) none ∙ sym (append-nil part))
  rounds_more before [] (replied ∷ parts) history calls replies part some one = absurd some
  rounds_more before (round ∷ rounds) [] history calls replies part some one = absurd some
  rounds_more before (round ∷ rounds) (replied ∷ parts) history calls replies part some one =
      let now : List (Entry Asked Told) = some.0 in
      let later : List (Entry Asked Told) = some.1 in
      let at = subst (λ (h : List (Entry Asked Told)). AnswersRound Says h calls replies part) (ap (λ (h : List (Entry Asked Told)). before ++ h) some.4 ∙ sym (append_assoc before now later)) one in
      (now, later ++ part, some.2, rounds_more (before ++ now) rounds parts later calls replies part some.3 at, ap (λ (h : List (Entry Asked Told)). h ++ part) some.4 ∙ append_assoc now later part)

module _ {Pass Asked Told : Type 0} (fits : Pass → Type 0) (caller : Pass → ℕ) (page : Pass → Page Asked Told) (Says : ℕ → Call → Reply → List (Entry Asked Told) → List (Entry Asked Told) → Type 0) (widens : Widens Says) where
  -- what each worker of a crew has done, and all the replies that it got
  record EachWorked (olds : List (Worker Pass)) (calls : List (Vec Call)) (news : List (Worker Pass)) : Type 0 where
    replies : List (List Reply)
    told : length replies ≡ length olds
    asked : length calls ≡ length olds
    still : length news ≡ length olds
    each : (k : ℕ) (d : Worker Pass) (its : Vec Call) (e : Worker Pass) → k < length olds
        → (w : Worked fits caller page Says (slice_index_or olds k d) (slice_index_or calls k its).items (slice_index_or news k e)) × (w.told ≡ slice_index_or replies k [])

  each_worked : (olds : List (Worker Pass)) (calls : List (Vec Call)) (news : List (Worker Pass)) → AllWorked fits caller page Says olds calls news → EachWorked olds calls news
  each_worked [] [] [] all = record { replies = []; told = refl; asked = refl; still = refl; each = λ k d its e below. absurd (omega arith) }
  each_worked [] [] (new ∷ news) all = absurd all
  each_worked [] (its ∷ calls) news all = absurd all
  each_worked (old ∷ olds) [] news all = absurd all
  each_worked (old ∷ olds) (its ∷ calls) [] all = absurd all
  each_worked (old ∷ olds) (its ∷ calls) (new ∷ news) all =
      let rest = each_worked olds calls news all.1 in record {
        replies = all.0.told ∷ rest.replies;
        told = ap suc rest.told;
        asked = ap suc rest.asked;
        still = ap suc rest.still;
        each = at all.0 rest;
      }
    where
      at : (first : Worked fits caller page Says old its.items new) (rest : EachWorked olds calls news) (k : ℕ) (d : Worker Pass) (dits : Vec Call) (e : Worker Pass) → k < length (old ∷ olds)
          → (w : Worked fits caller page Says (slice_index_or (old ∷ olds) k d) (slice_index_or (its ∷ calls) k dits).items (slice_index_or (new ∷ news) k e)) × (w.told ≡ slice_index_or (first.told ∷ rest.replies) k [])
      at first rest zero d dits e below = (first, refl)
      at first rest (suc k) d dits e below = rest.each k d dits e (omega arith)

  -- how each caller went on
  module _ (its : Vec Call) (calls : List (Vec Call)) (mid : Worker Pass) (mids : List (Worker Pass)) (new : Worker Pass) (news : List (Worker Pass)) (s : IsSpread fits caller page calls mid mids new news) where
    learnt_at : (k : ℕ) (d e : Worker Pass) → k < length (mid ∷ mids) → HasLearnt fits caller page (slice_index_or (mid ∷ mids) k d).pass (slice_index_or (new ∷ news) k e).pass
    learnt_at zero d e below = s.learnt
    learnt_at (suc k) d e below = subst (λ (w : Worker Pass). HasLearnt fits caller page (slice_index_or mids k d).pass w.pass) (get_or_default news k d e (omega (arith, s.spread.0))) (s.spread.1 k d (omega arith)).learnt

    replies_at : (k : ℕ) (d e : Worker Pass) → k < length (mid ∷ mids) → (slice_index_or (new ∷ news) k e).replies ≡ (slice_index_or (mid ∷ mids) k d).replies
    replies_at zero d e below = s.replies
    replies_at (suc k) d e below = ap (λ (w : Worker Pass). w.replies) (sym (get_or_default news k d e (omega (arith, s.spread.0)))) ∙ (s.spread.1 k d (omega arith)).replies

    told_at : (k : ℕ) (d : Worker Pass) (dits : Vec Call) → k < length (mid ∷ mids)
        → ((slice_index_or (its ∷ calls) k dits).items ≡ []) ⊎ IsPrefix (page (slice_index_or (mid ∷ mids) k d).pass).seen (page new.pass).seen
    told_at zero d dits below = inr s.learnt.begins
    told_at (suc k) d dits below = s.gathered k dits d (omega arith)

    begins_at : (k : ℕ) (e : Worker Pass) → k < length (mid ∷ mids) → IsPrefix (page new.pass).seen (page (slice_index_or (new ∷ news) k e).pass).seen
    begins_at zero e below = prefix_self (page new.pass).seen
    begins_at (suc k) e below = (s.spread.1 k e (omega arith)).begins

  -- All have run the rounds, made the calls of one more and told one another.
  module _ (rounds : List (List (List Call))) (old : Worker Pass) (olds : List (Worker Pass)) (its : Vec Call) (calls : List (Vec Call)) (mid : Worker Pass) (mids : List (Worker Pass)) (new : Worker Pass) (news : List (Worker Pass))
      (run : HaveRun fits caller page Says rounds (old ∷ olds)) (worked : EachWorked (old ∷ olds) (its ∷ calls) (mid ∷ mids)) (s : IsSpread fits caller page calls mid mids new news) where
    -- what the first caller has seen has grown
    grown : IsPrefix run.history (page new.pass).seen
    grown =
        let w = (worked.each 0 old its mid (omega arith)).0 in
        let begins = (run.each 0 old (omega arith)).synced.begins in
        let more = only_adds Says widens (caller old.pass) its.items w.told (page old.pass) (page mid.pass) w.made in
        prefix_trans run.history (page old.pass).seen (page new.pass).seen begins (prefix_trans (page old.pass).seen (page mid.pass).seen (page new.pass).seen more s.learnt.begins)

    went_at : (k : ℕ) (d : Worker Pass) (dits : Vec Call) → k < length (old ∷ olds)
        → WentOn Says k (slice_index_or (its ∷ calls) k dits).items (slice_index_or worked.replies k []) (page new.pass).seen (page (slice_index_or (old ∷ olds) k d).pass) (page (slice_index_or (mid ∷ mids) k d).pass) (page (slice_index_or (new ∷ news) k d).pass)
    went_at k d dits below =
        let w = worked.each k d dits d below in
        let at = run.each k d below in
        let here : k < length (mid ∷ mids) = omega (arith, worked.still) in
        let l = learnt_at its calls mid mids new news s k d d here in
        record {
          made = subst (λ (t : List Reply). Replied (Makes Says k) (page (slice_index_or (old ∷ olds) k d).pass) (slice_index_or (its ∷ calls) k dits).items t (page (slice_index_or (mid ∷ mids) k d).pass)) w.1
              (subst (λ (n : ℕ). Replied (Makes Says n) (page (slice_index_or (old ∷ olds) k d).pass) (slice_index_or (its ∷ calls) k dits).items w.0.told (page (slice_index_or (mid ∷ mids) k d).pass)) at.number w.0.made);
          told = told_at its calls mid mids new news s k d dits here;
          mine = l.mine;
          begins = begins_at its calls mid mids new news s k d here;
          own = subst (λ (n : ℕ). IsPage n (page (slice_index_or (new ∷ news) k d).pass)) (w.0.same ∙ at.number) l.own;
        }

    stands_at : (k : ℕ) (d : Worker Pass) (dits : Vec Call) → k < length (old ∷ olds)
        → IsSynced k (page new.pass).seen (page (slice_index_or (new ∷ news) k d).pass) × Stands Says k run.history (slice_index_or (its ∷ calls) k dits).items (slice_index_or worked.replies k []) grown.0
    stands_at k d dits below =
        went_on Says widens k (slice_index_or (its ∷ calls) k dits).items (slice_index_or worked.replies k []) run.history (page new.pass).seen grown.0 (page (slice_index_or (old ∷ olds) k d).pass) (page (slice_index_or (mid ∷ mids) k d).pass) (page (slice_index_or (new ∷ news) k d).pass)
        (run.each k d below).synced (went_at k d dits below) grown.1

    answered : AnswersRound Says run.history (map (λ (v : Vec Call). v.items) (its ∷ calls)) worked.replies grown.0
    answered = record { each = worked.told ∙ (sym worked.asked ∙ sym (length-map (its ∷ calls) (λ (v : Vec Call). v.items))); stands = at }
      where
        at : (c : ℕ) (those : List Call) (told : List Reply) → slice_get (map (λ (v : Vec Call). v.items) (its ∷ calls)) c ≡ Some those → slice_get worked.replies c ≡ Some told → Stands Says c run.history those told grown.0
        at c those told is got =
            let within : c < length worked.replies = slice_get_within worked.replies c told got in
            let inside : c < length (its ∷ calls) = omega (arith, worked.told, worked.asked) in
            let here = (stands_at c old its (omega (arith, worked.told))).1 in
            let a : (slice_index_or (its ∷ calls) c its).items ≡ those =
            sym (get_or-map (λ (v : Vec Call). v.items) (its ∷ calls) c its [] inside) ∙ get_or_from_slice_get (map (λ (v : Vec Call). v.items) (its ∷ calls)) c those [] is in
            let b : slice_index_or worked.replies c [] ≡ told = get_or_from_slice_get worked.replies c told [] got in
            subst (λ (t : List Reply). Stands Says c run.history those t grown.0) b (subst (λ (l : List Call). Stands Says c run.history l (slice_index_or worked.replies c []) grown.0) a here)

    stand_at : (k : ℕ) (d : Worker Pass) → k < length (new ∷ news) → IsAt fits caller page Says k (page new.pass).seen (run.parts ++ worked.replies ∷ []) (slice_index_or (new ∷ news) k d)
    stand_at k d within =
        let below : k < length (old ∷ olds) = omega (arith, worked.still, s.spread.0) in
        let here : k < length (mid ∷ mids) = omega (arith, worked.still, below) in
        let w = worked.each k d its d below in
        let at = run.each k d below in
        let l = learnt_at its calls mid mids new news s k d d here in
        let said : List (List Reply) → List Reply = λ round. slice_index_or round k [] in
        record {
          number = l.same ∙ (w.0.same ∙ at.number);
          fit = l.fit;
          synced = (stands_at k d its below).0;
          replies = ap (λ v. v.items) (replies_at its calls mid mids new news s k d d here)
              ∙ (w.0.replies ∙ (ap (λ (l : List Reply). l ++ w.0.told) at.replies ∙ (ap (λ (l : List Reply). flat_map said run.parts ++ l) (w.1 ∙ sym (append-nil (slice_index_or worked.replies k [])))
              ∙ sym (flat_map-append said run.parts (worked.replies ∷ [])))));
        }

    ran_more : HaveRun fits caller page Says (rounds ++ map (λ (v : Vec Call). v.items) (its ∷ calls) ∷ []) (new ∷ news)
    ran_more = record {
      history = (page new.pass).seen;
      parts = run.parts ++ worked.replies ∷ [];
      answers = subst (λ (h : List (Entry Asked Told)). AnswersRounds Says [] (rounds ++ map (λ (v : Vec Call). v.items) (its ∷ calls) ∷ []) (run.parts ++ worked.replies ∷ []) h) grown.1
          (rounds_more Says [] rounds run.parts run.history (map (λ (v : Vec Call). v.items) (its ∷ calls)) worked.replies grown.0 run.answers answered);
      each = stand_at;
    }

  -- One round more has been run.
  pub next_round : (rounds : List (List (List Call))) (olds mids news : List (Worker Pass)) (calls : List (Vec Call)) → HaveRun fits caller page Says rounds olds → AllWorked fits caller page Says olds calls mids → AreSpread fits caller page calls mids news
      → HaveRun fits caller page Says (rounds ++ map (λ (v : Vec Call). v.items) calls ∷ []) news
  next_round rounds [] mids news [] run all s = absurd s
  next_round rounds [] mids news (its ∷ calls) run all s = absurd all
  next_round rounds (old ∷ olds) mids news [] run all s = absurd s
  next_round rounds (old ∷ olds) [] news (its ∷ calls) run all s = absurd all
  next_round rounds (old ∷ olds) (mid ∷ mids) [] (its ∷ calls) run all s = absurd s
  next_round rounds (old ∷ olds) (mid ∷ mids) (new ∷ news) (its ∷ calls) run all s = ran_more rounds old olds its calls mid mids new news run (each_worked (old ∷ olds) (its ∷ calls) (mid ∷ mids) all) s

  -- behind their calls
  pub worked_ready : (olds news : List (Worker Pass)) (calls : List (Vec Call)) → AreOwn caller page olds → AllWorked fits caller page Says olds calls news → (length calls ≡ length news) × AreFit fits news × AreOwn caller page news
  worked_ready olds news [] own all =
      let worked = each_worked olds [] news all in
      (worked.asked ∙ sym worked.still, (λ k d below. absurd (omega (arith, worked.asked, worked.still, below))), λ k d below. absurd (omega (arith, worked.asked, worked.still, below)))
  worked_ready olds news (its ∷ calls) own all =
      let worked = each_worked olds (its ∷ calls) news all in (worked.asked ∙ sym worked.still, fit worked, owned worked)
    where
      fit : EachWorked olds (its ∷ calls) news → AreFit fits news
      fit worked k d below = (worked.each k d its d (omega (arith, worked.still))).0.fit

      owned : EachWorked olds (its ∷ calls) news → AreOwn caller page news
      owned worked k d below =
          let within : k < length olds = omega (arith, worked.still) in
          let w = (worked.each k d its d within).0 in
          let mine = stays_page Says widens (caller (slice_index_or olds k d).pass) (slice_index_or (its ∷ calls) k its).items w.told (page (slice_index_or olds k d).pass) (page (slice_index_or news k d).pass) (own k d within) w.made in
          subst (λ (n : ℕ). IsPage n (page (slice_index_or news k d).pass)) (sym w.same) mine

  pub run_own : (rounds : List (List (List Call))) (workers : List (Worker Pass)) → HaveRun fits caller page Says rounds workers → AreOwn caller page workers
  run_own rounds workers run k d below =
      let at = run.each k d below in
      subst (λ (n : ℕ). IsPage n (page (slice_index_or workers k d).pass)) (sym at.number) at.synced.own

  -- as many replies as calls
  stands_count : (c : ℕ) (before part : List (Entry Asked Told)) (calls : List Call) (replies : List Reply) → Stands Says c before calls replies part → length replies ≡ length calls
  stands_count c before part [] [] is = refl
  stands_count c before part [] (reply ∷ replies) is = absurd is
  stands_count c before part (call ∷ calls) [] is = absurd is
  stands_count c before part (call ∷ calls) (reply ∷ replies) is = ap suc (stands_count c (before ++ is.0) is.1 calls replies is.4)

  round_count : (before part : List (Entry Asked Told)) (calls : List (List Call)) (replies : List (List Reply)) (c : ℕ) → AnswersRound Says before calls replies part → length (slice_index_or replies c []) ≡ length (slice_index_or calls c [])
  round_count before part calls replies c is = elim (slice_get_cases replies c).1 [ inl here ↦ inside here | inr past ↦ outside past.0 ]
    where
      inside : (x : List Reply) × (c < length replies) × (slice_get replies c ≡ Some x) × (slice_index_or replies c x ≡ x) → length (slice_index_or replies c []) ≡ length (slice_index_or calls c [])
      inside at =
          let within : c < length calls = omega (arith, is.each, at.1) in
          stands_count c before part (slice_index_or calls c []) (slice_index_or replies c []) (is.stands c (slice_index_or calls c []) (slice_index_or replies c []) (slice_get-get_or calls c [] within) (slice_get-get_or replies c [] at.1))

      outside : length replies ≤ c → length (slice_index_or replies c []) ≡ length (slice_index_or calls c [])
      outside least = ap length (get_or_past replies c [] least) ∙ sym (ap length (get_or_past calls c [] (omega (arith, is.each))))

  rounds_count : (before : List (Entry Asked Told)) (rounds : List (List (List Call))) (parts : List (List (List Reply))) (history : List (Entry Asked Told)) (c : ℕ) → AnswersRounds Says before rounds parts history
      → length (flat_map (λ round. slice_index_or round c []) parts) ≡ length (calls_of c rounds)
  rounds_count before [] [] history c is = refl
  rounds_count before [] (part ∷ parts) history c is = absurd is
  rounds_count before (round ∷ rounds) [] history c is = absurd is
  rounds_count before (round ∷ rounds) (part ∷ parts) history c is =
      let one = round_count before is.0 round part c is.2 in
      let rest = rounds_count (before ++ is.0) rounds parts is.1 c is.3 in
      length-append (slice_index_or part c []) (flat_map (λ round. slice_index_or round c []) parts)
      ∙ (ap (λ (n : ℕ). n + length (flat_map (λ round. slice_index_or round c []) parts)) one ∙ (ap (λ (n : ℕ). length (slice_index_or round c []) + n) rest
      ∙ sym (length-append (slice_index_or round c []) (calls_of c rounds))))

  -- All are ready for one round more of a script whose calls are few.
  pub run_ready : (asks : Call → Type 0) (rounds later : List (List (List Call))) (workers : List (Worker Pass)) (calls : List (Vec Call)) → HaveRun fits caller page Says rounds workers
      → IsAskedOf asks (length workers) (map (λ (v : Vec Call). v.items) calls) → ((c : ℕ) → length (calls_of c (rounds ++ map (λ (v : Vec Call). v.items) calls ∷ later)) < 2 ^ 32) → AreReady fits asks workers calls
  run_ready asks rounds later workers calls run asked few = ready_from fits asks workers calls same at
    where
      said : ℕ → List (List Call) → List Call
      said c round = slice_index_or round c []

      same : length workers ≡ length calls
      same = sym asked.each ∙ length-map calls (λ (v : Vec Call). v.items)

      at : (k : ℕ) (d : Worker Pass) (its : Vec Call) → k < length workers
          → fits (slice_index_or workers k d).pass × All asks (slice_index_or calls k its).items × (length (slice_index_or workers k d).replies.items + length (slice_index_or calls k its).items < 2 ^ 32)
      at k d its below =
          let here = run.each k d below in
          let inside : k < length calls = omega (arith, same) in
          let among : slice_index_or (map (λ (v : Vec Call). v.items) calls) k [] ≡ (slice_index_or calls k its).items = get_or-map (λ (v : Vec Call). v.items) calls k its [] inside in
          let asks_it = asked.calls k [] (omega (arith, length-map calls (λ (v : Vec Call). v.items))) in
          let replied = ap length here.replies ∙ rounds_count [] rounds run.parts run.history k run.answers in
          let all : calls_of k (rounds ++ map (λ (v : Vec Call). v.items) calls ∷ later) ≡ calls_of k rounds ++ (slice_index_or (map (λ (v : Vec Call). v.items) calls) k [] ++ calls_of k later) =
          flat_map-append (λ round. slice_index_or round k []) rounds (map (λ (v : Vec Call). v.items) calls ∷ later) in
          let count = ap length all ∙ (length-append (calls_of k rounds) (slice_index_or (map (λ (v : Vec Call). v.items) calls) k [] ++ calls_of k later) ∙ ap (λ (n : ℕ). length (calls_of k rounds) + n) (length-append (slice_index_or (map (λ (v : Vec Call). v.items) calls) k []) (calls_of k later))) in
          let bound = few k in
          (here.fit, subst (All asks) among asks_it, omega (arith, replied, count, bound, ap length among))

  module _ (asks : Call → Type 0) (rounds : List Round) (i : ℕ) (d : Round) (within : i < length rounds) (calls : List (Vec Call)) (is : calls ≡ (slice_index_or rounds i d).calls.items) where
    here : map (λ (v : Vec Call). v.items) calls ≡ plain_round (slice_index_or rounds i d)
    here = ap (map (λ (v : Vec Call). v.items)) is

    -- the rounds so far, this one, and those to come
    whole : map plain_round rounds ≡ map plain_round (take i rounds) ++ map (λ (v : Vec Call). v.items) calls ∷ map plain_round (drop (suc i) rounds)
    whole =
        ap (map plain_round) (sym (take-append-drop i rounds) ∙ ap (λ (l : List Round). take i rounds ++ l) (drop-cons rounds i d within))
        ∙ (map-append plain_round (take i rounds) (slice_index_or rounds i d ∷ drop (suc i) rounds)
        ∙ ap (λ (r : List (List Call)). map plain_round (take i rounds) ++ r ∷ map plain_round (drop (suc i) rounds)) (sym here))

    -- the crew is ready for the next of the rounds
    pub ready_next : (callers : ℕ) (workers : List (Worker Pass)) → length workers ≡ callers → HaveRun fits caller page Says (map plain_round (take i rounds)) workers → All (IsAskedOf asks callers) (map plain_round rounds)
        → ((c : ℕ) → length (calls_of c (map plain_round rounds)) < 2 ^ 32) → AreReady fits asks workers calls
    ready_next callers workers same run asked few =
        let asked_here = asked i (plain_round d) (omega (arith, length-map rounds plain_round)) in
        let there : slice_index_or (map plain_round rounds) i (plain_round d) ≡ map (λ (v : Vec Call). v.items) calls = get_or-map plain_round rounds i d (plain_round d) within ∙ sym here in
        let at = subst (λ (n : ℕ). IsAskedOf asks n (map (λ (v : Vec Call). v.items) calls)) (sym same) (subst (IsAskedOf asks callers) there asked_here) in
        run_ready asks (map plain_round (take i rounds)) (map plain_round (drop (suc i) rounds)) workers calls run at (λ c. subst (λ (l : List (List (List Call))). length (calls_of c l) < 2 ^ 32) whole (few c))

    -- the next of the rounds has been run
    pub ran_next : (olds mids news : List (Worker Pass)) → HaveRun fits caller page Says (map plain_round (take i rounds)) olds → AllWorked fits caller page Says olds calls mids → AreSpread fits caller page calls mids news
        → HaveRun fits caller page Says (map plain_round (take (i + 1) rounds)) news
    ran_next olds mids news run all s =
        let more : map plain_round (take (i + 1) rounds) ≡ map plain_round (take i rounds) ++ map (λ (v : Vec Call). v.items) calls ∷ [] =
        ap (map plain_round) (take_more rounds i d within) ∙ (map-append plain_round (take i rounds) (slice_index_or rounds i d ∷ []) ∙ ap (λ (r : List (List Call)). map plain_round (take i rounds) ++ r ∷ []) (sym here)) in
        subst (λ (l : List (List (List Call))). HaveRun fits caller page Says l news) (sym more) (next_round (map plain_round (take i rounds)) olds mids news calls run all s)

  -- a crew keeps its number
  pub crew_stays : (olds mids news : List (Worker Pass)) (calls : List (Vec Call)) → AllWorked fits caller page Says olds calls mids → AreSpread fits caller page calls mids news → length news ≡ length olds
  crew_stays olds mids news calls all s = spread_length calls mids news s ∙ (each_worked olds calls mids all).still
    where
      spread_length : (its : List (Vec Call)) (ms ns : List (Worker Pass)) → AreSpread fits caller page its ms ns → length ns ≡ length ms
      spread_length [] ms ns s = absurd s
      spread_length (it ∷ its) [] ns s = absurd s
      spread_length (it ∷ its) (m ∷ ms) [] s = absurd s
      spread_length (it ∷ its) (m ∷ ms) (n ∷ ns) s = ap suc s.spread.0
