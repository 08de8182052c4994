-- Several workers, and their halves.
use Rattle.std.proofs.Common.{◌≡◌, ℕ, suc, ◌+◌, ◌<◌, ◌^◌, All, List, [], ◌∷◌, ◌++◌, length, take, slice_index_or, Result, Ok, Err, IsOk, OnOk, arith, refl, sym, subst}
use Rattle.std.proofs.lemmas.List.{append-nil, take_more}
use Rattle.std.specs.Global.{Vec}
use Rattle.pass_book.specs.declared.entries.Entry.{Entry}
use Rattle.pass_book.specs.Pages.{Page}
use Rattle.script_text.specs.declared.scripts.Call.{Call}
use Rattle.script_text.specs.declared.replies.Reply.{Reply}
use Rattle.script_engine.specs.declared.rounds.Worker.{Worker}
use Rattle.script_engine.specs.Workers.{AreIdle, AreReady, Worked, AllWorked}

idle-append : (calls more : List (Vec Call)) → AreIdle calls → AreIdle more → AreIdle (calls ++ more)
idle-append [] more a b = b
idle-append (its ∷ calls) more a b = (a.0, idle-append calls more a.1 b)

-- one more caller without calls
pub idle_more : (calls : List (Vec Call)) (k : ℕ) (d : Vec Call) → k < length calls → AreIdle (take k calls) → (slice_index_or calls k d).items ≡ [] → AreIdle (take (k + 1) calls)
idle_more calls k d within before here = subst AreIdle (sym (take_more calls k d within)) (idle-append (take k calls) (slice_index_or calls k d ∷ []) before (here, tt))

-- what two calls that both have to go well lead to together
pub on_both : {E P Q S : Type 0} (r one other : Result (Unit {0}) E) → OnOk r (IsOk one × IsOk other) → OnOk one P → OnOk other Q → (P → Q → S) → OnOk r S
on_both (Ok u) (Ok v) (Ok w) well p q then = then p q
on_both (Ok u) (Ok v) (Err e) well p q then = absurd (cc (well.1))
on_both (Ok u) (Err e) other well p q then = absurd (cc (well.0))
on_both (Err e) one other well p q then = tt

module _ {Pass : Type 0} (fits : Pass → Type 0) (asks : Call → Type 0) where
  -- the two parts of a crew
  pub ready_parts : (workers others : List (Worker Pass)) (calls more : List (Vec Call)) → length workers ≡ length calls → AreReady fits asks (workers ++ others) (calls ++ more)
      → AreReady fits asks workers calls × AreReady fits asks others more
  ready_parts [] others [] more same ready = (tt, ready)
  ready_parts [] others (its ∷ calls) more same ready = absurd (omega (arith, same))
  ready_parts (worker ∷ workers) others [] more same ready = absurd (omega (arith, same))
  ready_parts (worker ∷ workers) others (its ∷ calls) more same ready =
      let rest = ready_parts workers others calls more (omega (arith, same)) ready.3 in
      ((ready.0, ready.1, ready.2, rest.0), rest.1)

  -- the first half of a crew, and the second
  pub ready_halves : (workers left right : List (Worker Pass)) (calls before behind : List (Vec Call)) → workers ≡ left ++ right → calls ≡ before ++ behind → length left ≡ length before → AreReady fits asks workers calls
      → AreReady fits asks left before × AreReady fits asks right behind
  ready_halves workers left right calls before behind whole all same ready =
      ready_parts left right before behind same (subst (λ (l : List (Vec Call)). AreReady fits asks (left ++ right) l) all (subst (λ (l : List (Worker Pass)). AreReady fits asks l calls) whole ready))

  pub ready_from : (workers : List (Worker Pass)) (calls : List (Vec Call)) → length workers ≡ length calls
      → ((k : ℕ) (d : Worker Pass) (its : Vec Call) → k < length workers → fits (slice_index_or workers k d).pass × All asks (slice_index_or calls k its).items × (length (slice_index_or workers k d).replies.items + length (slice_index_or calls k its).items < 2 ^ 32))
      → AreReady fits asks workers calls
  ready_from [] [] same each = tt
  ready_from [] (its ∷ calls) same each = absurd (omega (arith, same))
  ready_from (worker ∷ workers) [] same each = absurd (omega (arith, same))
  ready_from (worker ∷ workers) (its ∷ calls) same each =
      let first = each 0 worker its (omega arith) in
      (first.0, first.1, first.2, ready_from workers calls (omega (arith, same)) (λ k d dits below. each (suc k) d dits (omega arith)))

  pub ready_each : (workers : List (Worker Pass)) (calls : List (Vec Call)) → AreReady fits asks workers calls → length workers ≡ length calls
  ready_each [] [] ready = refl
  ready_each [] (its ∷ calls) ready = absurd ready
  ready_each (worker ∷ workers) [] ready = absurd ready
  ready_each (worker ∷ workers) (its ∷ calls) ready = let rest = ready_each workers calls ready.3 in omega (arith, rest)

module _ {Pass Asked Told : Type 0} (fits : Pass → Type 0) (asks : Call → Type 0) (caller : Pass → ℕ) (page : Pass → Page Asked Told) (Says : ℕ → Call → Reply → List (Entry Asked Told) → List (Entry Asked Told) → Type 0) where
  -- a worker without calls has made them
  idle_worker : (worker : Worker Pass) (calls : List Call) → fits worker.pass → calls ≡ [] → Worked fits caller page Says worker calls worker
  idle_worker worker [] fit none = record { fit = fit; same = refl; told = []; made = refl; replies = sym (append-nil worker.replies.items) }
  idle_worker worker (call ∷ calls) fit none = absurd cc

  -- nor have several
  pub idle_worked : (workers : List (Worker Pass)) (calls : List (Vec Call)) → AreReady fits asks workers calls → AreIdle calls → AllWorked fits caller page Says workers calls workers
  idle_worked [] [] ready idle = tt
  idle_worked [] (its ∷ calls) ready idle = absurd ready
  idle_worked (worker ∷ workers) [] ready idle = absurd ready
  idle_worked (worker ∷ workers) (its ∷ calls) ready idle = (idle_worker worker its.items ready.0 idle.0, idle_worked workers calls ready.3 idle.1)

  -- two parts of a crew that have worked
  pub worked_both : (olds others news more : List (Worker Pass)) (calls rest : List (Vec Call)) → AllWorked fits caller page Says olds calls news → AllWorked fits caller page Says others rest more
      → AllWorked fits caller page Says (olds ++ others) (calls ++ rest) (news ++ more)
  worked_both [] others [] more [] rest a b = b
  worked_both [] others (new ∷ news) more [] rest a b = absurd a
  worked_both [] others news more (its ∷ calls) rest a b = absurd a
  worked_both (old ∷ olds) others news more [] rest a b = absurd a
  worked_both (old ∷ olds) others [] more (its ∷ calls) rest a b = absurd a
  worked_both (old ∷ olds) others (new ∷ news) more (its ∷ calls) rest a b = (a.0, worked_both olds others news more calls rest a.1 b)

  -- the halves of a crew that have worked
  pub worked_halves : (workers left right news more : List (Worker Pass)) (calls before behind : List (Vec Call)) → workers ≡ left ++ right → calls ≡ before ++ behind
      → AllWorked fits caller page Says left before news → AllWorked fits caller page Says right behind more → AllWorked fits caller page Says workers calls (news ++ more)
  worked_halves workers left right news more calls before behind whole all a b =
      let both = worked_both left right news more before behind a b in
      subst (λ (l : List (Vec Call)). AllWorked fits caller page Says workers l (news ++ more)) (sym all) (subst (λ (l : List (Worker Pass)). AllWorked fits caller page Says l (before ++ behind) (news ++ more)) (sym whole) both)

  pub nobody_worked : (workers : List (Worker Pass)) (calls : List (Vec Call)) → AreReady fits asks workers calls → length calls ≡ 0 → AllWorked fits caller page Says workers calls workers
  nobody_worked [] [] ready none = tt
  nobody_worked workers (its ∷ calls) ready none = absurd (omega (arith, none))
  nobody_worked (worker ∷ workers) [] ready none = absurd ready
