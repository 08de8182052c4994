-- What steps come to together, one after another, and what a call then says of its caller's page.
use Rattle.std.proofs.Common.{◌≡◌, ℕ, suc, true, false, cond, List, [], ◌∷◌, ◌++◌, refl, ap, ap₂, sym, ◌∙◌, subst, arith, inl, inr, ⊎_elim, append_assoc}
use Rattle.std.specs.List.{All}
use Rattle.std.proofs.lemmas.List.{append-nil}
use Rattle.std.proofs.lemmas.List.Elements.{All-nil, All-append}
use mathlib.Core.List.{IsPrefix}
use Rattle.atomic_table.specs.Table.{Me}
use Rattle.pass_book.specs.declared.entries.Entry.{Entry}
use Rattle.pass_book.specs.declared.entries.Look.{Look}
use Rattle.pass_book.specs.Histories.{IsOfCallers, entries_of}
use Rattle.pass_book.specs.Pages.{Gains, Enters, EntersNothing}
use Rattle.pass_book.proofs.Prefixes.{prefix_self, prefix_more, prefix_trans}
use Rattle.pass_book.proofs.PageSteps.{between_of_others}
use Rattle.pass_book.proofs.Sublists.{entries_of-append, entries_of-own, entries_of-alone}
use Rattle.pass_table.specs.declared.views.View.{View}
use Rattle.pass_table.specs.Terms.{Terms, Effect, SeesSo, MovesSo}
use Rattle.pass_table.specs.Words.{Meets, joined}
use Rattle.pass_table.specs.Views.{page_of}
use Rattle.pass_table.proofs.Lists.{all_one}
use Rattle.pass_table.specs.Steps.{IsSound, Steps, Goes, GoesAmong, Stays, GoesTo, GoesAmongTo, StaysTo, HasTried}

append_same : {A : Type 0} (xs ys zs : List A) → xs ++ ys ≡ xs ++ zs → ys ≡ zs
append_same [] ys zs same = same
append_same (x ∷ xs) ys zs same = append_same xs ys zs (cc same)

front_empty : {A : Type 0} (xs : List A) (e : A) → xs ++ e ∷ [] ≡ e ∷ [] → xs ≡ []
front_empty [] e same = refl
front_empty (x ∷ []) e same = absurd cc
front_empty (x ∷ y ∷ xs) e same = absurd cc

joined_snoc : {A : Type 0} (tries : List (List A)) (words : List A) → joined (tries ++ words ∷ []) ≡ joined tries ++ words
joined_snoc [] words = append-nil words
joined_snoc (t ∷ tries) words = ap (λ l. t ++ l) (joined_snoc tries words) ∙ sym (append_assoc t (joined tries) words)

module _ {Call Reply Name : Type 0} (shows : List (Entry Call Reply) → Name → ℕ → Type 0) where
  meets_all : (old h new : List (Entry Call Reply)) (looks : List (Look Name)) → IsPrefix old h → IsPrefix h new → All (λ (x : Look Name). shows h x.name x.word) looks → Meets shows old new looks
  meets_all old h new [] p q all = prefix_trans old h new p q
  meets_all old h new (look ∷ looks) p q all = (h, p, all 0 look (omega arith), meets_all h h new looks (prefix_self h) q (λ k d within. all (suc k) d (omega arith)))

  meets_begins : (old new : List (Entry Call Reply)) (looks : List (Look Name)) → Meets shows old new looks → IsPrefix old new
  meets_begins old new [] meets = meets
  meets_begins old new (look ∷ looks) meets = prefix_trans old meets.0 new meets.1 (meets_begins meets.0 new looks meets.3)

  meets_sooner : (old mid new : List (Entry Call Reply)) (looks : List (Look Name)) → IsPrefix old mid → Meets shows mid new looks → Meets shows old new looks
  meets_sooner old mid new [] p meets = prefix_trans old mid new p meets
  meets_sooner old mid new (look ∷ looks) p meets = (meets.0, prefix_trans old mid meets.0 p meets.1, meets.2, meets.3)

  meets_then : (old mid new : List (Entry Call Reply)) (looks more : List (Look Name)) → Meets shows old mid looks → Meets shows mid new more → Meets shows old new (looks ++ more)
  meets_then old mid new [] more first then = meets_sooner old mid new more first then
  meets_then old mid new (look ∷ looks) more first then = (first.0, first.1, first.2, meets_then first.0 mid new looks more first.3 then)

module _ {Slot Call Reply State Plan Part Name : Type 0} (T : Terms Slot Call Reply State Plan Part Name) (opens : State → Type 0) (step : State → Call → Reply → State → Type 0) (plan : Plan) where
  -- a step that sees the history
  pub goes_step : (tells : ℕ → Effect Slot Call Reply Part Name → Type 0) (m : Me Slot (View Call Reply Plan Part Name)) (found : ℕ) (n : Me Slot (View Call Reply Plan Part Name))
      → (steps : Steps T opens step plan tells m found n) → (looks : List (Look Name)) (entries : List (Entry Call Reply)) → steps.effect.sees ≡ true → steps.effect.looks ≡ looks → steps.effect.entries ≡ entries
      → Goes T opens step plan m.0 n.0 looks entries
  goes_step tells m found n steps looks entries sees reads makes =
      let e = steps.effect in
      let is = ap (λ x. x.0) steps.after in
      let seen : n.0.seen ≡ e.history ++ entries = ap (λ x. x.seen) is ∙ (ap (λ b. cond b (e.history ++ e.entries) m.0.seen) sees ∙ ap (λ l. e.history ++ l) makes) in
      let shown : All (λ (x : Look Name). T.shows plan e.history x.name x.word) looks = subst (All (λ (x : Look Name). T.shows plan e.history x.name x.word)) reads steps.shows in
      record {
        same = record { opened = ap (λ x. x.plan) is; number = ap (λ x. x.number) is };
        mine = ap (λ x. x.mine) is ∙ ap (λ l. m.0.mine ++ l) makes;
        last = (e.history, steps.begins, seen);
        looked = ap (λ x. x.looked) is ∙ ap (λ l. m.0.looked ++ l) reads;
        meets = meets_all (T.shows plan) m.0.seen e.history n.0.seen looks steps.begins (subst (IsPrefix e.history) (sym seen) (prefix_more e.history entries)) shown;
        before = steps.before;
        sound = steps.sound;
      }

  -- steps without an entry, and then more steps
  pub goes_then : (v m w : View Call Reply Plan Part Name) (looks more : List (Look Name)) (entries : List (Entry Call Reply)) → Goes T opens step plan v m looks [] → Goes T opens step plan m w more entries
      → Goes T opens step plan v w (looks ++ more) entries
  goes_then v m w looks more entries first then = record {
    same = record { opened = then.same.opened ∙ first.same.opened; number = then.same.number ∙ first.same.number };
    mine = then.mine ∙ ap (λ l. l ++ entries) (first.mine ∙ append-nil v.mine);
    last = (then.last.0, prefix_trans v.seen m.seen then.last.0 (meets_begins (T.shows plan) v.seen m.seen looks first.meets) then.last.1, then.last.2);
    looked = then.looked ∙ (ap (λ l. l ++ more) first.looked ∙ append_assoc v.looked looks more);
    meets = meets_then (T.shows plan) v.seen m.seen w.seen looks more first.meets then.meets;
    before = first.before;
    sound = then.sound;
  }

  -- a step that sees and reads nothing
  stays_step : (tells : ℕ → Effect Slot Call Reply Part Name → Type 0) (m : Me Slot (View Call Reply Plan Part Name)) (found : ℕ) (n : Me Slot (View Call Reply Plan Part Name)) → (steps : Steps T opens step plan tells m found n)
      → steps.effect.sees ≡ false → Stays T opens step plan m.0 n.0
  stays_step tells m found n steps blind =
      let e = steps.effect in
      let is = ap (λ x. x.0) steps.after in
      let quiet = steps.quiet blind in
      let seen : n.0.seen ≡ m.0.seen = ap (λ x. x.seen) is ∙ ap (λ b. cond b (e.history ++ e.entries) m.0.seen) blind in
      let mine : n.0.mine ≡ m.0.mine = ap (λ x. x.mine) is ∙ (ap (λ l. m.0.mine ++ l) quiet.0 ∙ append-nil m.0.mine) in
      record {
        same = record { opened = ap (λ x. x.plan) is; number = ap (λ x. x.number) is };
        page = ap₂ (λ a b. record { mine = a; seen = b }) mine seen;
        looked = ap (λ x. x.looked) is ∙ (ap (λ l. m.0.looked ++ l) quiet.1 ∙ append-nil m.0.looked);
        sound = steps.sound;
      }

  -- steps, and then some that see and read nothing
  pub goes_still : (v m w : View Call Reply Plan Part Name) (looks : List (Look Name)) (entries : List (Entry Call Reply)) → Goes T opens step plan v m looks entries → Stays T opens step plan m w
      → Goes T opens step plan v w looks entries
  goes_still v m w looks entries goes stays = record {
    same = record { opened = stays.same.opened ∙ goes.same.opened; number = stays.same.number ∙ goes.same.number };
    mine = ap (λ p. p.mine) stays.page ∙ goes.mine;
    last = (goes.last.0, goes.last.1, ap (λ p. p.seen) stays.page ∙ goes.last.2);
    looked = stays.looked ∙ goes.looked;
    meets = subst (λ l. Meets (T.shows plan) v.seen l looks) (sym (ap (λ p. p.seen) stays.page)) goes.meets;
    before = goes.before;
    sound = stays.sound;
  }

  -- where a step's effect is known, its seat goes on so
  module _ (tells : ℕ → Effect Slot Call Reply Part Name → Type 0) (m : Me Slot (View Call Reply Plan Part Name)) (found : ℕ) (n : Me Slot (View Call Reply Plan Part Name)) (steps : Steps T opens step plan tells m found n) where
    pub goes_to : (looks : List (Look Name)) (entries : List (Entry Call Reply)) (part : Part) (carried : List (ℕ × Slot)) → SeesSo steps.effect looks entries part carried → GoesTo T opens step plan m n looks entries part carried
    goes_to looks entries part carried so =
        let is = so.1 in (
          goes_step tells m found n steps looks entries (ap (λ e. e.sees) is) (ap (λ e. e.looks) is) (ap (λ e. e.entries) is),
          ap (λ x. x.0.part) steps.after ∙ ap (λ e. e.part) is,
          ap (λ x. x.1) steps.after ∙ ap (λ e. e.carried) is,
          ap (λ x. x.0.rests) steps.after ∙ ap (λ e. T.rests e.part) is,
        )

    pub stays_to : (part : Part) (carried : List (ℕ × Slot)) → MovesSo steps.effect part carried → StaysTo T opens step plan m n part carried
    stays_to part carried so =
        let is = so.1 in (
          stays_step tells m found n steps (ap (λ e. e.sees) is),
          ap (λ x. x.0.part) steps.after ∙ ap (λ e. e.part) is,
          ap (λ x. x.1) steps.after ∙ ap (λ e. e.carried) is,
          ap (λ x. x.0.rests) steps.after ∙ ap (λ e. T.rests e.part) is,
        )

  module _ (v w : View Call Reply Plan Part Name) (looks : List (Look Name)) where
    -- what was seen begins what is seen
    pub among_begins : (entries : List (Entry Call Reply)) → GoesAmong T opens step plan v w looks entries → IsPrefix v.seen w.seen
    among_begins entries goes = meets_begins (T.shows plan) v.seen w.seen looks goes.meets

    -- the caller's page gains its entries
    pub gains_among : (entries : List (Entry Call Reply)) → GoesAmong T opens step plan v w looks entries → Gains opens step (T.start plan) v.number (page_of v) (page_of w) entries
    gains_among entries goes =
        let p = among_begins entries goes in
        let own : w.mine ≡ entries_of v.number w.seen = subst (λ c. w.mine ≡ entries_of c w.seen) goes.same.number goes.sound.own in
        let split : entries_of v.number w.seen ≡ v.mine ++ entries_of v.number p.0 =
        ap (entries_of v.number) (sym p.1) ∙ (entries_of-append v.number v.seen p.0 ∙ ap (λ l. l ++ entries_of v.number p.0) (sym goes.before.own)) in
        record {
          more = p.0;
          seen = sym p.1;
          among = append_same v.mine (entries_of v.number p.0) entries (sym split ∙ (sym own ∙ goes.mine));
          mine = goes.mine;
          own = own;
          legal = goes.sound.legal;
        }

    -- steps behind whose entries nothing stands are steps
    pub among_of : (entries : List (Entry Call Reply)) → Goes T opens step plan v w looks entries → GoesAmong T opens step plan v w looks entries
    among_of entries goes = record { same = goes.same; mine = goes.mine; looked = goes.looked; meets = goes.meets; before = goes.before; sound = goes.sound }

    -- the same of steps behind whose entries nothing stands
    pub goes_begins : (entries : List (Entry Call Reply)) → Goes T opens step plan v w looks entries → IsPrefix v.seen w.seen
    goes_begins entries goes = among_begins entries (among_of entries goes)

    pub gains_of : (entries : List (Entry Call Reply)) → Goes T opens step plan v w looks entries → Gains opens step (T.start plan) v.number (page_of v) (page_of w) entries
    gains_of entries goes = gains_among entries (among_of entries goes)

    -- a call with one entry, behind which nothing stands
    pub enters_of : (call : Call) (reply : Reply) → Goes T opens step plan v w looks (record { caller = v.number; call = call; reply = reply } ∷ [])
        → Enters opens step (T.start plan) v.number (page_of v) (page_of w) call reply
    enters_of call reply goes =
        let e : Entry Call Reply = record { caller = v.number; call = call; reply = reply } in
        let gains = gains_of (e ∷ []) goes in
        let before = goes.last.1 in
        let seen : w.seen ≡ (v.seen ++ before.0) ++ e ∷ [] = goes.last.2 ∙ ap (λ l. l ++ e ∷ []) (sym before.1) in
        let more : gains.more ≡ before.0 ++ e ∷ [] = append_same v.seen gains.more (before.0 ++ e ∷ []) (sym gains.seen ∙ (seen ∙ append_assoc v.seen before.0 (e ∷ []))) in
        let among : entries_of v.number before.0 ++ e ∷ [] ≡ e ∷ [] =
        ap (λ l. entries_of v.number before.0 ++ l) (sym (entries_of-own v.number e refl)) ∙ (sym (entries_of-append v.number before.0 (e ∷ [])) ∙ (ap (entries_of v.number) (sym more) ∙ gains.among)) in
        record {
          before = before.0;
          seen = seen;
          others = front_empty (entries_of v.number before.0) e among;
          mine = goes.mine;
          own = gains.own;
          legal = goes.sound.legal;
        }

    -- a call without an entry
    pub nothing_of : Goes T opens step plan v w looks [] → EntersNothing opens step (T.start plan) v.number (page_of v) (page_of w)
    nothing_of goes = record {
      mine = goes.mine ∙ append-nil v.mine;
      seen = goes_begins [] goes;
      others = between_of_others v.number (page_of v) (page_of w) goes.before.own (gains_of [] goes).own (goes.mine ∙ append-nil v.mine) (goes_begins [] goes);
      own = (gains_of [] goes).own;
      legal = goes.sound.legal;
    }

  -- steps that made entries, and then more
  pub among_then : (v m w : View Call Reply Plan Part Name) (looks more : List (Look Name)) (entries others : List (Entry Call Reply)) → GoesAmong T opens step plan v m looks entries → GoesAmong T opens step plan m w more others
      → GoesAmong T opens step plan v w (looks ++ more) (entries ++ others)
  among_then v m w looks more entries others first then = record {
    same = record { opened = then.same.opened ∙ first.same.opened; number = then.same.number ∙ first.same.number };
    mine = then.mine ∙ (ap (λ l. l ++ others) first.mine ∙ append_assoc v.mine entries others);
    looked = then.looked ∙ (ap (λ l. l ++ more) first.looked ∙ append_assoc v.looked looks more);
    meets = meets_then (T.shows plan) v.seen m.seen w.seen looks more first.meets then.meets;
    before = first.before;
    sound = then.sound;
  }

  -- no step yet
  pub among_none : (v : View Call Reply Plan Part Name) → IsSound T opens step plan v → GoesAmong T opens step plan v v [] []
  among_none v sound = record {
    same = record { opened = refl; number = refl };
    mine = sym (append-nil v.mine);
    looked = sym (append-nil v.looked);
    meets = prefix_self v.seen;
    before = sound;
    sound = sound;
  }

  -- a seat that goes on by one step goes on by several
  pub among_to : (m n : Me Slot (View Call Reply Plan Part Name)) (looks : List (Look Name)) (entries : List (Entry Call Reply)) (part : Part) (carried : List (ℕ × Slot)) → GoesTo T opens step plan m n looks entries part carried
      → GoesAmongTo T opens step plan m n looks entries part carried
  among_to m n looks entries part carried goes = (among_of m.0 n.0 looks entries goes.0, goes.1, goes.2, goes.3)

  -- what one caller alone has seen is its own
  pub alone : (v : View Call Reply Plan Part Name) → IsSound T opens step plan v → T.callers plan ≡ 1 → v.seen ≡ v.mine
  alone v sound one =
      let first : v.number ≡ 0 = (let below = sound.below in omega arith) in
      sym (sound.own ∙ (ap (λ c. entries_of c v.seen) first ∙ entries_of-alone v.seen (subst (λ n. IsOfCallers n v.seen) one sound.callers)))

  -- no try yet
  pub tried_none : (IsTry : List (Look Name) → Type 0) (v : View Call Reply Plan Part Name) → HasTried T opens step plan IsTry v v
  tried_none IsTry v = ([], ([], refl, All-nil IsTry), inl (refl, refl))

  -- the tries before, and then more steps
  pub tried_then : (IsTry : List (Look Name) → Type 0) (v m w : View Call Reply Plan Part Name) (more : List (Look Name)) (entries : List (Entry Call Reply)) → (tried : HasTried T opens step plan IsTry v m)
      → Goes T opens step plan m w more entries → Goes T opens step plan v w (tried.0 ++ more) entries
  tried_then IsTry v m w more entries tried goes =
      ⊎_elim
      (λ t.
      subst (λ l. Goes T opens step plan v w (l ++ more) entries) (sym t.1) (subst (λ u. Goes T opens step plan u w more entries) t.0 goes))
      (λ t. goes_then v m w tried.0 more entries t goes)
      tried.2

  -- one more try without an entry
  pub tried_more : (IsTry : List (Look Name) → Type 0) (v m w : View Call Reply Plan Part Name) (more : List (Look Name)) → HasTried T opens step plan IsTry v m → Goes T opens step plan m w more [] → IsTry more
      → HasTried T opens step plan IsTry v w
  tried_more IsTry v m w more tried goes is = (
    tried.0 ++ more,
    (tried.1.0 ++ more ∷ [], ap (λ l. l ++ more) tried.1.1 ∙ sym (joined_snoc tried.1.0 more), All-append IsTry tried.1.0 (more ∷ []) tried.1.2 (all_one IsTry more is)),
    inr (tried_then IsTry v m w more [] tried goes),
  )

  -- it is the same caller
  pub tried_number : (IsTry : List (Look Name) → Type 0) (v m : View Call Reply Plan Part Name) → HasTried T opens step plan IsTry v m → m.number ≡ v.number
  tried_number IsTry v m tried = ⊎_elim (λ t. ap (λ x. x.number) t.0) (λ t. t.same.number) tried.2
