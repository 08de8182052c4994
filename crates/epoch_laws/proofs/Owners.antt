-- A token's word that isn't 0, and an election that was won, have a seat whose they are.
use Rattle.std.proofs.Common.{◌≡◌, ◌⊎◌, ◌==◌, ℕ, Bool, true, false, ltb, Option, Some, None, refl, ap, sym, ◌∙◌, subst, inl, inr, ⊎_elim}
use Rattle.pgas_base.specs.declared.shapes.Shape.{Shape}
use Rattle.pgas_base.specs.declared.starts.Start.{Start}
use Rattle.epoch_laws.specs.declared.tokens.Token.{Token}
use Rattle.epoch_laws.specs.declared.steps.Kind.{Kind}
use Rattle.epoch_laws.specs.declared.steps.Kind.TheVariants.{Register, Unregister, PinLook, PinSet, Unpin, TakeLook, TakeTry, Show, Hold, Touch, Return, DeferLook, DeferSwap, DeferLink, ElectLocal, ElectGlobal, EpochLook, ScanToken, Advance, Spread, Collect, Walk, Release, Leave, StackLook, StackNext, StackPop, StackPut, HandLink, HomeSwap, HomeLink, HomeTake, HomeWalk}
use Rattle.epoch_laws.specs.Places.{place_in, pending, with_number, with_token}
use Rattle.epoch_laws.specs.Seats.{Phase, Idle, Registered, PinLooked, Pinned, DeferLooked, DeferSwapped, WonLocal, LostGlobal, WonGlobal, Scanning, Stopped, Advanced, LeftGlobal, Seat}
use Rattle.epoch_laws.specs.States.{State, opening, opening_words}
use Rattle.epoch_laws.specs.Needs.{AllMet}
use Rattle.epoch_laws.specs.TokenSteps.{register, unregister, pin_look, pin_set, unpin}
use Rattle.epoch_laws.specs.TakeSteps.{take_look, take_try, show, give_back, is_free_with, look_count}
use Rattle.epoch_laws.specs.HoldSteps.{hold, touch}
use Rattle.epoch_laws.specs.DeferralSteps.{defer_look, defer_swap, defer_link}
use Rattle.epoch_laws.specs.ReclaimSteps.{elect_local, elect_global, epoch_look, scan_token, advance, spread, collect, walk, release, leave, MayLeave, has_global, passes, last_epoch, last_count}
use Rattle.epoch_laws.specs.StackSteps.{stack_look, stack_next, stack_pop, stack_put, hand_link, same_head}
use Rattle.epoch_laws.specs.HomeSteps.{home_swap, home_link, home_take, home_walk}
use Rattle.epoch_laws.specs.Steps.{move}
pub use Rattle.epoch_laws.specs.Owners.{own_token, HaveOwners, AreOwned}
unfoldable pub use Rattle.epoch_laws.specs.Owners.{token_of}
use Rattle.epoch_laws.proofs.Updates.{number_here, number_there, at_number, at_token, part_kept, part_with}
use Rattle.epoch_laws.proofs.Lists.{truth}
use Rattle.epoch_laws.proofs.Timing.{timing, timing_at, token_at, global_at}
use Rattle.epoch_laws.proofs.Elections.{local, local_at}

-- what isn't this seat's is another one's still
other_owner : {A : Type 0} (f : ℕ → Option A) (c : ℕ) (new : Option A) (a : A) → (f c ≡ Some a → ⊥) → (d : ℕ) → f d ≡ Some a → with_number f c new d ≡ Some a
other_owner f c new a not d e = number_there f c new d (λ same. not (sym (ap f same) ∙ e)) ∙ e

abbrev TokensOwned : (Token → ℕ) → (ℕ → Option Token) → Type 0
TokensOwned word has = (t : Token) → (word t ≡ 0) ⊎ ((c : ℕ) × (has c ≡ Some t))

abbrev LocalsOwned : (ℕ → ℕ) → (ℕ → Option ℕ) → Type 0
LocalsOwned election_of wins = (l : ℕ) → (election_of l ≡ 0) ⊎ ((election_of l ≡ 1) × ((c : ℕ) × (wins c ≡ Some l)))

abbrev GlobalOwned : ℕ → (ℕ → Bool) → Type 0
GlobalOwned election globals = (election ≡ 0) ⊎ ((election ≡ 1) × ((c : ℕ) × (globals c ≡ true)))

-- a seat that has the token stores any word in it
stores_word : (word : Token → ℕ) (has : ℕ → Option Token) (c : ℕ) (t : Token) (new : ℕ) → has c ≡ Some t → TokensOwned word has → TokensOwned (with_token word t new) has
stores_word word has c t new mine old = at_token (λ u x. (x ≡ 0) ⊎ ((d : ℕ) × (has d ≡ Some u))) word t new (inr (c, mine)) (λ u ne. old u)

-- a seat without a token takes one
takes_token : (word : Token → ℕ) (has : ℕ → Option Token) (c : ℕ) (t : Token) (new : ℕ) → has c ≡ None → TokensOwned word has → TokensOwned (with_token word t new) (with_number has c (Some t))
takes_token word has c t new none old =
    at_token (λ u x. (x ≡ 0) ⊎ ((d : ℕ) × (with_number has c (Some t) d ≡ Some u))) word t new
    (inr (c, number_here has c (Some t)))
    (λ u ne. ⊎_elim (λ z. inl z) (λ x. inr (x.0, other_owner has c (Some t) u (λ e. absurd (cc (e, none))) x.0 x.1)) (old u))

-- a seat clears its token's word
drops_token : (word : Token → ℕ) (has : ℕ → Option Token) (c : ℕ) (t : Token) → has c ≡ Some t → TokensOwned word has → TokensOwned (with_token word t 0) (with_number has c None)
drops_token word has c t mine old =
    at_token (λ u x. (x ≡ 0) ⊎ ((d : ℕ) × (with_number has c None d ≡ Some u))) word t 0
    (inl refl)
    (λ u ne. ⊎_elim (λ z. inl z) (λ x. inr (x.0, other_owner has c None u (λ e. ne (let same : u ≡ t = cc (e, mine) in same)) x.0 x.1)) (old u))

wins_election : (election_of : ℕ → ℕ) (wins : ℕ → Option ℕ) (c l : ℕ) → wins c ≡ None → LocalsOwned election_of wins → LocalsOwned (with_number election_of l 1) (with_number wins c (Some l))
wins_election election_of wins c l none old =
    at_number (λ k x. (x ≡ 0) ⊎ ((x ≡ 1) × ((d : ℕ) × (with_number wins c (Some l) d ≡ Some k)))) election_of l 1
    (inr (refl, (c, number_here wins c (Some l))))
    (λ k ne. ⊎_elim (λ z. inl z) (λ x. let y = x.1 in inr (x.0, (y.0, other_owner wins c (Some l) k (λ e. absurd (cc (e, none))) y.0 y.1))) (old k))

leaves_election : (election_of : ℕ → ℕ) (wins : ℕ → Option ℕ) (c l : ℕ) → wins c ≡ Some l → LocalsOwned election_of wins → LocalsOwned (with_number election_of l 0) (with_number wins c None)
leaves_election election_of wins c l mine old =
    at_number (λ k x. (x ≡ 0) ⊎ ((x ≡ 1) × ((d : ℕ) × (with_number wins c None d ≡ Some k)))) election_of l 0
    (inl refl)
    (λ k ne. ⊎_elim (λ z. inl z) (λ x. let y = x.1 in inr (x.0, (y.0, other_owner wins c None k (λ e. ne (let same : k ≡ l = cc (e, mine) in same)) y.0 y.1))) (old k))

module _ (s : State) (owned : AreOwned s) (c : ℕ) where
  same_tokens : (new : Seat) (word : Token → ℕ) → own_token new ≡ own_token (s.seat c) → TokensOwned word (λ d. own_token (s.seat d)) → TokensOwned word (λ d. own_token (with_number s.seat c new d))
  same_tokens new word e h = subst (TokensOwned word) (sym (part_kept own_token s.seat c new e)) h

  same_locals : (new : Seat) → local new ≡ local (s.seat c) → LocalsOwned s.words.election_of (λ d. local (with_number s.seat c new d))
  same_locals new e = subst (LocalsOwned s.words.election_of) (sym (part_kept local s.seat c new e)) owned.locals

  same_global : (new : Seat) → has_global new.phase ≡ has_global (s.seat c).phase → GlobalOwned s.words.election (λ d. has_global (with_number s.seat c new d).phase)
  same_global new e = subst (GlobalOwned s.words.election) (sym (part_kept (λ x. has_global x.phase) s.seat c new e)) owned.global

  -- a step that leaves what the seat has
  simply : (new : Seat) → own_token new ≡ own_token (s.seat c) → local new ≡ local (s.seat c) → has_global new.phase ≡ has_global (s.seat c).phase
      → HaveOwners s.words.token_word s.words.election s.words.election_of (λ d. own_token (with_number s.seat c new d)) (λ d. local (with_number s.seat c new d)) (λ d. has_global (with_number s.seat c new d).phase)
  simply new et el eg = record { tokens = same_tokens new s.words.token_word et owned.tokens; locals = same_locals new el; global = same_global new eg }

  token_at_phase : (ph : Phase) → (s.seat c).phase ≡ ph → token_of ph (s.seat c).token ≡ own_token (s.seat c)
  token_at_phase ph at = sym (ap (λ x. token_of x (s.seat c).token) at)

  local_at_phase : (ph : Phase) → (s.seat c).phase ≡ ph → local_at ph (s.seat c).token ≡ local (s.seat c)
  local_at_phase ph at = sym (ap (λ x. local_at x (s.seat c).token) at)

  global_at_phase : (ph : Phase) → (s.seat c).phase ≡ ph → has_global ph ≡ has_global (s.seat c).phase
  global_at_phase ph at = sym (ap has_global at)

  -- a step from this phase that leaves what the seat has
  from : (ph : Phase) (new : Seat) → (s.seat c).phase ≡ ph → own_token new ≡ token_of ph (s.seat c).token → local new ≡ local_at ph (s.seat c).token → has_global new.phase ≡ has_global ph
      → HaveOwners s.words.token_word s.words.election s.words.election_of (λ d. own_token (with_number s.seat c new d)) (λ d. local (with_number s.seat c new d)) (λ d. has_global (with_number s.seat c new d).phase)
  from ph new at et el eg = simply new (et ∙ token_at_phase ph at) (el ∙ local_at_phase ph at) (eg ∙ global_at_phase ph at)

  owned_register : (t : Token) → AllMet ((register s c t).needs) → AreOwned ((register s c t).outcome.next)
  unfolding register token_of local_at has_global
  owned_register t h =
      let at = h.1.1.1.0 in
      let new : Seat = record (s.seat c) { phase = Registered; token = t } in
      ⊎_elim
      (λ z. rw z (record {
        tokens = subst (TokensOwned (with_token s.words.token_word t 1)) (sym (part_with own_token s.seat c new))
            (takes_token s.words.token_word (λ d. own_token (s.seat d)) c t 1 (sym (token_at_phase Idle at)) owned.tokens);
        locals = same_locals new (local_at_phase Idle at);
        global = same_global new (global_at_phase Idle at);
      }))
      (λ z. rw z owned)
      (truth (s.words.token_word t == 0))

  owned_unregister : AllMet ((unregister s c).needs) → AreOwned ((unregister s c).outcome.next)
  unfolding unregister token_of local_at has_global
  owned_unregister h =
      let at = h.1.0 in
      let new : Seat = record (s.seat c) { phase = Idle } in
      record {
        tokens = subst (TokensOwned (with_token s.words.token_word (s.seat c).token 0)) (sym (part_with own_token s.seat c new))
            (drops_token s.words.token_word (λ d. own_token (s.seat d)) c (s.seat c).token (sym (token_at_phase Registered at)) owned.tokens);
        locals = same_locals new (local_at_phase Registered at);
        global = same_global new (global_at_phase Registered at);
      }

  -- the seat stores a word in its token
  stores : (ph : Phase) (new : Seat) (word : ℕ) → (s.seat c).phase ≡ ph → own_token new ≡ Some (s.seat c).token → token_of ph (s.seat c).token ≡ Some (s.seat c).token
      → local new ≡ local_at ph (s.seat c).token → has_global new.phase ≡ has_global ph
      → HaveOwners (with_token s.words.token_word (s.seat c).token word) s.words.election s.words.election_of
      (λ d. own_token (with_number s.seat c new d)) (λ d. local (with_number s.seat c new d)) (λ d. has_global (with_number s.seat c new d).phase)
  stores ph new word at mine has el eg = record {
    tokens = same_tokens new (with_token s.words.token_word (s.seat c).token word) (mine ∙ sym has ∙ token_at_phase ph at)
        (stores_word s.words.token_word (λ d. own_token (s.seat d)) c (s.seat c).token word (sym (token_at_phase ph at) ∙ has) owned.tokens);
    locals = same_locals new (el ∙ local_at_phase ph at);
    global = same_global new (eg ∙ global_at_phase ph at);
  }

  owned_elect_local : AllMet ((elect_local s c).needs) → AreOwned ((elect_local s c).outcome.next)
  unfolding elect_local token_of local_at has_global
  owned_elect_local h =
      let at = h.1.0 in
      let l = (s.seat c).token.locale in
      let new : Seat = record (s.seat c) { phase = WonLocal } in
      ⊎_elim
      (λ z. rw z (record {
        tokens = same_tokens new s.words.token_word (token_at_phase Registered at) owned.tokens;
        locals = subst (LocalsOwned (with_number s.words.election_of l 1)) (sym (part_with local s.seat c new))
            (wins_election s.words.election_of (λ d. local (s.seat d)) c l (sym (local_at_phase Registered at)) owned.locals);
        global = same_global new (global_at_phase Registered at);
      }))
      (λ z. rw z owned)
      (truth (s.words.election_of l == 0))

  owned_elect_global : AllMet ((elect_global s c).needs) → AreOwned ((elect_global s c).outcome.next)
  unfolding elect_global token_of local_at has_global
  owned_elect_global h =
      let at = h.1.0 in
      let new : Seat = record (s.seat c) { phase = WonGlobal } in
      ⊎_elim
      (λ z. rw z (record {
        tokens = same_tokens new s.words.token_word (token_at_phase WonLocal at) owned.tokens;
        locals = same_locals new (local_at_phase WonLocal at);
        global = inr (refl, (c, ap (λ x. has_global x.phase) (number_here s.seat c new)));
      }))
      (λ z. rw z (from WonLocal _ at refl refl refl))
      (truth (s.words.election == 0))

  owned_leave : AllMet ((leave s c).needs) → AreOwned ((leave s c).outcome.next)
  unfolding leave token_of local_at has_global
  owned_leave h = go (s.seat c).phase refl h.1.0.0
    where
      l : ℕ
      l = (s.seat c).token.locale

      local_left : (ph : Phase) → (s.seat c).phase ≡ ph → has_global ph ≡ false → token_of ph (s.seat c).token ≡ Some (s.seat c).token → local_at ph (s.seat c).token ≡ Some l → AreOwned ((leave s c).outcome.next)
      local_left ph at none has mine =
          let new : Seat = record (s.seat c) { phase = Registered } in
          rw (ap has_global at ∙ none)
          (record {
            tokens = same_tokens new s.words.token_word (sym has ∙ token_at_phase ph at) owned.tokens;
            locals = subst (LocalsOwned (with_number s.words.election_of l 0)) (sym (part_with local s.seat c new))
                (leaves_election s.words.election_of (λ d. local (s.seat d)) c l (sym (local_at_phase ph at) ∙ mine) owned.locals);
            global = same_global new (sym none ∙ global_at_phase ph at);
          })

      global_left : (ph : Phase) → (s.seat c).phase ≡ ph → has_global ph ≡ true → token_of ph (s.seat c).token ≡ Some (s.seat c).token → local_at ph (s.seat c).token ≡ Some l → AreOwned ((leave s c).outcome.next)
      global_left ph at has_it has mine =
          let new : Seat = record (s.seat c) { phase = LeftGlobal } in
          rw (ap has_global at ∙ has_it)
          (record {
            tokens = same_tokens new s.words.token_word (sym has ∙ token_at_phase ph at) owned.tokens;
            locals = same_locals new (sym mine ∙ local_at_phase ph at);
            global = inl refl;
          })

      go : (ph : Phase) → (s.seat c).phase ≡ ph → MayLeave s.shape.locales (s.seat c).phase (s.seat c).reclaim → AreOwned ((leave s c).outcome.next)
      go LostGlobal at may = local_left LostGlobal at refl refl refl
      go LeftGlobal at may = local_left LeftGlobal at refl refl refl
      go Stopped at may = global_left Stopped at refl refl refl
      go Advanced at may = global_left Advanced at refl refl refl
      go Idle at may = absurd (subst (λ ph. MayLeave s.shape.locales ph (s.seat c).reclaim) at may)
      go Registered at may = absurd (subst (λ ph. MayLeave s.shape.locales ph (s.seat c).reclaim) at may)
      go PinLooked at may = absurd (subst (λ ph. MayLeave s.shape.locales ph (s.seat c).reclaim) at may)
      go Pinned at may = absurd (subst (λ ph. MayLeave s.shape.locales ph (s.seat c).reclaim) at may)
      go DeferLooked at may = absurd (subst (λ ph. MayLeave s.shape.locales ph (s.seat c).reclaim) at may)
      go DeferSwapped at may = absurd (subst (λ ph. MayLeave s.shape.locales ph (s.seat c).reclaim) at may)
      go WonLocal at may = absurd (subst (λ ph. MayLeave s.shape.locales ph (s.seat c).reclaim) at may)
      go WonGlobal at may = absurd (subst (λ ph. MayLeave s.shape.locales ph (s.seat c).reclaim) at may)
      go Scanning at may = absurd (subst (λ ph. MayLeave s.shape.locales ph (s.seat c).reclaim) at may)

  pub move_owned : (k : Kind) → AllMet ((move s c k).needs) → AreOwned ((move s c k).outcome.next)
  unfolding move pin_look pin_set unpin take_look take_try show give_back hold touch defer_look defer_swap defer_link epoch_look scan_token advance spread collect walk release stack_look stack_next stack_pop stack_put hand_link home_swap home_link home_take home_walk token_of local_at has_global
  move_owned (Register l n) h = owned_register _ h
  move_owned Unregister h = owned_unregister h
  move_owned PinLook h = from Registered _ h.1.0 refl refl refl
  move_owned PinSet h = stores PinLooked _ _ h.1.0 refl refl refl refl
  move_owned Unpin h = stores Pinned _ _ h.1.0 refl refl refl refl
  move_owned (TakeLook l i) h = simply _ refl refl refl
  move_owned (TakeTry l i) h = ⊎_elim (λ z. rw z (simply _ refl refl refl)) (λ z. rw z owned) (truth (is_free_with (s.words.header (record { locale = l; index = i })) (look_count (s.seat c).free_look)))
  move_owned (Show q) h = simply _ refl refl refl
  move_owned (Hold q) h = simply _ refl refl refl
  move_owned (Touch q) h = owned
  move_owned (Return q) h = simply _ refl refl refl
  move_owned (DeferLook q) h = from Pinned _ h.1.1.0 refl refl refl
  move_owned DeferSwap h = from DeferLooked _ h.1.0 refl refl refl
  move_owned DeferLink h = from DeferSwapped _ h.1.0 refl refl refl
  move_owned ElectLocal h = owned_elect_local h
  move_owned ElectGlobal h = owned_elect_global h
  move_owned EpochLook h = ⊎_elim (λ z. rw z (from WonGlobal _ h.1.0 refl refl refl)) (λ z. rw z (from WonGlobal _ h.1.0 refl refl refl)) (truth (ltb s.words.epoch last_epoch))
  move_owned ScanToken h = ⊎_elim (λ z. rw z (simply _ refl refl refl)) (λ z. rw z (from Scanning _ h.1.0.0 refl refl refl)) (truth (passes (s.seat c).reclaim.epoch (s.words.token_word ((s.seat c).reclaim.scan))))
  move_owned Advance h = from Scanning _ h.1.0.0 refl refl refl
  move_owned Spread h = simply _ refl refl refl
  move_owned Collect h = simply _ refl refl refl
  move_owned Walk h = simply _ refl refl refl
  move_owned (Release q) h = ⊎_elim (λ z. rw z (simply _ refl refl refl)) (λ z. rw z (simply _ refl refl refl)) (truth (q.count == last_count))
  move_owned Leave h = owned_leave h
  move_owned (StackLook l) h = simply _ refl refl refl
  move_owned StackNext h = simply _ refl refl refl
  move_owned StackPop h = ⊎_elim (λ z. rw z (simply _ refl refl refl)) (λ z. rw z (simply _ refl refl refl)) (truth (same_head (s.words.free_head (s.seat c).stack.locale) (s.seat c).stack.head))
  move_owned (StackPut top tail) h = ⊎_elim (λ z. rw z (simply _ refl refl refl)) (λ z. rw z (simply _ refl refl refl)) (truth (same_head (s.words.free_head (s.seat c).stack.locale) (s.seat c).stack.head))
  move_owned (HandLink q word) h = record { tokens = owned.tokens; locals = owned.locals; global = owned.global }
  move_owned (HomeSwap top tail) h = simply _ refl refl refl
  move_owned HomeLink h = simply _ refl refl refl
  move_owned (HomeTake l) h = simply _ refl refl refl
  move_owned HomeWalk h = ⊎_elim (λ z. rw z owned) (λ z. rw z (simply _ refl refl refl)) (truth (s.words.next (place_in ((s.seat c).homing.chain)) == pending))

pub opening_owned : (shape : Shape) (start : Start) (seats : ℕ) → AreOwned (opening shape start seats)
unfolding opening opening_words token_of local_at has_global
opening_owned shape start seats = record { tokens = λ t. inl refl; locals = λ l. inl refl; global = inl refl }

-- the same said by how a seat stands to tokens
pub own_token_timed : (seat : Seat) → token_at (timing seat) ≡ own_token seat
unfolding timing_at token_at token_of
own_token_timed seat = go seat.phase
  where
    go : (ph : Phase) → token_at (timing_at ph seat.token seat.announced seat.reclaim) ≡ token_of ph seat.token
    go Idle = refl
    go Registered = refl
    go PinLooked = refl
    go Pinned = refl
    go DeferLooked = refl
    go DeferSwapped = refl
    go WonLocal = refl
    go LostGlobal = refl
    go WonGlobal = refl
    go Scanning = refl
    go Stopped = refl
    go Advanced = refl
    go LeftGlobal = refl

pub global_timed : (seat : Seat) → global_at (timing seat) ≡ has_global seat.phase
unfolding timing_at global_at has_global
global_timed seat = go seat.phase
  where
    go : (ph : Phase) → global_at (timing_at ph seat.token seat.announced seat.reclaim) ≡ has_global ph
    go Idle = refl
    go Registered = refl
    go PinLooked = refl
    go Pinned = refl
    go DeferLooked = refl
    go DeferSwapped = refl
    go WonLocal = refl
    go LostGlobal = refl
    go WonGlobal = refl
    go Scanning = refl
    go Stopped = refl
    go Advanced = refl
    go LeftGlobal = refl
