-- What a quiet step leaves as it is: each object's header, tag and owner. And only a won local election begins a reclaim.
use Rattle.std.proofs.Common.{◌∙◌, List, [], ◌∷◌, ◌≡◌, ◌==◌, ◌⊎◌, ℕ, Bool, true, false, if◌then◌else◌, [], refl, ap, subst, inl, inr, ⊎_elim}
use Rattle.std.proofs.lemmas.Bool.{cases_Bool, false≢true}
use Rattle.pgas_base.specs.Pointers.{Pointer}
use Rattle.pool_core.specs.declared.headers.Header.{Header}
use Rattle.epoch_laws.specs.declared.steps.Kind.{Kind}
use Rattle.epoch_laws.specs.declared.steps.Kind.TheVariants.{Register, Unregister, PinLook, PinSet, Unpin, TakeLook, TakeTry, Show, Hold, Touch, Return, DeferLook, DeferSwap, DeferLink, ElectLocal, ElectGlobal, EpochLook, ScanToken, Advance, Spread, Collect, Walk, Release, Leave, StackLook, StackNext, StackPop, StackPut, HandLink, HomeSwap, HomeLink, HomeTake, HomeWalk}
use Rattle.epoch_laws.specs.Places.{Place, place_in, pending, with_number}
use Rattle.epoch_laws.specs.Seats.{Phase, Seat, Idle, Registered, PinLooked, Pinned, DeferLooked, DeferSwapped, WonLocal, LostGlobal, WonGlobal, Scanning, Stopped, Advanced, LeftGlobal, Reclaim, is_reclaiming}
use Rattle.epoch_laws.specs.States.{State}
use Rattle.epoch_laws.specs.Needs.{AllMet, Outcome}
use Rattle.epoch_laws.specs.TokenSteps.{register, unregister, pin_look, pin_set, unpin}
use Rattle.epoch_laws.specs.TakeSteps.{take_look, take_try, show, give_back}
use Rattle.epoch_laws.specs.HoldSteps.{hold, touch}
use Rattle.epoch_laws.specs.DeferralSteps.{defer_look, defer_swap, defer_link}
use Rattle.epoch_laws.specs.ReclaimSteps.{elect_local, elect_global, epoch_look, scan_token, advance, spread, collect, walk, release, leave, has_global, passes, MayLeave}
use Rattle.epoch_laws.specs.StackSteps.{stack_look, stack_next, stack_pop, stack_put, hand_link, same_head}
use Rattle.epoch_laws.specs.HomeSteps.{home_swap, home_link, home_take, home_walk}
use Rattle.epoch_laws.specs.Steps.{move}
use Rattle.epoch_laws.proofs.Updates.{number_here, at_number}
use Rattle.epoch_table.specs.Clients.{deferrals_in}
use Rattle.epoch_laws.specs.declared.steps.Step.{Step}
use Rattle.epoch_laws.specs.Runs.{state_after, outcome}
use Rattle.epoch_table.specs.Clients.{ClientTerms}
use Rattle.epoch_table.specs.Kinds.{IsQuiet, IsMade, Changes, client_after}
use Rattle.epoch_table.proofs.Knowledge.{seats_kept}

pub record Untouched (s : State) (x : Outcome) : Type 0 where
  pub header : ◌≡◌ {A = Place → Header} x.next.words.header s.words.header
  pub tag : x.next.tag ≡ s.tag
  pub owned : (d : ℕ) → (x.next.seat d).owned ≡ (s.seat d).owned
  pub none : deferrals_in x.items ≡ []

same_owned : (seat : ℕ → Seat) (c : ℕ) (new : Seat) → new.owned ≡ (seat c).owned → (d : ℕ) → (with_number seat c new d).owned ≡ (seat d).owned
same_owned seat c new same = at_number (λ d x. x.owned ≡ (seat d).owned) seat c new same (λ d ne. refl)

pub untouched : (s : State) (c : ℕ) (k : Kind) → IsQuiet k → Untouched s (move s c k).outcome
unfolding move register unregister pin_look pin_set unpin take_look take_try show give_back hold touch defer_look defer_swap defer_link elect_local elect_global epoch_look scan_token advance spread collect walk release leave stack_look stack_next stack_pop stack_put hand_link home_swap home_link home_take home_walk deferrals_in
untouched s c (Register l n) quiet = ⊎_elim (λ e. rw e (record { header = refl; tag = refl; owned = same_owned s.seat c _ refl; none = refl })) (λ e. rw e (record { header = refl; tag = refl; owned = λ d. refl; none = refl })) (cases_Bool (s.words.token_word (record { locale = l; number = n }) == 0))
untouched s c Unregister quiet = record { header = refl; tag = refl; owned = same_owned s.seat c _ refl; none = refl }
untouched s c PinLook quiet = record { header = refl; tag = refl; owned = same_owned s.seat c _ refl; none = refl }
untouched s c PinSet quiet = record { header = refl; tag = refl; owned = same_owned s.seat c _ refl; none = refl }
untouched s c Unpin quiet = record { header = refl; tag = refl; owned = same_owned s.seat c _ refl; none = refl }
untouched s c (TakeLook l i) quiet = record { header = refl; tag = refl; owned = same_owned s.seat c _ refl; none = refl }
untouched s c (TakeTry l i) quiet = absurd quiet
untouched s c (Show q) quiet = absurd quiet
untouched s c (Hold q) quiet = absurd quiet
untouched s c (Touch q) quiet = absurd quiet
untouched s c (Return q) quiet = absurd quiet
untouched s c (DeferLook q) quiet = absurd quiet
untouched s c DeferSwap quiet = record { header = refl; tag = refl; owned = same_owned s.seat c _ refl; none = refl }
untouched s c DeferLink quiet = record { header = refl; tag = refl; owned = same_owned s.seat c _ refl; none = refl }
untouched s c ElectLocal quiet = ⊎_elim (λ e. rw e (record { header = refl; tag = refl; owned = same_owned s.seat c _ refl; none = refl })) (λ e. rw e (record { header = refl; tag = refl; owned = λ d. refl; none = refl })) (cases_Bool (s.words.election_of (s.seat c).token.locale == 0))
untouched s c ElectGlobal quiet = ⊎_elim (λ e. rw e (record { header = refl; tag = refl; owned = same_owned s.seat c _ refl; none = refl })) (λ e. rw e (record { header = refl; tag = refl; owned = same_owned s.seat c _ refl; none = refl })) (cases_Bool (s.words.election == 0))
untouched s c EpochLook quiet = record { header = refl; tag = refl; owned = same_owned s.seat c _ refl; none = refl }
untouched s c ScanToken quiet = ⊎_elim (λ e. rw e (record { header = refl; tag = refl; owned = same_owned s.seat c _ refl; none = refl })) (λ e. rw e (record { header = refl; tag = refl; owned = same_owned s.seat c _ refl; none = refl })) (cases_Bool (passes (s.seat c).reclaim.epoch (s.words.token_word (s.seat c).reclaim.scan)))
untouched s c Advance quiet = record { header = refl; tag = refl; owned = same_owned s.seat c _ refl; none = refl }
untouched s c Spread quiet = record { header = refl; tag = refl; owned = same_owned s.seat c _ refl; none = refl }
untouched s c Collect quiet = record { header = refl; tag = refl; owned = same_owned s.seat c _ refl; none = refl }
untouched s c Walk quiet = record { header = refl; tag = refl; owned = same_owned s.seat c _ refl; none = refl }
untouched s c (Release q) quiet = absurd quiet
untouched s c Leave quiet = ⊎_elim (λ e. rw e (record { header = refl; tag = refl; owned = same_owned s.seat c _ refl; none = refl })) (λ e. rw e (record { header = refl; tag = refl; owned = same_owned s.seat c _ refl; none = refl })) (cases_Bool (has_global (s.seat c).phase))
untouched s c (StackLook l) quiet = record { header = refl; tag = refl; owned = same_owned s.seat c _ refl; none = refl }
untouched s c StackNext quiet = record { header = refl; tag = refl; owned = same_owned s.seat c _ refl; none = refl }
untouched s c StackPop quiet = ⊎_elim (λ e. rw e (record { header = refl; tag = refl; owned = same_owned s.seat c _ refl; none = refl })) (λ e. rw e (record { header = refl; tag = refl; owned = same_owned s.seat c _ refl; none = refl })) (cases_Bool (same_head (s.words.free_head (s.seat c).stack.locale) (s.seat c).stack.head))
untouched s c (StackPut top tail) quiet = ⊎_elim (λ e. rw e (record { header = refl; tag = refl; owned = same_owned s.seat c _ refl; none = refl })) (λ e. rw e (record { header = refl; tag = refl; owned = same_owned s.seat c _ refl; none = refl })) (cases_Bool (same_head (s.words.free_head (s.seat c).stack.locale) (s.seat c).stack.head))
untouched s c (HandLink q word) quiet = record { header = refl; tag = refl; owned = λ d. refl; none = refl }
untouched s c (HomeSwap top tail) quiet = record { header = refl; tag = refl; owned = same_owned s.seat c _ refl; none = refl }
untouched s c HomeLink quiet = record { header = refl; tag = refl; owned = same_owned s.seat c _ refl; none = refl }
untouched s c (HomeTake l) quiet = record { header = refl; tag = refl; owned = same_owned s.seat c _ refl; none = refl }
untouched s c HomeWalk quiet = ⊎_elim (λ e. rw e (record { header = refl; tag = refl; owned = λ d. refl; none = refl })) (λ e. rw e (record { header = refl; tag = refl; owned = same_owned s.seat c _ refl; none = refl })) (cases_Bool (s.words.next (place_in ((s.seat c).homing.chain)) == pending))

-- so does a hold
pub held_untouched : (s : State) (c : ℕ) (q : Pointer) → Untouched s (move s c (Hold q)).outcome
unfolding move hold deferrals_in
held_untouched s c q = record { header = refl; tag = refl; owned = same_owned s.seat c _ refl; none = refl }

-- the seat itself, where one is changed
own_seat : (P : Seat → Type 0) (seat : ℕ → Seat) (c : ℕ) (new : Seat) → P (with_number seat c new c) → P new
own_seat P seat c new h = subst P (number_here seat c new) h

may_leave_reclaims : (locales : ℕ) (phase : Phase) (reclaim : Reclaim) → MayLeave locales phase reclaim → is_reclaiming phase ≡ true
unfolding is_reclaiming
may_leave_reclaims locales Idle reclaim h = absurd h
may_leave_reclaims locales Registered reclaim h = absurd h
may_leave_reclaims locales PinLooked reclaim h = absurd h
may_leave_reclaims locales Pinned reclaim h = absurd h
may_leave_reclaims locales DeferLooked reclaim h = absurd h
may_leave_reclaims locales DeferSwapped reclaim h = absurd h
may_leave_reclaims locales WonLocal reclaim h = refl
may_leave_reclaims locales LostGlobal reclaim h = refl
may_leave_reclaims locales WonGlobal reclaim h = refl
may_leave_reclaims locales Scanning reclaim h = refl
may_leave_reclaims locales Stopped reclaim h = refl
may_leave_reclaims locales Advanced reclaim h = refl
may_leave_reclaims locales LeftGlobal reclaim h = refl

abbrev pub Reclaims : Seat → Type 0
Reclaims seat = is_reclaiming seat.phase ≡ true

either : {A : Type 0} (won lost : Outcome) (b : Bool) (c : ℕ) → (Reclaims (won.next.seat c) → A) → (Reclaims (lost.next.seat c) → A) → Reclaims ((if b then won else lost).next.seat c) → A
either won lost true c one other r = one r
either won lost false c one other r = other r

still : {A : Type 0} (one other : State) (b : Bool) (c : ℕ) → (Reclaims (one.seat c) → A) → (Reclaims (other.seat c) → A) → Reclaims ((if b then one else other).seat c) → A
still one other true c first second r = first r
still one other false c first second r = second r

-- a seat that reclaims after a quiet step did so before, or has won its local election
pub reclaims_from : (s : State) (c : ℕ) (k : Kind) → IsQuiet k → AllMet (move s c k).needs → Reclaims ((move s c k).outcome.next.seat c) → Reclaims (s.seat c) ⊎ (k ≡ ElectLocal)
unfolding move register unregister pin_look pin_set unpin take_look take_try show give_back hold touch defer_look defer_swap defer_link elect_local elect_global epoch_look scan_token advance spread collect walk release leave stack_look stack_next stack_pop stack_put hand_link home_swap home_link home_take home_walk is_reclaiming
reclaims_from s c (Register l n) quiet h r = either _ _ (s.words.token_word (record { locale = l; number = n }) == 0) c (λ r. absurd (false≢true (own_seat Reclaims s.seat c _ r))) inl r
reclaims_from s c Unregister quiet h r = absurd (false≢true (own_seat Reclaims s.seat c _ r))
reclaims_from s c PinLook quiet h r = absurd (false≢true (own_seat Reclaims s.seat c _ r))
reclaims_from s c PinSet quiet h r = absurd (false≢true (own_seat Reclaims s.seat c _ r))
reclaims_from s c Unpin quiet h r = absurd (false≢true (own_seat Reclaims s.seat c _ r))
reclaims_from s c (TakeLook l i) quiet h r = inl (own_seat Reclaims s.seat c _ r)
reclaims_from s c (TakeTry l i) quiet h r = absurd quiet
reclaims_from s c (Show q) quiet h r = absurd quiet
reclaims_from s c (Hold q) quiet h r = absurd quiet
reclaims_from s c (Touch q) quiet h r = absurd quiet
reclaims_from s c (Return q) quiet h r = absurd quiet
reclaims_from s c (DeferLook q) quiet h r = absurd quiet
reclaims_from s c DeferSwap quiet h r = absurd (false≢true (own_seat Reclaims s.seat c _ r))
reclaims_from s c DeferLink quiet h r = absurd (false≢true (own_seat Reclaims s.seat c _ r))
reclaims_from s c ElectLocal quiet h r = inr refl
reclaims_from s c ElectGlobal quiet h r = inl (ap is_reclaiming h.1.0)
reclaims_from s c EpochLook quiet h r = inl (ap is_reclaiming h.1.0)
reclaims_from s c ScanToken quiet h r = inl (ap is_reclaiming h.1.0.0)
reclaims_from s c Advance quiet h r = inl (ap is_reclaiming h.1.0.0)
reclaims_from s c Spread quiet h r = inl (ap is_reclaiming h.1.0.0)
reclaims_from s c Collect quiet h r = inl (ap is_reclaiming h.1.0.0)
reclaims_from s c Walk quiet h r = inl (ap is_reclaiming h.1.0.0)
reclaims_from s c (Release q) quiet h r = absurd quiet
reclaims_from s c Leave quiet h r = inl (may_leave_reclaims _ _ _ h.1.0.0)
reclaims_from s c (StackLook l) quiet h r = inl (own_seat Reclaims s.seat c _ r)
reclaims_from s c StackNext quiet h r = inl (own_seat Reclaims s.seat c _ r)
reclaims_from s c StackPop quiet h r = inl (either _ _ (same_head (s.words.free_head (s.seat c).stack.locale) (s.seat c).stack.head) c (own_seat Reclaims s.seat c _) (own_seat Reclaims s.seat c _) r)
reclaims_from s c (StackPut top tail) quiet h r = inl (either _ _ (same_head (s.words.free_head (s.seat c).stack.locale) (s.seat c).stack.head) c (own_seat Reclaims s.seat c _) (own_seat Reclaims s.seat c _) r)
reclaims_from s c (HandLink q word) quiet h r = inl r
reclaims_from s c (HomeSwap top tail) quiet h r = inl (own_seat Reclaims s.seat c _ r)
reclaims_from s c HomeLink quiet h r = inl (own_seat Reclaims s.seat c _ r)
reclaims_from s c (HomeTake l) quiet h r = inl (own_seat Reclaims s.seat c _ r)
reclaims_from s c HomeWalk quiet h r = inl (still _ _ (s.words.next (place_in ((s.seat c).homing.chain)) == pending) c (λ r. r) (own_seat Reclaims s.seat c _) r)

-- the row of a quiet kind is one of what its seat knows of itself
-- a step is quiet, or an object changes hands by it
pub quiet_or : (k : Kind) → IsMade k → IsQuiet k ⊎ Changes k
quiet_or (TakeTry l i) made = inr tt
quiet_or (Show q) made = inr tt
quiet_or (Return q) made = inr tt
quiet_or (DeferLook q) made = inr tt
quiet_or (Release q) made = inr tt
quiet_or (Hold q) made = absurd made
quiet_or (Touch q) made = absurd made
quiet_or _ made = inl tt

module _ {Self View Call Reply State' : Type 0} (K : ClientTerms Self View Call Reply State') where
  -- what a pass knows of the client is changed by an unpin alone
  pub unpin_or : (seat : Seat) (k : Kind) → IsQuiet k → (k ≡ Unpin) ⊎ ((view : View) → client_after K seat k view ≡ view)
  unpin_or seat (TakeTry l i) quiet = absurd quiet
  unpin_or seat (Show q) quiet = absurd quiet
  unpin_or seat (Hold q) quiet = absurd quiet
  unpin_or seat (Touch q) quiet = absurd quiet
  unpin_or seat (Return q) quiet = absurd quiet
  unpin_or seat (DeferLook q) quiet = absurd quiet
  unpin_or seat (Release q) quiet = absurd quiet
  unpin_or seat Unpin quiet = inl refl
  unpin_or seat _ quiet = inr (λ view. refl)

-- the number of seats is the same after any steps
pub seats_after : (s : State) (steps : List Step) → (state_after s steps).seats ≡ s.seats
seats_after s [] = refl
seats_after s (step ∷ steps) = seats_after ((outcome s step).next) steps ∙ seats_kept s step.seat step.kind
