-- Each local election is one seat's at most.
use Rattle.std.proofs.Common.{◌≡◌, ◌==◌, ℕ, false, ltb, Option, Some, None, refl, ap, sym, ◌∙◌, subst, ⊎_elim, arith}
use Rattle.std.proofs.lemmas.Bool.Decides.{eqb_tells}
use Rattle.pgas_base.specs.declared.shapes.Shape.{Shape}
use Rattle.pgas_base.specs.declared.starts.Start.{Start}
use Rattle.epoch_laws.specs.declared.steps.Kind.{Kind}
use Rattle.epoch_laws.specs.declared.steps.Kind.TheVariants.{Register, Unregister, PinLook, PinSet, Unpin, TakeLook, TakeTry, Show, Hold, Touch, Return, DeferLook, DeferSwap, DeferLink, ElectLocal, ElectGlobal, EpochLook, ScanToken, Advance, Spread, Collect, Walk, Release, Leave, StackLook, StackNext, StackPop, StackPut, HandLink, HomeSwap, HomeLink, HomeTake, HomeWalk}
use Rattle.epoch_laws.specs.Places.{place_in, pending, with_number}
use Rattle.epoch_laws.specs.Seats.{Phase, Idle, Registered, PinLooked, Pinned, DeferLooked, DeferSwapped, WonLocal, LostGlobal, WonGlobal, Scanning, Stopped, Advanced, LeftGlobal, Seat}
use Rattle.epoch_laws.specs.States.{State, opening, opening_words}
use Rattle.epoch_laws.specs.Needs.{AllMet}
use Rattle.epoch_laws.specs.TokenSteps.{register, unregister, pin_look, pin_set, unpin}
use Rattle.epoch_laws.specs.TakeSteps.{take_look, take_try, show, give_back, is_free_with, look_count}
use Rattle.epoch_laws.specs.HoldSteps.{hold, touch}
use Rattle.epoch_laws.specs.DeferralSteps.{defer_look, defer_swap, defer_link}
use Rattle.epoch_laws.specs.ReclaimSteps.{elect_local, elect_global, epoch_look, scan_token, advance, spread, collect, walk, release, leave, MayLeave, has_global, passes, last_epoch, last_count}
use Rattle.epoch_laws.specs.StackSteps.{stack_look, stack_next, stack_pop, stack_put, hand_link, same_head}
use Rattle.epoch_laws.specs.HomeSteps.{home_swap, home_link, home_take, home_walk}
use Rattle.epoch_laws.specs.Steps.{move}
use Rattle.epoch_laws.proofs.Updates.{number_here, number_there, at_number, part_kept, part_with}
use Rattle.epoch_laws.proofs.Lists.{truth}
pub use Rattle.epoch_laws.specs.Elections.{local, AreElected, IsElected}
unfoldable pub use Rattle.epoch_laws.specs.Elections.{local_at}

wins_local : (election_of : ℕ → ℕ) (locals : ℕ → Option ℕ) (c l : ℕ) → AreElected election_of locals → election_of l ≡ 0 → locals c ≡ None
    → AreElected (with_number election_of l 1) (with_number locals c (Some l))
wins_local election_of locals c l old none idle = record {
  won = λ d k e. at_number (λ j n. (j ≡ k) → n ≡ 1) election_of l 1 (λ _. refl)
      (λ j ne same.
      at_number (λ d x. x ≡ Some k → election_of j ≡ 1) locals c (Some l) (λ f. let is : l ≡ k = cc f in absurd (ne (same ∙ sym is))) (λ d nd f. old.won d j (f ∙ ap Some (sym same))) d e)
      k refl;
  alone = λ a b k ea eb.
      ⊎_elim
      (λ ha.
      ⊎_elim
      (λ hb. ha.1 ∙ sym hb.1)
      (λ hb. let nb = hb.1 in absurd (free b k (sym (number_there locals c (Some l) b nb) ∙ eb) (let is : l ≡ k = cc (ea, ap (with_number locals c (Some l)) ha.1, number_here locals c (Some l)) in is)))
      (eqb_tells b c))
      (λ ha.
      let na = ha.1 in
      ⊎_elim
      (λ hb. absurd (free a k (sym (number_there locals c (Some l) a na) ∙ ea) (let is : l ≡ k = cc (eb, ap (with_number locals c (Some l)) hb.1, number_here locals c (Some l)) in is)))
      (λ hb. let nb = hb.1 in old.alone a b k (sym (number_there locals c (Some l) a na) ∙ ea) (sym (number_there locals c (Some l) b nb) ∙ eb))
      (eqb_tells b c))
      (eqb_tells a c);
}
  where
    free : (d k : ℕ) → locals d ≡ Some k → l ≡ k → ⊥
    free d k e is = let one = old.won d k e in let z = ap election_of is in absurd (omega arith)

leaves_local : (election_of : ℕ → ℕ) (locals : ℕ → Option ℕ) (c l : ℕ) → AreElected election_of locals → locals c ≡ Some l
    → AreElected (with_number election_of l 0) (with_number locals c None)
leaves_local election_of locals c l old mine = record {
  won = λ d k e.
      at_number (λ d x. x ≡ Some k → with_number election_of l 0 k ≡ 1) locals c None (λ f. absurd (cc f))
      (λ d ne f. number_there election_of l 0 k (λ same. ne (old.alone d c l (f ∙ ap Some same) mine)) ∙ old.won d k f) d e;
  alone = λ a b k ea eb. old.alone a b k (before a k ea) (before b k eb);
}
  where
    before : (a k : ℕ) → with_number locals c None a ≡ Some k → locals a ≡ Some k
    before a k e = at_number (λ d x. x ≡ Some k → locals d ≡ Some k) locals c None (λ f. absurd (cc f)) (λ d ne f. f) a e

module _ (s : State) (elected : IsElected s) (c : ℕ) where
  -- a step that leaves the seat's part in local elections as it is
  same_local : (new : Seat) → local new ≡ local (s.seat c) → AreElected s.words.election_of (λ d. local (with_number s.seat c new d))
  same_local new e = subst (AreElected s.words.election_of) (sym (part_kept local s.seat c new e)) elected

  at_phase : (ph : Phase) → (s.seat c).phase ≡ ph → local_at ph (s.seat c).token ≡ local (s.seat c)
  at_phase ph e = sym (ap (λ x. local_at x (s.seat c).token) e)

  leave_elected : AllMet ((leave s c).needs) → IsElected ((leave s c).outcome.next)
  unfolding leave has_global local_at
  leave_elected h = go (s.seat c).phase refl h.1.0.0
    where
      here : (ph : Phase) → (s.seat c).phase ≡ ph → has_global ph ≡ false → local_at ph (s.seat c).token ≡ Some (s.seat c).token.locale → IsElected ((leave s c).outcome.next)
      here ph at none e =
          rw (ap has_global at ∙ none)
          (subst (AreElected (with_number s.words.election_of (s.seat c).token.locale 0)) (sym (part_with local s.seat c (record (s.seat c) { phase = Registered })))
          (leaves_local s.words.election_of (λ d. local (s.seat d)) c (s.seat c).token.locale elected (sym (at_phase ph at) ∙ e)))

      go : (ph : Phase) → (s.seat c).phase ≡ ph → MayLeave s.shape.locales (s.seat c).phase (s.seat c).reclaim → IsElected ((leave s c).outcome.next)
      go LostGlobal at may = here LostGlobal at refl refl
      go LeftGlobal at may = here LeftGlobal at refl refl
      go Stopped at may = rw (ap has_global at) (same_local _ (at_phase Stopped at))
      go Advanced at may = rw (ap has_global at) (same_local _ (at_phase Advanced at))
      go Idle at may = absurd (subst (λ ph. MayLeave s.shape.locales ph (s.seat c).reclaim) at may)
      go Registered at may = absurd (subst (λ ph. MayLeave s.shape.locales ph (s.seat c).reclaim) at may)
      go PinLooked at may = absurd (subst (λ ph. MayLeave s.shape.locales ph (s.seat c).reclaim) at may)
      go Pinned at may = absurd (subst (λ ph. MayLeave s.shape.locales ph (s.seat c).reclaim) at may)
      go DeferLooked at may = absurd (subst (λ ph. MayLeave s.shape.locales ph (s.seat c).reclaim) at may)
      go DeferSwapped at may = absurd (subst (λ ph. MayLeave s.shape.locales ph (s.seat c).reclaim) at may)
      go WonLocal at may = absurd (subst (λ ph. MayLeave s.shape.locales ph (s.seat c).reclaim) at may)
      go WonGlobal at may = absurd (subst (λ ph. MayLeave s.shape.locales ph (s.seat c).reclaim) at may)
      go Scanning at may = absurd (subst (λ ph. MayLeave s.shape.locales ph (s.seat c).reclaim) at may)

  pub move_elected : (k : Kind) → AllMet ((move s c k).needs) → IsElected ((move s c k).outcome.next)
  unfolding move register unregister pin_look pin_set unpin take_look take_try show give_back hold touch defer_look defer_swap defer_link elect_local elect_global epoch_look scan_token advance spread collect walk release stack_look stack_next stack_pop stack_put hand_link home_swap home_link home_take home_walk local_at
  move_elected (Register l n) h = ⊎_elim (λ z. rw z (same_local _ (at_phase Idle h.1.1.1.0))) (λ z. rw z elected) (truth (s.words.token_word (record { locale = l; number = n }) == 0))
  move_elected Unregister h = same_local _ (at_phase Registered h.1.0)
  move_elected PinLook h = same_local _ (at_phase Registered h.1.0)
  move_elected PinSet h = same_local _ (at_phase PinLooked h.1.0)
  move_elected Unpin h = same_local _ (at_phase Pinned h.1.0)
  move_elected (TakeLook l i) h = same_local _ refl
  move_elected (TakeTry l i) h = ⊎_elim (λ z. rw z (same_local _ refl)) (λ z. rw z elected) (truth (is_free_with (s.words.header (record { locale = l; index = i })) (look_count (s.seat c).free_look)))
  move_elected (Show q) h = same_local _ refl
  move_elected (Hold q) h = same_local _ refl
  move_elected (Touch q) h = elected
  move_elected (Return q) h = same_local _ refl
  move_elected (DeferLook q) h = same_local _ (at_phase Pinned h.1.1.0)
  move_elected DeferSwap h = same_local _ (at_phase DeferLooked h.1.0)
  move_elected DeferLink h = same_local _ (at_phase DeferSwapped h.1.0)
  move_elected ElectLocal h =
      ⊎_elim
      (λ z. rw z.0 (subst (AreElected (with_number s.words.election_of (s.seat c).token.locale 1)) (sym (part_with local s.seat c _))
      (wins_local s.words.election_of (λ d. local (s.seat d)) c (s.seat c).token.locale elected z.1 (sym (at_phase Registered h.1.0)))))
      (λ z. rw z.0 elected)
      (eqb_tells (s.words.election_of (s.seat c).token.locale) 0)
  move_elected ElectGlobal h = ⊎_elim (λ z. rw z (same_local _ (at_phase WonLocal h.1.0))) (λ z. rw z (same_local _ (at_phase WonLocal h.1.0))) (truth (s.words.election == 0))
  move_elected EpochLook h = ⊎_elim (λ z. rw z (same_local _ (at_phase WonGlobal h.1.0))) (λ z. rw z (same_local _ (at_phase WonGlobal h.1.0))) (truth (ltb s.words.epoch last_epoch))
  move_elected ScanToken h =
      ⊎_elim (λ z. rw z (same_local _ refl)) (λ z. rw z (same_local _ (at_phase Scanning h.1.0.0))) (truth (passes (s.seat c).reclaim.epoch (s.words.token_word ((s.seat c).reclaim.scan))))
  move_elected Advance h = same_local _ (at_phase Scanning h.1.0.0)
  move_elected Spread h = same_local _ refl
  move_elected Collect h = same_local _ refl
  move_elected Walk h = same_local _ refl
  move_elected (Release q) h = ⊎_elim (λ z. rw z (same_local _ refl)) (λ z. rw z (same_local _ refl)) (truth (q.count == last_count))
  move_elected Leave h = leave_elected h
  move_elected (StackLook l) h = same_local _ refl
  move_elected StackNext h = same_local _ refl
  move_elected StackPop h = ⊎_elim (λ z. rw z (same_local _ refl)) (λ z. rw z (same_local _ refl)) (truth (same_head (s.words.free_head (s.seat c).stack.locale) (s.seat c).stack.head))
  move_elected (StackPut top tail) h = ⊎_elim (λ z. rw z (same_local _ refl)) (λ z. rw z (same_local _ refl)) (truth (same_head (s.words.free_head (s.seat c).stack.locale) (s.seat c).stack.head))
  move_elected (HandLink q word) h = elected
  move_elected (HomeSwap top tail) h = same_local _ refl
  move_elected HomeLink h = same_local _ refl
  move_elected (HomeTake l) h = same_local _ refl
  move_elected HomeWalk h = ⊎_elim (λ z. rw z elected) (λ z. rw z (same_local _ refl)) (truth (s.words.next (place_in ((s.seat c).homing.chain)) == pending))

pub opening_elected : (shape : Shape) (start : Start) (seats : ℕ) → IsElected (opening shape start seats)
unfolding opening opening_words local_at
opening_elected shape start seats = record { won = λ c l e. absurd (cc e); alone = λ c d l e f. absurd (cc e) }
