-- A step does to its seat, and lists, what the seat and the one word that it finds say. No other seat is changed.
use Rattle.std.proofs.Common.{◌≡◌, ◌==◌, ◌<◌, ◌++◌, ℕ, true, refl, ap, sym, ◌∙◌, subst, inl, inr, ⊎_elim, arith}
use Rattle.std.specs.Prelude.{unwrap_or}
use Rattle.std.proofs.lemmas.Bool.{cases_Bool}
use Rattle.std.proofs.lemmas.Nat.{div-mul-add, mod-mul-add}
use Rattle.pool_core.specs.declared.headers.Header.{Header}
use Rattle.pool_core.specs.declared.headers.State.{State as HeaderState}
use Rattle.pool_core.specs.declared.headers.State.TheVariants.{Free, Own, Shown, Worn}
use Rattle.pool_core.specs.declared.free_words.FreeWord.{FreeWord}
use Rattle.pool_core.specs.Headers.{header_word, state_number}
use Rattle.pool_core.specs.FreeWords.{free_head_word}
use Rattle.epoch_laws.specs.declared.steps.Kind.{Kind}
use Rattle.epoch_laws.specs.declared.steps.Kind.TheVariants.{Register, Unregister, PinLook, PinSet, Unpin, TakeLook, TakeTry, Show, Hold, Touch, Return, DeferLook, DeferSwap, DeferLink, ElectLocal, ElectGlobal, EpochLook, ScanToken, Advance, Spread, Collect, Walk, Release, Leave, StackLook, StackNext, StackPop, StackPut, HandLink, HomeSwap, HomeLink, HomeTake, HomeWalk}
use Rattle.epoch_laws.specs.Chains.{IsLed}
use Rattle.epoch_laws.specs.Places.{Place, place_of, place_in, index_in, pending, is_among, with_number}
use Rattle.epoch_laws.specs.Seats.{Seat}
use Rattle.epoch_laws.specs.States.{State}
use Rattle.epoch_laws.specs.Needs.{AllMet}
use Rattle.epoch_laws.specs.TokenSteps.{register, unregister, pin_look, pin_set, unpin}
use Rattle.epoch_laws.specs.TakeSteps.{take_look, take_try, show, give_back, is_free_with, look_count}
use Rattle.epoch_laws.specs.HoldSteps.{hold, touch}
use Rattle.epoch_laws.specs.DeferralSteps.{defer_look, defer_swap, defer_link}
use Rattle.epoch_laws.specs.ReclaimSteps.{elect_local, elect_global, epoch_look, scan_token, advance, spread, collect, walk, release, leave, has_global, last_count}
use Rattle.epoch_laws.specs.StackSteps.{stack_look, stack_next, stack_pop, stack_put, hand_link, same_head}
use Rattle.epoch_laws.specs.HomeSteps.{home_swap, home_link, home_take, home_walk}
use Rattle.epoch_laws.specs.Steps.{move}
use Rattle.epoch_laws.proofs.Lists.{among-append}
use Rattle.epoch_table.specs.Deeds.{deed}
use Rattle.epoch_table.specs.Facts.{Facts, Keeps, AreFacts}
use Rattle.epoch_table.specs.Knowledge.{known_words, told, tells, Finds, IsOwnRow, AreAllKnown, IsKnown, Row}
use Rattle.epoch_table.specs.Numbers.{state_in, header_in, head_in}
use Rattle.epoch_table.specs.Rule.{AreSmall}
use Rattle.epoch_table.proofs.Chains.{AreAlike, led_in_alike}

state_number_in : (st : HeaderState) → state_in (state_number st) ≡ st
state_number_in Free = refl
state_number_in Own = refl
state_number_in Shown = refl
state_number_in Worn = refl

state_low : (st : HeaderState) → state_number st < 8
state_low Free = omega arith
state_low Own = omega arith
state_low Shown = omega arith
state_low Worn = omega arith

-- a header is read back from its word
pub header_read : (h : Header) → header_in (header_word h.count h.state) ≡ h
header_read h =
    let n = h.count in
    let st = h.state in
    λ i. record {
      count = div-mul-add n 8 (state_number st) (state_low st) i;
      state = (ap state_in (mod-mul-add n 8 (state_number st) (state_low st)) ∙ state_number_in st) i;
    }

-- and a free head, whose index fits
pub head_read : (h : FreeWord) → h.index < 16777216 → head_in (free_head_word h.count h.index) ≡ h
head_read h low = λ i. record { count = div-mul-add h.count 16777216 h.index low i; index = mod-mul-add h.count 16777216 h.index low i }

-- a header says what its word says
pub header_found : (h : Header) (found : ℕ) → header_word h.count h.state ≡ found → h ≡ header_in found
header_found h found e = sym (header_read h) ∙ ap header_in e

pub head_found : (h : FreeWord) (found : ℕ) → h.index < 16777216 → free_head_word h.count h.index ≡ found → h ≡ head_in found
head_found h found low e = sym (head_read h low) ∙ ap head_in e

-- the number of seats stays
pub seats_kept : (s : State) (c : ℕ) (k : Kind) → (move s c k).outcome.next.seats ≡ s.seats
unfolding move register unregister pin_look pin_set unpin take_look take_try show give_back hold touch defer_look defer_swap defer_link elect_local elect_global epoch_look scan_token advance spread collect walk release leave stack_look stack_next stack_pop stack_put hand_link home_swap home_link home_take home_walk
seats_kept s c (Register l n) = ⊎_elim (λ e. rw e refl) (λ e. rw e refl) (cases_Bool (s.words.token_word (record { locale = l; number = n }) == 0))
seats_kept s c Unregister = refl
seats_kept s c PinLook = refl
seats_kept s c PinSet = refl
seats_kept s c Unpin = refl
seats_kept s c (TakeLook l i) = refl
seats_kept s c (TakeTry l i) = ⊎_elim (λ e. rw e refl) (λ e. rw e refl) (cases_Bool (is_free_with (s.words.header (record { locale = l; index = i })) (look_count (s.seat c).free_look)))
seats_kept s c (Show q) = refl
seats_kept s c (Hold q) = refl
seats_kept s c (Touch q) = refl
seats_kept s c (Return q) = refl
seats_kept s c (DeferLook q) = refl
seats_kept s c DeferSwap = refl
seats_kept s c DeferLink = refl
seats_kept s c ElectLocal = ⊎_elim (λ e. rw e refl) (λ e. rw e refl) (cases_Bool (s.words.election_of (s.seat c).token.locale == 0))
seats_kept s c ElectGlobal = ⊎_elim (λ e. rw e refl) (λ e. rw e refl) (cases_Bool (s.words.election == 0))
seats_kept s c EpochLook = refl
seats_kept s c ScanToken = refl
seats_kept s c Advance = refl
seats_kept s c Spread = refl
seats_kept s c Collect = refl
seats_kept s c Walk = refl
seats_kept s c (Release q) = ⊎_elim (λ e. rw e refl) (λ e. rw e refl) (cases_Bool (q.count == last_count))
seats_kept s c Leave = ⊎_elim (λ e. rw e refl) (λ e. rw e refl) (cases_Bool (has_global (s.seat c).phase))
seats_kept s c (StackLook l) = refl
seats_kept s c StackNext = refl
seats_kept s c StackPop = ⊎_elim (λ e. rw e refl) (λ e. rw e refl) (cases_Bool (same_head (s.words.free_head (s.seat c).stack.locale) (s.seat c).stack.head))
seats_kept s c (StackPut top tail) = ⊎_elim (λ e. rw e refl) (λ e. rw e refl) (cases_Bool (same_head (s.words.free_head (s.seat c).stack.locale) (s.seat c).stack.head))
seats_kept s c (HandLink q word) = refl
seats_kept s c (HomeSwap top tail) = refl
seats_kept s c HomeLink = refl
seats_kept s c (HomeTake l) = refl
seats_kept s c HomeWalk = ⊎_elim (λ e. rw e refl) (λ e. rw e refl) (cases_Bool (s.words.next (place_in ((s.seat c).homing.chain)) == pending))

-- what is owned or held is kept
among_both : (p : Place) (seat : Seat) → is_among p (seat.owned ++ seat.held) ≡ true → Keeps seat p
among_both p seat h = ⊎_elim (λ o. inl (inl o)) (λ e. inr e) (among-append p seat.owned seat.held h)

-- what is known of the hand is so
hand_known : (s : State) (c : ℕ) (facts : Facts) (found : ℕ) → AreFacts s.words (s.seat c) facts → AreAllKnown facts (s.seat c).hand → AreAlike s.words (known_words facts found) (s.seat c).hand
hand_known s c facts found is all p among =
    let knows = all p among in
    let n = knows.0 in
    let w = knows.1 in (
      is.next p w.0 among w.1 ∙ sym (ap (λ x. unwrap_or x 0) w.1),
      is.count p n.0 (inl (inr (inl among))) n.1 ∙ sym (ap (λ x. unwrap_or x 0) n.1),
    )

-- a row that is one of what its seat knows is met where it is met of that
pub row_met : (s : State) (c : ℕ) (k : Kind) (facts : Facts) → IsOwnRow k → AreFacts s.words (s.seat c) facts → Row s.shape s.seats c (s.seat c) facts k → AllMet (move s c k).needs
unfolding move register unregister pin_look pin_set unpin take_look take_try show give_back hold touch defer_look defer_swap defer_link elect_local elect_global epoch_look scan_token advance spread collect walk release leave stack_look stack_next stack_pop stack_put hand_link home_swap home_link home_take home_walk
row_met s c (Show q) facts own is h =
    let n = h.0 in (n.0, (n.1.0, (n.1.1.0, (is.count (place_of q) q.count (inl (inl n.1.1.1.1.0)) h.1, n.1.1.1.1))))
row_met s c (Touch q) facts own is h =
    let n = h.0 in (n.0, (n.1.0, (n.1.1.0, (is.count (place_of q) q.count (among_both (place_of q) (s.seat c) n.1.1.1.1.0) h.1, n.1.1.1.1))))
row_met s c (Return q) facts own is h =
    let n = h.0 in (n.0, (n.1.0, (n.1.1.0, (is.count (place_of q) q.count (inl (inl n.1.1.1.1.0)) h.1, n.1.1.1.1))))
row_met s c (Release q) facts own is h =
    let n = h.0 in (n.0, (n.1.0, (n.1.1.0, (is.count (place_of q) q.count (inl (inr (inr n.1.1.1.1.0))) h.1, n.1.1.1.1))))
row_met s c (HandLink q word) facts own is h =
    let n = h.0 in (n.0, (n.1.0, (is.count (place_of q) q.count (inl (inr (inl n.1.1.1.0))) h.1, n.1.1.1)))
row_met s c (StackPut top tail) facts own is h =
    let n = h.0 in
    let seat = s.seat c in
    let alike = hand_known s c facts 0 is h.1 in
    let four = n.1.1.1.1 in
    let tops = four.1.1.0.0 in
    let tails = four.1.1.1.0.0 in (
      n.0,
      (
        n.1.0,
        (
          n.1.1.0,
          (
            n.1.1.1.0,
            (
              (alike (place_of top) tops).1 ∙ four.0,
              (
                (alike (place_of tail) tails).1 ∙ four.1.0,
                (
                  four.1.1.0,
                  (
                    four.1.1.1.0,
                    (
                      subst IsLed (sym (led_in_alike s.words (known_words facts 0) seat.hand (λ word. index_in word == seat.stack.head.index) (place_of top) (place_of tail) tops alike)) four.1.1.1.1.0,
                      tt,
                    ),
                  ),
                ),
              ),
            ),
          ),
        ),
      ),
    )
row_met s c (HomeSwap top tail) facts own is h =
    let n = h.0 in
    let seat = s.seat c in
    let alike = hand_known s c facts 0 is h.1 in
    let four = n.1.1.1.1 in
    let tops = four.1.1.0.0 in
    let tails = four.1.1.1.0.0 in (
      n.0,
      (
        n.1.0,
        (
          n.1.1.0,
          (
            n.1.1.1.0,
            (
              (alike (place_of top) tops).1 ∙ four.0,
              (
                (alike (place_of tail) tails).1 ∙ four.1.0,
                (
                  four.1.1.0,
                  (
                    four.1.1.1.0,
                    (
                      subst IsLed (sym (led_in_alike s.words (known_words facts 0) seat.hand (λ word. word == pending) (place_of top) (place_of tail) tops alike)) four.1.1.1.1.0,
                      tt,
                    ),
                  ),
                ),
              ),
            ),
          ),
        ),
      ),
    )
row_met s c (Hold q) facts own is h = absurd own
row_met s c (DeferLook q) facts own is h = absurd own
row_met s c _ facts own is h = h.0

-- what a step tells is what its seat and its word say
pub told_so : (s : State) (c : ℕ) (k : Kind) (facts : Facts) (found : ℕ) → AreSmall s → AllMet (move s c k).needs → AreFacts s.words (s.seat c) facts → IsKnown (s.seat c) facts k
    → Finds s.words (deed (s.seat c) k) found → told (move s c k).outcome c ≡ tells s.shape s.seats c (s.seat c) facts k found
unfolding move register unregister pin_look pin_set unpin take_look take_try show give_back hold touch defer_look defer_swap defer_link elect_local elect_global epoch_look scan_token advance spread collect walk release leave stack_look stack_next stack_pop stack_put hand_link home_swap home_link home_take home_walk with_number
told_so s c (Register l n) facts found small h is knows e = rw e (⊎_elim (λ b. rw b refl) (λ b. rw b refl) (cases_Bool (found == 0)))
told_so s c Unregister facts found small h is knows e = refl
told_so s c PinLook facts found small h is knows e = rw e refl
told_so s c PinSet facts found small h is knows e = refl
told_so s c Unpin facts found small h is knows e = refl
told_so s c (TakeLook l i) facts found small h is knows e = rw (header_found (s.words.header (record { locale = l; index = i })) found e) refl
told_so s c (TakeTry l i) facts found small h is knows e =
    rw (header_found (s.words.header (record { locale = l; index = i })) found e) (⊎_elim (λ b. rw b refl) (λ b. rw b refl) (cases_Bool (is_free_with (header_in found) (look_count (s.seat c).free_look))))
told_so s c (Show q) facts found small h is knows e = refl
told_so s c (Hold q) facts found small h is knows e = refl
told_so s c (Touch q) facts found small h is knows e = refl
told_so s c (Return q) facts found small h is knows e = refl
told_so s c (DeferLook q) facts found small h is knows e = rw e refl
told_so s c DeferSwap facts found small h is knows e = rw e refl
told_so s c DeferLink facts found small h is knows e = refl
told_so s c ElectLocal facts found small h is knows e = rw e (⊎_elim (λ b. rw b refl) (λ b. rw b refl) (cases_Bool (found == 0)))
told_so s c ElectGlobal facts found small h is knows e = rw e (⊎_elim (λ b. rw b refl) (λ b. rw b refl) (cases_Bool (found == 0)))
told_so s c EpochLook facts found small h is knows e = rw e refl
told_so s c ScanToken facts found small h is knows e = rw e refl
told_so s c Advance facts found small h is knows e = refl
told_so s c Spread facts found small h is knows e = refl
told_so s c Collect facts found small h is knows e = rw e refl
told_so s c Walk facts found small h is knows e = rw e refl
told_so s c (Release q) facts found small h is knows e = ⊎_elim (λ b. rw b refl) (λ b. rw b refl) (cases_Bool (q.count == last_count))
told_so s c Leave facts found small h is knows e = ⊎_elim (λ b. rw b refl) (λ b. rw b refl) (cases_Bool (has_global (s.seat c).phase))
told_so s c (StackLook l) facts found small h is knows e = rw (head_found (s.words.free_head l) found (small.heads l) e) refl
told_so s c StackNext facts found small h is knows e = rw e refl
told_so s c StackPop facts found small h is knows e =
    let l = (s.seat c).stack.locale in
    rw (head_found (s.words.free_head l) found (small.heads l) e) (⊎_elim (λ b. rw b refl) (λ b. rw b refl) (cases_Bool (same_head (head_in found) (s.seat c).stack.head)))
told_so s c (StackPut top tail) facts found small h is knows e =
    let seat = s.seat c in
    let l = seat.stack.locale in
    rw (
      head_found (s.words.free_head l) found (small.heads l) e,
      led_in_alike s.words (known_words facts found) seat.hand (λ word. index_in word == seat.stack.head.index) (place_of top) (place_of tail) h.1.1.1.1.1.1.0.0 (hand_known s c facts found is knows),
    )
    (⊎_elim (λ b. rw b refl) (λ b. rw b refl) (cases_Bool (same_head (head_in found) seat.stack.head)))
told_so s c (HandLink q word) facts found small h is knows e = refl
told_so s c (HomeSwap top tail) facts found small h is knows e =
    let seat = s.seat c in
    rw (e, led_in_alike s.words (known_words facts found) seat.hand (λ word. word == pending) (place_of top) (place_of tail) h.1.1.1.1.1.1.0.0 (hand_known s c facts found is knows)) refl
told_so s c HomeLink facts found small h is knows e = refl
told_so s c (HomeTake l) facts found small h is knows e = rw e refl
told_so s c HomeWalk facts found small h is knows e = rw e (⊎_elim (λ b. rw b refl) (λ b. rw b refl) (cases_Bool (found == pending)))
