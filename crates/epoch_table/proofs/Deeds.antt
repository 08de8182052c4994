-- Each kind of step of the machine changes the words as its step on one word does.
use Rattle.std.proofs.Common.{◌≡◌, ◌≢◌, ◌==◌, ◌<◌, ◌+◌, ℕ, true, false, Option, Some, None, refl, ap, sym, ◌∙◌, subst, ⊎_elim, arith}
use Rattle.std.proofs.lemmas.Bool.{cases_Bool}
use Rattle.std.proofs.lemmas.Bool.Decides.{eqb_tells}
use Rattle.std.specs.Prelude.{MatchBool}
use Rattle.pgas_base.specs.Pointers.{Pointer}
use Rattle.pool_core.specs.declared.headers.Header.{Header}
use Rattle.pool_core.specs.declared.headers.State.{State as HeaderState}
use Rattle.pool_core.specs.declared.headers.State.TheVariants.{Free, Own, Shown, Worn}
use Rattle.pool_core.specs.declared.free_words.FreeWord.{FreeWord}
use Rattle.pool_core.specs.Headers.{header_word}
use Rattle.pool_core.specs.FreeWords.{free_head_word}
use Rattle.epoch_laws.specs.declared.tokens.Token.{Token}
use Rattle.epoch_laws.specs.declared.steps.Kind.{Kind}
use Rattle.epoch_laws.specs.declared.steps.Kind.TheVariants.{Register, Unregister, PinLook, PinSet, Unpin, TakeLook, TakeTry, Show, Hold, Touch, Return, DeferLook, DeferSwap, DeferLink, ElectLocal, ElectGlobal, EpochLook, ScanToken, Advance, Spread, Collect, Walk, Release, Leave, StackLook, StackNext, StackPop, StackPut, HandLink, HomeSwap, HomeLink, HomeTake, HomeWalk}
use Rattle.epoch_laws.specs.Places.{Place, place_of, place_in, index_in, pending, with_number, with_place, with_token}
use Rattle.epoch_laws.specs.Words.{Words, WordName, global_epoch, global_election, local_epoch, local_election, list, free_stack, home_chain, token, header_of, next_of, word_at}
use Rattle.epoch_laws.specs.States.{State}
use Rattle.epoch_laws.specs.TokenSteps.{register, unregister, pin_look, pin_set, unpin}
use Rattle.epoch_laws.specs.TakeSteps.{take_look, take_try, show, give_back, is_free, is_free_with, look_count}
use Rattle.epoch_laws.specs.HoldSteps.{hold, touch}
use Rattle.epoch_laws.specs.DeferralSteps.{defer_look, defer_swap, defer_link, with_list}
use Rattle.epoch_laws.specs.ReclaimSteps.{elect_local, elect_global, epoch_look, scan_token, advance, spread, collect, walk, release, leave, has_global, last_count}
use Rattle.epoch_laws.specs.StackSteps.{stack_look, stack_next, stack_pop, stack_put, hand_link, same_head}
use Rattle.epoch_laws.specs.HomeSteps.{home_swap, home_link, home_take, home_walk, with_link}
use Rattle.epoch_laws.specs.Steps.{move}
use Rattle.epoch_laws.proofs.Updates.{number_here, number_there, place_here, place_there, token_here, token_there}
use Rattle.epoch_table.specs.Rule.{AreSmall}
use Rattle.epoch_table.specs.Deeds.{deed, tail_linked, Writes, Does}

-- a test of two numbers, where they are the same and where they differ
same_number : (x y : ℕ) → x ≡ y → (x == y) ≡ true
same_number x y e = ⊎_elim (λ h. h.0) (λ h. let ne = h.1 in absurd (ne e)) (eqb_tells x y)

other_number : (x y : ℕ) → x ≢ y → (x == y) ≡ false
other_number x y ne = ⊎_elim (λ h. absurd (ne h.1)) (λ h. h.0) (eqb_tells x y)

free_tells : (n m : ℕ) → (header_word n Free == header_word m Free) ≡ (n == m)
free_tells n m =
    ⊎_elim
    (λ h. same_number (header_word n Free) (header_word m Free) (ap (λ k. header_word k Free) h.1) ∙ sym h.0)
    (λ h. let ne = h.1 in other_number (header_word n Free) (header_word m Free) (λ e. ne (omega (arith, e))) ∙ sym h.0)
    (eqb_tells n m)

-- a header's word is that of a free one with this count just where the header says so
pub free_word_tells : (n : ℕ) (st : HeaderState) (m : ℕ) → (header_word n st == header_word m Free) ≡ is_free_with (record { count = n; state = st }) m
unfolding is_free
free_word_tells n Free m = free_tells n m
free_word_tells n Own m = other_number _ _ (λ e. absurd (omega (arith, e)))
free_word_tells n Shown m = other_number _ _ (λ e. absurd (omega (arith, e)))
free_word_tells n Worn m = other_number _ _ (λ e. absurd (omega (arith, e)))

-- the words of two small heads are the same just where the heads are
pub head_word_tells : (a b : FreeWord) → a.index < 16777216 → b.index < 16777216 → (free_head_word a.count a.index == free_head_word b.count b.index) ≡ same_head a b
head_word_tells a b la lb =
    ⊎_elim
    (λ h.
    let e : free_head_word a.count a.index ≡ free_head_word b.count b.index = h.1 in
    let counts : a.count ≡ b.count = omega (arith, la, lb, e) in
    let indexes : a.index ≡ b.index = omega (arith, la, lb, e) in
    h.0 ∙ sym (rw (same_number a.count b.count counts, same_number a.index b.index indexes) refl))
    (λ h.
    let ne = h.1 in
    h.0
    ∙ sym
    (⊎_elim
    (λ k. ⊎_elim (λ j. absurd (ne (ap (λ x. free_head_word x a.index) k.1 ∙ ap (λ x. free_head_word b.count x) j.1))) (λ j. rw (k.0, j.0) refl) (eqb_tells a.index b.index))
    (λ k. rw k.0 refl)
    (eqb_tells a.count b.count)))
    (eqb_tells (free_head_word a.count a.index) (free_head_word b.count b.index))

list_here : (heads : ℕ → ℕ → ℕ) (l m number : ℕ) → with_list heads l m number l m ≡ number
unfolding with_list
list_here heads l m number = rw (same_number l l refl, same_number m m refl) refl

list_there : (heads : ℕ → ℕ → ℕ) (l m number k i : ℕ) → list k i ≢ list l m → with_list heads l m number k i ≡ heads k i
unfolding with_list
list_there heads l m number k i ne =
    ⊎_elim (λ a. ⊎_elim (λ b. absurd (ne (ap (λ x. list x i) a.1 ∙ ap (λ x. list l x) b.1))) (λ b. rw (a.0, b.0) refl) (eqb_tells i m)) (λ a. rw a.0 refl) (eqb_tells k l)

module _ (words : Words) where
  pub writes_epoch : (number : ℕ) → Writes words global_epoch number (record words { epoch = number })
  writes_epoch number = record { here = refl; there = there }
    where
      there : (other : WordName) → other ≢ global_epoch → word_at (record words { epoch = number }) other ≡ word_at words other
      there global_epoch ne = absurd (ne refl)
      there global_election ne = refl
      there (local_epoch k) ne = refl
      there (local_election k) ne = refl
      there (list k i) ne = refl
      there (free_stack k) ne = refl
      there (home_chain k) ne = refl
      there (token u) ne = refl
      there (header_of q) ne = refl
      there (next_of q) ne = refl

  pub writes_election : (number : ℕ) → Writes words global_election number (record words { election = number })
  writes_election number = record { here = refl; there = there }
    where
      there : (other : WordName) → other ≢ global_election → word_at (record words { election = number }) other ≡ word_at words other
      there global_epoch ne = refl
      there global_election ne = absurd (ne refl)
      there (local_epoch k) ne = refl
      there (local_election k) ne = refl
      there (list k i) ne = refl
      there (free_stack k) ne = refl
      there (home_chain k) ne = refl
      there (token u) ne = refl
      there (header_of q) ne = refl
      there (next_of q) ne = refl

  pub writes_local_epoch : (l : ℕ) (number : ℕ) → Writes words (local_epoch l) number (record words { epoch_of = with_number words.epoch_of l number })
  writes_local_epoch l number = record { here = number_here words.epoch_of l number; there = there }
    where
      there : (other : WordName) → other ≢ (local_epoch l) → word_at (record words { epoch_of = with_number words.epoch_of l number }) other ≡ word_at words other
      there global_epoch ne = refl
      there global_election ne = refl
      there (local_epoch k) ne = number_there words.epoch_of l number k (λ e. ne (ap local_epoch e))
      there (local_election k) ne = refl
      there (list k i) ne = refl
      there (free_stack k) ne = refl
      there (home_chain k) ne = refl
      there (token u) ne = refl
      there (header_of q) ne = refl
      there (next_of q) ne = refl

  pub writes_local_election : (l : ℕ) (number : ℕ) → Writes words (local_election l) number (record words { election_of = with_number words.election_of l number })
  writes_local_election l number = record { here = number_here words.election_of l number; there = there }
    where
      there : (other : WordName) → other ≢ (local_election l) → word_at (record words { election_of = with_number words.election_of l number }) other ≡ word_at words other
      there global_epoch ne = refl
      there global_election ne = refl
      there (local_epoch k) ne = refl
      there (local_election k) ne = number_there words.election_of l number k (λ e. ne (ap local_election e))
      there (list k i) ne = refl
      there (free_stack k) ne = refl
      there (home_chain k) ne = refl
      there (token u) ne = refl
      there (header_of q) ne = refl
      there (next_of q) ne = refl

  pub writes_home : (l : ℕ) (number : ℕ) → Writes words (home_chain l) number (record words { home_head = with_number words.home_head l number })
  writes_home l number = record { here = number_here words.home_head l number; there = there }
    where
      there : (other : WordName) → other ≢ (home_chain l) → word_at (record words { home_head = with_number words.home_head l number }) other ≡ word_at words other
      there global_epoch ne = refl
      there global_election ne = refl
      there (local_epoch k) ne = refl
      there (local_election k) ne = refl
      there (list k i) ne = refl
      there (free_stack k) ne = refl
      there (home_chain k) ne = number_there words.home_head l number k (λ e. ne (ap home_chain e))
      there (token u) ne = refl
      there (header_of q) ne = refl
      there (next_of q) ne = refl

  pub writes_token : (t : Token) (number : ℕ) → Writes words (token t) number (record words { token_word = with_token words.token_word t number })
  writes_token t number = record { here = token_here words.token_word t number; there = there }
    where
      there : (other : WordName) → other ≢ (token t) → word_at (record words { token_word = with_token words.token_word t number }) other ≡ word_at words other
      there global_epoch ne = refl
      there global_election ne = refl
      there (local_epoch k) ne = refl
      there (local_election k) ne = refl
      there (list k i) ne = refl
      there (free_stack k) ne = refl
      there (home_chain k) ne = refl
      there (token u) ne = token_there words.token_word t number u (λ e. ne (ap token e))
      there (header_of q) ne = refl
      there (next_of q) ne = refl

  pub writes_next : (p : Place) (number : ℕ) → Writes words (next_of p) number (record words { next = with_place words.next p number })
  writes_next p number = record { here = place_here words.next p number; there = there }
    where
      there : (other : WordName) → other ≢ (next_of p) → word_at (record words { next = with_place words.next p number }) other ≡ word_at words other
      there global_epoch ne = refl
      there global_election ne = refl
      there (local_epoch k) ne = refl
      there (local_election k) ne = refl
      there (list k i) ne = refl
      there (free_stack k) ne = refl
      there (home_chain k) ne = refl
      there (token u) ne = refl
      there (header_of q) ne = refl
      there (next_of q) ne = place_there words.next p number q (λ e. ne (ap next_of e))

  pub writes_header : (p : Place) (header : Header) → Writes words (header_of p) (header_word header.count header.state) (record words { header = with_place words.header p header })
  writes_header p header = record { here = ap (λ h. header_word h.count h.state) (place_here words.header p header); there = there }
    where
      there : (other : WordName) → other ≢ header_of p → word_at (record words { header = with_place words.header p header }) other ≡ word_at words other
      there global_epoch ne = refl
      there global_election ne = refl
      there (local_epoch k) ne = refl
      there (local_election k) ne = refl
      there (list k i) ne = refl
      there (free_stack k) ne = refl
      there (home_chain k) ne = refl
      there (token u) ne = refl
      there (header_of q) ne = ap (λ h. header_word h.count h.state) (place_there words.header p header q (λ e. ne (ap header_of e)))
      there (next_of q) ne = refl

  pub writes_stack : (l : ℕ) (head : FreeWord) → Writes words (free_stack l) (free_head_word head.count head.index) (record words { free_head = with_number words.free_head l head })
  writes_stack l head = record { here = ap (λ h. free_head_word h.count h.index) (number_here words.free_head l head); there = there }
    where
      there : (other : WordName) → other ≢ free_stack l → word_at (record words { free_head = with_number words.free_head l head }) other ≡ word_at words other
      there global_epoch ne = refl
      there global_election ne = refl
      there (local_epoch k) ne = refl
      there (local_election k) ne = refl
      there (list k i) ne = refl
      there (free_stack k) ne = ap (λ h. free_head_word h.count h.index) (number_there words.free_head l head k (λ e. ne (ap free_stack e)))
      there (home_chain k) ne = refl
      there (token u) ne = refl
      there (header_of q) ne = refl
      there (next_of q) ne = refl

  pub writes_list : (l m number : ℕ) → Writes words (list l m) number (record words { list_head = with_list words.list_head l m number })
  writes_list l m number = record { here = list_here words.list_head l m number; there = there }
    where
      there : (other : WordName) → other ≢ list l m → word_at (record words { list_head = with_list words.list_head l m number }) other ≡ word_at words other
      there global_epoch ne = refl
      there global_election ne = refl
      there (local_epoch k) ne = refl
      there (local_election k) ne = refl
      there (list k i) ne = list_there words.list_head l m number k i ne
      there (free_stack k) ne = refl
      there (home_chain k) ne = refl
      there (token u) ne = refl
      there (header_of q) ne = refl
      there (next_of q) ne = refl

  writes_link : (tail : Option Place) (number : ℕ) → Does words (tail_linked tail number) (record words { next = with_link words.next tail number })
  unfolding with_link
  writes_link None number = refl
  writes_link (Some p) number = writes_next p number

module _ (s : State) (small : AreSmall s) (c : ℕ) where
  -- the words after a step, where a test decides whether it writes
  pop_does : Does s.words (deed (s.seat c) StackPop) (stack_pop s c).outcome.next.words
  unfolding stack_pop
  pop_does =
      let look = (s.seat c).stack in
      let head = s.words.free_head look.locale in
      subst (λ b. MatchBool b (Writes s.words (free_stack look.locale) (free_head_word (look.head.count + 1) (index_in look.next)) (stack_pop s c).outcome.next.words) ((stack_pop s c).outcome.next.words ≡ s.words))
      (sym (head_word_tells head look.head (small.heads look.locale) (small.looks c)))
      (⊎_elim (λ e. rw e (writes_stack s.words look.locale (record { count = look.head.count + 1; index = index_in look.next }))) (λ e. rw e refl) (cases_Bool (same_head head look.head)))

  put_does : (top tail : Pointer) → Does s.words (deed (s.seat c) (StackPut top tail)) (stack_put s c top tail).outcome.next.words
  unfolding stack_put
  put_does top tail =
      let look = (s.seat c).stack in
      let head = s.words.free_head look.locale in
      subst (λ b. MatchBool b (Writes s.words (free_stack look.locale) (free_head_word (look.head.count + 1) top.index) (stack_put s c top tail).outcome.next.words) ((stack_put s c top tail).outcome.next.words ≡ s.words))
      (sym (head_word_tells head look.head (small.heads look.locale) (small.looks c)))
      (⊎_elim (λ e. rw e (writes_stack s.words look.locale (record { count = look.head.count + 1; index = top.index }))) (λ e. rw e refl) (cases_Bool (same_head head look.head)))

  try_does : (l i : ℕ) → Does s.words (deed (s.seat c) (TakeTry l i)) (take_try s c (record { locale = l; index = i })).outcome.next.words
  unfolding take_try
  try_does l i =
      let p : Place = record { locale = l; index = i } in
      let count = look_count (s.seat c).free_look in
      subst (λ b. MatchBool b (Writes s.words (header_of p) (header_word count Own) (take_try s c p).outcome.next.words) ((take_try s c p).outcome.next.words ≡ s.words))
      (sym (free_word_tells (s.words.header p).count (s.words.header p).state count))
      (⊎_elim (λ e. rw e (writes_header s.words p (record { count = count; state = Own }))) (λ e. rw e refl) (cases_Bool (is_free_with (s.words.header p) count)))

  -- each kind of step is a step on one word
  pub does : (k : Kind) → Does s.words (deed (s.seat c) k) (move s c k).outcome.next.words
  unfolding move register unregister pin_look pin_set unpin take_look show give_back hold touch defer_look defer_swap defer_link elect_local elect_global epoch_look scan_token advance spread collect walk release leave stack_look stack_next hand_link home_swap home_link home_take home_walk
  does (Register l n) =
      let t : Token = record { locale = l; number = n } in ⊎_elim (λ e. rw e (writes_token s.words t 1)) (λ e. rw e refl) (cases_Bool (s.words.token_word t == 0))
  does Unregister = writes_token s.words (s.seat c).token 0
  does PinLook = refl
  does PinSet = writes_token s.words (s.seat c).token ((s.seat c).announced + 2)
  does Unpin = writes_token s.words (s.seat c).token 1
  does (TakeLook l i) = refl
  does (TakeTry l i) = try_does l i
  does (Show q) = writes_header s.words (place_of q) (record { count = q.count; state = Shown })
  does (Hold q) = refl
  does (Touch q) = refl
  does (Return q) = writes_header s.words (place_of q) (record { count = q.count; state = Free })
  does (DeferLook q) = refl
  does DeferSwap = writes_list s.words _ _ _
  does DeferLink = writes_next s.words _ _
  does ElectLocal =
      let l = (s.seat c).token.locale in ⊎_elim (λ e. rw e (writes_local_election s.words l 1)) (λ e. rw e refl) (cases_Bool (s.words.election_of l == 0))
  does ElectGlobal = ⊎_elim (λ e. rw e (writes_election s.words 1)) (λ e. rw e refl) (cases_Bool (s.words.election == 0))
  does EpochLook = refl
  does ScanToken = refl
  does Advance = writes_epoch s.words _
  does Spread = writes_local_epoch s.words _ _
  does Collect = writes_list s.words _ _ _
  does Walk = refl
  does (Release q) =
      ⊎_elim
      (λ e. rw e (writes_header s.words (place_of q) (record { count = q.count; state = Worn })))
      (λ e. rw e (writes_header s.words (place_of q) (record { count = q.count + 1; state = Free })))
      (cases_Bool (q.count == last_count))
  does Leave =
      ⊎_elim (λ e. rw e (writes_election s.words 0)) (λ e. rw e (writes_local_election s.words _ 0)) (cases_Bool (has_global (s.seat c).phase))
  does (StackLook l) = refl
  does StackNext = refl
  does StackPop = pop_does
  does (StackPut top tail) = put_does top tail
  does (HandLink q word) = writes_next s.words (place_of q) word
  does (HomeSwap top tail) = writes_home s.words top.locale _
  does HomeLink = writes_link s.words (s.seat c).homing.tail (s.seat c).homing.old
  does (HomeTake l) = writes_home s.words l 0
  does HomeWalk = ⊎_elim (λ e. rw e refl) (λ e. rw e refl) (cases_Bool (s.words.next (place_in ((s.seat c).homing.chain)) == pending))
