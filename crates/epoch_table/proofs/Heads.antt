-- A stack's head changes once for each object given, and once for each seat that has won since its last take.
use Rattle.std.proofs.Common.{◌≡◌, ◌≢◌, ◌==◌, ◌&&◌, ◌<◌, ◌≤◌, ◌+◌, ℕ, zero, suc, Bool, true, false, List, [], ◌∷◌, ◌++◌, refl, ap, ◌∙◌, ⊎_elim, arith}
use Rattle.std.proofs.lemmas.Bool.{cases_Bool, eqb-true}
use Rattle.std.proofs.lemmas.Bool.Decides.{eqb_tells}
use Rattle.pool_core.specs.declared.free_words.FreeWord.{FreeWord}
use Rattle.epoch_laws.specs.declared.events.EpochEvent.TheVariants.{Registered, Unregistered, Pinned, Unpinned, Given, Shown, Held, Deferred, Freed, Returned}
use Rattle.epoch_laws.specs.declared.events.Item.{Item}
use Rattle.epoch_laws.specs.declared.events.Item.TheVariants.{Event, Advance as Advances, Claim, Leave as Leaves}
use Rattle.epoch_laws.specs.declared.steps.Kind.{Kind}
use Rattle.epoch_laws.specs.declared.steps.Kind.TheVariants.{Register, TakeTry, ElectLocal, ElectGlobal, Release, Leave, StackPop, StackPut, HomeWalk}
use Rattle.epoch_laws.specs.Places.{Place, place_in, index_in, pending, with_number}
use Rattle.epoch_laws.specs.States.{State}
use Rattle.epoch_laws.specs.TokenSteps.{register, unregister, pin_look, pin_set, unpin}
use Rattle.epoch_laws.specs.TakeSteps.{take_look, take_try, show, give_back, is_free_with, look_count}
use Rattle.epoch_laws.specs.HoldSteps.{hold, touch}
use Rattle.epoch_laws.specs.DeferralSteps.{defer_look, defer_swap, defer_link}
use Rattle.epoch_laws.specs.ReclaimSteps.{elect_local, elect_global, epoch_look, scan_token, advance, spread, collect, walk, release, leave, has_global, last_count}
use Rattle.epoch_laws.specs.StackSteps.{stack_look, stack_next, stack_pop, stack_put, hand_link, same_head}
use Rattle.epoch_laws.specs.HomeSteps.{home_swap, home_link, home_take, home_walk}
use Rattle.epoch_laws.specs.Steps.{move}
use Rattle.epoch_laws.proofs.Updates.{at_number}
use Rattle.epoch_table.specs.declared.parts.Part.{Part}
use Rattle.epoch_table.specs.Clients.{ClientTerms}
use Rattle.epoch_table.specs.Deeds.{deed}
use Rattle.epoch_table.specs.Kinds.{Allows}
use Rattle.epoch_table.specs.Knowledge.{Finds}
use Rattle.epoch_table.specs.Numbers.{header_in, head_in}
use Rattle.epoch_table.specs.Rule.{AreSmall}
use Rattle.epoch_table.specs.Heads.{won_after, weight, winners, givens}
use Rattle.epoch_table.proofs.Knowledge.{header_found, head_found}

weight_low : (b : Bool) → weight b ≤ 1
weight_low true = omega arith
weight_low false = omega arith

winners_same : (n : ℕ) (old new : ℕ → Bool) → ((d : ℕ) → d < n → new d ≡ old d) → winners n new ≡ winners n old
unfolding winners
winners_same zero old new same = refl
winners_same (suc n) old new same =
    let rest = winners_same n old new (λ d low. same d (omega (arith, low))) in
    let one : weight (new n) ≡ weight (old n) = ap weight (same n (omega arith)) in
    omega (arith, rest, one)

-- the number of winners changes by one caller's
pub winners_one : (n c : ℕ) (old new : ℕ → Bool) → c < n → ((d : ℕ) → d ≢ c → new d ≡ old d) → winners n new + weight (old c) ≡ winners n old + weight (new c)
unfolding winners
winners_one zero c old new low same = absurd (omega (arith, low))
winners_one (suc n) c old new low same =
    ⊎_elim
    (λ h.
    let rest = winners_same n old new (λ d less. same d (λ e. let is : n ≡ c = h.1 in omega (arith, less, e, is))) in
    let ours : weight (old n) ≡ weight (old c) = ap (λ d. weight (old d)) h.1 in
    let mine : weight (new n) ≡ weight (new c) = ap (λ d. weight (new d)) h.1 in
    omega (arith, rest, ours, mine))
    (λ h.
    let ne = h.1 in
    let one : weight (new n) ≡ weight (old n) = ap weight (same n ne) in
    let rest = winners_one n c old new (omega (arith, low, ne)) same in
    omega (arith, one, rest))
    (eqb_tells n c)

winners_most : (n : ℕ) (won : ℕ → Bool) → winners n won ≤ n
unfolding winners
winners_most zero won = omega arith
winners_most (suc n) won = let rest = winners_most n won in let one = weight_low (won n) in omega (arith, rest, one)

-- where one hasn't won, only the others can have
pub winners_but : (n c : ℕ) (won : ℕ → Bool) → c < n → won c ≡ false → winners n won + 1 ≤ n
unfolding winners
winners_but zero c won low none = absurd (omega (arith, low))
winners_but (suc n) c won low none =
    ⊎_elim
    (λ h. let most = winners_most n won in let one : weight (won n) ≡ 0 = ap (λ d. weight (won d)) h.1 ∙ ap weight none in omega (arith, most, one))
    (λ h. let ne = h.1 in let rest = winners_but n c won (omega (arith, low, ne)) none in let one = weight_low (won n) in omega (arith, rest, one))
    (eqb_tells n c)

pub givens_then : (xs ys : List Item) → givens (xs ++ ys) ≡ givens xs + givens ys
unfolding givens
givens_then [] ys = omega arith
givens_then (Event c (Given q) tag ∷ xs) ys = let rest = givens_then xs ys in omega (arith, rest)
givens_then (Event c (Registered t) tag ∷ xs) ys = givens_then xs ys
givens_then (Event c (Unregistered t) tag ∷ xs) ys = givens_then xs ys
givens_then (Event c (Pinned t) tag ∷ xs) ys = givens_then xs ys
givens_then (Event c (Unpinned t) tag ∷ xs) ys = givens_then xs ys
givens_then (Event c (Shown q) tag ∷ xs) ys = givens_then xs ys
givens_then (Event c (Held t q) tag ∷ xs) ys = givens_then xs ys
givens_then (Event c (Deferred t q) tag ∷ xs) ys = givens_then xs ys
givens_then (Event c (Freed q) tag ∷ xs) ys = givens_then xs ys
givens_then (Event c (Returned q) tag ∷ xs) ys = givens_then xs ys
givens_then (Advances c e ∷ xs) ys = givens_then xs ys
givens_then (Claim c g ∷ xs) ys = givens_then xs ys
givens_then (Leaves c g ∷ xs) ys = givens_then xs ys

-- where an exchange of a head is allowed, the seat hasn't won before
abbrev pub WinsOnce : Kind → Bool → Type 0
WinsOnce StackPop won = won ≡ false
WinsOnce (StackPut top tail) won = won ≡ false
WinsOnce _ won = Unit {0}

pub wins_once : {Self View Call Reply State' : Type 0} (K : ClientTerms Self View Call Reply State') (k : Kind) (part : Part View) → Allows K k part → WinsOnce k part.won
wins_once K StackPop part allowed = allowed
wins_once K (StackPut top tail) part allowed = allowed
wins_once K _ part allowed = tt

no_more : (count weight more : ℕ) → count + weight ≤ count + more + weight
no_more count weight more = omega arith

module _ (s : State) (c : ℕ) (small : AreSmall s) (found : ℕ) (won : Bool) where
  first_true : (a b : Bool) → (a && b) ≡ true → a ≡ true
  first_true true b e = refl
  first_true false b e = e

  -- a won exchange of a head is paid for by the seat
  exchanged : (head new : FreeWord) (l : ℕ) → same_head (s.words.free_head l) head ≡ true → new.count ≡ head.count + 1 → won ≡ false
      → (k : ℕ) → (with_number s.words.free_head l new k).count + weight won ≤ (s.words.free_head k).count + 0 + 1
  exchanged head new l same one none =
      let none' : weight won ≡ 0 = ap weight none in
      let was : (s.words.free_head l).count ≡ head.count = eqb-true _ _ (first_true _ _ same) in
      at_number (λ k x. x.count + weight won ≤ (s.words.free_head k).count + 0 + 1) s.words.free_head l new (omega (arith, none', was, one)) (λ k ne. omega (arith, none'))

  pub pays : (k : Kind) → WinsOnce k won → Finds s.words (deed (s.seat c) k) found → (l : ℕ)
      → ((move s c k).outcome.next.words.free_head l).count + weight won ≤ (s.words.free_head l).count + givens (move s c k).outcome.items + weight (won_after (s.seat c) k won found)
  unfolding move register unregister pin_look pin_set unpin take_look take_try show give_back hold touch defer_look defer_swap defer_link elect_local elect_global epoch_look scan_token advance spread collect walk release leave stack_look stack_next stack_pop stack_put hand_link home_swap home_link home_take home_walk givens
  pays (Register l n) once e k = ⊎_elim (λ b. rw b (no_more _ _ _)) (λ b. rw b (no_more _ _ _)) (cases_Bool (s.words.token_word (record { locale = l; number = n }) == 0))
  pays (TakeTry l i) once e k =
      let p : Place = record { locale = l; index = i } in
      let low = weight_low won in
      rw (header_found (s.words.header p) found e)
      (⊎_elim (λ b. rw b (omega (arith, low))) (λ b. rw b (no_more _ _ _)) (cases_Bool (is_free_with (header_in found) (look_count (s.seat c).free_look))))
  pays ElectLocal once e k = ⊎_elim (λ b. rw b (no_more _ _ _)) (λ b. rw b (no_more _ _ _)) (cases_Bool (s.words.election_of (s.seat c).token.locale == 0))
  pays ElectGlobal once e k = ⊎_elim (λ b. rw b (no_more _ _ _)) (λ b. rw b (no_more _ _ _)) (cases_Bool (s.words.election == 0))
  pays (Release q) once e k = ⊎_elim (λ b. rw b (no_more _ _ _)) (λ b. rw b (no_more _ _ _)) (cases_Bool (q.count == last_count))
  pays Leave once e k = ⊎_elim (λ b. rw b (no_more _ _ _)) (λ b. rw b (no_more _ _ _)) (cases_Bool (has_global (s.seat c).phase))
  pays StackPop once e k =
      let look = (s.seat c).stack in
      let head = head_found (s.words.free_head look.locale) found (small.heads look.locale) e in
      rw head
      (⊎_elim
      (λ b. rw b (exchanged look.head (record { count = look.head.count + 1; index = index_in look.next }) look.locale (ap (λ h. same_head h look.head) head ∙ b) refl once k))
      (λ b. rw b (no_more _ _ _))
      (cases_Bool (same_head (head_in found) look.head)))
  pays (StackPut top tail) once e k =
      let look = (s.seat c).stack in
      let head = head_found (s.words.free_head look.locale) found (small.heads look.locale) e in
      rw head
      (⊎_elim
      (λ b. rw b (exchanged look.head (record { count = look.head.count + 1; index = top.index }) look.locale (ap (λ h. same_head h look.head) head ∙ b) refl once k))
      (λ b. rw b (no_more _ _ _))
      (cases_Bool (same_head (head_in found) look.head)))
  pays HomeWalk once e k = ⊎_elim (λ b. rw b (no_more _ _ _)) (λ b. rw b (no_more _ _ _)) (cases_Bool (s.words.next (place_in ((s.seat c).homing.chain)) == pending))
  pays _ once e k = no_more _ _ _
