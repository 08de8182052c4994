-- Which steps give an object back: only a Return.
use Rattle.std.proofs.Common.{◌≢◌, ◌==◌, ℕ, List, [], ◌∷◌, ◌++◌, refl, ⊎_elim}
use Rattle.std.proofs.lemmas.Bool.{cases_Bool}
use Rattle.pgas_base.specs.Pointers.{Pointer}
use Rattle.epoch_laws.specs.declared.events.EpochEvent.TheVariants.{Registered, Unregistered, Pinned, Unpinned, Given, Shown, Held, Deferred, Freed, Returned}
use Rattle.epoch_laws.specs.declared.events.Item.{Item}
use Rattle.epoch_laws.specs.declared.events.Item.TheVariants.{Event, Advance, Claim, Leave}
use Rattle.epoch_laws.specs.declared.steps.Kind.{Kind}
use Rattle.epoch_laws.specs.declared.steps.Kind.TheVariants.{Register, TakeTry, Return, ElectLocal, ElectGlobal, Leave as LeaveStep, StackPop, StackPut}
use Rattle.epoch_laws.specs.States.{State}
use Rattle.epoch_laws.specs.TokenSteps.{register, unregister, pin_look, pin_set, unpin}
use Rattle.epoch_laws.specs.TakeSteps.{take_look, take_try, show, give_back, is_free_with, look_count}
use Rattle.epoch_laws.specs.HoldSteps.{hold, touch}
use Rattle.epoch_laws.specs.DeferralSteps.{defer_look, defer_swap, defer_link}
use Rattle.epoch_laws.specs.ReclaimSteps.{elect_local, elect_global, epoch_look, scan_token, advance, spread, collect, walk, release, leave, has_global}
use Rattle.epoch_laws.specs.StackSteps.{stack_look, stack_next, stack_pop, stack_put, hand_link, same_head}
use Rattle.epoch_laws.specs.HomeSteps.{home_swap, home_link, home_take, home_walk}
use Rattle.epoch_laws.specs.Steps.{move}
use Rattle.epoch_table.specs.Events.{HasNoReturn}

-- no step but a give-back lists one
pub no_return : (s : State) (c : ℕ) (k : Kind) → ((q : Pointer) → k ≢ Return q) → HasNoReturn (move s c k).outcome.items
unfolding move register unregister pin_look pin_set unpin take_look take_try show give_back hold touch defer_look defer_swap defer_link elect_local elect_global epoch_look scan_token advance spread collect walk release leave stack_look stack_next stack_pop stack_put hand_link home_swap home_link home_take home_walk HasNoReturn
no_return s c (Register l n) other = ⊎_elim (λ b. rw b tt) (λ b. rw b tt) (cases_Bool (s.words.token_word (record { locale = l; number = n }) == 0))
no_return s c (TakeTry l i) other = ⊎_elim (λ b. rw b tt) (λ b. rw b tt) (cases_Bool (is_free_with (s.words.header (record { locale = l; index = i })) (look_count (s.seat c).free_look)))
no_return s c (Return q) other = absurd (other q refl)
no_return s c ElectLocal other = ⊎_elim (λ b. rw b tt) (λ b. rw b tt) (cases_Bool (s.words.election_of (s.seat c).token.locale == 0))
no_return s c ElectGlobal other = ⊎_elim (λ b. rw b tt) (λ b. rw b tt) (cases_Bool (s.words.election == 0))
no_return s c LeaveStep other = ⊎_elim (λ b. rw b tt) (λ b. rw b tt) (cases_Bool (has_global (s.seat c).phase))
no_return s c StackPop other = ⊎_elim (λ b. rw b tt) (λ b. rw b tt) (cases_Bool (same_head (s.words.free_head (s.seat c).stack.locale) (s.seat c).stack.head))
no_return s c (StackPut top tail) other = ⊎_elim (λ b. rw b tt) (λ b. rw b tt) (cases_Bool (same_head (s.words.free_head (s.seat c).stack.locale) (s.seat c).stack.head))
no_return s c _ other = tt

pub no_returns_then : (xs ys : List Item) → HasNoReturn xs → HasNoReturn ys → HasNoReturn (xs ++ ys)
unfolding HasNoReturn
no_returns_then [] ys a b = b
no_returns_then (Event c (Registered t) tag ∷ xs) ys a b = no_returns_then xs ys a b
no_returns_then (Event c (Unregistered t) tag ∷ xs) ys a b = no_returns_then xs ys a b
no_returns_then (Event c (Pinned t) tag ∷ xs) ys a b = no_returns_then xs ys a b
no_returns_then (Event c (Unpinned t) tag ∷ xs) ys a b = no_returns_then xs ys a b
no_returns_then (Event c (Given q) tag ∷ xs) ys a b = no_returns_then xs ys a b
no_returns_then (Event c (Shown q) tag ∷ xs) ys a b = no_returns_then xs ys a b
no_returns_then (Event c (Held t q) tag ∷ xs) ys a b = no_returns_then xs ys a b
no_returns_then (Event c (Deferred t q) tag ∷ xs) ys a b = no_returns_then xs ys a b
no_returns_then (Event c (Freed q) tag ∷ xs) ys a b = no_returns_then xs ys a b
no_returns_then (Event c (Returned q) tag ∷ xs) ys a b = absurd a
no_returns_then (Advance c e ∷ xs) ys a b = no_returns_then xs ys a b
no_returns_then (Claim c g ∷ xs) ys a b = no_returns_then xs ys a b
no_returns_then (Leave c g ∷ xs) ys a b = no_returns_then xs ys a b
