-- What the items of a run say of its words is what stands there.
use Rattle.std.proofs.Common.{◌≡◌, ◌==◌, ℕ, ◌+◌, List, [], ◌++◌, fold, refl, ap, sym, ◌∙◌, ⊎_elim}
use Rattle.std.proofs.lemmas.Bool.{eqb-true, and_parts}
use Rattle.std.proofs.lemmas.List.Sums.{fold-append}
use Rattle.pgas_base.specs.declared.shapes.Shape.{Shape}
use Rattle.pgas_base.specs.declared.starts.Start.{Start}
use Rattle.pgas_base.specs.Pointers.{Pointer}
use Rattle.pool_core.specs.declared.headers.Header.{Header}
use Rattle.pool_core.specs.declared.headers.State.{State as HeaderState}
use Rattle.pool_core.specs.declared.headers.State.TheVariants.{Free, Own, Shown, Worn}
use Rattle.epoch_laws.specs.declared.tokens.Token.{Token}
use Rattle.epoch_laws.specs.declared.events.Item.{Item}
use Rattle.epoch_laws.specs.declared.steps.Kind.{Kind}
use Rattle.epoch_laws.specs.declared.steps.Kind.TheVariants.{Register, Unregister, PinLook, PinSet, Unpin, TakeLook, TakeTry, Show, Hold, Touch, Return, DeferLook, DeferSwap, DeferLink, ElectLocal, ElectGlobal, EpochLook, ScanToken, Advance, Spread, Collect, Walk, Release, Leave, StackLook, StackNext, StackPop, StackPut, HandLink, HomeSwap, HomeLink, HomeTake, HomeWalk}
use Rattle.epoch_laws.specs.Places.{Place, place_of, place_in, pointer_at, pending, with_number, with_place, with_token}
use Rattle.epoch_laws.specs.Seats.{Registered, Seat}
use Rattle.epoch_laws.specs.States.{State, opening, opening_words}
use Rattle.epoch_laws.specs.Needs.{AllMet}
use Rattle.epoch_laws.specs.TokenSteps.{register, unregister, pin_look, pin_set, unpin}
use Rattle.epoch_laws.specs.TakeSteps.{take_look, take_try, show, give_back, is_free, is_free_with, look_count}
use Rattle.epoch_laws.specs.HoldSteps.{hold, touch}
use Rattle.epoch_laws.specs.DeferralSteps.{defer_look, defer_swap, defer_link}
use Rattle.epoch_laws.specs.ReclaimSteps.{elect_local, elect_global, epoch_look, scan_token, advance, spread, collect, walk, release, leave, has_global, passes, last_count}
use Rattle.epoch_laws.specs.StackSteps.{stack_look, stack_next, stack_pop, stack_put, hand_link, same_head}
use Rattle.epoch_laws.specs.HomeSteps.{home_swap, home_link, home_take, home_walk}
use Rattle.epoch_laws.specs.Steps.{move}
pub use Rattle.epoch_laws.specs.Accounts.{Account, opening_account, account_of}
unfoldable pub use Rattle.epoch_laws.specs.Accounts.{freed_header, account_after, account}
use Rattle.epoch_laws.proofs.Updates.{part_kept, part_with}
use Rattle.epoch_laws.proofs.Lists.{truth}

module _ (s : State) (c : ℕ) where
  abbrev locale_with : Seat → ℕ → ℕ
  locale_with new d = (with_number s.seat c new d).token.locale

  -- a seat that keeps its token changes no locale
  same_locales : (new : Seat) → new.token.locale ≡ (s.seat c).token.locale → ◌≡◌ {A = ℕ → ℕ} (λ d. (s.seat d).token.locale) (locale_with new)
  same_locales new e = sym (part_kept (λ x. x.token.locale) s.seat c new e)

  -- the words stay, or change as the item says
  kept : (old : Account) (new : Seat) → old.locale_of ≡ (λ d. (s.seat d).token.locale) → new.token.locale ≡ (s.seat c).token.locale → old ≡ record old { locale_of = locale_with new }
  kept old new e f = λ i. record { token_word = old.token_word; election = old.election; election_of = old.election_of; header = old.header; locale_of = (e ∙ same_locales new f) i }

  -- a header changes as the item says
  reheaded : (q : Place) (head other : Header) (new : Seat) → head ≡ other → new.token.locale ≡ (s.seat c).token.locale
      → ◌≡◌ {A = Account} (record (account_of s) { header = with_place s.words.header q head }) (record (account_of s) { header = with_place s.words.header q other; locale_of = locale_with new })
  reheaded q head other new e f =
      λ i. record { token_word = s.words.token_word; election = s.words.election; election_of = s.words.election_of; header = with_place s.words.header q (e i); locale_of = same_locales new f i }

  head_at : (q : Pointer) (state : HeaderState) → (s.words.header (place_of q)).count ≡ q.count
      → ◌≡◌ {A = Header} (record { count = (s.words.header (place_of q)).count; state = state }) (record { count = q.count; state = state })
  head_at q state e = λ i. record { count = e i; state = state }

  -- the header of a released object
  released : (q : Pointer) → (s.words.header (place_of q)).count ≡ q.count → fold account_after (account_of s) (release s c q).outcome.items ≡ account_of ((release s c q).outcome.next)
  unfolding release account_after freed_header
  released q e =
      ⊎_elim
      (λ z. rw z (reheaded (place_of q) _ _ _ (rw (ap (λ n. n == last_count) e ∙ z) (head_at q Worn e)) refl))
      (λ z. rw z (reheaded (place_of q) _ _ _ (rw (ap (λ n. n == last_count) e ∙ z) (λ i. record { count = e i + 1; state = Free })) refl))
      (truth (q.count == last_count))

  -- what the items of a step say is what it leaves
  pub move_account : (k : Kind) → AllMet ((move s c k).needs) → fold account_after (account_of s) (move s c k).outcome.items ≡ account_of ((move s c k).outcome.next)
  unfolding move register unregister pin_look pin_set unpin take_look take_try show give_back hold touch defer_look defer_swap defer_link elect_local elect_global epoch_look scan_token advance spread collect walk release leave stack_look stack_next stack_pop stack_put hand_link home_swap home_link home_take home_walk account_after freed_header
  move_account (Register l n) h =
      let t : Token = record { locale = l; number = n } in
      ⊎_elim
      (λ z. rw z (λ i. record {
        token_word = with_token s.words.token_word t 1;
        election = s.words.election;
        election_of = s.words.election_of;
        header = s.words.header;
        locale_of = sym (part_with (λ x. x.token.locale) s.seat c (record (s.seat c) { phase = Registered; token = t })) i;
      }))
      (λ z. rw z refl)
      (truth (s.words.token_word t == 0))
  move_account Unregister h = kept _ _ refl refl
  move_account PinLook h = kept _ _ refl refl
  move_account PinSet h = kept _ _ refl refl
  move_account Unpin h = kept _ _ refl refl
  move_account (TakeLook l i) h = kept _ _ refl refl
  move_account (TakeTry l i) h =
      let p : Place = record { locale = l; index = i } in
      let n = look_count (s.seat c).free_look in
      ⊎_elim
      (λ z. rw z (reheaded p _ _ _ (head_at (pointer_at p n) Own (eqb-true _ n (and_parts (is_free (s.words.header p).state) ((s.words.header p).count == n) z).1)) refl))
      (λ z. rw z refl)
      (truth (is_free_with (s.words.header p) n))
  move_account (Show q) h = reheaded (place_of q) _ _ _ (head_at q Shown h.1.1.1.0) refl
  move_account (Hold q) h = kept _ _ refl refl
  move_account (Touch q) h = refl
  move_account (Return q) h = reheaded (place_of q) _ _ _ (head_at q Free h.1.1.1.0) refl
  move_account (DeferLook q) h = kept _ _ refl refl
  move_account DeferSwap h = kept _ _ refl refl
  move_account DeferLink h = kept _ _ refl refl
  move_account ElectLocal h = ⊎_elim (λ z. rw z (kept _ _ refl refl)) (λ z. rw z refl) (truth (s.words.election_of (s.seat c).token.locale == 0))
  move_account ElectGlobal h = ⊎_elim (λ z. rw z (kept _ _ refl refl)) (λ z. rw z (kept _ _ refl refl)) (truth (s.words.election == 0))
  move_account EpochLook h = kept _ _ refl refl
  move_account ScanToken h = ⊎_elim (λ z. rw z (kept _ _ refl refl)) (λ z. rw z (kept _ _ refl refl)) (truth (passes (s.seat c).reclaim.epoch (s.words.token_word ((s.seat c).reclaim.scan))))
  move_account Advance h = kept _ _ refl refl
  move_account Spread h = kept _ _ refl refl
  move_account Collect h = kept _ _ refl refl
  move_account Walk h = kept _ _ refl refl
  move_account (Release q) h = released q h.1.1.1.0
  move_account Leave h = ⊎_elim (λ z. rw z (kept _ _ refl refl)) (λ z. rw z (kept _ _ refl refl)) (truth (has_global (s.seat c).phase))
  move_account (StackLook l) h = kept _ _ refl refl
  move_account StackNext h = kept _ _ refl refl
  move_account StackPop h = ⊎_elim (λ z. rw z (kept _ _ refl refl)) (λ z. rw z (kept _ _ refl refl)) (truth (same_head (s.words.free_head (s.seat c).stack.locale) (s.seat c).stack.head))
  move_account (StackPut top tail) h = ⊎_elim (λ z. rw z (kept _ _ refl refl)) (λ z. rw z (kept _ _ refl refl)) (truth (same_head (s.words.free_head (s.seat c).stack.locale) (s.seat c).stack.head))
  move_account (HandLink q word) h = refl
  move_account (HomeSwap top tail) h = kept _ _ refl refl
  move_account HomeLink h = kept _ _ refl refl
  move_account (HomeTake l) h = kept _ _ refl refl
  move_account HomeWalk h = ⊎_elim (λ z. rw z refl) (λ z. rw z (kept _ _ refl refl)) (truth (s.words.next (place_in ((s.seat c).homing.chain)) == pending))

-- and so of the items of all steps so far
pub account_more : (count : ℕ) (items : List Item) (s : State) (c : ℕ) (k : Kind) → account count items ≡ account_of s → AllMet ((move s c k).needs)
    → account count (items ++ (move s c k).outcome.items) ≡ account_of ((move s c k).outcome.next)
unfolding account
account_more count items s c k e h =
    fold-append account_after (opening_account count) items (move s c k).outcome.items ∙ ap (λ x. fold account_after x (move s c k).outcome.items) e ∙ move_account s c k h

pub opening_accounts : (shape : Shape) (start : Start) (seats : ℕ) → account start.count [] ≡ account_of (opening shape start seats)
unfolding opening opening_words account
opening_accounts shape start seats = refl
