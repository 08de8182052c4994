-- The item of a step is what its outcome lists.
use Rattle.std.proofs.Common.{◌≡◌, ◌<◌, ◌≤◌, ◌^◌, ℕ, Bool, true, false, if◌then◌else◌, [], ◌∷◌, refl, ap, sym, ◌∙◌, subst, arith}
use Rattle.pgas_base.specs.Shapes.{IsShape}
use Rattle.epoch_laws.specs.declared.events.EpochEvent.TheVariants.{Unregistered, Pinned, Unpinned, Given, Held, Deferred}
use Rattle.epoch_laws.specs.declared.events.Item.{Item}
use Rattle.epoch_laws.specs.declared.events.Item.TheVariants.{Event, Advance as AdvanceItem, Leave as LeaveItem}
use Rattle.epoch_laws.specs.declared.steps.Kind.{Kind}
use Rattle.epoch_laws.specs.declared.steps.Kind.TheVariants.{Register, Unregister, PinLook, PinSet, Unpin, TakeLook, TakeTry, Show, Hold, Touch, Return, DeferLook, DeferSwap, DeferLink, ElectLocal, ElectGlobal, EpochLook, ScanToken, Advance, Spread, Collect, Walk, Release, Leave, StackLook, StackNext, StackPop, StackPut, HandLink, HomeSwap, HomeLink, HomeTake, HomeWalk}
use Rattle.epoch_laws.specs.declared.steps.Seen.{Seen}
use Rattle.epoch_laws.specs.declared.steps.Seen.TheVariants.{Won, Lost}
use Rattle.epoch_laws.specs.DeferralSteps.{defer_look, defer_swap, defer_link}
use Rattle.epoch_laws.specs.HoldSteps.{hold, touch}
use Rattle.epoch_laws.specs.HomeSteps.{home_swap, home_link, home_take, home_walk}
use Rattle.epoch_laws.specs.Needs.{AllMet, Outcome}
use Rattle.epoch_laws.specs.ReclaimSteps.{elect_local, elect_global, epoch_look, scan_token, advance, spread, collect, walk, release, leave}
use Rattle.epoch_laws.specs.StackSteps.{stack_look, stack_next, stack_pop, stack_put, hand_link}
use Rattle.epoch_laws.specs.States.{State}
use Rattle.epoch_laws.specs.Steps.{move}
use Rattle.epoch_laws.specs.TakeSteps.{take_look, take_try, show, give_back}
use Rattle.epoch_laws.specs.TokenSteps.{register, unregister, pin_look, pin_set, unpin}
use Rattle.epoch_core.specs.declared.items.Known.{Known}
use Rattle.epoch_core.specs.Listed.{IsKnown, NamesPointer, if_won, item_of, listed, with_word}

-- what an exchange that wins lists, and one that loses doesn't
exchanged : (b : Bool) (won lost : Outcome) (seen : Seen) (item : Item) (word : ℕ) → won.seen ≡ Won → won.items ≡ item ∷ [] → lost.seen ≡ Lost word → lost.items ≡ []
    → seen ≡ (if b then won else lost).seen → listed (if_won seen item) ≡ (if b then won else lost).items
exchanged true won lost seen item word saw lists lost_saw none is = ap (λ s. listed (if_won s item)) (is ∙ saw) ∙ sym lists
exchanged false won lost seen item word saw lists lost_saw none is = ap (λ s. listed (if_won s item)) (is ∙ lost_saw) ∙ sym none

none_of : (b : Bool) (one other : Outcome) → one.items ≡ [] → other.items ≡ [] → [] ≡ (if b then one else other).items
none_of true one other first second = sym first
none_of false one other first second = sym second

-- one item of two
one_of : (b : Bool) (one other : Outcome) (c : ℕ) → one.items ≡ LeaveItem c true ∷ [] → other.items ≡ LeaveItem c false ∷ [] → LeaveItem c b ∷ [] ≡ (if b then one else other).items
one_of true one other c first second = sym first
one_of false one other c first second = sym second

-- an allowed step is of a seat that there is
pub low_seat : (s : State) (c : ℕ) (kind : Kind) → AllMet (move s c kind).needs → c < s.seats
unfolding move register unregister pin_look pin_set unpin take_look take_try show give_back hold touch defer_look defer_swap defer_link elect_local elect_global epoch_look scan_token advance spread collect walk release leave stack_look stack_next stack_pop stack_put hand_link home_swap home_link home_take home_walk
low_seat s c (Register locale number) needs = needs.0
low_seat s c Unregister needs = needs.0
low_seat s c PinLook needs = needs.0
low_seat s c PinSet needs = needs.0
low_seat s c Unpin needs = needs.0
low_seat s c (TakeLook locale index) needs = needs.0
low_seat s c (TakeTry locale index) needs = needs.0
low_seat s c (Show pointer) needs = needs.0
low_seat s c (Hold pointer) needs = needs.0
low_seat s c (Touch pointer) needs = needs.0
low_seat s c (Return pointer) needs = needs.0
low_seat s c (DeferLook pointer) needs = needs.0
low_seat s c DeferSwap needs = needs.0
low_seat s c DeferLink needs = needs.0
low_seat s c ElectLocal needs = needs.0
low_seat s c ElectGlobal needs = needs.0
low_seat s c EpochLook needs = needs.0
low_seat s c ScanToken needs = needs.0
low_seat s c Advance needs = needs.0
low_seat s c Spread needs = needs.0
low_seat s c Collect needs = needs.0
low_seat s c Walk needs = needs.0
low_seat s c (Release pointer) needs = needs.0
low_seat s c Leave needs = needs.0
low_seat s c (StackLook locale) needs = needs.0
low_seat s c StackNext needs = needs.0
low_seat s c StackPop needs = needs.0
low_seat s c (StackPut top tail) needs = needs.0
low_seat s c (HandLink pointer word) needs = needs.0
low_seat s c (HomeSwap top tail) needs = needs.0
low_seat s c HomeLink needs = needs.0
low_seat s c (HomeTake locale) needs = needs.0
low_seat s c HomeWalk needs = needs.0

module _ (s : State) (c : ℕ) (known : Known) (is : IsKnown known (s.seat c)) where
  pub listed_is : (kind : Kind) (seen : Seen) → AllMet (move s c kind).needs → seen ≡ (move s c kind).outcome.seen → listed (item_of known c kind seen) ≡ (move s c kind).outcome.items
  unfolding move register unregister pin_look pin_set unpin take_look take_try show give_back hold touch defer_look defer_swap defer_link elect_local elect_global epoch_look scan_token advance spread collect walk release leave stack_look stack_next stack_pop stack_put hand_link home_swap home_link home_take home_walk
  listed_is (Register locale number) seen needs told = exchanged _ _ _ seen _ _ refl refl refl refl told
  listed_is Unregister seen needs told = ap (λ t. Event c (Unregistered t) 0 ∷ []) is.token
  listed_is PinLook seen needs told = refl
  listed_is PinSet seen needs told = ap (λ t. Event c (Pinned t) known.announced ∷ []) is.token ∙ ap (λ a. Event c (Pinned (s.seat c).token) a ∷ []) is.announced
  listed_is Unpin seen needs told = ap (λ t. Event c (Unpinned t) 0 ∷ []) is.token
  listed_is (TakeLook locale index) seen needs told = refl
  listed_is (TakeTry locale index) seen needs told =
      ap (λ n. listed (if_won seen (Event c (Given (record { locale = locale; index = index; count = n })) 0))) is.count
      ∙ exchanged _ _ _ seen _ _ refl refl refl refl told
  listed_is (Show pointer) seen needs told = refl
  listed_is (Hold pointer) seen needs told = ap (λ t. Event c (Held t pointer) 0 ∷ []) is.token
  listed_is (Touch pointer) seen needs told = refl
  listed_is (Return pointer) seen needs told = refl
  listed_is (DeferLook pointer) seen needs told =
      ap (λ e. listed (with_word e (λ word. Event c (Deferred known.token pointer) word))) told ∙ ap (λ t. Event c (Deferred t pointer) (s.words.epoch_of (s.seat c).token.locale) ∷ []) is.token
  listed_is DeferSwap seen needs told = refl
  listed_is DeferLink seen needs told = refl
  listed_is ElectLocal seen needs told = exchanged _ _ _ seen _ _ refl refl refl refl told
  listed_is ElectGlobal seen needs told = exchanged _ _ _ seen _ _ refl refl refl refl told
  listed_is EpochLook seen needs told = refl
  listed_is ScanToken seen needs told = refl
  listed_is Advance seen needs told = ap (λ e. AdvanceItem c e ∷ []) (is.epoch needs.1.0.0)
  listed_is Spread seen needs told = refl
  listed_is Collect seen needs told = refl
  listed_is Walk seen needs told = refl
  listed_is (Release pointer) seen needs told = refl
  listed_is Leave seen needs told = ap (λ g. LeaveItem c g ∷ []) is.global ∙ one_of _ _ _ c refl refl
  listed_is (StackLook locale) seen needs told = refl
  listed_is StackNext seen needs told = refl
  listed_is StackPop seen needs told = none_of _ _ _ refl refl
  listed_is (StackPut top tail) seen needs told = none_of _ _ _ refl refl
  listed_is (HandLink pointer word) seen needs told = refl
  listed_is (HomeSwap top tail) seen needs told = refl
  listed_is HomeLink seen needs told = refl
  listed_is (HomeTake locale) seen needs told = refl
  listed_is HomeWalk seen needs told = refl

  of_try : IsShape s.shape → (locale index : ℕ) → AllMet (move s c (TakeTry locale index)).needs → (locale < 16) × (1 ≤ index) × (index < 2 ^ 24)
  unfolding move take_try
  of_try shaped locale index needs = let place = needs.1.1.0 in (omega (arith, place.locale, shaped.0.1), place.some_object, omega (arith, place.index, shaped.2.1))

  -- the object of a try has a pointer
  pub names_pointer : IsShape s.shape → (kind : Kind) → AllMet (move s c kind).needs → NamesPointer kind
  names_pointer shaped kind needs = λ locale index same. of_try shaped locale index (subst (λ (k : Kind). AllMet (move s c k).needs) same needs)
