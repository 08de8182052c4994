-- What holds of every state that a run leaves.
use Rattle.std.proofs.Common.{◌≡◌, ◌^◌, ℕ, ◌<◌, Bool, true, false, List, [], ◌∷◌, Option, Some, None}
use Rattle.pool_core.specs.declared.headers.Header.{Header}
use Rattle.pool_core.specs.declared.headers.State.{State as HeaderState}
use Rattle.pool_core.specs.declared.headers.State.TheVariants.{Free, Own, Shown, Worn}
use Rattle.epoch_laws.specs.declared.tokens.Token.{Token}
use Rattle.epoch_laws.specs.Places.{Place, place_of}
use Rattle.epoch_laws.specs.Words.{Words}
use Rattle.epoch_laws.specs.Seats.{Phase, DeferLooked, DeferSwapped, Advanced, Deferral, Reclaim, Seat}
use Rattle.epoch_laws.specs.States.{State}
use Rattle.epoch_laws.specs.Timing.{timing, Clock, IsTimed}
use Rattle.epoch_laws.specs.Locations.{Kind, InStack, InHome, InTaken, InHand, IsOwned, IsLive, InDeferral, InList, InRest, IsWalked, IsWorn, Location, at_, AreListed}
use Rattle.epoch_laws.specs.Paths.{Firsts, ArePaths}
use Rattle.epoch_laws.specs.Links.{Wait, IsLinked}
use Rattle.epoch_laws.specs.Ages.{Deferring, AreAged}
use Rattle.epoch_laws.specs.Looks.{AreLooks}

-- what of a seat depends on its phase, beside tokens and epochs
pub record Phased : Type 0 where
  pub to_swap : List Place
  pub deferring : Option Deferring
  pub list_wait : Option Wait
  pub collecting : Option ℕ
  pub rest : ℕ

abbrev pub plain : Phased
plain = record { to_swap = []; deferring = None; list_wait = None; collecting = None; rest = 0 }

unfoldable pub phased_at : Phase → Deferral → Token → Reclaim → Phased
phased_at DeferLooked d t r = record {
  to_swap = place_of d.pointer ∷ [];
  deferring = Some (record { place = place_of d.pointer; tag = d.tag; token = t; count = d.pointer.count });
  list_wait = None;
  collecting = None;
  rest = 0;
}
phased_at DeferSwapped d t r = record {
  to_swap = [];
  deferring = Some (record { place = place_of d.pointer; tag = d.tag; token = t; count = d.pointer.count });
  list_wait = Some (record { place = place_of d.pointer; old = d.old });
  collecting = None;
  rest = 0;
}
phased_at Advanced d t r = record { to_swap = []; deferring = None; list_wait = None; collecting = Some r.collected; rest = r.chain }
phased_at _ d t r = plain

abbrev pub phased : Seat → Phased
phased seat = phased_at seat.phase seat.deferral seat.token seat.reclaim

unfoldable pub home_wait_at : Option Place → ℕ → Option Wait
home_wait_at None old = None
home_wait_at (Some p) old = Some (record { place = p; old = old })

abbrev pub home_wait : Seat → Option Wait
home_wait seat = home_wait_at seat.homing.tail seat.homing.old

-- the lists of a seat, and where what is in them is
pub record Lists : Type 0 where
  pub hand : List Place
  pub owned : List Place
  pub walked : List Place
  pub to_swap : List Place

abbrev pub lists : Seat → Lists
lists seat = record { hand = seat.hand; owned = seat.owned; walked = seat.reclaim.walked; to_swap = (phased seat).to_swap }

pub record AreOf (content : Location → List Place) (c : ℕ) (l : Lists) : Type 0 where
  pub hand : content (at_ InHand c) ≡ l.hand
  pub owned : content (at_ IsOwned c) ≡ l.owned
  pub walked : content (at_ IsWalked c) ≡ l.walked
  pub to_swap : content (at_ InDeferral c) ≡ l.to_swap

abbrev pub AreLists : (Location → List Place) → (ℕ → Lists) → Type 0
AreLists content l = (c : ℕ) → AreOf content c (l c)

abbrev pub state_of : Kind → HeaderState
state_of InStack = Free
state_of InHome = Free
state_of InTaken = Free
state_of InHand = Free
state_of IsOwned = Own
state_of IsLive = Shown
state_of InDeferral = Shown
state_of InList = Shown
state_of InRest = Shown
state_of IsWalked = Shown
state_of IsWorn = Worn

abbrev pub is_tagged : Kind → Bool
is_tagged InDeferral = true
is_tagged InList = true
is_tagged InRest = true
is_tagged IsWalked = true
is_tagged _ = false

abbrev pub HasTag : Bool → Option ℕ → Type 0
HasTag true tag = (d : ℕ) × (tag ≡ Some d)
HasTag false tag = tag ≡ None

-- an object's header and tag fit to where it is
pub record Fits (kind : Kind) (header : Header) (tag : Option ℕ) : Type 0 where
  pub state : header.state ≡ state_of kind
  pub bound : header.count < 2 ^ 32
  pub tagging : HasTag (is_tagged kind) tag

abbrev pub AllFit : (Place → Header) → (Place → Option ℕ) → (Place → Location) → Type 0
AllFit header tag loc = (p : Place) → Fits ((loc p).kind) (header p) (tag p)

-- where each object is, what follows it, and what is at each location
pub record Map : Type 0 where
  pub loc : Place → Location
  pub link : Place → Option Place
  pub content : Location → List Place

abbrev pub clock : State → Clock
clock s = record { epoch = s.words.epoch; election = s.words.election; epoch_of = s.words.epoch_of; token_word = s.words.token_word; born = s.born }

abbrev pub firsts_of : Words → (ℕ → Seat) → Firsts
firsts_of words seat = record {
  stack = λ l. (words.free_head l).index;
  home = words.home_head;
  taken = λ d. (seat d).homing.chain;
  list = words.list_head;
  rest = λ d. (phased (seat d)).rest;
}

pub record IsSound (s : State) (m : Map) : Type 0 where
  pub timed : IsTimed s.shape.locales s.shape.tokens (clock s) (λ d. timing (s.seat d))
  pub listed : AreListed s.shape m.loc m.content
  pub lists : AreLists m.content (λ d. lists (s.seat d))
  pub fit : AllFit s.words.header s.tag m.loc
  pub paths : ArePaths s.shape.locales m.link (firsts_of s.words s.seat) m.content
  pub linked : IsLinked m.loc m.link s.words.next (λ d. home_wait (s.seat d)) (λ d. (phased (s.seat d)).list_wait) s.words.home_head
  pub aged : AreAged s.shape s.words.epoch s.born s.tag m.loc (λ d. (phased (s.seat d)).collecting) (λ d. (phased (s.seat d)).deferring)
  pub looks : AreLooks s.shape.locales (λ d. (s.seat d).stack) s.words.free_head s.words.next
