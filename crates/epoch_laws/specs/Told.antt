-- What the items of a run tell of the state that it leaves.
use Rattle.std.proofs.Common.{◌≡◌, ◌⊎◌, ℕ, ◌+◌, ◌≤◌, Bool, true, false, List, length, take, drop, Option, Some}
use Rattle.epoch_laws.specs.declared.tokens.Token.{Token}
use Rattle.epoch_laws.specs.declared.events.Item.{Item}
use Rattle.epoch_laws.specs.Places.{Place}
use Rattle.epoch_laws.specs.Histories.{Happening, IsFree, IsShown, IsWorn, IsOwnedBy, IsDeferredAt, Standing, registrant, pinner, progress, standing, HasUnpinned}
use Rattle.epoch_laws.specs.Items.{happenings, epoch_of, last_advancer, claimant, releaser, last_tag}
use Rattle.epoch_laws.specs.Timing.{timing, Timing, HasAdvanced, token_at, pinned_at, global_at}
use Rattle.epoch_laws.specs.States.{State}
use Rattle.epoch_laws.specs.Locations.{Kind, InStack, InHome, InTaken, InHand, IsOwned, IsLive, InDeferral, InList, InRest, IsWalked, IsWorn as AtWorn, Location}

-- how an object stands by where it is
pub data Class : Type 0 where
  Frees Lives Defers Wears : Class
  Owns : ℕ → Class

unfoldable pub class_at : Kind → ℕ → Class
class_at InStack i = Frees
class_at InHome i = Frees
class_at InTaken i = Frees
class_at InHand i = Frees
class_at IsOwned i = Owns i
class_at IsLive i = Lives
class_at InDeferral i = Defers
class_at InList i = Defers
class_at InRest i = Defers
class_at IsWalked i = Defers
class_at AtWorn i = Wears

abbrev pub class_of : Location → Class
class_of k = class_at k.kind k.first

-- what items can tell of a seat
pub record Summary : Type 0 where
  pub token : Option Token
  pub pinned : Option Token
  pub global : Bool
  pub advanced : Bool

unfoldable pub is_advanced : Timing → Bool
is_advanced (HasAdvanced t g n) = true
is_advanced _ = false

abbrev pub summary : Timing → Summary
summary x = record { token = token_at x; pinned = pinned_at x; global = global_at x; advanced = is_advanced x }

-- what items can tell of a state
pub record View : Type 0 where
  pub seats : ℕ → Summary
  pub epoch : ℕ
  pub born : Token → ℕ
  pub tag : Place → Option ℕ
  pub class : Place → Class
  pub count : Place → ℕ

-- a token that was pinned at this position and has no Unpinned since is pinned, and was so at most one after the tag
abbrev pub IsWatched : View → List Happening → ℕ → Option ℕ → Type 0
IsWatched v hs i tag = (t : Token) (d : ℕ) → pinner t (take i hs) ≡ Some d
    → HasUnpinned t (drop i hs) ⊎ ((c : ℕ) × ((v.seats c).pinned ≡ Some t) × ((e : ℕ) → tag ≡ Some e → v.born t ≤ e + 1))

abbrev pub Stands : View → List Happening → Class → ℕ → Option ℕ → Standing → Type 0
Stands v hs Frees n tag st = st ≡ record { condition = IsFree; count = n }
Stands v hs (Owns c) n tag st = st ≡ record { condition = IsOwnedBy c; count = n }
Stands v hs Lives n tag st = st ≡ record { condition = IsShown; count = n }
Stands v hs Defers n tag st = (i : ℕ) × (st ≡ record { condition = IsDeferredAt i; count = n }) × (i ≤ length hs) × IsWatched v hs i tag
Stands v hs Wears n tag st = st ≡ record { condition = IsWorn; count = n }

-- who has and who has pinned a token
pub record TokensTold (seats : ℕ → Summary) (hs : List Happening) : Type 0 where
  pub registered : (t : Token) (c : ℕ) → registrant t hs ≡ Some c → (seats c).token ≡ Some t
  pub has : (c : ℕ) (t : Token) → (seats c).token ≡ Some t → registrant t hs ≡ Some c
  pub pinned : (t : Token) (c : ℕ) → pinner t hs ≡ Some c → (seats c).pinned ≡ Some t
  pub pins : (c : ℕ) (t : Token) → (seats c).pinned ≡ Some t → pinner t hs ≡ Some c

pub record ObjectsTold (count : ℕ) (v : View) (hs : List Happening) : Type 0 where
  pub stands : (p : Place) → Stands v hs (v.class p) (v.count p) (v.tag p) (standing count p hs)
  pub position : (p : Place) → (progress count p hs).position ≡ length hs

pub record EpochsTold (first : ℕ) (seats : ℕ → Summary) (epoch : ℕ) (items : List Item) : Type 0 where
  pub risen : epoch_of first items ≡ epoch
  pub claimed : (c : ℕ) → claimant items ≡ Some c → (seats c).global ≡ true
  pub claims : (c : ℕ) → (seats c).global ≡ true → claimant items ≡ Some c
  pub released : (c : ℕ) → releaser items ≡ Some c → (seats c).advanced ≡ true
  pub releases : (c : ℕ) → (seats c).advanced ≡ true → (releaser items ≡ Some c) × (last_advancer items ≡ Some c)

abbrev pub TagsTold : (Place → Option ℕ) → List Item → Type 0
TagsTold tag items = (p : Place) (d : ℕ) → tag p ≡ Some d → last_tag p items ≡ d

pub record IsTold (first count : ℕ) (v : View) (items : List Item) : Type 0 where
  pub tokens : TokensTold v.seats (happenings items)
  pub objects : ObjectsTold count v (happenings items)
  pub epochs : EpochsTold first v.seats v.epoch items
  pub tags : TagsTold v.tag items

-- what items can tell of a state
abbrev pub view_of : State → (Place → Location) → View
view_of s loc = record {
  seats = λ d. summary (timing (s.seat d));
  epoch = s.words.epoch;
  born = s.born;
  tag = s.tag;
  class = λ p. class_of (loc p);
  count = λ p. (s.words.header p).count;
}
