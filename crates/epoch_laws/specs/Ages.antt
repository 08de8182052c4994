-- How old the tags of deferred objects are, by where they are.
use Rattle.std.proofs.Common.{◌≡◌, ◌⊎◌, ℕ, ◌+◌, ◌%◌, ◌^◌, ◌<◌, ◌≤◌, Option, Some}
use Rattle.pgas_base.specs.declared.shapes.Shape.{Shape}
use Rattle.epoch_laws.specs.declared.tokens.Token.{Token}
use Rattle.epoch_laws.specs.Places.{Place}
use Rattle.epoch_laws.specs.States.{IsPlace}
use Rattle.epoch_laws.specs.Locations.{Kind, InDeferral, InList, InRest, IsWalked, Location}

-- a deferral that isn't linked yet: its object, its tag and its seat's token
pub record Deferring : Type 0 where
  pub place : Place
  pub tag : ℕ
  pub token : Token
  pub count : ℕ

-- what the tag of an object at such a location can be. `collecting` tells how many lists each seat has collected since its advance
abbrev pub IsAge : ℕ → ℕ → (ℕ → Option ℕ) → Kind → ℕ → ℕ → ℕ → Type 0
IsAge locales epoch collecting InDeferral i j tag = (j ≡ 0) × (epoch ≤ tag + 2)
IsAge locales epoch collecting InList i j tag =
    (j ≡ tag % 4) × (i < locales) × ((epoch ≤ tag + 2) ⊎ ((tag + 3 ≡ epoch) × ((c : ℕ) × (n : ℕ) × (collecting c ≡ Some n) × (n ≤ i))))
IsAge locales epoch collecting InRest i j tag = (j ≡ 0) × (tag + 3 ≡ epoch) × ((n : ℕ) × (collecting i ≡ Some n))
IsAge locales epoch collecting IsWalked i j tag = (j ≡ 0) × (tag + 3 ≡ epoch) × ((n : ℕ) × (collecting i ≡ Some n))
IsAge locales epoch collecting _ i j tag = Unit {0}

pub record IsAged (shape : Shape) (epoch : ℕ) (collecting : ℕ → Option ℕ) (p : Place) (k : Location) (tag : ℕ) : Type 0 where
  pub inside : IsPlace shape p
  pub most : tag ≤ epoch
  pub age : IsAge shape.locales epoch collecting k.kind k.first k.second tag

pub record IsYoung (born : Token → ℕ) (tag : Place → Option ℕ) (x : Deferring) : Type 0 where
  pub tagged : tag x.place ≡ Some x.tag
  pub late : born x.token ≤ x.tag + 1
  pub bound : x.count < 2 ^ 32

pub record AreAged (shape : Shape) (epoch : ℕ) (born : Token → ℕ) (tag : Place → Option ℕ) (loc : Place → Location) (collecting : ℕ → Option ℕ) (deferring : ℕ → Option Deferring) : Type 0 where
  pub aged : (p : Place) (d : ℕ) → tag p ≡ Some d → IsAged shape epoch collecting p (loc p) d
  pub young : (c : ℕ) (x : Deferring) → deferring c ≡ Some x → IsYoung born tag x
