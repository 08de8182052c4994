-- The chains: each leads from its first object over just the objects at its location.
use Rattle.std.proofs.Common.{◌≡◌, ◌==◌, ℕ, ◌<◌, if◌then◌else◌, List, [], ◌∷◌, Option, Some, None}
use Rattle.epoch_laws.specs.Places.{Place, place_in}
use Rattle.epoch_laws.specs.Locations.{Kind, InStack, InHome, InTaken, InList, InRest, Location}

-- the object that a word leads to
unfoldable pub led_to : ℕ → Option Place
led_to word = if word == 0 then None else Some (place_in word)

-- the object of a locale that an index leads to
unfoldable pub top_at : ℕ → ℕ → Option Place
top_at l index = if index == 0 then None else Some (record { locale = l; index = index })

-- from the first object the links lead over the places to the end
abbrev pub IsPath : (Place → Option Place) → Option Place → List Place → Type 0
IsPath link first [] = first ≡ None
IsPath link first (p ∷ places) = (first ≡ Some p) × IsPath link (link p) places

-- from the first object the links lead over the places to the last
abbrev pub Leads : (Place → Option Place) → Option Place → List Place → Option Place → Type 0
Leads link first [] last = first ≡ last
Leads link first (p ∷ places) last = (first ≡ Some p) × Leads link (link p) places last

-- the words with which the chains begin: an index for a stack
pub record Firsts : Type 0 where
  pub stack : ℕ → ℕ
  pub home : ℕ → ℕ
  pub taken : ℕ → ℕ
  pub list : ℕ → ℕ → ℕ
  pub rest : ℕ → ℕ

unfoldable pub first_of : Firsts → Kind → ℕ → ℕ → Option Place
first_of f InStack i j = top_at i (f.stack i)
first_of f InHome i j = led_to (f.home i)
first_of f InTaken i j = led_to (f.taken i)
first_of f InList i j = led_to (f.list i j)
first_of f InRest i j = led_to (f.rest i)
first_of f _ i j = None

-- the location is one of a chain
abbrev pub IsChain : ℕ → Kind → ℕ → ℕ → Type 0
IsChain locales InStack i j = (j ≡ 0) × (i < locales)
IsChain locales InHome i j = j ≡ 0
IsChain locales InTaken i j = j ≡ 0
IsChain locales InList i j = Unit {0}
IsChain locales InRest i j = j ≡ 0
IsChain locales _ i j = ⊥

abbrev pub ArePaths : ℕ → (Place → Option Place) → Firsts → (Location → List Place) → Type 0
ArePaths locales link f content = (k : Location) → IsChain locales k.kind k.first k.second → IsPath link (first_of f k.kind k.first k.second) (content k)

abbrev pub list_at : ℕ → ℕ → Location
list_at l m = record { kind = InList; first = l; second = m }
