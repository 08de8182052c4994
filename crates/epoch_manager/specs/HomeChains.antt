-- The chains of freed objects that a reclaim keeps, by home.
use Rattle.std.specs.Prelude.{◌≡◌, ◌+◌, ◌<◌, ℕ, List, Option, Some, None, unwrap_or, slice_get}
use Rattle.pgas_base.specs.Pointers.{Pointer, word_of}
use Rattle.epoch_laws.specs.Places.{pending, with_number}
use Rattle.epoch_manager.specs.declared.homes.HomeChain.{HomeChain}

-- the most objects that go home together
abbrev pub most_together : ℕ
most_together = 32

-- the chain of a locale, if it has one
abbrev pub chain_of : List (Option HomeChain) → ℕ → Option HomeChain
chain_of chains locale = unwrap_or (slice_get chains locale) None

-- it has fewer objects than may go home together
abbrev pub IsShort : Option HomeChain → Type 0
IsShort chain = (some : HomeChain) → chain ≡ Some some → some.many < most_together

-- the next word of an object that comes before a chain
abbrev pub word_below : Option HomeChain → ℕ
word_below None = pending
word_below (Some chain) = word_of chain.top

-- the chain with one more object before it
abbrev pub joined : Pointer → Option HomeChain → HomeChain
joined q None = record { top = q; tail = q; many = 1 }
joined q (Some chain) = record { top = q; tail = chain.tail; many = chain.many + 1 }

-- these are the chains but for that of this locale, which is this
abbrev pub AreBut : ℕ → Option HomeChain → (ℕ → Option HomeChain) → (ℕ → Option HomeChain) → Type 0
AreBut locale chain old new = (l : ℕ) → new l ≡ with_number old locale chain l

-- an object has joined the chain of its home, which is given out where it then has the most objects
abbrev pub Joins : Pointer → (ℕ → Option HomeChain) → (ℕ → Option HomeChain) → Option HomeChain → Type 0
Joins q old new None = AreBut q.locale (Some (joined q (old q.locale))) old new
Joins q old new (Some full) = (full ≡ joined q (old q.locale)) × (full.many ≡ most_together) × AreBut q.locale None old new
