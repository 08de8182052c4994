-- What the caller of a seat knows.
use Rattle.std.specs.Prelude.{ℕ, Bool, true, false, List, Option}
use Rattle.pgas_base.specs.Pointers.{Pointer}
use Rattle.pool_core.specs.declared.free_words.FreeWord.{FreeWord}
use Rattle.epoch_laws.specs.declared.tokens.Token.{Token}
use Rattle.epoch_laws.specs.Places.{Place}

-- where a seat stands
pub data Phase : Type 0 where
  -- it has no token
  Idle : Phase
  Registered : Phase
  -- between PinLook and PinSet
  PinLooked : Phase
  Pinned : Phase
  -- between DeferLook and DeferSwap, and between DeferSwap and DeferLink
  DeferLooked DeferSwapped : Phase
  -- it reclaims: it has won its local election
  WonLocal : Phase
  LostGlobal : Phase
  WonGlobal : Phase
  -- it has read an epoch below the last, and no token's word that stops it
  Scanning : Phase
  -- it has read the last epoch, or a token's word that stops it
  Stopped : Phase
  Advanced : Phase
  LeftGlobal : Phase

-- it is in a reclaim
unfoldable pub is_reclaiming : Phase → Bool
is_reclaiming WonLocal = true
is_reclaiming LostGlobal = true
is_reclaiming WonGlobal = true
is_reclaiming Scanning = true
is_reclaiming Stopped = true
is_reclaiming Advanced = true
is_reclaiming LeftGlobal = true
is_reclaiming _ = false

-- its present or last deferral
pub record Deferral : Type 0 where
  pub pointer : Pointer
  -- the epoch that it read
  pub tag : ℕ
  -- the old head of the list
  pub old : ℕ

-- its present or last reclaim
pub record Reclaim : Type 0 where
  -- the epoch that it read
  pub epoch : ℕ
  -- the next token to scan. Its locale is the number of locales once all were scanned
  pub scan : Token
  -- the next locale to spread to, and the next to collect from
  pub spread : ℕ
  pub collected : ℕ
  -- the word of the current object of the collected chain, 0 at its end
  pub chain : ℕ
  -- what it has walked over and not released
  pub walked : List Place

-- how far it is with a stack of free objects
pub data StackPhase : Type 0 where
  NoLook Looked NextRead : StackPhase

-- its last look at a stack
pub record StackLook : Type 0 where
  pub phase : StackPhase
  pub locale : ℕ
  pub head : FreeWord
  -- the next word of the object on top
  pub next : ℕ

-- its chains of objects that go home
pub record Homing : Type 0 where
  -- the tail of a chain whose link to the old head was not stored yet
  pub tail : Option Place
  pub old : ℕ
  -- the word of the current object of the taken chain, 0 at its end and where there is none
  pub chain : ℕ

pub record Seat : Type 0 where
  pub phase : Phase
  pub token : Token
  -- the epoch that its last PinLook read
  pub announced : ℕ
  -- what its last TakeLook read as free
  pub free_look : Option Pointer
  pub owned : List Place
  pub held : List Place
  -- the free objects that belong to it alone
  pub hand : List Place
  pub deferral : Deferral
  pub reclaim : Reclaim
  pub stack : StackLook
  pub homing : Homing
