-- The step on one word that each kind of step of the machine is.
use Rattle.std.specs.Prelude.{◌≡◌, ◌≢◌, ◌==◌, ℕ, ◌+◌, ◌%◌, if◌then◌else◌, MatchBool, Option, Some, None}
use prog.Atomic.{either}
use Rattle.pgas_base.specs.Pointers.{word_of}
use Rattle.pool_core.specs.Headers.{header_word, released_word}
use Rattle.pool_core.specs.FreeWords.{free_head_word}
use Rattle.pool_core.specs.declared.headers.State.TheVariants.{Free, Own, Shown}
use Rattle.epoch_laws.specs.declared.steps.Kind.{Kind}
use Rattle.epoch_laws.specs.declared.steps.Kind.TheVariants.{Register, Unregister, PinLook, PinSet, Unpin, TakeLook, TakeTry, Show, Hold, Touch, Return, DeferLook, DeferSwap, DeferLink, ElectLocal, ElectGlobal, EpochLook, ScanToken, Advance, Spread, Collect, Walk, Release, Leave, StackLook, StackNext, StackPop, StackPut, HandLink, HomeSwap, HomeLink, HomeTake, HomeWalk}
use Rattle.epoch_laws.specs.Places.{Place, place_of, place_in, index_in}
use Rattle.epoch_laws.specs.Words.{Words, WordName, global_epoch, global_election, local_epoch, local_election, list, free_stack, home_chain, token, header_of, next_of, word_at}
use Rattle.epoch_laws.specs.Seats.{Seat, StackLook as Look}
use Rattle.epoch_laws.specs.TakeSteps.{look_count}
use Rattle.epoch_laws.specs.ReclaimSteps.{has_global}
use Rattle.epoch_laws.specs.StackSteps.{looked_top}

pub data Deed : Type 0 where
  -- on no word of the machine
  Elsewhere : Deed
  Loads : WordName → Deed
  Stores Swaps : WordName → ℕ → Deed
  -- from the one number to the other, where the one stands there
  Exchanges : WordName → ℕ → ℕ → Deed

-- the exchange of a free head from what was read to one count more and this index
abbrev pub head_exchanged : Look → ℕ → Deed
head_exchanged look index =
    Exchanges (free_stack look.locale) (free_head_word look.head.count look.head.index) (free_head_word (look.head.count + 1) index)

-- the link of a tail that waits for it
abbrev pub tail_linked : Option Place → ℕ → Deed
tail_linked None word = Elsewhere
tail_linked (Some p) word = Stores (next_of p) word

-- what a step of this kind by this seat is
abbrev pub deed : Seat → Kind → Deed
deed seat (Register locale number) = Exchanges (token (record { locale = locale; number = number })) 0 1
deed seat Unregister = Stores (token seat.token) 0
deed seat PinLook = Loads (local_epoch seat.token.locale)
deed seat PinSet = Stores (token seat.token) (seat.announced + 2)
deed seat Unpin = Stores (token seat.token) 1
deed seat (TakeLook locale index) = Loads (header_of (record { locale = locale; index = index }))
deed seat (TakeTry locale index) =
    Exchanges (header_of (record { locale = locale; index = index })) (header_word (look_count seat.free_look) Free) (header_word (look_count seat.free_look) Own)
deed seat (Show pointer) = Stores (header_of (place_of pointer)) (header_word pointer.count Shown)
deed seat (Hold pointer) = Elsewhere
deed seat (Touch pointer) = Elsewhere
deed seat (Return pointer) = Stores (header_of (place_of pointer)) (header_word pointer.count Free)
deed seat (DeferLook pointer) = Loads (local_epoch seat.token.locale)
deed seat DeferSwap = Swaps (list seat.token.locale (seat.deferral.tag % 4)) (word_of seat.deferral.pointer)
deed seat DeferLink = Stores (next_of (place_of seat.deferral.pointer)) seat.deferral.old
deed seat ElectLocal = Exchanges (local_election seat.token.locale) 0 1
deed seat ElectGlobal = Exchanges global_election 0 1
deed seat EpochLook = Loads global_epoch
deed seat ScanToken = Loads (token seat.reclaim.scan)
deed seat Advance = Stores global_epoch (seat.reclaim.epoch + 1)
deed seat Spread = Stores (local_epoch seat.reclaim.spread) (seat.reclaim.epoch + 1)
deed seat Collect = Swaps (list seat.reclaim.collected ((seat.reclaim.epoch + 2) % 4)) 0
deed seat Walk = Loads (next_of (place_in seat.reclaim.chain))
deed seat (Release pointer) = Stores (header_of (place_of pointer)) (released_word pointer.count)
deed seat Leave = if has_global seat.phase then Stores global_election 0 else Stores (local_election seat.token.locale) 0
deed seat (StackLook locale) = Loads (free_stack locale)
deed seat StackNext = Loads (next_of (looked_top seat.stack))
deed seat StackPop = head_exchanged seat.stack (index_in seat.stack.next)
deed seat (StackPut top tail) = head_exchanged seat.stack top.index
deed seat (HandLink pointer word) = Stores (next_of (place_of pointer)) word
deed seat (HomeSwap top tail) = Swaps (home_chain top.locale) (word_of top)
deed seat HomeLink = tail_linked seat.homing.tail seat.homing.old
deed seat (HomeTake locale) = Swaps (home_chain locale) 0
deed seat HomeWalk = Loads (next_of (place_in seat.homing.chain))

-- what a step leaves in its word, where it finds this number
abbrev pub number_after : Deed → ℕ → ℕ
number_after Elsewhere found = found
number_after (Loads name) found = found
number_after (Stores name number) found = number
number_after (Swaps name number) found = number
number_after (Exchanges name old new) found = either (found == old) new found

-- the words after a number was written at one name
pub record Writes (words : Words) (name : WordName) (number : ℕ) (after : Words) : Type 0 where
  pub here : word_at after name ≡ number
  pub there : (other : WordName) → other ≢ name → word_at after other ≡ word_at words other

-- the words after such a step
abbrev pub Does : Words → Deed → Words → Type 0
Does words Elsewhere after = after ≡ words
Does words (Loads name) after = after ≡ words
Does words (Stores name number) after = Writes words name number after
Does words (Swaps name number) after = Writes words name number after
Does words (Exchanges name old new) after = MatchBool (word_at words name == old) (Writes words name new after) (after ≡ words)
