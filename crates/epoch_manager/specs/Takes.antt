-- What a take does, and the words that are the cause of its answer.
use Rattle.std.specs.Prelude.{◌≡◌, ◌<◌, ◌≤◌, ◌==◌, ◌+◌, ℕ, Bool, true, false, if◌then◌else◌, List, [], ◌∷◌, Option, Some, None, Result, Ok, Err}
use Rattle.pass_book.specs.declared.entries.Entry.{Entry}
use Rattle.pass_book.specs.declared.entries.Look.{Look}
use Rattle.pgas_base.specs.declared.shapes.Shape.{Shape}
use Rattle.pgas_base.specs.Pointers.{Pointer}
use Rattle.pool_core.specs.FreeWords.{free_count}
use Rattle.pool_core.specs.Headers.{header_word}
use Rattle.pool_core.specs.declared.headers.State.TheVariants.{Free}
use Rattle.epoch_laws.specs.declared.events.EpochEvent.TheVariants.{Given}
use Rattle.epoch_laws.specs.declared.events.Item.{Item}
use Rattle.epoch_laws.specs.Needs.{event}
use Rattle.epoch_laws.specs.Places.{Place, same_place}
use Rattle.epoch_laws.specs.StackSteps.{last_stack_count}
use Rattle.epoch_laws.specs.States.{IsPlace}
use Rattle.epoch_laws.specs.Words.{WordName, free_stack, header_of}
use Rattle.epoch_table.specs.declared.events.Happens.{Happens}
use Rattle.epoch_table.specs.declared.parts.Plan.{Plan}
use Rattle.epoch_table.specs.Events.{items_in}
use Rattle.epoch_table.specs.Heads.{givens}
use Rattle.epoch_manager.specs.declared.faults.TakeFault.{TakeFault}
use Rattle.epoch_manager.specs.declared.faults.TakeFault.TheVariants.{NoRoom, Spent}

-- ---- the words that were read

-- the header of this object, where the word is that
abbrev pub header_read : Look WordName → Place → Option ℕ
header_read look p = elim (look.name) [ header_of q ↦ if same_place q p then Some look.word else None | _ ↦ None ]

-- of two numbers the later counts
abbrev pub later : Option ℕ → Option ℕ → Option ℕ
later first None = first
later first (Some word) = Some word

-- the header of the object as it was read last
abbrev pub last_header : List (Look WordName) → Place → Option ℕ
last_header [] p = None
last_header (look ∷ looks) p = later (header_read look p) (last_header looks p)

-- the word is a header that says free
abbrev pub SaysFree : ℕ → Type 0
SaysFree word = (count : ℕ) × (word ≡ header_word count Free)

-- a header was read, and it didn't say free
abbrev pub IsTakenHeader : Option ℕ → Type 0
IsTakenHeader None = ⊥
IsTakenHeader (Some word) = ¬ SaysFree word

-- a header was read, and it said free
abbrev pub IsFreeHeader : Option ℕ → Type 0
IsFreeHeader None = ⊥
IsFreeHeader (Some word) = SaysFree word

-- the same of the head of a locale's stack
abbrev pub head_read : Look WordName → ℕ → Option ℕ
head_read look l = elim (look.name) [ free_stack k ↦ if k == l then Some look.word else None | _ ↦ None ]

abbrev pub last_head : List (Look WordName) → ℕ → Option ℕ
last_head [] l = None
last_head (look ∷ looks) l = later (head_read look l) (last_head looks l)

-- a head was read, and its count is the last
abbrev pub is_spent : Option ℕ → Bool
is_spent None = false
is_spent (Some word) = free_count word == last_stack_count

-- no stack's head was read last with the last count, and for each object the header that was read last didn't say free
pub record NoneIsFree (shape : Shape) (looks : List (Look WordName)) : Type 0 where
  pub unspent : (l : ℕ) → l < shape.locales → is_spent (last_head looks l) ≡ false
  pub taken : (p : Place) → IsPlace shape p → IsTakenHeader (last_header looks p)

-- some stack's head was
abbrev pub SomeIsSpent : Shape → List (Look WordName) → Type 0
SomeIsSpent shape looks = (l : ℕ) × (l < shape.locales) × (is_spent (last_head looks l) ≡ true)

-- what a refusal tells: the locale that was asked for, or the last count
abbrev pub TakeTells : ℕ → TakeFault → Type 0
TakeTells asked (NoRoom locale) = locale ≡ asked
TakeTells asked (Spent count) = count ≡ last_stack_count

-- the items that a take lists
abbrev pub taken_items : ℕ → Result Pointer TakeFault → List Item
taken_items c (Ok pointer) = event c (Given pointer)
taken_items c (Err fault) = []

module _ {C Call Reply : Type 0} (plan : Plan C) where
  -- the opening count of the stacks, the objects given by then, and the number of the other callers, come to the last count of a stack at least
  abbrev pub CanSpend : List (Entry (Happens Call Reply) (Unit {0})) → Type 0
  CanSpend seen = last_stack_count + 1 ≤ plan.start.stack + givens (items_in seen) + plan.callers
