-- How often a stack's head can have changed: once for each object given, and once for each seat that has won since its last take.
use Rattle.std.specs.Prelude.{◌≡◌, ◌≤◌, ℕ, zero, suc, ◌+◌, Bool, true, false, if◌then◌else◌, List, [], ◌∷◌}
use Rattle.pass_book.specs.declared.entries.Entry.{Entry}
use Rattle.pool_core.specs.FreeWords.{free_count}
use Rattle.epoch_laws.specs.declared.events.EpochEvent.TheVariants.{Given}
use Rattle.epoch_laws.specs.declared.events.Item.{Item}
use Rattle.epoch_laws.specs.declared.events.Item.TheVariants.{Event}
use Rattle.epoch_laws.specs.declared.steps.Kind.{Kind}
use Rattle.epoch_laws.specs.declared.steps.Kind.TheVariants.{TakeTry, StackLook, StackPop, StackPut}
use Rattle.epoch_laws.specs.Seats.{Seat}
use Rattle.epoch_laws.specs.StackSteps.{same_head}
use Rattle.epoch_laws.specs.TakeSteps.{is_free_with, look_count}
use Rattle.epoch_table.specs.declared.events.Happens.{Happens}
use Rattle.epoch_table.specs.Events.{items_in}
use Rattle.epoch_table.specs.Numbers.{header_in, head_in}

-- whether the seat has won an exchange of a stack's head since its last won TakeTry, after a step that finds this number
abbrev pub won_after : Seat → Kind → Bool → ℕ → Bool
won_after seat (TakeTry locale index) won found = if is_free_with (header_in found) (look_count seat.free_look) then false else won
won_after seat StackPop won found = if same_head (head_in found) seat.stack.head then true else won
won_after seat (StackPut top tail) won found = if same_head (head_in found) seat.stack.head then true else won
won_after seat _ won found = won

abbrev pub weight : Bool → ℕ
weight true = 1
weight false = 0

-- how many of the first callers have won
unfoldable pub winners : ℕ → (ℕ → Bool) → ℕ
winners zero won = 0
winners (suc n) won = weight (won n) + winners n won

-- how many objects were given
unfoldable pub givens : List Item → ℕ
givens [] = 0
givens (Event seat (Given pointer) tag ∷ items) = 1 + givens items
givens (_ ∷ items) = givens items

-- What a look at a stack tells of its count, where the seat hasn't won since its last take: it is below the opening count, the objects given so far and the
-- number of callers
abbrev pub Causes : {Call Reply : Type 0} → ℕ → ℕ → Kind → Bool → ℕ → List (Entry (Happens Call Reply) (Unit {0})) → Type 0
Causes first callers (StackLook locale) won found history = won ≡ false → free_count found + 1 ≤ first + givens (items_in history) + callers
Causes first callers _ won found history = Unit {0}
