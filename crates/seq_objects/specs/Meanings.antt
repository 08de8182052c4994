-- What the objects mean in a history: the states in which they open, and their steps.
use Rattle.std.specs.Prelude.{◌≡◌, ℕ, List, []}
use Rattle.seq_objects.specs.declared.lists.ListCall.{ListCall}
use Rattle.seq_objects.specs.declared.lists.ListReply.{ListReply}
use Rattle.seq_objects.specs.declared.deques.DequeCall.{DequeCall}
use Rattle.seq_objects.specs.declared.deques.DequeReply.{DequeReply}
use Rattle.seq_objects.specs.ListSteps.{ListState, opening_list, IsDefined, list_reply, list_after}
use Rattle.seq_objects.specs.DequeSteps.{DequeState, deque_reply, deque_after}

-- a list opens as zeros
abbrev pub ListOpens : ListState → Type 0
ListOpens state = state.items ≡ opening_list state.width

-- the call is defined, the reply and what is left are those of the list of one thread, and the width stays
abbrev pub ListSteps : ListState → ListCall → ListReply → ListState → Type 0
ListSteps old call reply new =
    IsDefined old.width call × (reply ≡ list_reply old.width old.items call)
    × (new ≡ record { width = old.width; items = list_after old.width old.items call })

-- a bag opens empty
abbrev pub BagOpens : List ℕ → Type 0
BagOpens items = items ≡ []

-- a deque opens empty
abbrev pub DequeOpens : DequeState → Type 0
DequeOpens state = state.items ≡ []

-- the reply and what is left are those of the deque of one thread, and the capacity stays
abbrev pub DequeSteps : DequeState → DequeCall → DequeReply → DequeState → Type 0
DequeSteps old call reply new =
    (reply ≡ deque_reply old.capacity old.items call)
    × (new ≡ record { capacity = old.capacity; items = deque_after old.capacity old.items call })
