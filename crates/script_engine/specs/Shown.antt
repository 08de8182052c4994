-- What a script's call asks of its object, and what the object's reply is shown as.
use Rattle.std.specs.Prelude.{◌≡◌, ℕ}
use Rattle.seq_objects.specs.declared.lists.ListCall.{ListCall}
use Rattle.seq_objects.specs.declared.lists.ListReply.{ListReply}
use Rattle.seq_objects.specs.declared.lists.ListReply.TheVariants as list
use Rattle.seq_objects.specs.declared.bags.BagCall.{BagCall}
use Rattle.seq_objects.specs.declared.bags.BagReply.{BagReply}
use Rattle.seq_objects.specs.declared.bags.BagReply.TheVariants as bag
use Rattle.seq_objects.specs.declared.deques.DequeCall.{DequeCall}
use Rattle.seq_objects.specs.declared.deques.DequeReply.{DequeReply}
use Rattle.seq_objects.specs.declared.deques.DequeReply.TheVariants as deque
use Rattle.seq_objects.specs.ListSteps.{IsDefined}
use Rattle.script_text.specs.declared.scripts.Call.{Call}
use Rattle.script_text.specs.declared.scripts.Call.TheVariants.{List as OfList, Bag as OfBag, Deque as OfDeque}
use Rattle.script_text.specs.declared.replies.Reply.{Reply}
use Rattle.script_text.specs.declared.replies.Reply.TheVariants.{Value, Wrote, Was, Range, Len, TooLong, Added, Full, Took, Empty, Pushed}

-- ---- replies

abbrev pub list_shown : ListReply → Reply
list_shown (list.Value value) = Value value
list_shown list.Wrote = Wrote
list_shown (list.Was value) = Was value
list_shown (list.Len len) = Len len
list_shown (list.Range len) = Range len

abbrev pub bag_shown : BagReply → Reply
bag_shown bag.Added = Added
bag_shown (bag.Took item) = Took item
bag_shown bag.Empty = Empty

abbrev pub deque_shown : DequeReply → Reply
deque_shown deque.Pushed = Pushed
deque_shown (deque.Took item) = Took item
deque_shown deque.Empty = Empty
deque_shown deque.Full = Full

-- ---- calls that take their place in the history

-- the script's call with this reply is the list's call, told so
abbrev pub ShowsList : Call → Reply → ListCall → ListReply → Type 0
ShowsList (OfList call) reply asked told = (asked ≡ call) × (reply ≡ list_shown told)
ShowsList call reply asked told = ⊥

-- the same of a bag; no reply shows whether the call was to be tried once
abbrev pub ShowsBag : Call → Reply → BagCall → BagReply → Type 0
ShowsBag (OfBag call once) reply asked told = (asked ≡ call) × (reply ≡ bag_shown told)
ShowsBag call reply asked told = ⊥

-- the same of a deque
abbrev pub ShowsDeque : Call → Reply → DequeCall → DequeReply → Type 0
ShowsDeque (OfDeque call once) reply asked told = (asked ≡ call) × (reply ≡ deque_shown told)
ShowsDeque call reply asked told = ⊥

-- ---- calls that don't

-- a Grow past the square of the width is too long, and changes nothing
abbrev pub IsTooLong : ℕ → Call → Reply → Type 0
IsTooLong width (OfList call) reply = (reply ≡ TooLong) × (IsDefined width call → ⊥)
IsTooLong width call reply = ⊥

-- each call has its place
abbrev pub Never : Call → Reply → Type 0
Never call reply = ⊥
