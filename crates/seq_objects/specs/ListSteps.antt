-- The sequential list of a width: what each call replies to, and what it leaves.
use Rattle.std.specs.Prelude.{ℕ, ◌+◌, ◌-◌, ◌*◌, ◌%◌, ◌^◌, ◌≤◌, List, ◌++◌, ◌==◌, nat_lt, nat_le, min, max, if◌then◌else◌, length, replicate, slice_index, slice_set, ⊤}
use Rattle.std.specs.Int.{next_multiple_of}
use Rattle.seq_objects.specs.declared.lists.ListCall.{ListCall}
use Rattle.seq_objects.specs.declared.lists.ListCall.TheVariants.{Read, Write, Swap, Add, Grow, Len}
use Rattle.seq_objects.specs.declared.lists.ListReply.{ListReply}
use Rattle.seq_objects.specs.declared.lists.ListReply.TheVariants.{Value, Wrote, Was, Range, Len as Length}

-- a list and its width
pub record ListState : Type 0 where
  pub width : ℕ
  pub items : List ℕ

-- a list opens as zeros, as many as its width
abbrev pub opening_list : ℕ → List ℕ
opening_list width = replicate width 0

-- a list grows to the square of its width at most, and no Grow asks for more
abbrev pub IsDefined : ℕ → ListCall → Type 0
IsDefined width (Read at) = ⊤
IsDefined width (Write at value) = ⊤
IsDefined width (Swap at old new) = ⊤
IsDefined width (Add at value) = ⊤
IsDefined width (Grow to) = to ≤ width * width
IsDefined width Len = ⊤

-- The length after a Grow past the length: `to` in whole widths, or where that is more, twice the length
-- but not past the square of the width.
abbrev pub grown_length : ℕ → ℕ → ℕ → ℕ
grown_length width len to =
    if nat_le to len then len else max (next_multiple_of to width) (min (2 * len) (width * width))

-- the reply to a call of one element, and at or past the end Range
abbrev pub reply_at : List ℕ → ℕ → ListReply → ListReply
reply_at items at reply = if nat_lt at (length items) then reply else Range (length items)

abbrev pub list_reply : ℕ → List ℕ → ListCall → ListReply
list_reply width items (Read at) = reply_at items at (Value (slice_index items at))
list_reply width items (Write at value) = reply_at items at Wrote
list_reply width items (Swap at old new) = reply_at items at (Was (slice_index items at))
list_reply width items (Add at value) = reply_at items at (Was (slice_index items at))
list_reply width items (Grow to) = Length (grown_length width (length items) to)
list_reply width items Len = Length (length items)

-- the elements after a call; `slice_set` at or past the end changes nothing
abbrev pub list_after : ℕ → List ℕ → ListCall → List ℕ
list_after width items (Read at) = items
list_after width items (Write at value) = slice_set items at value
list_after width items (Swap at old new) = if slice_index items at == old then slice_set items at new else items
list_after width items (Add at value) = slice_set items at ((slice_index items at + value) % 2 ^ 64)
list_after width items (Grow to) = items ++ replicate (grown_length width (length items) to - length items) 0
list_after width items Len = items
