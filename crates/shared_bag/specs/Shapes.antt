-- The numbers of a bag: its shape, and the order in which a caller tries the segments. These are numbered by locale, and each stands in the slot of its number.
use Rattle.std.specs.Prelude.{◌≡◌, ℕ, ◌+◌, ◌*◌, ◌/◌, ◌%◌, ◌≤◌}
use Rattle.shared_bag.specs.declared.shapes.Shape.{Shape}

-- a number in a range, its ends included
abbrev pub IsIn : ℕ → ℕ → ℕ → Type 0
IsIn least most n = (least ≤ n) × (n ≤ most)

-- the shape of a bag that may be opened
pub record IsShape (shape : Shape) : Type 0 where
  pub locales : IsIn 1 16 shape.locales
  pub segments : IsIn 1 64 shape.segments
  pub room : IsIn 1 16777216 shape.room
  pub callers : IsIn 1 1024 shape.callers

-- the number of segments of all locales
abbrev pub all_segments : Shape → ℕ
all_segments shape = shape.locales * shape.segments

-- how many items the segments of one locale have room for
abbrev pub locale_room : Shape → ℕ
locale_room shape = shape.segments * shape.room

-- the segment is one of the caller's locale
abbrev pub IsOwn : Shape → ℕ → ℕ → Type 0
IsOwn shape caller segment = segment / shape.segments ≡ caller % shape.locales

-- the locale of the segment that a caller tries after so many others: its own first, and then the others by rising number, round from its own
abbrev pub tried_locale : Shape → ℕ → ℕ → ℕ
tried_locale shape caller place = (caller % shape.locales + place / shape.segments) % shape.locales

-- its number among the segments of that locale: from the one that the caller's number picks on
abbrev pub tried_number : Shape → ℕ → ℕ → ℕ
tried_number shape caller place = (caller / shape.locales % shape.segments + place % shape.segments) % shape.segments

-- the segment that a caller tries after so many others
abbrev pub tried : Shape → ℕ → ℕ → ℕ
tried shape caller place = tried_locale shape caller place * shape.segments + tried_number shape caller place
