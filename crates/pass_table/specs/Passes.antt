-- What contracts see of an object's table, a pass and a note.
use Rattle.std.specs.Prelude.{◌≡◌, ℕ, true, List, [], Option, Some}
use Rattle.atomic_table.specs.Table.{Me}
use Rattle.atomic_table.specs.Seated.{TableId}
use Rattle.pass_book.specs.declared.entries.Entry.{Entry}
use Rattle.pass_book.specs.declared.entries.Look.{Look}
use Rattle.pass_book.specs.Pages.{Page}
use Rattle.pass_table.specs.declared.views.View.{View}
use Rattle.pass_table.specs.declared.passes.CallerSeat.{CallerSeat}
use Rattle.pass_table.specs.declared.passes.Pass.{Pass}
use Rattle.pass_table.specs.declared.passes.Note.{Note}
use Rattle.pass_table.specs.declared.tables.PassTable.{PassTable}
use Rattle.pass_table.specs.Views.{page_of}

-- Which opening of an object it is, and what it was opened with
pub record Opening (Plan : Type 0) : Type 0 where
  pub table : TableId
  pub plan : Option Plan

-- What a call did to its caller's pass: whose it is, its page and the words that it has read, before and after
pub record Change (Call Reply Name : Type 0) : Type 0 where
  pub caller : ℕ
  pub old : Page Call Reply
  pub new : Page Call Reply
  pub looked_old : List (Look Name)
  pub looked_new : List (Look Name)

module _ {Slot Call Reply Plan Part Name : Type 0} where
  abbrev pub me_of : CallerSeat Slot Call Reply Plan Part Name → Me Slot (View Call Reply Plan Part Name)
  me_of s = s.seat.me

  abbrev pub view_of : CallerSeat Slot Call Reply Plan Part Name → View Call Reply Plan Part Name
  view_of s = s.seat.me.0

  -- the slots that a caller has in hand
  abbrev pub carried_of : CallerSeat Slot Call Reply Plan Part Name → List (ℕ × Slot)
  carried_of s = s.seat.me.1

  abbrev pub seat_opening : CallerSeat Slot Call Reply Plan Part Name → Opening Plan
  seat_opening s = record { table = s.seat.table_id; plan = s.seat.me.0.plan }

  abbrev pub pass_view : Pass Slot Call Reply Plan Part Name → View Call Reply Plan Part Name
  pass_view p = view_of p.seat

  abbrev pub pass_opening : Pass Slot Call Reply Plan Part Name → Opening Plan
  pass_opening p = seat_opening p.seat

  abbrev pub caller_of : Pass Slot Call Reply Plan Part Name → ℕ
  caller_of p = (pass_view p).number

  -- the entries of a pass, and what it has seen
  abbrev pub page : Pass Slot Call Reply Plan Part Name → Page Call Reply
  page p = page_of (pass_view p)

  -- the words that a pass has read
  abbrev pub looked : Pass Slot Call Reply Plan Part Name → List (Look Name)
  looked p = (pass_view p).looked

  abbrev pub note_opening : Note Slot Call Reply Plan Part Name → Opening Plan
  note_opening n = record { table = n.seat.table_id; plan = n.seat.me.0.plan }

  -- what a note has seen
  abbrev pub seen_by : Note Slot Call Reply Plan Part Name → List (Entry Call Reply)
  seen_by n = n.seat.me.0.seen

  -- it is the same caller's pass from the same opening
  abbrev pub IsSamePass : Pass Slot Call Reply Plan Part Name → Pass Slot Call Reply Plan Part Name → Type 0
  IsSamePass old new = (pass_opening new ≡ pass_opening old) × (caller_of new ≡ caller_of old)

  -- what a call did to its caller's pass
  abbrev pub change : Pass Slot Call Reply Plan Part Name → Pass Slot Call Reply Plan Part Name → Change Call Reply Name
  change old new = record { caller = caller_of old; old = page old; new = page new; looked_old = looked old; looked_new = looked new }

  -- a seat is between two calls, with no slot in hand
  abbrev pub IsResting : CallerSeat Slot Call Reply Plan Part Name → Type 0
  IsResting s = ((view_of s).rests ≡ true) × (carried_of s ≡ [])

  -- a seat stands at this part, with no slot in hand
  abbrev pub IsAt : CallerSeat Slot Call Reply Plan Part Name → Part → Type 0
  IsAt s part = ((view_of s).part ≡ part) × (carried_of s ≡ [])

module _ {C O Slot Plan Part Name Call Reply State : Type 0} where
  -- how many words and slots the table has, and which it is
  abbrev pub table_of : PassTable C O Slot Plan Part Name Call Reply State → TableId
  table_of d = d.table.shared.table_id

  -- what the object was opened with
  abbrev pub plan_of : PassTable C O Slot Plan Part Name Call Reply State → Plan
  plan_of d = d.table.shared.key

  -- the opening that the object comes from
  abbrev pub opening_of : PassTable C O Slot Plan Part Name Call Reply State → Opening Plan
  opening_of d = record { table = table_of d; plan = Some (plan_of d) }

  -- it is a seat at the object's table
  abbrev pub IsSeatOf : PassTable C O Slot Plan Part Name Call Reply State → CallerSeat Slot Call Reply Plan Part Name → Type 0
  IsSeatOf d s = seat_opening s ≡ opening_of d
