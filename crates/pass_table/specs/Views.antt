-- Views: what contracts see of one, those that an opening makes, and those of notes.
use Rattle.std.specs.Prelude.{ℕ, ◌+◌, List, [], ◌∷◌, ◌++◌, map, Some, None}
use Rattle.pass_book.specs.Pages.{Page}
use Rattle.pass_table.specs.declared.views.Role.TheVariants.{Opener, Caller, Note, Spent}
use Rattle.pass_table.specs.declared.views.Merged.{Merged}
use Rattle.pass_table.specs.declared.views.View.{View}
use Rattle.pass_table.specs.Terms.{Terms}

-- a page on which nothing stands
abbrev pub blank : {Call Reply : Type 0} → Page Call Reply
blank = record { mine = []; seen = [] }

abbrev pub page_merged : {Call Reply Part : Type 0} → Merged Call Reply Part → Page Call Reply
page_merged m = record { mine = m.mine; seen = m.seen }

module _ {Call Reply Plan Part Name : Type 0} where
  abbrev pub page_of : View Call Reply Plan Part Name → Page Call Reply
  page_of v = record { mine = v.mine; seen = v.seen }

  -- the callers whose passes a view has: those that it took in, the last one first, and then its own
  abbrev pub numbers_of : View Call Reply Plan Part Name → List ℕ
  numbers_of v = map (λ (m : Merged Call Reply Part). m.caller) v.merged ++ v.number ∷ []

  -- the next caller's number
  abbrev pub opener_next : View Call Reply Plan Part Name → View Call Reply Plan Part Name
  opener_next v = record v { number = v.number + 1 }

  abbrev pub noted : View Call Reply Plan Part Name → View Call Reply Plan Part Name
  noted v = record v { role = Note; mine = []; pending_note = []; looked = []; merged = [] }

  -- a caller is handed what a note has seen
  abbrev pub with_pending : View Call Reply Plan Part Name → View Call Reply Plan Part Name → View Call Reply Plan Part Name
  with_pending v note = record v { pending_note = note.seen }

  -- a caller's pass takes in another's
  abbrev pub merging : View Call Reply Plan Part Name → View Call Reply Plan Part Name → View Call Reply Plan Part Name
  merging v w = record v { merged = record { caller = w.number; mine = w.mine; seen = w.seen; part = w.part; rests = w.rests } ∷ v.merged }

module _ {Slot Call Reply State Plan Part Name : Type 0} (T : Terms Slot Call Reply State Plan Part Name) where
  -- the seat that opens the object, before the first pass
  abbrev pub opener : Plan → View Call Reply Plan Part Name
  opener plan = record { plan = Some plan; role = Opener; number = 0; mine = []; seen = []; pending_note = []; looked = []; part = T.first; rests = T.rests T.first; merged = [] }

  abbrev pub spent : View Call Reply Plan Part Name
  spent = record { plan = None; role = Spent; number = 0; mine = []; seen = []; pending_note = []; looked = []; part = T.first; rests = T.rests T.first; merged = [] }

  -- the next caller's view, which has seen nothing
  abbrev pub newcomer : View Call Reply Plan Part Name → View Call Reply Plan Part Name
  newcomer v = record v { role = Caller; mine = []; seen = []; pending_note = []; looked = []; part = T.first; rests = T.rests T.first; merged = [] }
