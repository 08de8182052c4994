-- The words and the numbers of each line. A row is a line but for its numbers.
use Rattle.std.specs.Prelude.{ℕ, zero, suc, ◌<◌, ◌^◌, Bool, true, false, List, [], ◌∷◌, ◌++◌, length, map, slice_index_or, codes, decimal}
use Rattle.seq_objects.specs.declared.lists.ListCall.{ListCall}
use Rattle.seq_objects.specs.declared.lists.ListCall.TheVariants.{Read, Write, Swap, Add, Grow, Len}
use Rattle.seq_objects.specs.declared.bags.BagCall.{BagCall}
use Rattle.seq_objects.specs.declared.bags.BagCall.TheVariants.{Add as Put, Remove}
use Rattle.seq_objects.specs.declared.deques.DequeCall.{DequeCall}
use Rattle.seq_objects.specs.declared.deques.DequeCall.TheVariants.{PushBack, PushFront, PopBack, PopFront}
use Rattle.line_text.specs.Words.{words_line}
use Rattle.script_text.specs.declared.scripts.ObjectLine.{ObjectLine}
use Rattle.script_text.specs.declared.scripts.ObjectLine.TheVariants.{List as AList, Bag as ABag, Deque as ADeque}
use Rattle.script_text.specs.declared.scripts.Call.{Call}
use Rattle.script_text.specs.declared.scripts.Call.TheVariants.{List as OfList, Bag as OfBag, Deque as OfDeque}
use Rattle.script_text.specs.declared.lines.Kind.{Kind}
use Rattle.script_text.specs.declared.lines.Kind.TheVariants.{List as KList, Bag as KBag, Deque as KDeque}
use Rattle.script_text.specs.declared.lines.Line.{Line}
use Rattle.script_text.specs.declared.lines.Line.TheVariants.{Pgas, Object, Callers, Caller, Round, Call as ACall, End}
use Rattle.script_text.specs.declared.rows.Numbers.{Numbers}
use Rattle.script_text.specs.declared.rows.Numbers.TheVariants.{Zero, One, Two, Three}
use Rattle.script_text.specs.declared.rows.Row.{Row}
use Rattle.script_text.specs.declared.rows.Row.TheVariants.{Object as ObjectRow, Callers as CallersRow, Caller as CallerRow, Call as CallRow}

-- ---- numbers

abbrev pub listed : Numbers → List ℕ
listed Zero = []
listed (One first) = first ∷ []
listed (Two first second) = first ∷ second ∷ []
listed (Three first second third) = first ∷ second ∷ third ∷ []

abbrev pub count : Numbers → ℕ
count numbers = length (listed numbers)

abbrev pub nth : Numbers → ℕ → ℕ
nth numbers place = slice_index_or (listed numbers) place 0

-- with one more at the end
abbrev pub with_number : Numbers → ℕ → Numbers
with_number Zero number = One number
with_number (One first) number = Two first number
with_number (Two first second) number = Three first second number
with_number (Three first second third) number = Three first second number

-- ---- calls, by the numbers of their words

abbrev pub list_call : ℕ → ℕ → ℕ → ℕ → ListCall
list_call zero at old new = Read at
list_call (suc zero) at old new = Write at old
list_call (suc (suc zero)) at old new = Swap at old new
list_call (suc (suc (suc zero))) at old new = Add at old
list_call (suc (suc (suc (suc zero)))) at old new = Grow at
list_call word at old new = Len

abbrev pub bag_call : ℕ → ℕ → BagCall
bag_call zero item = Put item
bag_call word item = Remove

abbrev pub deque_call : ℕ → ℕ → DequeCall
deque_call zero item = PushBack item
deque_call (suc zero) item = PushFront item
deque_call (suc (suc zero)) item = PopBack
deque_call word item = PopFront

abbrev pub call_of : Kind → ℕ → Bool → ℕ → ℕ → ℕ → Call
call_of KList word once at old new = OfList (list_call word at old new)
call_of KBag word once at old new = OfBag (bag_call word at) once
call_of KDeque word once at old new = OfDeque (deque_call word at) once

-- ---- the words of calls, and their numbers

abbrev pub list_parts : ListCall → List ℕ × Numbers
list_parts (Read at) = (codes "read", One at)
list_parts (Write at value) = (codes "write", Two at value)
list_parts (Swap at old new) = (codes "swap", Three at old new)
list_parts (Add at value) = (codes "add", Two at value)
list_parts (Grow to) = (codes "grow", One to)
list_parts Len = (codes "len", Zero)

abbrev pub bag_parts : BagCall → List ℕ × Numbers
bag_parts (Put item) = (codes "add", One item)
bag_parts Remove = (codes "remove", Zero)

abbrev pub deque_parts : DequeCall → List ℕ × Numbers
deque_parts (PushBack item) = (codes "push_back", One item)
deque_parts (PushFront item) = (codes "push_front", One item)
deque_parts PopBack = (codes "pop_back", Zero)
deque_parts PopFront = (codes "pop_front", Zero)

abbrev pub call_parts : Call → List ℕ × Numbers
call_parts (OfList call) = list_parts call
call_parts (OfBag call once) = bag_parts call
call_parts (OfDeque call once) = deque_parts call

abbrev pub call_numbers : Call → Numbers
call_numbers call = (call_parts call).1

abbrev pub is_once : Call → Bool
is_once (OfList call) = false
is_once (OfBag call once) = once
is_once (OfDeque call once) = once

-- ---- lines

abbrev pub kind_of : ObjectLine → Kind
kind_of (AList locales objects width) = KList
kind_of (ABag locales segments room) = KBag
kind_of (ADeque locales capacity) = KDeque

abbrev pub object_parts : ObjectLine → List ℕ × Numbers
object_parts (AList locales objects width) = (codes "list", Three locales objects width)
object_parts (ABag locales segments room) = (codes "bag", Three locales segments room)
object_parts (ADeque locales capacity) = (codes "deque", Two locales capacity)

-- the last word of a line, and its numbers
abbrev pub line_parts : Line → List ℕ × Numbers
line_parts Pgas = (codes "1", Zero)
line_parts (Object object) = object_parts object
line_parts (Callers callers) = (codes "callers", One callers)
line_parts (Caller caller) = (codes "caller", One caller)
line_parts Round = (codes "round", Zero)
line_parts (ACall call) = call_parts call
line_parts End = (codes "end", Zero)

abbrev pub numbers_of : Line → Numbers
numbers_of line = (line_parts line).1

-- a call that is tried once has `try` before it
abbrev pub try_before : Bool → List (List ℕ)
try_before true = codes "try" ∷ []
try_before false = []

-- the words before the last one
abbrev pub fronts : Line → List (List ℕ)
fronts Pgas = codes "pgas" ∷ []
fronts (Object object) = codes "object" ∷ []
fronts (ACall call) = try_before (is_once call)
fronts line = []

-- the words before the numbers of a line
abbrev pub words_of : Line → List (List ℕ)
words_of line = fronts line ++ (line_parts line).0 ∷ []

-- all words of a line
abbrev pub line_words : Line → List (List ℕ)
line_words line = words_of line ++ map decimal (listed (numbers_of line))

-- parted by one space
abbrev pub written_line : Line → List ℕ
written_line line = words_line (line_words line) ++ 10 ∷ []

abbrev pub object_of : Kind → ℕ → ℕ → ℕ → ObjectLine
object_of KList locales second third = AList locales second third
object_of KBag locales second third = ABag locales second third
object_of KDeque locales second third = ADeque locales second

abbrev pub call_made : Kind → ℕ → Bool → Numbers → Call
call_made kind word once n = call_of kind word once (nth n 0) (nth n 1) (nth n 2)

-- the line of a row with these numbers
abbrev pub made : Row → Numbers → Line
made (ObjectRow kind) n = Object (object_of kind (nth n 0) (nth n 1) (nth n 2))
made (CallersRow object) n = Callers (nth n 0)
made (CallerRow callers) n = Caller (nth n 0)
made (CallRow kind word once) n = ACall (call_made kind word once n)

-- its last word
abbrev pub row_word : Row → List ℕ
row_word row = (line_parts (made row Zero)).0

-- the numbers fit the fields of an object
abbrev pub IsMakeableObject : Numbers → Type 0
IsMakeableObject n = (nth n 0 < 2 ^ 8) × (nth n 1 < 2 ^ 32) × (nth n 2 < 2 ^ 32)

-- and those of a line
abbrev pub IsMakeable : Row → Numbers → Type 0
IsMakeable (ObjectRow kind) n = IsMakeableObject n
IsMakeable (CallRow kind word once) n = Unit {0}
IsMakeable row n = nth n 0 < 2 ^ 32
