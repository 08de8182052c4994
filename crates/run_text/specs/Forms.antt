-- What a line of a run may be, word by word.
use Rattle.std.specs.Prelude.{ℕ, ◌-◌, ◌*◌, ◌/◌, ◌<◌, ◌≤◌, ◌^◌, Bool, true, false, min, List, [], ◌∷◌, Option, Some, None, codes, slice_index_or}
use Rattle.pgas_base.specs.Pointers.{Pointer as Ptr, IsPointer}
use Rattle.pgas_base.specs.Shapes.{IsShape}
use Rattle.pgas_base.specs.Starts.{IsStart}
use Rattle.epoch_laws.specs.declared.steps.Kind.{Kind as StepKind}
use Rattle.epoch_laws.specs.declared.steps.Kind.TheVariants as kind
use Rattle.line_text.specs.declared.forms.Bounds.{Bounds}
use Rattle.line_text.specs.Lines.{Grammar}
use Rattle.line_text.specs.Ranges.{between}
use Rattle.run_text.specs.declared.forms.RunLine.{RunLine}
use Rattle.run_text.specs.declared.forms.RunLine.TheVariants as line
use Rattle.run_text.specs.declared.forms.Spot.{Spot}
use Rattle.run_text.specs.declared.forms.Spot.TheVariants.{First, Version, ShapeWord, Locales, Tokens, Objects, Width, StartWord, Epoch, Count, Stack, SeatsWord, Seats, Seat, Kind, Locale, Number, Pointer, Index, Uses, Next, Whole}
use Rattle.run_text.specs.declared.verbs.LocaleVerb.{LocaleVerb}
use Rattle.run_text.specs.declared.verbs.LocaleVerb.TheVariants as locale
use Rattle.run_text.specs.declared.verbs.NumberVerb.{NumberVerb}
use Rattle.run_text.specs.declared.verbs.NumberVerb.TheVariants as number
use Rattle.run_text.specs.declared.verbs.PointerVerb.{PointerVerb}
use Rattle.run_text.specs.declared.verbs.PointerVerb.TheVariants as pointer
use Rattle.run_text.specs.Runs.{IsStep}

abbrev pub step_spot : ℕ → StepKind → Spot
step_spot seat kind = Whole (line.Step (record { seat = seat; kind = kind }))

-- ---- words

-- the words of the kinds of step, in their order
abbrev pub kind_words : List (List ℕ)
kind_words =
    codes "register"
    ∷ codes "unregister"
    ∷ codes "pin_look"
    ∷ codes "pin_set"
    ∷ codes "unpin"
    ∷ codes "take_look"
    ∷ codes "take_try"
    ∷ codes "show"
    ∷ codes "hold"
    ∷ codes "touch"
    ∷ codes "return"
    ∷ codes "defer_look"
    ∷ codes "defer_swap"
    ∷ codes "defer_link"
    ∷ codes "elect_local"
    ∷ codes "elect_global"
    ∷ codes "epoch_look"
    ∷ codes "scan_token"
    ∷ codes "advance"
    ∷ codes "spread"
    ∷ codes "collect"
    ∷ codes "walk"
    ∷ codes "release"
    ∷ codes "leave"
    ∷ codes "stack_look"
    ∷ codes "stack_next"
    ∷ codes "stack_pop"
    ∷ codes "stack_put"
    ∷ codes "hand_link"
    ∷ codes "home_swap"
    ∷ codes "home_link"
    ∷ codes "home_take"
    ∷ codes "home_walk"
    ∷ []

abbrev pub kind_word : ℕ → List ℕ
kind_word index = slice_index_or kind_words index []

-- what stands behind each of them
abbrev pub kind_spots : ℕ → List Spot
kind_spots seat =
    Locale seat (locale.Number number.Register)
    ∷ step_spot seat kind.Unregister
    ∷ step_spot seat kind.PinLook
    ∷ step_spot seat kind.PinSet
    ∷ step_spot seat kind.Unpin
    ∷ Locale seat (locale.Number number.TakeLook)
    ∷ Locale seat (locale.Number number.TakeTry)
    ∷ Pointer seat pointer.Show
    ∷ Pointer seat pointer.Hold
    ∷ Pointer seat pointer.Touch
    ∷ Pointer seat pointer.Return
    ∷ Pointer seat pointer.DeferLook
    ∷ step_spot seat kind.DeferSwap
    ∷ step_spot seat kind.DeferLink
    ∷ step_spot seat kind.ElectLocal
    ∷ step_spot seat kind.ElectGlobal
    ∷ step_spot seat kind.EpochLook
    ∷ step_spot seat kind.ScanToken
    ∷ step_spot seat kind.Advance
    ∷ step_spot seat kind.Spread
    ∷ step_spot seat kind.Collect
    ∷ step_spot seat kind.Walk
    ∷ Pointer seat pointer.Release
    ∷ step_spot seat kind.Leave
    ∷ Locale seat locale.StackLook
    ∷ step_spot seat kind.StackNext
    ∷ step_spot seat kind.StackPop
    ∷ Pointer seat pointer.StackPut
    ∷ Pointer seat pointer.HandLink
    ∷ Pointer seat pointer.HomeSwap
    ∷ step_spot seat kind.HomeLink
    ∷ Locale seat locale.HomeTake
    ∷ step_spot seat kind.HomeWalk
    ∷ []

abbrev pub after_kind : ℕ → ℕ → Spot
after_kind seat index = slice_index_or (kind_spots seat) index (Kind seat)

abbrev pub words_of : Spot → List (List ℕ)
words_of First = codes "pgas-run" ∷ []
words_of Version = codes "1" ∷ []
words_of ShapeWord = codes "shape" ∷ []
words_of StartWord = codes "start" ∷ []
words_of SeatsWord = codes "seats" ∷ []
words_of Seat = codes "end" ∷ []
words_of (Kind seat) = kind_words
words_of spot = []

abbrev pub after_word : Spot → ℕ → Spot
after_word First index = Version
after_word Version index = Whole line.Version
after_word ShapeWord index = Locales
after_word StartWord index = Epoch
after_word SeatsWord index = Seats
after_word Seat index = Whole line.End
after_word (Kind seat) index = after_kind seat index
after_word spot index = spot

-- ---- numbers

-- so many objects that each may have the least width
abbrev pub objects_most : ℕ → ℕ
objects_most locales = min (2 ^ 25 / (4 * locales)) (2 ^ 20)

-- the width with which all objects have the most words
abbrev pub width_most : ℕ → ℕ → ℕ
width_most locales objects = min (2 ^ 25 / (locales * objects) - 2) 4096

abbrev pub bounds_of : Spot → Option Bounds
bounds_of Locales = Some (between 1 16)
bounds_of (Tokens locales) = Some (between 1 1024)
bounds_of (Objects locales tokens) = Some (between 1 (objects_most locales))
bounds_of (Width locales tokens objects) = Some (between 2 (width_most locales objects))
bounds_of Epoch = Some (between 1 (2 ^ 62))
bounds_of (Count epoch) = Some (between 0 (2 ^ 32 - 1))
bounds_of (Stack epoch count) = Some (between 0 (2 ^ 40 - 1))
bounds_of Seats = Some (between 1 1024)
bounds_of Seat = Some (between 0 (2 ^ 32 - 1))
bounds_of (Locale seat verb) = Some (between 0 255)
bounds_of (Number seat verb locale) = Some (between 0 (2 ^ 32 - 1))
bounds_of (Pointer seat verb) = Some (between 0 15)
bounds_of (Index seat verb locale) = Some (between 1 (2 ^ 24 - 1))
bounds_of (Uses seat verb locale index) = Some (between 0 (2 ^ 32 - 1))
bounds_of (Next seat ptr) = Some (between 0 (2 ^ 64 - 1))
bounds_of spot = None

abbrev pub after_locale : ℕ → LocaleVerb → ℕ → Spot
after_locale seat (locale.Number verb) l = Number seat verb l
after_locale seat locale.StackLook l = step_spot seat (kind.StackLook l)
after_locale seat locale.HomeTake l = step_spot seat (kind.HomeTake l)

abbrev pub after_number_of : ℕ → NumberVerb → ℕ → ℕ → Spot
after_number_of seat number.Register l n = step_spot seat (kind.Register l n)
after_number_of seat number.TakeLook l n = step_spot seat (kind.TakeLook l n)
after_number_of seat number.TakeTry l n = step_spot seat (kind.TakeTry l n)

abbrev pub after_pointer : ℕ → PointerVerb → Ptr → Spot
after_pointer seat pointer.Show p = step_spot seat (kind.Show p)
after_pointer seat pointer.Hold p = step_spot seat (kind.Hold p)
after_pointer seat pointer.Touch p = step_spot seat (kind.Touch p)
after_pointer seat pointer.Return p = step_spot seat (kind.Return p)
after_pointer seat pointer.DeferLook p = step_spot seat (kind.DeferLook p)
after_pointer seat pointer.Release p = step_spot seat (kind.Release p)
after_pointer seat pointer.HandLink p = Next seat p
after_pointer seat pointer.StackPut p = Pointer seat (pointer.StackTail p)
after_pointer seat (pointer.StackTail top) p = step_spot seat (kind.StackPut top p)
after_pointer seat pointer.HomeSwap p = Pointer seat (pointer.HomeTail p)
after_pointer seat (pointer.HomeTail top) p = step_spot seat (kind.HomeSwap top p)

abbrev pub after_number : Spot → ℕ → Spot
after_number Locales n = Tokens n
after_number (Tokens locales) n = Objects locales n
after_number (Objects locales tokens) n = Width locales tokens n
after_number (Width locales tokens objects) n = Whole (line.Shape (record { locales = locales; tokens = tokens; objects = objects; width = n }))
after_number Epoch n = Count n
after_number (Count epoch) n = Stack epoch n
after_number (Stack epoch count) n = Whole (line.Start (record { epoch = epoch; count = count; stack = n }))
after_number Seats n = Whole (line.Seats n)
after_number Seat n = Kind n
after_number (Locale seat verb) n = after_locale seat verb n
after_number (Number seat verb locale) n = after_number_of seat verb locale n
after_number (Pointer seat verb) n = Index seat verb n
after_number (Index seat verb locale) n = Uses seat verb locale n
after_number (Uses seat verb locale index) n = after_pointer seat verb (record { locale = locale; index = index; count = n })
after_number (Next seat ptr) n = step_spot seat (kind.HandLink ptr n)
after_number spot n = spot

abbrev pub says_of : Spot → Option RunLine
says_of (Whole line) = Some line
says_of spot = None

-- the locale and the index of a pointer are joined to what follows
abbrev pub joined_of : Spot → Bool
joined_of (Pointer seat verb) = true
joined_of (Index seat verb locale) = true
joined_of spot = false

abbrev pub run_grammar : Grammar Spot RunLine
run_grammar = record {
  words = words_of;
  after_word = after_word;
  bounds = bounds_of;
  after_number = after_number;
  says = says_of;
  indented = λ spot. spot;
  joined = joined_of;
}

-- ---- what was read keeps the limits

abbrev pub IsLine : RunLine → Type 0
IsLine (line.Shape shape) = IsShape shape
IsLine (line.Start start) = IsStart start × (start.count < 2 ^ 32)
IsLine (line.Seats seats) = (1 ≤ seats) × (seats ≤ 1024)
IsLine (line.Step step) = IsStep step
IsLine said = Unit {0}

abbrev pub IsLocales : ℕ → Type 0
IsLocales locales = (1 ≤ locales) × (locales ≤ 16)

abbrev pub IsVerb : PointerVerb → Type 0
IsVerb (pointer.StackTail top) = IsPointer top
IsVerb (pointer.HomeTail top) = IsPointer top
IsVerb verb = Unit {0}

abbrev pub IsSpot : Spot → Type 0
IsSpot (Tokens locales) = IsLocales locales
IsSpot (Objects locales tokens) = IsLocales locales × (1 ≤ tokens) × (tokens ≤ 1024)
IsSpot (Width locales tokens objects) =
    IsLocales locales × ((1 ≤ tokens) × (tokens ≤ 1024)) × ((1 ≤ objects) × (objects ≤ 2 ^ 20)) × (locales * objects * 4 ≤ 2 ^ 25)
IsSpot (Count epoch) = (1 ≤ epoch) × (epoch ≤ 2 ^ 62)
IsSpot (Stack epoch count) = ((1 ≤ epoch) × (epoch ≤ 2 ^ 62)) × (count < 2 ^ 32)
IsSpot (Kind seat) = seat < 2 ^ 32
IsSpot (Locale seat verb) = seat < 2 ^ 32
IsSpot (Number seat verb locale) = (seat < 2 ^ 32) × (locale < 2 ^ 8)
IsSpot (Pointer seat verb) = (seat < 2 ^ 32) × IsVerb verb
IsSpot (Index seat verb locale) = (seat < 2 ^ 32) × IsVerb verb × (locale < 16)
IsSpot (Uses seat verb locale index) = (seat < 2 ^ 32) × IsVerb verb × (locale < 16) × (1 ≤ index) × (index < 2 ^ 24)
IsSpot (Next seat ptr) = (seat < 2 ^ 32) × IsPointer ptr
IsSpot (Whole line) = IsLine line
IsSpot spot = Unit {0}
