-- What an object brings, and what one kind of its steps may do.
use Rattle.std.specs.Prelude.{◌≡◌, ℕ, ◌<◌, Bool, true, false, List, [], ◌++◌, length, slice_index, slice_set, nat_eq, if◌then◌else◌, All}
use mathlib.Core.Option.{Option}
use Rattle.atomic_table.specs.Table.{Act, Valid, carried_after, homes_after}
use Rattle.pass_book.specs.declared.entries.Entry.{Entry}
use Rattle.pass_book.specs.declared.entries.Look.{Look}
use Rattle.pass_book.specs.Histories.{IsLegal, IsOfCallers}

-- The table of an object at one moment: its words, what its slots have at home, the history so far, and what each caller knows of its call
pub record Moment (Slot Call Reply Part : Type 0) : Type 0 where
  pub words : List ℕ
  pub homes : List (Option Slot)
  pub history : List (Entry Call Reply)
  pub parts : ℕ → Part

-- An object's own terms: the state in which it opens and for how many callers, what a caller knows before its first call and whether it is
-- between two calls, the name of word 0 and how many items it says that there are, what a word that was read says of the history at that moment, and the rule
pub record Terms (Slot Call Reply State Plan Part Name : Type 0) : Type 1 where
  pub start : Plan → State
  pub callers : Plan → ℕ
  pub first : Part
  pub rests : Part → Bool
  pub first_word : Name
  pub size : ℕ → ℕ
  pub shows : Plan → List (Entry Call Reply) → Name → ℕ → Type 0
  pub holds : Plan → Moment Slot Call Reply Part → Type 0

-- What a step does for its caller. Where it sees, the caller has then seen the history up to the step and the entries that the step makes.
-- It adds these words to those that were read, and leaves the caller with this part and these slots
pub record Effect (Slot Call Reply Part Name : Type 0) : Type 0 where
  pub sees : Bool
  pub history : List (Entry Call Reply)
  pub entries : List (Entry Call Reply)
  pub looks : List (Look Name)
  pub part : Part
  pub carried : List (ℕ × Slot)

module _ {Slot Call Reply Part Name : Type 0} where
  -- a step that sees the history
  abbrev pub seeing : List (Entry Call Reply) → List (Look Name) → List (Entry Call Reply) → Part → List (ℕ × Slot) → Effect Slot Call Reply Part Name
  seeing history looks entries part carried = record { sees = true; history = history; entries = entries; looks = looks; part = part; carried = carried }

  -- a step that sees and reads nothing
  abbrev pub moving : List (Entry Call Reply) → Part → List (ℕ × Slot) → Effect Slot Call Reply Part Name
  moving history part carried = record { sees = false; history = history; entries = []; looks = []; part = part; carried = carried }

  -- the effect is that of a step which sees the history, reads these words, makes these entries and leaves this part and these slots
  abbrev pub SeesSo : Effect Slot Call Reply Part Name → List (Look Name) → List (Entry Call Reply) → Part → List (ℕ × Slot) → Type 0
  SeesSo e looks entries part carried = (h : List (Entry Call Reply)) × (e ≡ seeing h looks entries part carried)

  -- the same of a step that sees and reads nothing
  abbrev pub MovesSo : Effect Slot Call Reply Part Name → Part → List (ℕ × Slot) → Type 0
  MovesSo e part carried = (h : List (Entry Call Reply)) × (e ≡ moving h part carried)

-- what the callers know, after a step of one of them
abbrev pub put : {A : Type 0} → (ℕ → A) → ℕ → A → ℕ → A
put parts caller part other = if nat_eq other caller then part else parts other

module _ {Slot Call Reply State Plan Part Name : Type 0} (T : Terms Slot Call Reply State Plan Part Name) (opens : State → Type 0) (step : State → Call → Reply → State → Type 0) where
  -- the moment after a caller's step on the word i, which is then n
  abbrev pub moved : Moment Slot Call Reply Part → ℕ → ℕ → ℕ → List (ℕ × Slot) → Act Slot → Effect Slot Call Reply Part Name → Moment Slot Call Reply Part
  moved m i n caller carried act e = record {
    words = slice_set m.words i n;
    homes = homes_after m.homes carried act;
    history = m.history ++ e.entries;
    parts = put m.parts caller e.part;
  }

  -- A step of the caller has this effect by this act: it keeps the rule and the history legal, each word that it read says what it shows of
  -- the history at that moment, and only a step that sees that history reads words and makes entries
  pub record Acts (plan : Plan) (m : Moment Slot Call Reply Part) (i n caller : ℕ) (carried : List (ℕ × Slot)) (e : Effect Slot Call Reply Part Name) (act : Act Slot) : Type 0 where
    pub valid : Valid m.homes carried act
    pub slots : e.carried ≡ carried_after carried act
    pub history : e.history ≡ m.history
    pub own : All (λ (x : Entry Call Reply). x.caller ≡ caller) e.entries
    pub quiet : e.sees ≡ false → (e.entries ≡ []) × (e.looks ≡ [])
    pub legal : IsLegal opens step (T.start plan) (m.history ++ e.entries)
    pub shows : All (λ (look : Look Name). T.shows plan m.history look.name look.word) e.looks
    pub rule : T.holds plan (moved m i n caller carried act e)

  -- Whatever the moment is at which the word i becomes f of what it was, the caller's step, made between two calls or in the middle of one, has an effect that keeps the rule, and tells so of
  -- the number found and the effect
  abbrev pub Permits : Plan → ℕ → ℕ → Bool → Part → List (ℕ × Slot) → ℕ → (ℕ → ℕ) → (ℕ → Effect Slot Call Reply Part Name → Type 0) → Type 0
  Permits plan slots caller rests part carried i f tells =
      (m : Moment Slot Call Reply Part) → T.holds plan m → m.parts caller ≡ part → rests ≡ T.rests part → caller < T.callers plan
      → IsOfCallers (T.callers plan) m.history → IsLegal opens step (T.start plan) m.history
      → length m.homes ≡ slots → slice_index m.words i < 18446744073709551616
      → (e : Effect Slot Call Reply Part Name) × (act : Act Slot) × Acts plan m i (f (slice_index m.words i)) caller carried e act × tells (slice_index m.words i) e
