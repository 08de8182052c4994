-- What a caller knows of the history, and how a call, a note and the taking in of a note change it.
use Rattle.std.specs.Prelude.{◌≡◌, ℕ, List, [], ◌∷◌, ◌++◌, length, ltb, if◌then◌else◌, slice_get, slice_set, Some}
use mathlib.Core.List.{IsPrefix}
use Rattle.pass_book.specs.declared.entries.Entry.{Entry}
use Rattle.pass_book.specs.Histories.{IsLegal, entries_of, IsOfOthers, IsOfCallers}

-- what contracts see of one caller: the entries that it made, and the beginning of the history that it has seen
pub record Page (Call Reply : Type 0) : Type 0 where
  pub mine : List (Entry Call Reply)
  pub seen : List (Entry Call Reply)

-- the opening state, the one history, and the page of each caller by its number, also of callers whose passes were given up
pub record Book (Call Reply State : Type 0) : Type 0 where
  pub start : State
  pub history : List (Entry Call Reply)
  pub pages : List (Page Call Reply)

-- the longer of two lists
abbrev pub longer : {A : Type 0} → List A → List A → List A
longer xs ys = if ltb (length xs) (length ys) then ys else xs

-- nothing is taken away
abbrev pub OnlyAdds : {A : Type 0} → List A → List A → Type 0
OnlyAdds old new = IsPrefix old new

module _ {Call Reply : Type 0} where
  -- the caller's list is what it has seen of its own entries
  abbrev pub IsPage : ℕ → Page Call Reply → Type 0
  IsPage caller page = page.mine ≡ entries_of caller page.seen

  -- the caller has seen a beginning of the history, in which all of its own entries stand
  pub record IsPageOf (caller : ℕ) (history : List (Entry Call Reply)) (page : Page Call Reply) : Type 0 where
    pub whole : page.mine ≡ entries_of caller history
    pub own : IsPage caller page
    pub begins : IsPrefix page.seen history

  -- a note of a page has seen what the page has seen, and the page stays as it was
  abbrev pub IsNoted : Page Call Reply → Page Call Reply → List (Entry Call Reply) → Type 0
  IsNoted old new note = (new ≡ old) × (note ≡ old.seen)

  -- what is seen is the longer of what was seen and the note, and both begin it
  pub record Learns (old : Page Call Reply) (note : List (Entry Call Reply)) (new : Page Call Reply) : Type 0 where
    pub mine : new.mine ≡ old.mine
    pub seen : new.seen ≡ longer old.seen note
    pub old_begins : IsPrefix old.seen new.seen
    pub note_begins : IsPrefix note new.seen

module _ {Call Reply State : Type 0} (opens : State → Type 0) (step : State → Call → Reply → State → Type 0) where
  -- A call with an entry: what is seen becomes what was seen, then entries of other callers, then its own entry,
  -- then entries of other callers that its later steps met. It is a legal history, and the caller's list gains just that entry
  pub record EntersAmong (start : State) (caller : ℕ) (old new : Page Call Reply) (call : Call) (reply : Reply) : Type 0 where
    pub before : List (Entry Call Reply)
    pub behind : List (Entry Call Reply)
    pub seen : new.seen ≡ ((old.seen ++ before) ++ record { caller = caller; call = call; reply = reply } ∷ []) ++ behind
    pub others : IsOfOthers caller before × IsOfOthers caller behind
    pub mine : new.mine ≡ old.mine ++ record { caller = caller; call = call; reply = reply } ∷ []
    pub own : IsPage caller new
    pub legal : IsLegal opens step start new.seen

  -- the same, where nothing stands behind the entry
  pub record Enters (start : State) (caller : ℕ) (old new : Page Call Reply) (call : Call) (reply : Reply) : Type 0 where
    pub before : List (Entry Call Reply)
    pub seen : new.seen ≡ (old.seen ++ before) ++ record { caller = caller; call = call; reply = reply } ∷ []
    pub others : IsOfOthers caller before
    pub mine : new.mine ≡ old.mine ++ record { caller = caller; call = call; reply = reply } ∷ []
    pub own : IsPage caller new
    pub legal : IsLegal opens step start new.seen

  -- A call with these entries, none or several: what is seen becomes what was seen and then entries of the caller and of others, of which the
  -- caller's are just these, in their order. It is a legal history, and the caller's list gains just these
  pub record Gains (start : State) (caller : ℕ) (old new : Page Call Reply) (entries : List (Entry Call Reply)) : Type 0 where
    pub more : List (Entry Call Reply)
    pub seen : new.seen ≡ old.seen ++ more
    pub among : entries_of caller more ≡ entries
    pub mine : new.mine ≡ old.mine ++ entries
    pub own : IsPage caller new
    pub legal : IsLegal opens step start new.seen

  -- A call without an entry: the caller's list is as it was, and what it had seen begins what it has seen, a legal history, of which the rest is
  -- others' entries
  pub record EntersNothing (start : State) (caller : ℕ) (old new : Page Call Reply) : Type 0 where
    pub mine : new.mine ≡ old.mine
    pub seen : IsPrefix old.seen new.seen
    pub others : IsOfOthers caller seen.0
    pub own : IsPage caller new
    pub legal : IsLegal opens step start new.seen

  -- The history is legal and has entries of the book's callers alone. Each caller's page has just its entries, and has seen a beginning
  pub record IsBook (book : Book Call Reply State) : Type 0 where
    pub legal : IsLegal opens step book.start book.history
    pub callers : IsOfCallers (length book.pages) book.history
    pub pages : (caller : ℕ) (page : Page Call Reply) → slice_get book.pages caller ≡ Some page → IsPageOf caller book.history page

module _ {Call Reply State : Type 0} where
  -- the book after entries of one caller at the end of its history, which the caller has seen whole
  abbrev pub with_entries : Book Call Reply State → ℕ → Page Call Reply → List (Entry Call Reply) → Book Call Reply State
  with_entries book caller page entries = record {
    start = book.start;
    history = book.history ++ entries;
    pages = slice_set book.pages caller record { mine = page.mine ++ entries; seen = book.history ++ entries };
  }

  -- the book after one entry at the end of its history, which the caller has seen whole
  abbrev pub with_entry : Book Call Reply State → Page Call Reply → Entry Call Reply → Book Call Reply State
  with_entry book page e = with_entries book e.caller page (e ∷ [])

  -- the book after the caller has taken in a note
  abbrev pub with_note : Book Call Reply State → ℕ → Page Call Reply → List (Entry Call Reply) → Book Call Reply State
  with_note book caller page note = record {
    start = book.start;
    history = book.history;
    pages = slice_set book.pages caller record { mine = page.mine; seen = longer page.seen note };
  }
