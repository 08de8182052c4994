-- What the laws say.
use Rattle.std.specs.Prelude.{◌≡◌, ℕ, List, [], ◌∷◌, ◌++◌, length, ◌≤◌, slice_get, Some, All}
use mathlib.Core.List.{IsPrefix}
use Rattle.pass_book.specs.declared.entries.Entry.{Entry}
use Rattle.pass_book.specs.Histories.{IsLegal, entries_of}
use Rattle.pass_book.specs.Pages.{Page, Book, IsBook, Enters, Gains, Learns, longer, with_entry, with_entries, with_note}

module _ {Call Reply State : Type 0} (opens : State → Type 0) (step : State → Call → Reply → State → Type 0) where
  -- An entry of one of the callers that keeps the history legal keeps the book, and to its caller it is a call with an entry
  abbrev pub EntryAdded : Type 0
  EntryAdded = (book : Book Call Reply State) (e : Entry Call Reply) (page : Page Call Reply)
      → IsBook opens step book → slice_get book.pages e.caller ≡ Some page → IsLegal opens step book.start (book.history ++ e ∷ [])
      → IsBook opens step (with_entry book page e)
      × Enters opens step book.start e.caller page record { mine = page.mine ++ e ∷ []; seen = book.history ++ e ∷ [] } e.call e.reply

  -- Entries of one of the callers that keep the history legal keep the book, and its caller gains them. Where there are none, it has seen the whole history
  abbrev pub EntriesAdded : Type 0
  EntriesAdded = (book : Book Call Reply State) (caller : ℕ) (page : Page Call Reply) (entries : List (Entry Call Reply))
      → IsBook opens step book → slice_get book.pages caller ≡ Some page → All (λ (e : Entry Call Reply). e.caller ≡ caller) entries
      → IsLegal opens step book.start (book.history ++ entries)
      → IsBook opens step (with_entries book caller page entries)
      × Gains opens step book.start caller page record { mine = page.mine ++ entries; seen = book.history ++ entries } entries

  -- a note that has seen a beginning of the history, taken in by one of the callers, keeps the book
  abbrev pub NoteTaken : Type 0
  NoteTaken = (book : Book Call Reply State) (caller : ℕ) (page : Page Call Reply) (note : List (Entry Call Reply))
      → IsBook opens step book → slice_get book.pages caller ≡ Some page → IsPrefix note book.history
      → IsBook opens step (with_note book caller page note) × Learns page note record { mine = page.mine; seen = longer page.seen note }

  -- the list of each caller in a book is the sublist of the history with its number
  abbrev pub ListIsSublist : Type 0
  ListIsSublist = (book : Book Call Reply State) (caller : ℕ) (page : Page Call Reply)
      → IsBook opens step book → slice_get book.pages caller ≡ Some page → page.mine ≡ entries_of caller book.history

-- of two beginnings of one history the shorter begins the longer
abbrev pub ShorterBeginsLonger : (Call Reply : Type 0) → Type 0
ShorterBeginsLonger Call Reply = (xs ys history : List (Entry Call Reply)) → IsPrefix xs history → IsPrefix ys history → length xs ≤ length ys → IsPrefix xs ys
