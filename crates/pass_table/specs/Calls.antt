-- The words that a call read, as the cause of its answer.
use Rattle.std.specs.Prelude.{◌≡◌, ℕ, List, ◌++◌}
use Rattle.pass_book.specs.declared.entries.Entry.{Entry}
use Rattle.pass_book.specs.declared.entries.Look.{Look}
use Rattle.pass_table.specs.Words.{Meets, AreTries}
use Rattle.pass_table.specs.Passes.{Change}

module _ {Call Reply Name : Type 0} (shows : List (Entry Call Reply) → Name → ℕ → Type 0) (change : Change Call Reply Name) where
  -- the words that the call read are a cause, and it met a history for each, in their order
  pub record Reads (IsCause : List (Look Name) → Type 0) : Type 0 where
    pub words : List (Look Name)
    pub looked : change.looked_new ≡ change.looked_old ++ words
    pub cause : IsCause words
    pub meets : Meets shows change.old.seen change.new.seen words

  -- The same of a call that waits: its words are those of busy tries, none or more, each with a cause of its own, and then those of its last try
  pub record ReadsWaiting (IsBusy IsCause : List (Look Name) → Type 0) : Type 0 where
    pub before : List (Look Name)
    pub words : List (Look Name)
    pub looked : change.looked_new ≡ change.looked_old ++ (before ++ words)
    pub tries : AreTries IsBusy before
    pub cause : IsCause words
    pub meets : Meets shows change.old.seen change.new.seen (before ++ words)
