-- What a bag's history leaves, and how many items that is.
use Rattle.std.specs.Prelude.{◌≡◌, ℕ, zero, suc, ◌≤◌, List, [], ◌++◌, length}
use Rattle.pass_book.specs.declared.entries.Entry.{Entry}
use Rattle.pass_book.specs.Histories.{Leaves}
use Rattle.seq_objects.specs.declared.bags.BagCall.{BagCall}
use Rattle.seq_objects.specs.declared.bags.BagCall.TheVariants.{Add, Remove}
use Rattle.seq_objects.specs.declared.bags.BagReply.{BagReply}
use Rattle.seq_objects.specs.BagSteps.{BagStep}
use Rattle.seq_objects.specs.Meanings.{BagOpens}
use Rattle.shared_bag.specs.declared.layout.Word.{Word}
use Rattle.shared_bag.specs.declared.layout.Word.TheVariants.{Count, Turn, Length}

abbrev pub BagEntry : Type 0
BagEntry = Entry BagCall BagReply

-- the history leaves these items
abbrev pub LeavesItems : List BagEntry → List ℕ → Type 0
LeavesItems h items = Leaves BagOpens BagStep [] h items

-- the history leaves so many items
abbrev pub Counts : List BagEntry → ℕ → Type 0
Counts h n = (items : List ℕ) × LeavesItems h items × (length items ≡ n)

-- the history leaves at least so many items
abbrev pub CountsAtLeast : List BagEntry → ℕ → Type 0
CountsAtLeast h n = (items : List ℕ) × LeavesItems h items × (n ≤ length items)

-- What a word that was read says of the history at that moment: the count is the number of its items, and no segment has more
abbrev pub Shows : List BagEntry → Word → ℕ → Type 0
Shows h Count word = Counts h word
Shows h (Turn segment) word = Unit {0}
Shows h (Length segment) word = CountsAtLeast h word

-- the items of the first n segments
abbrev pub items_of : (ℕ → List ℕ) → ℕ → List ℕ
items_of has zero = []
items_of has (suc n) = items_of has n ++ has n

-- an add asks for an item that is kept
abbrev pub AddsKept : (ℕ → Type 0) → BagCall → Type 0
AddsKept keeps (Add item) = keeps item
AddsKept keeps Remove = Unit {0}
