-- What the closing of a bag asks and gives.
use Rattle.std.specs.Prelude.{◌≡◌, ◌==◌, ◌%◌, if◌then◌else◌, ℕ, List, [], length, Option, Some, None, All}
use mathlib.Core.Option.{none, some}
use lib.ListN.{get_elem?}
use Rattle.segment_store.specs.Contents.{Contents}
use Rattle.pass_book.specs.Pages.{Book, IsBook, IsPageOf}
use Rattle.seq_objects.specs.declared.bags.BagCall.{BagCall}
use Rattle.seq_objects.specs.declared.bags.BagReply.{BagReply}
use Rattle.seq_objects.specs.BagSteps.{BagStep}
use Rattle.seq_objects.specs.Meanings.{BagOpens}
use Rattle.pass_table.specs.declared.passes.Pass.{Pass}
use Rattle.pass_table.specs.Passes.{caller_of, page}
use Rattle.shared_bag.specs.declared.layout.Word.{Word}
use Rattle.shared_bag.specs.declared.clients.Plan.{Plan}
use Rattle.shared_bag.specs.declared.clients.Hand.{Hand}
use Rattle.shared_bag.specs.declared.bags.Bag.{Bag}
use Rattle.shared_bag.specs.Layout.{slot_place}
use Rattle.shared_bag.specs.Counted.{BagEntry, LeavesItems, AddsKept}
use Rattle.shared_bag.specs.Bags.{callers_of}

-- the items of what a slot has
abbrev pub items_in : Option Contents → List ℕ
items_in None = []
items_in (Some contents) = contents.items

abbrev pub items_there : mathlib.Core.Option.Option (Option Contents) → List ℕ
items_there none = []
items_there (some slot) = items_in slot

-- the items that stand in the slot of this segment
abbrev pub stored : List (Option Contents) → ℕ → List ℕ
stored slots segment = items_there (get_elem? slots (slot_place segment))

-- what stands in a slot of this number, unless it is one of the spare slots between two segments'
abbrev pub of_slot : ℕ → Option Contents → Option Contents
of_slot slot taken = if (slot % 4 == 0) then taken else None

module _ {K : Type 0} (b : Bag K) where
  -- There is the one book of the bag: its history is legal, has calls of its callers alone, and leaves these items, and each added item is kept.
  -- The book has a page for each caller, with just its entries, and each pass has the entries of its caller's page, and had seen a beginning of the history
  pub record ClosesWith (passes : List (Pass (Option Contents) BagCall BagReply (Plan K) Hand Word)) (keeps : ℕ → Type 0) (items : List ℕ) : Type 0 where
    pub book : Book BagCall BagReply (List ℕ)
    pub legal : IsBook BagOpens BagStep book
    pub opened : book.start ≡ []
    pub callers : length book.pages ≡ callers_of b
    pub leaves : LeavesItems book.history items
    pub kept : All (λ (e : BagEntry). AddsKept keeps e.call) book.history
    pub pages : All (λ p. IsPageOf (caller_of p) book.history (page p)) passes
