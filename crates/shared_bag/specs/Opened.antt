-- What the opening of a bag gives.
use Rattle.std.specs.Prelude.{◌≡◌, ℕ, List, [], length, All, Option}
use Rattle.segment_store.specs.Contents.{Contents}
use Rattle.seq_objects.specs.declared.bags.BagCall.{BagCall}
use Rattle.seq_objects.specs.declared.bags.BagReply.{BagReply}
use Rattle.pass_table.specs.declared.passes.Pass.{Pass}
use Rattle.pass_table.specs.Views.{blank}
use Rattle.pass_table.specs.Passes.{pass_opening, caller_of, page, looked}
use Rattle.pass_table.specs.Openings.{AreInOrder}
use Rattle.shared_bag.specs.declared.shapes.Shape.{Shape}
use Rattle.shared_bag.specs.declared.layout.Word.{Word}
use Rattle.shared_bag.specs.declared.clients.Plan.{Plan}
use Rattle.shared_bag.specs.declared.clients.Hand.{Hand}
use Rattle.shared_bag.specs.declared.bags.Bag.{Bag}
use Rattle.shared_bag.specs.Bags.{opening_of, shape_of, callers_of, keeper_of}

module _ {K : Type 0} (b : Bag K) where
  -- a pass from the opening of this bag, which has made no call and seen nothing
  pub record IsNewPass (caller : ℕ) (p : Pass (Option Contents) BagCall BagReply (Plan K) Hand Word) : Type 0 where
    pub opening : pass_opening p ≡ opening_of b
    pub numbered : caller_of p ≡ caller
    pub empty : page p ≡ blank
    pub unread : looked p ≡ []

  -- a new pass for each caller, in order of number
  abbrev pub ArePassesOf : List (Pass (Option Contents) BagCall BagReply (Plan K) Hand Word) → Type 0
  ArePassesOf passes = AreInOrder IsNewPass passes

  -- the passes come from the opening of the bag
  abbrev pub AreOfOpening : List (Pass (Option Contents) BagCall BagReply (Plan K) Hand Word) → Type 0
  AreOfOpening passes = All (λ p. pass_opening p ≡ opening_of b) passes

-- the bag was opened with these, and has a new pass for each caller, in order of number
pub record IsOpenedWith {K : Type 0} (shape : Shape) (keeper : K) (b : Bag K) (passes : List (Pass (Option Contents) BagCall BagReply (Plan K) Hand Word)) : Type 0 where
  pub shaped : shape_of b ≡ shape
  pub serves : callers_of b ≡ shape.callers
  pub asks : keeper_of b ≡ keeper
  pub count : length passes ≡ shape.callers
  pub each : ArePassesOf b passes
  pub opening : AreOfOpening b passes
