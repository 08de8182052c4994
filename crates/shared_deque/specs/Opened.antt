-- What the opening of a deque gives.
use Rattle.std.specs.Prelude.{◌≡◌, ℕ, ◌≤◌, List, [], length, All}
use Rattle.seq_objects.specs.declared.deques.DequeCall.{DequeCall}
use Rattle.seq_objects.specs.declared.deques.DequeReply.{DequeReply}
use Rattle.pass_table.specs.declared.passes.Pass.{Pass}
use Rattle.pass_table.specs.Views.{blank}
use Rattle.pass_table.specs.Passes.{pass_opening, caller_of, page, looked}
use Rattle.pass_table.specs.Openings.{AreInOrder}
use Rattle.shared_deque.specs.declared.layout.Word.{Word}
use Rattle.shared_deque.specs.declared.clients.Plan.{Plan}
use Rattle.shared_deque.specs.declared.clients.Stage.{Stage}
use Rattle.shared_deque.specs.declared.deques.Deque.{Deque}
use Rattle.shared_deque.specs.Deques.{opening_of, capacity_of, callers_of, keeper_of}

-- a number in a range, its ends included
abbrev pub IsIn : ℕ → ℕ → ℕ → Type 0
IsIn least most n = (least ≤ n) × (n ≤ most)

module _ {K : Type 0} (d : Deque K) where
  -- a pass from the opening of this deque, which has made no call and seen nothing
  pub record IsNewPass (caller : ℕ) (p : Pass Unit DequeCall DequeReply (Plan K) Stage Word) : Type 0 where
    pub opening : pass_opening p ≡ opening_of d
    pub numbered : caller_of p ≡ caller
    pub empty : page p ≡ blank
    pub unread : looked p ≡ []

  -- a new pass for each caller, in order of number
  abbrev pub ArePassesOf : List (Pass Unit DequeCall DequeReply (Plan K) Stage Word) → Type 0
  ArePassesOf passes = AreInOrder IsNewPass passes

  -- the passes come from the opening of the deque
  abbrev pub AreOfOpening : List (Pass Unit DequeCall DequeReply (Plan K) Stage Word) → Type 0
  AreOfOpening passes = All (λ p. pass_opening p ≡ opening_of d) passes

-- the deque was opened with these, and has a new pass for each caller, in order of number
pub record IsOpenedWith {K : Type 0} (capacity callers : ℕ) (keeper : K) (d : Deque K)
    (passes : List (Pass Unit DequeCall DequeReply (Plan K) Stage Word)) : Type 0 where
  pub holds : capacity_of d ≡ capacity
  pub serves : callers_of d ≡ callers
  pub asks : keeper_of d ≡ keeper
  pub count : length passes ≡ callers
  pub each : ArePassesOf d passes
  pub opening : AreOfOpening d passes
