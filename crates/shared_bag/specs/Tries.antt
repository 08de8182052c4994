-- What one try of an add or a removal, and a call that waits, do to their caller's view.
use Rattle.std.specs.Prelude.{◌≢◌, ℕ, List, [], ◌∷◌, ◌++◌, Option, Some, None, Result, Ok, Err}
use Rattle.seq_objects.specs.declared.bags.BagCall.TheVariants.{Add, Remove}
use Rattle.seq_objects.specs.declared.bags.BagReply.TheVariants.{Added, Took, Empty}
use Rattle.seq_objects.specs.BagSteps.{BagStep}
use Rattle.seq_objects.specs.Meanings.{BagOpens}
use Rattle.pass_table.specs.Words.{AreTries}
use Rattle.pass_table.specs.Views.{page_of}
use Rattle.pass_table.specs.Steps.{Goes}
use Rattle.shared_bag.specs.declared.clients.Plan.{Plan}
use Rattle.shared_bag.specs.declared.faults.AddFault.{AddFault}
use Rattle.shared_bag.specs.declared.faults.Busy.{Busy}
use Rattle.shared_bag.specs.Counted.{BagEntry}
use Rattle.shared_bag.specs.Rule.{bag_terms}
use Rattle.shared_bag.specs.Kinds.{Looks, BagView, entry}
use Rattle.shared_bag.specs.Answers.{BagChange, AddCause, RemoveCause, IsBusyAdd, IsBusyRemove, AnswersBusyAdd, AnswersBusyRemove, FullAlone}

-- the entries that an add makes, and a removal
abbrev pub add_entries : ℕ → ℕ → Result Unit AddFault → List BagEntry
add_entries caller item (Ok u) = entry caller (Add item) Added ∷ []
add_entries caller item (Err fault) = []

abbrev pub remove_entries : ℕ → Result (Option ℕ) Busy → List BagEntry
remove_entries caller (Ok (Some item)) = entry caller Remove (Took item) ∷ []
remove_entries caller (Ok None) = entry caller Remove Empty ∷ []
remove_entries caller (Err busy) = []

-- what is taken is kept
abbrev pub TakenIsKept : (ℕ → Type 0) → Option ℕ → Type 0
TakenIsKept keeps (Some item) = keeps item
TakenIsKept keeps None = Unit {0}

abbrev pub RemovedIsKept : (ℕ → Type 0) → Result (Option ℕ) Busy → Type 0
RemovedIsKept keeps (Ok taken) = TakenIsKept keeps taken
RemovedIsKept keeps (Err busy) = Unit {0}

module _ {K : Type 0} (v w : BagView K) where
  -- the change of a pass whose view this is
  abbrev pub changed : BagChange
  changed = record { caller = v.number; old = page_of v; new = page_of w; looked_old = v.looked; looked_new = w.looked }

module _ {K : Type 0} (keeps : K → ℕ → Type 0) (plan : Plan K) where
  -- one try of an add
  pub record TriesAdd (item : ℕ) (v w : BagView K) (result : Result Unit AddFault) : Type 0 where
    pub words : Looks
    pub goes : Goes (bag_terms keeps) BagOpens BagStep plan v w words (add_entries v.number item result)
    pub cause : AddCause plan.shape v.number words result
    pub not_alone : AnswersBusyAdd result → plan.shape.callers ≢ 1
    pub full_alone : FullAlone (changed v w) plan.shape result

  -- one try of a removal
  pub record TriesRemove (v w : BagView K) (result : Result (Option ℕ) Busy) : Type 0 where
    pub words : Looks
    pub goes : Goes (bag_terms keeps) BagOpens BagStep plan v w words (remove_entries v.number result)
    pub cause : RemoveCause plan.shape v.number words result
    pub not_alone : AnswersBusyRemove result → plan.shape.callers ≢ 1
    pub kept : RemovedIsKept (keeps plan.keeper) result

  -- busy tries of an add, and then the try that ends them
  pub record WaitsAdd (item : ℕ) (v w : BagView K) (result : Result Unit AddFault) : Type 0 where
    pub before : Looks
    pub words : Looks
    pub goes : Goes (bag_terms keeps) BagOpens BagStep plan v w (before ++ words) (add_entries v.number item result)
    pub tries : AreTries (IsBusyAdd plan.shape v.number) before
    pub cause : AddCause plan.shape v.number words result
    pub calm : ¬ AnswersBusyAdd result
    pub full_alone : FullAlone (changed v w) plan.shape result

  -- the same of a removal
  pub record WaitsRemove (v w : BagView K) (taken : Option ℕ) : Type 0 where
    pub before : Looks
    pub words : Looks
    pub goes : Goes (bag_terms keeps) BagOpens BagStep plan v w (before ++ words) (remove_entries v.number (Ok taken))
    pub tries : AreTries (IsBusyRemove plan.shape v.number) before
    pub cause : RemoveCause plan.shape v.number words (Ok taken)
    pub kept : TakenIsKept (keeps plan.keeper) taken
