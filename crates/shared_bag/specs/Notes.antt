-- What a look at the count tells of a history that was met.
use Rattle.std.specs.Prelude.{ℕ, List, []}
use Rattle.pass_book.specs.Histories.{IsLegal, IsOfCallers}
use Rattle.pass_book.specs.Pages.{Page, IsPageOf}
use Rattle.seq_objects.specs.declared.bags.BagCall.{BagCall}
use Rattle.seq_objects.specs.declared.bags.BagReply.{BagReply}
use Rattle.seq_objects.specs.BagSteps.{BagStep}
use Rattle.seq_objects.specs.Meanings.{BagOpens}
use Rattle.shared_bag.specs.Counted.{BagEntry, Counts}

-- There was a legal history, of the bag's callers alone, which begins with what the page has seen, has just its entries of its caller, and leaves as
-- many items as the count word says
pub record MeetsCount (callers caller : ℕ) (page : Page BagCall BagReply) (count : ℕ) : Type 0 where
  pub met : List BagEntry
  pub fits : IsPageOf caller met page
  pub legal : IsLegal BagOpens BagStep [] met
  pub callers_are : IsOfCallers callers met
  pub counted : Counts met count
