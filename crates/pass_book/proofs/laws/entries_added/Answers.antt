use Rattle.pass_book.proofs.BookLaws.{entries_keep}
use Rattle.pass_book.proofs.laws.entries_added.Goals as goal

pub returns : goal.returns
returns g c = entries_keep g.O.Object.opens g.O.Object.step
