use Rattle.pass_book.proofs.BookLaws.{entry_keeps}
use Rattle.pass_book.proofs.laws.entry_added.Goals as goal

pub returns : goal.returns
returns g c = entry_keeps g.O.Object.opens g.O.Object.step
