use Rattle.pass_book.proofs.BookLaws.{list_is}
use Rattle.pass_book.proofs.laws.list_is_sublist.Goals as goal

pub returns : goal.returns
returns g c = list_is g.O.Object.opens g.O.Object.step
