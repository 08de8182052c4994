use Rattle.pass_book.proofs.BookLaws.{note_keeps}
use Rattle.pass_book.proofs.laws.note_taken.Goals as goal

pub returns : goal.returns
returns g c = note_keeps g.O.Object.opens g.O.Object.step
