use Rattle.pass_book.proofs.Prefixes.{prefix_shorter}
use Rattle.pass_book.proofs.laws.shorter_begins_longer.Goals as goal

pub returns : goal.returns
returns g c = prefix_shorter
