use Rattle.epoch_table.specs.Clients.{Raises}
use Rattle.epoch_table.proofs.words.Words.raise.Given as goal

abbrev pub ghosts-fetch_add_at : goal.ghosts-fetch_add_at
ghosts-fetch_add_at g a = record { spot = a.spot; change = (Raises a.by) }
