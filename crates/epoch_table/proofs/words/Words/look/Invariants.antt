use Rattle.epoch_table.specs.Clients.{Looks}
use Rattle.epoch_table.proofs.words.Words.look.Given as goal

abbrev pub ghosts-load_at : goal.ghosts-load_at
ghosts-load_at g a = record { spot = a.spot; change = Looks }
