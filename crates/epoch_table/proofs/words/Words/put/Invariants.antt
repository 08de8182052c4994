use Rattle.epoch_table.specs.Clients.{Puts}
use Rattle.epoch_table.proofs.words.Words.put.Given as goal

abbrev pub ghosts-store_at : goal.ghosts-store_at
ghosts-store_at g a = record { spot = a.spot; change = (Puts a.value) }
