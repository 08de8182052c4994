use Rattle.epoch_table.specs.Clients.{Looks}
use Rattle.epoch_table.proofs.words.Words.hold.Given as goal

abbrev pub ghosts-hold_at : goal.ghosts-hold_at
ghosts-hold_at g a = record { spot = a.spot; change = Looks }
