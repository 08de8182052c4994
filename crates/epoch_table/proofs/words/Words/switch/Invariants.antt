use Rattle.epoch_table.specs.Clients.{Switches}
use Rattle.epoch_table.proofs.words.Words.switch.Given as goal

abbrev pub ghosts-swap_at : goal.ghosts-swap_at
ghosts-swap_at g a = record { spot = a.spot; change = (Switches a.value) }
