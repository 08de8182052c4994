use Rattle.epoch_table.specs.Clients.{Trades}
use Rattle.epoch_table.proofs.words.Words.trade.Given as goal

abbrev pub ghosts-compare_exchange_at : goal.ghosts-compare_exchange_at
ghosts-compare_exchange_at g a = record { spot = a.spot; change = (Trades a.old a.new) }
