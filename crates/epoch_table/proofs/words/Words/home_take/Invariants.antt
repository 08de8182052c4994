use Rattle.epoch_table.proofs.words.Words.home_take.Given as goal

abbrev pub ghosts-swap : goal.ghosts-swap
ghosts-swap g a = record { kind = a.kind }
