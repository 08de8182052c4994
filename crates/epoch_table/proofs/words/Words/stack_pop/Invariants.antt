use Rattle.epoch_table.proofs.words.Words.stack_pop.Given as goal

abbrev pub ghosts-exchange : goal.ghosts-exchange
ghosts-exchange g a = record { kind = a.kind }
