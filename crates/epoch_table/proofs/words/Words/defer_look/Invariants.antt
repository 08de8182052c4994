use Rattle.epoch_table.proofs.words.Words.defer_look.Given as goal

abbrev pub ghosts-load : goal.ghosts-load
ghosts-load g a = record { kind = a.kind }
