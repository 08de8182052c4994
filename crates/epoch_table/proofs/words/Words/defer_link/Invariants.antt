use Rattle.epoch_table.proofs.words.Words.defer_link.Given as goal

abbrev pub ghosts-store : goal.ghosts-store
ghosts-store g a = record { kind = a.kind }
