use Rattle.epoch_table.proofs.words.Words.read.Given as goal

abbrev pub ghosts-read_row : goal.ghosts-read_row
ghosts-read_row g a = record { pointer = a.ptr; at = a.at; value = 0 }
