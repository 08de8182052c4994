use Rattle.epoch_table.proofs.words.Words.fill.Given as goal

abbrev pub ghosts-fill_row : goal.ghosts-fill_row
ghosts-fill_row g a = record { pointer = a.ptr; at = a.at; value = a.value }
