use Rattle.shared_deque.proofs.deques.Deque.store_in_cell.Given as goal

abbrev pub ghosts-store : goal.ghosts-store
ghosts-store g a = record { kind = a.kind }
