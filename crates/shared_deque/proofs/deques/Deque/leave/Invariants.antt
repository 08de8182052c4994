use Rattle.shared_deque.proofs.deques.Deque.leave.Given as goal

abbrev pub ghosts-store : goal.ghosts-store
ghosts-store g a = record { kind = a.kind }
