use Rattle.shared_deque.proofs.deques.Deque.look_at_ends.Given as goal

abbrev pub ghosts-load : goal.ghosts-load
ghosts-load g a = record { kind = a.kind }
