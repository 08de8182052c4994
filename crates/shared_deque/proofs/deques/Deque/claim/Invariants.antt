use Rattle.shared_deque.proofs.deques.Deque.claim.Given as goal

abbrev pub ghosts-exchange : goal.ghosts-exchange
ghosts-exchange g a = record { kind = a.kind }
