use Rattle.shared_deque.proofs.deques.Deque.exchange_ends.Given as goal

abbrev pub ghosts-exchange : goal.ghosts-exchange
ghosts-exchange g a = record { kind = a.kind }
