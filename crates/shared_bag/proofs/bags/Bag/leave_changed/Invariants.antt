use Rattle.shared_bag.proofs.bags.Bag.leave_changed.Given as goal

abbrev pub ghosts-store : goal.ghosts-store
ghosts-store g a = record { kind = a.kind }
