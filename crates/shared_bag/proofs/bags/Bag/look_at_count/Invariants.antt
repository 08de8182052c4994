use Rattle.shared_bag.proofs.bags.Bag.look_at_count.Given as goal

abbrev pub ghosts-load : goal.ghosts-load
ghosts-load g a = record { kind = a.kind }
