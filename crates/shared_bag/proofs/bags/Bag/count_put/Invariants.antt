use Rattle.shared_bag.proofs.bags.Bag.count_put.Given as goal

abbrev pub ghosts-count_up : goal.ghosts-count_up
ghosts-count_up g a = record { kind = a.kind }
