use Rattle.shared_bag.proofs.bags.Bag.claim.Given as goal

abbrev pub ghosts-exchange : goal.ghosts-exchange
ghosts-exchange g a = record { kind = a.kind }
