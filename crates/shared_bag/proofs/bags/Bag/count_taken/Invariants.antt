use Rattle.shared_bag.specs.declared.clients.Kind.TheVariants.{Take}
use Rattle.shared_bag.proofs.bags.Bag.count_taken.Given as goal

abbrev pub ghosts-count_down : goal.ghosts-count_down
ghosts-count_down g a = record { kind = Take }
