use Rattle.shared_bag.specs.Kinds.{steal_kind, last_items}
use Rattle.shared_bag.proofs.bags.Bag.steal.Given as goal

abbrev pub ghosts-count_stolen : goal.ghosts-count_stolen
ghosts-count_stolen g a = record { kind = steal_kind (last_items a.seat.now.seat.me.0.part.held) a.own.now.items a.left.now.items a.item }
