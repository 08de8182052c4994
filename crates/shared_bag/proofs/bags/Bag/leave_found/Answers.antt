use Rattle.shared_bag.proofs.HandSteps.{may_leave_found_in}
use Rattle.shared_bag.proofs.bags.Bag.leave_found.Goals as goal

pub store-requires-clause-may : goal.store-requires-clause-may
store-requires-clause-may g c =
    let back = c.requires.back in
    may_leave_found_in g.K.Keeps.keeps _ _ _ _ c.args.segment _ _ _ back.0 back.1 back.2 back.3 back.4 back.5 back.6 c.turn_at.ensures
