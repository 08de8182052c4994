use Rattle.std.proofs.Common.{◌≡◌, replicate, rules}
use Rattle.limbo_core.specs.Chains.{Linked}
use Rattle.limbo_core.proofs.Walks.{IsOutside-opened}
use Rattle.limbo_core.proofs.chains.Chains.open.Goals as goal

pub returns-clause-outside : goal.returns-clause-outside
returns-clause-outside c =
    let opened : c.in_ok-vec.field-0.items ≡ replicate c.args.heads 0 = c.in_ok-vec.ensures.items_if_clones_equal (search rules) in
    let s : Linked = record { heads = c.in_ok-vec.field-0.items; next = c.in_ok-vec-2.field-0.items; pending = c.in_ok-vec-3.field-0.items } in
    IsOutside-opened s c.args.heads opened
