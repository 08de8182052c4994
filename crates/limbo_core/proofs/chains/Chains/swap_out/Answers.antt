use Rattle.std.proofs.Common.{◌<◌, length, ap, sym, subst, arith}
use Rattle.limbo_core.specs.Chains.{Linked, IsInNoOther}
use Rattle.limbo_core.proofs.Walks.{AreChained-emptied, IsOutside-emptied}
use Rattle.limbo_core.proofs.chains.Chains.swap_out.Goals as goal

pub invariant_of-self : goal.invariant_of-self
invariant_of-self c =
    let s : Linked = record { heads = c.self.inside.heads.items; next = c.self.inside.next.items; pending = c.self.inside.pending.items } in
    let at : c.args.head < length c.self.inside.heads.items = omega (arith, ap (λ (v : Linked). length v.heads) c.self.view_is) in
    AreChained-emptied s c.args.head at c.self.invariant

pub returns-clause-outside : goal.returns-clause-outside
returns-clause-outside c place only =
    let s : Linked = record { heads = c.self.inside.heads.items; next = c.self.inside.next.items; pending = c.self.inside.pending.items } in
    let at : c.args.head < length c.self.inside.heads.items = omega (arith, ap (λ (v : Linked). length v.heads) c.self.view_is) in
    let P : Linked → Type 0 = λ v. IsInNoOther v c.args.head place in
    IsOutside-emptied s c.args.head at place (subst P (sym c.self.view_is) only)
