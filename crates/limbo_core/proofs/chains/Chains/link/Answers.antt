use Rattle.std.proofs.Common.{◌≡◌, ◌-◌, ap, sym, slice_index, ◌∙◌}
use Rattle.limbo_core.specs.Chains.{Linked}
use Rattle.limbo_core.proofs.Walks.{AreChained-linked}
use Rattle.limbo_core.proofs.chains.Chains.link.Goals as goal

pub invariant_of-self : goal.invariant_of-self
invariant_of-self c =
    let same : c.args.next ≡ slice_index c.self.inside.next.items (c.args.place - 1) = c.requires.answered ∙ sym (ap (λ (v : Linked). slice_index v.next (c.args.place - 1)) c.self.view_is) in
    AreChained-linked _ (c.args.place - 1) c.args.next same c.self.invariant
