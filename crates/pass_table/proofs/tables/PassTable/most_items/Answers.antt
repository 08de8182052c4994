use Rattle.std.proofs.Common.{arith, ap, ◌∙◌}
use Rattle.pass_table.specs.Passes.{pass_opening, plan_of}
use Rattle.pass_table.proofs.LooksBack.{greater, looks_none, next_as_was, looks_more, looks_all}
use Rattle.pass_table.proofs.tables.PassTable.most_items.Goals as goal

pub loop-pass-init : goal.loop-pass-init
loop-pass-init g c = looks_none g.C.Client.terms g.C.Object.Object.opens g.C.Object.Object.step _ c.args.passes.now

pub size_with-requires-clause-pass : goal.size_with-requires-clause-pass
size_with-requires-clause-pass g c =
    let l = c.loop-pass in
    let d = c.pass-item.result in
    ap (λ p. pass_opening p) (next_as_was g.C.Client.terms g.C.Object.Object.opens g.C.Object.Object.step (plan_of c.args.self.now) c.args.passes.now l.passes l.pass-index l.most d c.loop-pass-test.true l.invariant)
    ∙ c.requires.opening l.pass-index d c.loop-pass-test.true

pub loop-pass-preserved : goal.loop-pass-preserved
loop-pass-preserved g c =
    let l = c.loop-pass in
    let both = greater l.most c.size_with.result c.max-most.result c.max-most.ensures in
    looks_more g.C.Client.terms g.C.Object.Object.opens g.C.Object.Object.step (plan_of c.args.self.now) c.args.passes.now l.passes l.pass-index l.most c.max-most.result c.size_with.result c.pass-item.result c.size_with.new.pass
    c.loop-pass-test.true l.invariant c.size_with.ensures both.0 both.1

pub returns : goal.returns
returns g c = looks_all g.C.Client.terms g.C.Object.Object.opens g.C.Object.Object.step _ c.args.passes.now c.loop-pass.passes c.loop-pass.pass-index c.loop-pass.most (omega (arith, c.loop-pass-test.false)) c.loop-pass.invariant
