use Rattle.pass_table.specs.Passes.{plan_of}
use Rattle.pass_table.proofs.LooksBack.{LooksSoFar}
use Rattle.pass_table.proofs.tables.PassTable.most_items.Given as goal

abbrev pub invariant-loop-pass : goal.invariant-loop-pass
invariant-loop-pass g l = LooksSoFar g.C.Client.terms g.C.Object.Object.opens g.C.Object.Object.step (plan_of l.self) l.fn.passes l.passes l.pass-index l.most
