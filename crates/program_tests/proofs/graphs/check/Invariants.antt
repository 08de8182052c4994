use Rattle.edge_text.specs.Edges.{HaveIds}
use Rattle.program_tests.proofs.graphs.check.Given as goal

abbrev pub invariant-loop-from : goal.invariant-loop-from
invariant-loop-from g l = HaveIds l.list.edges.items
