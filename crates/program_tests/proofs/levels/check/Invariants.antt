use Rattle.std.proofs.Common.{◌<◌, ◌^◌, ℕ, All}
use Rattle.edge_text.specs.Edges.{HaveIds}
use Rattle.program_tests.proofs.levels.check.Given as goal

abbrev pub invariant-loop-from : goal.invariant-loop-from
invariant-loop-from g l = HaveIds l.list.edges.items

abbrev pub invariant-loop-source : goal.invariant-loop-source
invariant-loop-source g l = All (λ (source : ℕ). source < 2 ^ 24) l.ids.items
