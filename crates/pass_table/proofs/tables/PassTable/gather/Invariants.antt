use Rattle.std.proofs.Common.{◌≡◌, vec_len}
use Rattle.pass_table.specs.declared.views.Role.TheVariants.{Caller}
use Rattle.pass_table.proofs.CloseSteps.{GathersRest}
use Rattle.pass_table.proofs.tables.PassTable.gather.Given as goal

abbrev pub invariant-loop-pass : goal.invariant-loop-pass
invariant-loop-pass g l = record {
  table : l.all.table_id ≡ l.self.table.shared.table_id;
  role : l.all.me.0.role ≡ Caller;
  rest : GathersRest l.all.me.0 l.fn.passes.items l.passes.items;
}

abbrev pub decreases-loop-pass : goal.decreases-loop-pass
decreases-loop-pass g l = vec_len l.passes
