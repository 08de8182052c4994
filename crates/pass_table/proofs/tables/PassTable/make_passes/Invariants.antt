use Rattle.std.proofs.Common.{◌≡◌, [], length, vec_len, vec_capacity}
use Rattle.pass_table.specs.Views.{opener}
use Rattle.pass_table.specs.Openings.{AreInOrder, IsNewPass}
use Rattle.pass_table.proofs.tables.PassTable.make_passes.Given as goal

abbrev pub invariant-loop-caller : goal.invariant-loop-caller
invariant-loop-caller g l = record {
  table : l.opener.table_id ≡ l.self.table.shared.table_id;
  first : l.opener.id ≡ 0;
  view : l.opener.me ≡ (record (opener g.C.Client.terms l.self.table.shared.key) { number = l.caller }, []);
  count : length l.passes.items ≡ l.caller;
  filled : vec_len l.passes ≡ l.caller;
  room : vec_capacity l.passes ≡ l.callers;
  each : AreInOrder (IsNewPass g.C.Client.terms l.self) l.passes.items;
}
