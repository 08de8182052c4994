use Rattle.std.proofs.Common.{◌≡◌}
use Rattle.script_engine.specs.Workers.{AreTold}
use Rattle.script_engine.proofs.notes.spread.Given as goal

abbrev pub invariant-loop-k : goal.invariant-loop-k
invariant-loop-k g l = record {
  fit : g.O.Shared.fits l.object l.pass;
  same : g.O.Shared.caller l.pass ≡ g.O.Shared.caller l.fn.pass;
  still : g.O.Shared.page l.pass ≡ g.O.Shared.page l.fn.pass;
  told : AreTold (g.O.Shared.fits l.object) g.O.Shared.caller g.O.Shared.page (g.O.Shared.page l.fn.pass).seen l.k l.fn.others l.others;
}
