use Rattle.script_engine.specs.Workers.{AreStill, HasLearnt, HaveTold}
use Rattle.script_engine.proofs.notes.gather.Given as goal

abbrev pub invariant-loop-k : goal.invariant-loop-k
invariant-loop-k g l = record {
  still : AreStill (g.O.Shared.fits l.object) g.O.Shared.caller g.O.Shared.page l.fn.others l.others;
  learnt : HasLearnt (g.O.Shared.fits l.object) g.O.Shared.caller g.O.Shared.page l.fn.pass l.pass;
  told : HaveTold (g.O.Shared.fits l.object) g.O.Shared.caller g.O.Shared.page l.k l.calls l.fn.others (g.O.Shared.page l.pass).seen;
}
