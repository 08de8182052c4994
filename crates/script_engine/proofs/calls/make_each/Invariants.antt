use Rattle.std.proofs.Common.{◌≡◌, ◌≤◌, length, take, vec_len, vec_capacity}
use Rattle.script_engine.specs.Replied.{Replied}
use Rattle.script_engine.specs.Rounds.{Makes}
use Rattle.script_engine.proofs.calls.make_each.Given as goal

abbrev pub invariant-loop-k : goal.invariant-loop-k
invariant-loop-k g l = record {
  fit : g.O.Shared.fits l.object l.pass;
  same : g.O.Shared.caller l.pass ≡ g.O.Shared.caller l.fn.pass;
  gives : Replied (g.O.Shared.gives l.object) l.fn.pass (take l.k l.calls) l.replies.items l.pass;
  made : Replied (Makes (g.O.Shared.says l.object) (g.O.Shared.caller l.fn.pass)) (g.O.Shared.page l.fn.pass) (take l.k l.calls) l.replies.items (g.O.Shared.page l.pass);
  room : length l.calls ≤ vec_capacity l.replies;
  count : vec_len l.replies ≡ l.k;
}
