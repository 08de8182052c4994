use Rattle.std.proofs.Common.{◌≡◌, List, [], map, replicate}
use Rattle.script_text.specs.declared.scripts.Call.{Call}
use Rattle.script_text.proofs.drafts.silence.Given as goal

abbrev pub invariant-loop : goal.invariant-loop
invariant-loop l = map (λ calls. calls.items) l.lists.items ≡ replicate {A = List Call} l.counter []
