use Rattle.std.proofs.Common.{arith, ◌∙◌}
use Rattle.std.proofs.lemmas.List.{length-drop}
use Rattle.shared_io.proofs.Pieces.{Appends-more, take-rest}
use Rattle.shared_io.proofs.sinks.write_whole.Goals as goal

pub loop-done-preserved : goal.loop-done-preserved
loop-done-preserved g c = record {
  within = let h = c.in_ok-count.ensures.bound in omega (arith, rw (take-rest c.args.bytes.now c.loop-done.done, length-drop c.loop-done.done c.args.bytes.now) at h);
  taken = Appends-more _ _ _ _ _ _ c.loop-done.invariant.taken c.in_ok-count.ensures.bytes;
  faults = c.in_ok-count.ensures.kept (omega arith) ∙ c.loop-done.invariant.faults;
  refusals = c.in_ok-count.ensures.unrefused ∙ c.loop-done.invariant.refusals;
}
