use Rattle.std.proofs.Common.{◌≡◌, ◌+◌, ◌≤◌, ◌++◌, length, vec_len, vec_capacity}
use Rattle.std.specs.Prelude.{reverse, map}
use Rattle.epoch_manager.proofs.closing.bare.Given as goal

abbrev pub invariant-loop-pass : goal.invariant-loop-pass
invariant-loop-pass g l = record {
  from : map (λ p. p.pass) l.fn.passes.items ≡ map (λ p. p.pass) l.passes.items ++ reverse l.bare.items;
  room : length l.passes.items + vec_len l.bare ≤ vec_capacity l.bare;
}

abbrev pub decreases-loop-pass : goal.decreases-loop-pass
decreases-loop-pass g l = vec_len l.passes
