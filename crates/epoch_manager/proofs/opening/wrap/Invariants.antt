use Rattle.std.proofs.Common.{◌≡◌, ◌++◌, vec_len}
use Rattle.std.specs.Prelude.{reverse, map}
use Rattle.std.specs.List.{All}
use Rattle.epoch_manager.specs.Opened.{IsNew, IsIdlePass}
use Rattle.epoch_manager.proofs.opening.wrap.Given as goal

abbrev pub invariant-loop-pass : goal.invariant-loop-pass
invariant-loop-pass g l = record {
  from : l.fn.passes.items ≡ l.passes.items ++ map (λ p. p.pass) (reverse l.wrapped.items);
  idle : All IsIdlePass (reverse l.wrapped.items);
  new : All (IsNew g.C.Client.terms l.words.table) l.passes.items;
}

abbrev pub decreases-loop-pass : goal.decreases-loop-pass
decreases-loop-pass g l = vec_len l.passes
