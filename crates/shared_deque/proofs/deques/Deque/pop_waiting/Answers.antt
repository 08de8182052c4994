use Rattle.std.proofs.Common.{Ok}
use Rattle.shared_deque.specs.declared.sides.Aim.TheVariants.{Pop}
use Rattle.shared_deque.specs.Aims.{call_of}
use Rattle.shared_deque.proofs.PassClauses.{pop_history, pop_wait_cause, sees_own, taken_kept}
use Rattle.seq_objects.specs.Meanings.{DequeOpens, DequeSteps}
use Rattle.pass_table.proofs.Going.{goes_begins}
use Rattle.shared_deque.specs.Rule.{deque_terms}
use Rattle.shared_deque.proofs.deques.Deque.pop_waiting.Goals as goal

pub returns-clause-history : goal.returns-clause-history
returns-clause-history g c = pop_history g.K.Keeps.keeps _ (call_of (Pop c.args.side)) _ _ (Ok c.pop_until_done.result) _ c.pop_until_done.ensures.waits.goes

pub returns-clause-cause : goal.returns-clause-cause
returns-clause-cause g c = pop_wait_cause g.K.Keeps.keeps _ _ _ _ _ c.pop_until_done.ensures.waits

pub returns-clause-kept : goal.returns-clause-kept
returns-clause-kept g c = taken_kept (g.K.Keeps.keeps c.args.self.now.table.table.shared.key.keeper) c.pop_until_done.result c.pop_until_done.ensures.waits.kept

pub returns-clause-alone : goal.returns-clause-alone
returns-clause-alone g c = sees_own g.K.Keeps.keeps _ (call_of (Pop c.args.side)) _ _ _ _ c.pop_until_done.ensures.waits.goes

pub returns-clause-grows : goal.returns-clause-grows
returns-clause-grows g c = goes_begins (deque_terms g.K.Keeps.keeps) DequeOpens DequeSteps _ _ _ _ _ c.pop_until_done.ensures.waits.goes
