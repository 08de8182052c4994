use Rattle.shared_deque.specs.declared.sides.Aim.TheVariants.{Push}
use Rattle.shared_deque.specs.Aims.{call_of}
use Rattle.shared_deque.proofs.PassClauses.{push_history, push_wait_cause, sees_own}
use Rattle.seq_objects.specs.Meanings.{DequeOpens, DequeSteps}
use Rattle.pass_table.proofs.Going.{goes_begins}
use Rattle.shared_deque.specs.Rule.{deque_terms}
use Rattle.shared_deque.proofs.deques.Deque.push_waiting.Goals as goal

pub returns-clause-history : goal.returns-clause-history
returns-clause-history g c = push_history g.K.Keeps.keeps _ _ _ _ _ _ c.push_until_done.ensures.waits.goes

pub returns-clause-cause : goal.returns-clause-cause
returns-clause-cause g c = push_wait_cause g.K.Keeps.keeps _ _ _ _ _ c.push_until_done.ensures.waits

pub returns-clause-alone : goal.returns-clause-alone
returns-clause-alone g c = sees_own g.K.Keeps.keeps _ (call_of (Push c.args.side c.args.item)) _ _ _ _ c.push_until_done.ensures.waits.goes

pub returns-clause-grows : goal.returns-clause-grows
returns-clause-grows g c = goes_begins (deque_terms g.K.Keeps.keeps) DequeOpens DequeSteps _ _ _ _ _ c.push_until_done.ensures.waits.goes
