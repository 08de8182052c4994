use Rattle.shared_deque.proofs.PassClauses.{push_history, push_cause, push_alone}
use Rattle.seq_objects.specs.Meanings.{DequeOpens, DequeSteps}
use Rattle.pass_table.proofs.Going.{goes_begins}
use Rattle.shared_deque.specs.Rule.{deque_terms}
use Rattle.shared_deque.proofs.deques.Deque.try_push.Goals as goal

pub returns-clause-history : goal.returns-clause-history
returns-clause-history g c = push_history g.K.Keeps.keeps _ _ _ _ _ _ c.push_once.ensures.tries.goes

pub returns-clause-cause : goal.returns-clause-cause
returns-clause-cause g c = push_cause g.K.Keeps.keeps _ _ _ _ _ c.push_once.ensures.tries

pub returns-clause-alone : goal.returns-clause-alone
returns-clause-alone g c = push_alone g.K.Keeps.keeps _ _ _ _ _ c.push_once.ensures.tries

pub returns-clause-grows : goal.returns-clause-grows
returns-clause-grows g c = goes_begins (deque_terms g.K.Keeps.keeps) DequeOpens DequeSteps _ _ _ _ _ c.push_once.ensures.tries.goes
