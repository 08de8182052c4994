use Rattle.shared_deque.proofs.PassClauses.{pop_history, pop_cause, pop_alone, popped_kept}
use Rattle.seq_objects.specs.Meanings.{DequeOpens, DequeSteps}
use Rattle.pass_table.proofs.Going.{goes_begins}
use Rattle.shared_deque.specs.Rule.{deque_terms}
use Rattle.shared_deque.proofs.deques.Deque.try_pop.Goals as goal

pub returns-clause-history : goal.returns-clause-history
returns-clause-history g c = pop_history g.K.Keeps.keeps _ _ _ _ _ _ c.pop_once.ensures.tries.goes

pub returns-clause-cause : goal.returns-clause-cause
returns-clause-cause g c = pop_cause g.K.Keeps.keeps _ _ _ _ _ c.pop_once.ensures.tries

pub returns-clause-kept : goal.returns-clause-kept
returns-clause-kept g c = popped_kept (g.K.Keeps.keeps c.args.self.now.table.table.shared.key.keeper) c.pop_once.result c.pop_once.ensures.tries.kept

pub returns-clause-alone : goal.returns-clause-alone
returns-clause-alone g c = pop_alone g.K.Keeps.keeps _ _ _ _ _ c.pop_once.ensures.tries

pub returns-clause-grows : goal.returns-clause-grows
returns-clause-grows g c = goes_begins (deque_terms g.K.Keeps.keeps) DequeOpens DequeSteps _ _ _ _ _ c.pop_once.ensures.tries.goes
