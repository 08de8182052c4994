use Rattle.std.proofs.Common.{subst, sym}
use Rattle.seq_objects.specs.Meanings.{DequeOpens, DequeSteps}
use Rattle.pass_table.specs.Steps.{Steps}
use Rattle.shared_deque.specs.Rule.{deque_terms}
use Rattle.shared_deque.specs.Kinds.{MayDo, TellsChosen}
use Rattle.shared_deque.proofs.Doings.{does_of}
use Rattle.shared_deque.proofs.deques.Deque.store.Goals as goal

pub store-requires-clause-permits : goal.store-requires-clause-permits
store-requires-clause-permits g c =
    subst (λ k. MayDo g.K.Keeps.keeps c.args.self.now.table.table.shared.key c.args.self.now.table.table.shared.table_id.slots k c.args.seat.now.seat.me c.args.word (λ _. c.args.new) (λ _. c.args.new)) (sym c.requires.kind) c.requires.may

pub returns-clause-does : goal.returns-clause-does
returns-clause-does g c =
    let m = c.args.seat.now.seat.me in
    let plan = c.args.self.now.table.table.shared.key in
    does_of g.K.Keeps.keeps plan c.args.kind m c.args.new c.store.new.seat.seat.me
    (subst (λ k. Steps (deque_terms g.K.Keeps.keeps) DequeOpens DequeSteps plan (λ found e. TellsChosen g.K.Keeps.keeps plan m.0.number m.1 k found e) m c.args.new c.store.new.seat.seat.me) c.requires.kind c.store.ensures.steps)
