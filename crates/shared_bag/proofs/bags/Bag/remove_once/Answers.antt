use Rattle.std.proofs.Common.{sym, subst}
use Rattle.shared_bag.specs.Shapes.{IsShape}
use Rattle.shared_bag.proofs.RemoveTries.{removes_some, removes_late, removes_busy}
use Rattle.shared_bag.proofs.bags.Bag.remove_once.Goals as goal

pub returns-in-Some-clause-tries : goal.returns-in-Some-clause-tries
returns-in-Some-clause-tries g c =
    removes_some g.K.Keeps.keeps c.args.self.now.table.table.shared.key c.look_at_count.result c.args.seat.now.seat.me c.look_at_count.new.seat.seat.me c.sweep.new.seat.seat.me c.sweep.new.kept c.if-look_at_count-eq0.false c.look_at_count.ensures.does
    c.in-Some.item c.hand_kept_back.new.seat.seat.me c.in-Some.ensures.sweeps c.hand_kept_back.ensures.leaves

pub returns-then-look_at_count-eq0-2-clause-tries : goal.returns-then-look_at_count-eq0-2-clause-tries
returns-then-look_at_count-eq0-2-clause-tries g c =
    removes_late g.K.Keeps.keeps c.args.self.now.table.table.shared.key c.look_at_count.result c.args.seat.now.seat.me c.look_at_count.new.seat.seat.me c.sweep.new.seat.seat.me c.sweep.new.kept c.if-look_at_count-eq0.false c.look_at_count.ensures.does
    c.give_kept_back.new.seat.seat.me c.look_at_count-2.new.seat.seat.me c.look_at_count-2.result c.in_default.ensures.sweeps c.in_default.ensures.keeps.1 c.give_kept_back.ensures.leaves c.look_at_count-2.ensures.does c.if-look_at_count-eq0-2.true

pub returns-clause-tries : goal.returns-clause-tries
returns-clause-tries g c =
    removes_busy g.K.Keeps.keeps c.args.self.now.table.table.shared.key c.look_at_count.result c.args.seat.now.seat.me c.look_at_count.new.seat.seat.me c.sweep.new.seat.seat.me c.sweep.new.kept c.if-look_at_count-eq0.false c.look_at_count.ensures.does
    c.give_kept_back.new.seat.seat.me c.look_at_count-2.new.seat.seat.me c.look_at_count-2.result c.in_default.ensures.sweeps c.in_default.ensures.keeps.1 c.give_kept_back.ensures.leaves c.look_at_count-2.ensures.does
    record {} (subst IsShape (sym c.args.self.now.planned) c.args.self.now.shaped) c.if-look_at_count-eq0-2.false
