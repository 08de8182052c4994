use Rattle.pass_table.specs.Passes.{me_of}
use Rattle.epoch_manager.specs.Managers.{plan_of}
use Rattle.epoch_manager.proofs.Gatherings.{nothing_gathered}
use Rattle.epoch_manager.proofs.ReleaseWhole.{whole_so}
use Rattle.epoch_manager.proofs.managers.Manager.reclaim_seat.Goals as goal

pub returns-in-Ok-clause-reclaims : goal.returns-in-Ok-clause-reclaims
returns-in-Ok-clause-reclaims g c =
    let K = g.C.Client.terms in
    let o = g.C.Object.Object.opens in
    let s = g.C.Object.Object.step in
    let p = plan_of c.args.self.now in
    let m = me_of c.args.seat.now in
    whole_so K o s p m (me_of c.enter-entered.new.seat) (me_of c.release_all-freed.new.seat) (me_of c.leave_both.new.seat) c.in-Ok.epoch c.release_all-freed.result c.in-Ok.ensures.enters c.release_all-freed.ensures.releases c.leave_both.ensures.leaves

pub leave_both-requires-clause-hand : goal.leave_both-requires-clause-hand
leave_both-requires-clause-hand g c =
    let p = plan_of c.args.self.now in
    let k = me_of c.release_all-freed.new.seat in
    nothing_gathered p.shape k.0.part.seat.hand k.0.part.facts c.release_all-freed.ensures.releases.releasing.walking.gathers
