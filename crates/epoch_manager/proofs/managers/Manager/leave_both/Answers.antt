use Rattle.std.proofs.Common.{◌<◌, ◌∙◌, ap, sym, subst}
use Rattle.pass_table.specs.Passes.{me_of}
use Rattle.epoch_manager.specs.Managers.{plan_of}
use Rattle.epoch_manager.proofs.ReleaseWhole.{has_it, may_leave, has_none, token_left, may_leave_local, leaves_both}
use Rattle.epoch_manager.proofs.managers.Manager.leave_both.Goals as goal

pub leave_global-requires-clause-won : goal.leave_global-requires-clause-won
leave_global-requires-clause-won g c =
    let K = g.C.Client.terms in
    let o = g.C.Object.Object.opens in
    let s = g.C.Object.Object.step in
    let p = plan_of c.args.self.now in
    let m = me_of c.args.seat.now in
    let r = c.requires in
    has_it K o s p m r.below r.phase r.done r.hand

pub leave_global-requires-clause-may : goal.leave_global-requires-clause-may
leave_global-requires-clause-may g c =
    let K = g.C.Client.terms in
    let o = g.C.Object.Object.opens in
    let s = g.C.Object.Object.step in
    let p = plan_of c.args.self.now in
    let m = me_of c.args.seat.now in
    let r = c.requires in
    may_leave K o s p m r.below r.phase r.done r.hand

pub leave_local-requires-clause-locale : goal.leave_local-requires-clause-locale
leave_local-requires-clause-locale g c =
    let K = g.C.Client.terms in
    let o = g.C.Object.Object.opens in
    let s = g.C.Object.Object.step in
    let p = plan_of c.args.self.now in
    let m = me_of c.args.seat.now in
    let r = c.requires in
    let k = me_of c.leave_global.new.seat in
    let leaves = c.leave_global.ensures.makes in
    (r.locale.0 ∙ sym (ap (λ t. t.locale) (token_left K o s p m r.below r.phase r.done r.hand k leaves)), subst (λ h. c.args.locale < h.locales) c.args.self.now.words.planned r.locale.1)

pub leave_local-requires-clause-won : goal.leave_local-requires-clause-won
leave_local-requires-clause-won g c =
    let K = g.C.Client.terms in
    let o = g.C.Object.Object.opens in
    let s = g.C.Object.Object.step in
    let p = plan_of c.args.self.now in
    let m = me_of c.args.seat.now in
    let r = c.requires in
    let k = me_of c.leave_global.new.seat in
    let leaves = c.leave_global.ensures.makes in
    has_none K o s p m r.below r.phase r.done r.hand k leaves

pub leave_local-requires-clause-may : goal.leave_local-requires-clause-may
leave_local-requires-clause-may g c =
    let K = g.C.Client.terms in
    let o = g.C.Object.Object.opens in
    let s = g.C.Object.Object.step in
    let p = plan_of c.args.self.now in
    let m = me_of c.args.seat.now in
    let r = c.requires in
    let k = me_of c.leave_global.new.seat in
    let leaves = c.leave_global.ensures.makes in
    may_leave_local K o s p m r.below r.phase r.done r.hand k leaves

pub returns-clause-leaves : goal.returns-clause-leaves
returns-clause-leaves g c =
    let K = g.C.Client.terms in
    let o = g.C.Object.Object.opens in
    let s = g.C.Object.Object.step in
    let p = plan_of c.args.self.now in
    let m = me_of c.args.seat.now in
    let r = c.requires in
    let k = me_of c.leave_global.new.seat in
    let leaves = c.leave_global.ensures.makes in
    leaves_both K o s p m r.below r.phase r.done r.hand k leaves (me_of c.leave_local.new.seat) c.leave_local.ensures.makes
