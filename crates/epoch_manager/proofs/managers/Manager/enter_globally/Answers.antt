use Rattle.std.proofs.Common.{◌≡◌, arith}
use Rattle.pass_table.specs.Passes.{me_of}
use Rattle.epoch_manager.specs.Managers.{plan_of}
use Rattle.epoch_manager.proofs.GlobalSteps.{may_elect, busy_so, phase_won, still_below, entered_so, has_it, may_leave, refused_so}
use Rattle.epoch_manager.proofs.managers.Manager.enter_globally.Goals as goal

pub elect_global-found-requires-clause-may : goal.elect_global-found-requires-clause-may
elect_global-found-requires-clause-may g c =
    let K = g.C.Client.terms in
    let o = g.C.Object.Object.opens in
    let s = g.C.Object.Object.step in
    let p = plan_of c.args.self.now in
    let m = me_of c.args.seat.now in
    may_elect K o s p m c.requires.below c.requires.won

pub returns-then-not-free-clause-enters : goal.returns-then-not-free-clause-enters
returns-then-not-free-clause-enters g c =
    let K = g.C.Client.terms in
    let o = g.C.Object.Object.opens in
    let s = g.C.Object.Object.step in
    let p = plan_of c.args.self.now in
    let m = me_of c.args.seat.now in
    let j = me_of c.elect_global-found.new.seat in
    let w = c.elect_global-found.result in
    let elects = c.elect_global-found.ensures.makes in
    busy_so K o s p m j w elects (let other = c.if-not-free.true in omega arith)

pub look_and_scan-looked-requires-clause-below : goal.look_and_scan-looked-requires-clause-below
look_and_scan-looked-requires-clause-below g c =
    let K = g.C.Client.terms in
    let o = g.C.Object.Object.opens in
    let s = g.C.Object.Object.step in
    let p = plan_of c.args.self.now in
    let m = me_of c.args.seat.now in
    let j = me_of c.elect_global-found.new.seat in
    let w = c.elect_global-found.result in
    let elects = c.elect_global-found.ensures.makes in
    let is : w ≡ 0 = (let zero = c.if-not-free.false in omega arith) in
    still_below K o s p m j w elects is c.requires.below

pub look_and_scan-looked-requires-clause-won : goal.look_and_scan-looked-requires-clause-won
look_and_scan-looked-requires-clause-won g c =
    let K = g.C.Client.terms in
    let o = g.C.Object.Object.opens in
    let s = g.C.Object.Object.step in
    let p = plan_of c.args.self.now in
    let m = me_of c.args.seat.now in
    let j = me_of c.elect_global-found.new.seat in
    let w = c.elect_global-found.result in
    let elects = c.elect_global-found.ensures.makes in
    let is : w ≡ 0 = (let zero = c.if-not-free.false in omega arith) in
    phase_won K o s p m j w elects is

pub returns-in-Ok-clause-enters : goal.returns-in-Ok-clause-enters
returns-in-Ok-clause-enters g c =
    let K = g.C.Client.terms in
    let o = g.C.Object.Object.opens in
    let s = g.C.Object.Object.step in
    let p = plan_of c.args.self.now in
    let m = me_of c.args.seat.now in
    let j = me_of c.elect_global-found.new.seat in
    let w = c.elect_global-found.result in
    let elects = c.elect_global-found.ensures.makes in
    let is : w ≡ 0 = (let zero = c.if-not-free.false in omega arith) in
    let k = me_of c.look_and_scan-looked.new.seat in
    entered_so K o s p m j w elects is k _ c.in-Ok.ensures.looks

pub leave_global-requires-clause-won : goal.leave_global-requires-clause-won
leave_global-requires-clause-won g c =
    let K = g.C.Client.terms in
    let o = g.C.Object.Object.opens in
    let s = g.C.Object.Object.step in
    let p = plan_of c.args.self.now in
    let m = me_of c.args.seat.now in
    let j = me_of c.elect_global-found.new.seat in
    let w = c.elect_global-found.result in
    let elects = c.elect_global-found.ensures.makes in
    let is : w ≡ 0 = (let zero = c.if-not-free.false in omega arith) in
    let k = me_of c.look_and_scan-looked.new.seat in
    has_it K o s p m j w elects is k _ c.in-Err.ensures.looks

pub leave_global-requires-clause-may : goal.leave_global-requires-clause-may
leave_global-requires-clause-may g c =
    let K = g.C.Client.terms in
    let o = g.C.Object.Object.opens in
    let s = g.C.Object.Object.step in
    let p = plan_of c.args.self.now in
    let m = me_of c.args.seat.now in
    let j = me_of c.elect_global-found.new.seat in
    let w = c.elect_global-found.result in
    let elects = c.elect_global-found.ensures.makes in
    let is : w ≡ 0 = (let zero = c.if-not-free.false in omega arith) in
    let k = me_of c.look_and_scan-looked.new.seat in
    may_leave K o s p m j w elects is k _ c.in-Err.ensures.looks c.requires.below c.requires.hand

pub returns-in-Err-clause-enters : goal.returns-in-Err-clause-enters
returns-in-Err-clause-enters g c =
    let K = g.C.Client.terms in
    let o = g.C.Object.Object.opens in
    let s = g.C.Object.Object.step in
    let p = plan_of c.args.self.now in
    let m = me_of c.args.seat.now in
    let j = me_of c.elect_global-found.new.seat in
    let w = c.elect_global-found.result in
    let elects = c.elect_global-found.ensures.makes in
    let is : w ≡ 0 = (let zero = c.if-not-free.false in omega arith) in
    let k = me_of c.look_and_scan-looked.new.seat in
    refused_so K o s p m j w elects is k _ c.in-Err.ensures.looks (me_of c.leave_global.new.seat) c.leave_global.ensures.makes
