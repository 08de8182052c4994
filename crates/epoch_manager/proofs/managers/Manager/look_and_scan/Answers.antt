use Rattle.std.proofs.Common.{◌≢◌, arith}
use Rattle.epoch_laws.specs.ReclaimSteps.{last_epoch}
use Rattle.pass_table.specs.Passes.{me_of}
use Rattle.epoch_manager.specs.Managers.{plan_of}
use Rattle.epoch_manager.proofs.ScanSteps.{may_look, low_epoch, spent_so, scanning_so, below_so, passed_so, held_so}
use Rattle.epoch_manager.proofs.managers.Manager.look_and_scan.Goals as goal

pub epoch_look-epoch-requires-clause-may : goal.epoch_look-epoch-requires-clause-may
epoch_look-epoch-requires-clause-may g c =
    let K = g.C.Client.terms in
    let o = g.C.Object.Object.opens in
    let s = g.C.Object.Object.step in
    let p = plan_of c.args.self.now in
    let m = me_of c.args.seat.now in
    may_look K o s p m c.requires.below c.requires.won

pub returns-then-last-clause-looks : goal.returns-then-last-clause-looks
returns-then-last-clause-looks g c =
    let K = g.C.Client.terms in
    let o = g.C.Object.Object.opens in
    let s = g.C.Object.Object.step in
    let p = plan_of c.args.self.now in
    let m = me_of c.args.seat.now in
    let j = me_of c.epoch_look-epoch.new.seat in
    let e = c.epoch_look-epoch.result in
    let looks = c.epoch_look-epoch.ensures.makes in
    spent_so K o s p m j e looks (let is = c.if-last.true in omega arith)

pub scan_tokens-stop-requires-clause-scanning : goal.scan_tokens-stop-requires-clause-scanning
scan_tokens-stop-requires-clause-scanning g c =
    let K = g.C.Client.terms in
    let o = g.C.Object.Object.opens in
    let s = g.C.Object.Object.step in
    let p = plan_of c.args.self.now in
    let m = me_of c.args.seat.now in
    let j = me_of c.epoch_look-epoch.new.seat in
    let e = c.epoch_look-epoch.result in
    let looks = c.epoch_look-epoch.ensures.makes in
    let ne : e ≢ last_epoch = (let other = c.if-last.false in omega arith) in
    scanning_so K o s p m j e looks ne

pub scan_tokens-stop-requires-clause-below : goal.scan_tokens-stop-requires-clause-below
scan_tokens-stop-requires-clause-below g c =
    let K = g.C.Client.terms in
    let o = g.C.Object.Object.opens in
    let s = g.C.Object.Object.step in
    let p = plan_of c.args.self.now in
    let m = me_of c.args.seat.now in
    let j = me_of c.epoch_look-epoch.new.seat in
    let e = c.epoch_look-epoch.result in
    let looks = c.epoch_look-epoch.ensures.makes in
    let ne : e ≢ last_epoch = (let other = c.if-last.false in omega arith) in
    below_so K o s p m j e looks ne c.requires.below

pub scan_tokens-stop-requires-clause-epoch : goal.scan_tokens-stop-requires-clause-epoch
scan_tokens-stop-requires-clause-epoch g c =
    let K = g.C.Client.terms in
    let o = g.C.Object.Object.opens in
    let s = g.C.Object.Object.step in
    let p = plan_of c.args.self.now in
    let m = me_of c.args.seat.now in
    let j = me_of c.epoch_look-epoch.new.seat in
    let e = c.epoch_look-epoch.result in
    let looks = c.epoch_look-epoch.ensures.makes in
    let ne : e ≢ last_epoch = (let other = c.if-last.false in omega arith) in
    low_epoch K o s p m j e looks ne

pub returns-in-None-clause-looks : goal.returns-in-None-clause-looks
returns-in-None-clause-looks g c =
    let K = g.C.Client.terms in
    let o = g.C.Object.Object.opens in
    let s = g.C.Object.Object.step in
    let p = plan_of c.args.self.now in
    let m = me_of c.args.seat.now in
    let j = me_of c.epoch_look-epoch.new.seat in
    let e = c.epoch_look-epoch.result in
    let looks = c.epoch_look-epoch.ensures.makes in
    let ne : e ≢ last_epoch = (let other = c.if-last.false in omega arith) in
    let n = me_of c.scan_tokens-stop.new.seat in
    passed_so K o s p m j e looks ne n c.in-None.ensures.scans

pub returns-in-Some-clause-looks : goal.returns-in-Some-clause-looks
returns-in-Some-clause-looks g c =
    let K = g.C.Client.terms in
    let o = g.C.Object.Object.opens in
    let s = g.C.Object.Object.step in
    let p = plan_of c.args.self.now in
    let m = me_of c.args.seat.now in
    let j = me_of c.epoch_look-epoch.new.seat in
    let e = c.epoch_look-epoch.result in
    let looks = c.epoch_look-epoch.ensures.makes in
    let ne : e ≢ last_epoch = (let other = c.if-last.false in omega arith) in
    let n = me_of c.scan_tokens-stop.new.seat in
    held_so K o s p m j e looks ne n _ c.in-Some.ensures.scans
