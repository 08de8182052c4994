use Rattle.std.proofs.Common.{subst}
use Rattle.epoch_laws.specs.Places.{place_of}
use Rattle.epoch_laws.specs.States.{IsPlace}
use Rattle.pass_table.specs.Passes.{me_of}
use Rattle.epoch_manager.specs.Managers.{plan_of}
use Rattle.epoch_manager.proofs.ReturnSteps.{may_return, alone, still_below, returns_so}
use Rattle.epoch_manager.proofs.managers.Manager.return_seat.Goals as goal

pub give_back-requires-clause-place : goal.give_back-requires-clause-place
give_back-requires-clause-place g c =
    let K = g.C.Client.terms in
    let o = g.C.Object.Object.opens in
    let s = g.C.Object.Object.step in
    let p = plan_of c.args.self.now in
    let m = me_of c.args.seat.now in
    let q = c.args.ptr in
    let may = c.requires.may in
    subst (λ h. IsPlace h (place_of q)) c.args.self.now.words.planned may.inside

pub give_back-requires-clause-may : goal.give_back-requires-clause-may
give_back-requires-clause-may g c =
    let K = g.C.Client.terms in
    let o = g.C.Object.Object.opens in
    let s = g.C.Object.Object.step in
    let p = plan_of c.args.self.now in
    let m = me_of c.args.seat.now in
    let q = c.args.ptr in
    let may = c.requires.may in
    may_return K o s p q m may

pub go_home-requires-clause-below : goal.go_home-requires-clause-below
go_home-requires-clause-below g c =
    let K = g.C.Client.terms in
    let o = g.C.Object.Object.opens in
    let s = g.C.Object.Object.step in
    let p = plan_of c.args.self.now in
    let m = me_of c.args.seat.now in
    let q = c.args.ptr in
    let may = c.requires.may in
    let a = me_of c.give_back.new.seat in
    let returns = c.give_back.ensures.makes in
    still_below K o s p q m a may returns

pub go_home-requires-clause-alone : goal.go_home-requires-clause-alone
go_home-requires-clause-alone g c =
    let K = g.C.Client.terms in
    let o = g.C.Object.Object.opens in
    let s = g.C.Object.Object.step in
    let p = plan_of c.args.self.now in
    let m = me_of c.args.seat.now in
    let q = c.args.ptr in
    let may = c.requires.may in
    let a = me_of c.give_back.new.seat in
    let returns = c.give_back.ensures.makes in
    alone K o s p q m a may returns

pub returns-clause-returns : goal.returns-clause-returns
returns-clause-returns g c =
    let K = g.C.Client.terms in
    let o = g.C.Object.Object.opens in
    let s = g.C.Object.Object.step in
    let p = plan_of c.args.self.now in
    let m = me_of c.args.seat.now in
    let q = c.args.ptr in
    let may = c.requires.may in
    let a = me_of c.give_back.new.seat in
    let returns = c.give_back.ensures.makes in
    returns_so K o s p q m a may returns (me_of c.go_home.new.seat) c.go_home.ensures.goes
