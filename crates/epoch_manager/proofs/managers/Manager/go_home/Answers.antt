use Rattle.std.proofs.Common.{subst}
use Rattle.epoch_laws.specs.Places.{place_of}
use Rattle.epoch_laws.specs.States.{IsPlace}
use Rattle.pass_table.specs.Passes.{me_of}
use Rattle.epoch_manager.specs.Managers.{plan_of}
use Rattle.epoch_manager.proofs.AloneHome.{may_link, still_below, has_chain, alone_so}
use Rattle.epoch_manager.proofs.managers.Manager.go_home.Goals as goal

pub hand_link-requires-clause-place : goal.hand_link-requires-clause-place
hand_link-requires-clause-place g c = subst (λ h. IsPlace h (place_of c.args.ptr)) c.args.self.now.words.planned c.requires.alone.inside

pub hand_link-requires-clause-may : goal.hand_link-requires-clause-may
hand_link-requires-clause-may g c =
    let K = g.C.Client.terms in
    let o = g.C.Object.Object.opens in
    let s = g.C.Object.Object.step in
    let p = plan_of c.args.self.now in
    let m = me_of c.args.seat.now in
    may_link K o s p c.args.ptr m c.requires.below c.requires.alone

pub chain_home-requires-clause-below : goal.chain_home-requires-clause-below
chain_home-requires-clause-below g c =
    let K = g.C.Client.terms in
    let o = g.C.Object.Object.opens in
    let s = g.C.Object.Object.step in
    let p = plan_of c.args.self.now in
    let m = me_of c.args.seat.now in
    still_below K o s p c.args.ptr m c.requires.below c.requires.alone (me_of c.hand_link.new.seat) c.hand_link.ensures.makes

pub chain_home-requires-clause-chain : goal.chain_home-requires-clause-chain
chain_home-requires-clause-chain g c =
    let K = g.C.Client.terms in
    let o = g.C.Object.Object.opens in
    let s = g.C.Object.Object.step in
    let p = plan_of c.args.self.now in
    let m = me_of c.args.seat.now in
    has_chain K o s p c.args.ptr m c.requires.below c.requires.alone (me_of c.hand_link.new.seat) c.hand_link.ensures.makes

pub returns-clause-goes : goal.returns-clause-goes
returns-clause-goes g c =
    let K = g.C.Client.terms in
    let o = g.C.Object.Object.opens in
    let s = g.C.Object.Object.step in
    let p = plan_of c.args.self.now in
    let m = me_of c.args.seat.now in
    alone_so K o s p c.args.ptr m c.requires.below c.requires.alone (me_of c.hand_link.new.seat) c.hand_link.ensures.makes (me_of c.chain_home.new.seat) c.chain_home.ensures.sends
