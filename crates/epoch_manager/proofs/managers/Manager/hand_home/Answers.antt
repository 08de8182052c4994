use Rattle.std.proofs.Common.{subst}
use Rattle.epoch_laws.specs.States.{IsPlace}
use Rattle.epoch_laws.specs.Places.{place_of}
use Rattle.pass_table.specs.Passes.{me_of}
use Rattle.epoch_manager.specs.Managers.{plan_of}
use Rattle.epoch_manager.proofs.HandHomes.{home_may_link, home_place, a_below, a_chain, goes_home}
use Rattle.epoch_manager.proofs.managers.Manager.hand_home.Goals as goal

pub hand_link-requires-clause-place : goal.hand_link-requires-clause-place
hand_link-requires-clause-place g c =
    let K = g.C.Client.terms in
    let o = g.C.Object.Object.opens in
    let s = g.C.Object.Object.step in
    let p = plan_of c.args.self.now in
    let m = me_of c.args.seat.now in
    subst (λ h. IsPlace h (place_of c.args.tail)) c.args.self.now.words.planned (home_place K o s p m c.args.first c.args.tail c.requires.chain c.requires.below)

pub hand_link-requires-clause-may : goal.hand_link-requires-clause-may
hand_link-requires-clause-may g c =
    let K = g.C.Client.terms in
    let o = g.C.Object.Object.opens in
    let s = g.C.Object.Object.step in
    let p = plan_of c.args.self.now in
    let m = me_of c.args.seat.now in
    home_may_link K o s p m c.args.first c.args.tail c.requires.chain c.requires.below

pub chain_home-requires-clause-below : goal.chain_home-requires-clause-below
chain_home-requires-clause-below g c =
    let K = g.C.Client.terms in
    let o = g.C.Object.Object.opens in
    let s = g.C.Object.Object.step in
    let p = plan_of c.args.self.now in
    let m = me_of c.args.seat.now in
    a_below K o s p m c.args.first c.args.tail c.requires.chain c.requires.below (me_of c.hand_link.new.seat) c.hand_link.ensures.makes

pub chain_home-requires-clause-chain : goal.chain_home-requires-clause-chain
chain_home-requires-clause-chain g c =
    let K = g.C.Client.terms in
    let o = g.C.Object.Object.opens in
    let s = g.C.Object.Object.step in
    let p = plan_of c.args.self.now in
    let m = me_of c.args.seat.now in
    a_chain K o s p m c.args.first c.args.tail c.requires.chain c.requires.below (me_of c.hand_link.new.seat) c.hand_link.ensures.makes

pub returns-clause-home : goal.returns-clause-home
returns-clause-home g c =
    let K = g.C.Client.terms in
    let o = g.C.Object.Object.opens in
    let s = g.C.Object.Object.step in
    let p = plan_of c.args.self.now in
    let m = me_of c.args.seat.now in
    goes_home K o s p m c.args.first c.args.tail c.requires.chain c.requires.below (me_of c.hand_link.new.seat) c.hand_link.ensures.makes (me_of c.chain_home.new.seat) c.chain_home.ensures.sends
