use Rattle.std.proofs.Common.{None, sym}
use Rattle.epoch_laws.specs.Places.{with_number}
use Rattle.pass_table.specs.Passes.{me_of}
use Rattle.epoch_manager.specs.HomeChains.{chain_of}
use Rattle.epoch_manager.specs.Managers.{plan_of}
use Rattle.epoch_manager.proofs.GatherSteps.{gathers_begin, gathers_same, chain_there, chain_gone, taken_on}
use Rattle.epoch_manager.proofs.managers.Manager.hand_over.Goals as goal

pub chain_home-requires-clause-chain : goal.chain_home-requires-clause-chain
chain_home-requires-clause-chain g c =
    let K = g.C.Client.terms in
    let o = g.C.Object.Object.opens in
    let s = g.C.Object.Object.step in
    let p = plan_of c.args.self.now in
    let m = me_of c.args.seat.now in
    let old = chain_of c.args.homes.now.chains in
    let begin = gathers_begin K o s p m old c.requires.gathers c.requires.tail in
    chain_there K o s p m m old begin c.args.locale c.in-Some.chain (sym c.in-Some.ensures.chain)

pub returns-in-Some-clause-gathers : goal.returns-in-Some-clause-gathers
returns-in-Some-clause-gathers g c =
    let K = g.C.Client.terms in
    let o = g.C.Object.Object.opens in
    let s = g.C.Object.Object.step in
    let p = plan_of c.args.self.now in
    let m = me_of c.args.seat.now in
    let old = chain_of c.args.homes.now.chains in
    let begin = gathers_begin K o s p m old c.requires.gathers c.requires.tail in
    let n = me_of c.chain_home.new.seat in
    gathers_same K o s p m n (with_number old c.args.locale None) (chain_of c.take-chain.new.self.chains) c.take-chain.ensures.rest
    (chain_gone K o s p m m old begin c.args.locale c.in-Some.chain (sym c.in-Some.ensures.chain) n c.chain_home.ensures.sends)

pub returns-in_default-clause-gathers : goal.returns-in_default-clause-gathers
returns-in_default-clause-gathers g c =
    let K = g.C.Client.terms in
    let o = g.C.Object.Object.opens in
    let s = g.C.Object.Object.step in
    let p = plan_of c.args.self.now in
    let m = me_of c.args.seat.now in
    let old = chain_of c.args.homes.now.chains in
    let begin = gathers_begin K o s p m old c.requires.gathers c.requires.tail in
    taken_on K o s p m m old (chain_of c.take-chain.new.self.chains) c.args.locale c.take-chain.ensures.rest (sym c.in_default.ensures.chain) begin
