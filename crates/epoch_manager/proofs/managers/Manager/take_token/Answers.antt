use Rattle.std.proofs.Common.{◌∙◌, ap, arith}
use Rattle.epoch_manager.specs.Managers.{plan_of}
use Rattle.pass_table.specs.Passes.{me_of}
use Rattle.epoch_manager.proofs.TokenSteps.{no_try, tried_same, may_register, one_more, takes_it}
use Rattle.epoch_manager.proofs.managers.Manager.take_token.Goals as goal

pub loop-number-init : goal.loop-number-init
loop-number-init g c = record {
  seat = c.requires.seat;
  tried = no_try g.C.Client.terms g.C.Object.Object.opens g.C.Object.Object.step (plan_of c.args.self.now) c.args.locale (me_of c.args.seat.now);
}

pub register-found-requires-clause-may : goal.register-found-requires-clause-may
register-found-requires-clause-may g c =
    let K = g.C.Client.terms in
    let o = g.C.Object.Object.opens in
    let s = g.C.Object.Object.step in
    let p = plan_of c.args.self.now in
    let same = tried_same K o s p c.args.locale c.loop-number.number (me_of c.args.seat.now) (me_of c.loop-number.seat) c.loop-number.invariant.tried in
    let tokens = ap (λ h. h.tokens) c.args.self.now.planned in
    may_register K o s p (me_of c.loop-number.seat) c.args.locale c.loop-number.number (let n = same.0 in omega (arith, c.requires.below)) (ap (λ x. x.seat.phase) same.1 ∙ c.requires.idle) c.requires.locale
    (omega (arith, c.loop-number-test.true, tokens))

pub returns-then-free-clause-takes : goal.returns-then-free-clause-takes
returns-then-free-clause-takes g c =
    let tokens = ap (λ h. h.tokens) c.args.self.now.planned in
    takes_it g.C.Client.terms g.C.Object.Object.opens g.C.Object.Object.step (plan_of c.args.self.now) c.args.locale c.loop-number.number c.register-found.result (me_of c.args.seat.now) (me_of c.loop-number.seat) (me_of c.register-found.new.seat)
    c.loop-number.invariant.tried (omega (arith, c.if-free.true)) (omega (arith, c.loop-number-test.true, tokens)) c.register-found.ensures.makes

pub loop-number-preserved : goal.loop-number-preserved
loop-number-preserved g c = record {
  seat = c.register-found.ensures.seat;
  tried = one_more g.C.Client.terms g.C.Object.Object.opens g.C.Object.Object.step (plan_of c.args.self.now) c.args.locale c.loop-number.number c.register-found.result (me_of c.args.seat.now) (me_of c.loop-number.seat) (me_of c.register-found.new.seat)
      c.loop-number.invariant.tried (omega (arith, c.if-free.false)) c.register-found.ensures.makes;
}
