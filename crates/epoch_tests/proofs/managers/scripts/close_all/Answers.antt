use Rattle.std.proofs.Common.{◌≡◌, ◌∷◌, [], ap, sym, subst, arith, length, length-append, Some}
use Rattle.std.proofs.lemmas.List.Elements.{All-same, All-pop, All-push}
use Rattle.epoch_tests.specs.Carrying.{Carries}
use Rattle.epoch_manager.specs.Managers.{opening_of, pass_opening}
use Rattle.epoch_tests.proofs.managers.scripts.close_all.Goals as goal

pub loop-caller-preserved : goal.loop-caller-preserved
loop-caller-preserved c =
    let l = c.loop-caller.invariant in
    let m = c.args.manager in
    let caller = c.in-Some.caller in
    let popped = All-pop (λ a. Carries m a.cells a.pass a.hand a.cut a.held) c.loop-caller.callers.items c.pop.new.self.items (Some caller) c.in-Some.ensures.items l.left in
    let one : Carries m caller.cells caller.pass caller.hand caller.cut caller.held = popped.1 in
    record {
      made = All-same (λ p. pass_opening p ≡ opening_of m) _ _ c.in_ok-push.ensures.items
          (All-push (λ p. pass_opening p ≡ opening_of m) c.loop-caller.passes.items c.pass_of.result l.made (subst (λ p. pass_opening p ≡ opening_of m) (sym c.pass_of.ensures) one.opening));
      left = popped.0;
      count = omega (arith, l.count, ap length c.in_ok-push.ensures.items, ap length c.in-Some.ensures.items, length-append c.pop.new.self.items (caller ∷ []), length-append c.loop-caller.passes.items (c.pass_of.result ∷ []));
    }
