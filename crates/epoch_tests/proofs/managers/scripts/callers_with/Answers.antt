use Rattle.std.proofs.Common.{◌≡◌, ◌∷◌, [], ◌∙◌, ap, arith, length, length-append, Some}
use Rattle.std.proofs.lemmas.List.Elements.{All-same, All-pop}
use Rattle.std.specs.Prelude.{reverse}
use Rattle.epoch_tests.specs.Carrying.{Carries}
use Rattle.epoch_manager.specs.Managers.{opening_of, pass_opening}
use Rattle.epoch_manager.proofs.Openings.{written, all_moved}
use Rattle.epoch_tests.proofs.managers.scripts.callers_with.Goals as goal

pub loop-pass-preserved : goal.loop-pass-preserved
loop-pass-preserved c =
    let l = c.loop-pass.invariant in
    let m = c.args.manager.now in
    record {
      made = all_moved (λ a. Carries m a.cells a.pass a.hand a.cut a.held) _ _ _ c.in_ok-push.ensures.items c.new_caller-caller.ensures l.made;
      left = (All-pop (λ p. pass_opening p ≡ opening_of m) _ _ (Some c.in-Some.pass) c.in-Some.ensures.items l.left).0;
      count = omega (arith, l.count, ap length c.in_ok-push.ensures.items, ap length c.in-Some.ensures.items, length-append c.loop-pass.callers.items (c.new_caller-caller.result ∷ []), length-append c.pop.new.self.items (c.in-Some.pass ∷ []));
    }

pub returns-clause-opening : goal.returns-clause-opening
returns-clause-opening c =
    let m = c.args.manager.now in
    let value = c.as_mut_slice.ensures.value in
    let after = c.reverse.ensures.after in
    let len = c.reverse.ensures.len in
    All-same (λ a. Carries m a.cells a.pass a.hand a.cut a.held) _ _
    (written c.loop-pass.callers.items c.reverse.new.self c.loop-pass.callers.len (omega (arith, c.loop-pass.callers.ok.0)) (len ∙ ap (λ l. length l) value) ∙ (after ∙ ap reverse value)) c.loop-pass.invariant.made
