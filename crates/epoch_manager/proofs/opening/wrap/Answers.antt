use Rattle.std.proofs.Common.{◌∙◌, ap, refl, arith, length, Some}
use Rattle.std.proofs.lemmas.List.Elements.{All-same, All-pop}
use Rattle.std.specs.Prelude.{reverse}
use Rattle.epoch_manager.specs.Opened.{IsNew, IsIdlePass}
use Rattle.epoch_manager.proofs.Openings.{written, moved, all_moved}
use Rattle.epoch_manager.proofs.opening.wrap.Goals as goal

pub loop-pass-preserved : goal.loop-pass-preserved
loop-pass-preserved g c =
    let l = c.loop-pass.invariant in
    record {
      from = moved (λ p. p.pass) _ _ _ _ _ c.in-Some.pass _ l.from c.in-Some.ensures.items c.in_ok-push.ensures.items refl;
      idle = all_moved IsIdlePass _ _ _ c.in_ok-push.ensures.items c.idle.ensures l.idle;
      new = (All-pop (IsNew g.C.Client.terms c.args.words.now.table) _ _ (Some c.in-Some.pass) c.in-Some.ensures.items l.new).0;
    }

pub returns-clause-idle : goal.returns-clause-idle
returns-clause-idle g c =
    let value = c.as_mut_slice.ensures.value in
    let after = c.reverse.ensures.after in
    let len = c.reverse.ensures.len in
    All-same IsIdlePass _ _ (written c.loop-pass.wrapped.items c.reverse.new.self c.loop-pass.wrapped.len (omega (arith, c.loop-pass.wrapped.ok.0)) (len ∙ ap (λ l. length l) value) ∙ (after ∙ ap reverse value)) c.loop-pass.invariant.idle
