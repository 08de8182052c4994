use Rattle.std.proofs.Common.{◌≡◌, ◌∷◌, ◌++◌, [], List, Vec, Global, ap, ◌∙◌}
use Rattle.script_text.specs.declared.scripts.Call.{Call}
use Rattle.script_text.proofs.Pushed.{call_pushed}
use Rattle.script_text.proofs.drafts.push_call.Goals.{then-is_empty+in_ok-reserve_exact, else-is_empty}
use Rattle.script_text.proofs.drafts.push_call.Goals as goal

pub returns-in_ok-push : goal.returns-in_ok-push
returns-in_ok-push c =
    let same : c.if-is_empty.list.items ≡ c.in-Some.list.now.items = elim c.if-is_empty.branch [
      | then-is_empty+in_ok-reserve_exact w ↦ ap (λ (l : Vec Call Global). l.items) w.list-is ∙ w.in_ok-reserve_exact.ensures.items
      | else-is_empty w ↦ ap (λ (l : Vec Call Global). l.items) w.list-is
    ] in
    call_pushed c.args.calls.now.items c.args.caller c.in-Some.list.now c.push.new.self c.args.call c.in-Some.ensures.item.3.0 c.in-Some.ensures.value
    (c.in_ok-push.ensures.items ∙ ap (λ (items : List Call). items ++ c.args.call ∷ []) same)
