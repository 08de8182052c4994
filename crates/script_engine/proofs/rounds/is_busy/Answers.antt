use Rattle.std.proofs.Common.{◌≡◌, List, [], ◌∷◌, length, vec_len, ap, sym, ◌∙◌, rules, arith}
use Rattle.std.specs.Global.{Vec}
use Rattle.script_text.specs.declared.scripts.Call.{Call}
use Rattle.script_engine.proofs.Crews.{idle_more}
use Rattle.script_engine.proofs.rounds.is_busy.Goals as goal

none_there : {A : Type 0} (xs : List A) → length xs ≡ 0 → xs ≡ []
none_there [] e = search rules
none_there (x ∷ xs) e = absurd (omega (arith, e))

pub loop-its-preserved : goal.loop-its-preserved
loop-its-preserved c =
    let its : Vec Call = c.its-item.result in
    let zero : vec_len its ≡ 0 = search rules in
    let none : its.items ≡ [] = none_there its.items (sym its.ok.0 ∙ zero) in
    idle_more c.args.calls.now c.loop-its.its-index its c.loop-its-test.true c.loop-its.invariant (ap (λ (v : Vec Call). v.items) (sym c.its-item.is) ∙ none)
