use Rattle.std.proofs.Common.{◌≡◌, List, ℕ, [], ◌∷◌, length, map, ap, sym, ◌∙◌, arith, rules}
use Rattle.std.specs.String.{string_bytes}
use Rattle.pgas_top.proofs.Lists.{one_of}
use Rattle.pgas_top.proofs.commands.is_run.Goals as goal

pub returns-in-run : goal.returns-in-run
returns-in-run c =
    let len : length c.args.words.now ≡ 1 = omega (arith, c.in-len1) in
    let one = ap (map string_bytes) (one_of _ _ len c.name-item.is) in
    let run = sym c.as_str.ensures.value ∙ c.in-run.is in (
      λ is. one ∙ ap (λ (name : List ℕ). name ∷ []) run,
      λ named. search rules,
    )
