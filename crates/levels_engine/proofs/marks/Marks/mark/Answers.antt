use Rattle.std.proofs.Common.{◌≡◌, ◌<◌, length, ap, sym, ◌∙◌, arith}
use Rattle.std.proofs.lemmas.List.{get_or_default}
use Rattle.levels_engine.specs.Marks.{Marking, level_of}
use Rattle.levels_engine.specs.declared.plain_levels.TheConstants.{NOT_REACHED}
use Rattle.levels_engine.proofs.Marking.{IsMarking-set}
use Rattle.levels_engine.proofs.marks.Marks.mark.Goals as goal

pub invariant_of-self-then-index : goal.invariant_of-self-then-index
invariant_of-self-then-index c =
    let levels = c.self.inside.levels.items in
    let length_levels = ap (λ (m : Marking). length m.levels) c.self.view_is in
    let within : c.args.vertex < length levels = omega arith in
    let none : level_of levels c.args.vertex ≡ NOT_REACHED =
    get_or_default levels c.args.vertex NOT_REACHED c.index.result.now within ∙ sym c.index.ensures ∙ c.if-index.true in
    rw c.in_ok-push.ensures.items (IsMarking-set levels c.self.inside.queue.items c.args.vertex c.args.level within c.requires.level c.self.invariant none)
