use Rattle.std.proofs.Common.{length, drop, refl, sym, subst, arith}
use Rattle.std.proofs.lemmas.List.{take_at}
use Rattle.levels_engine.specs.Marks.{IsMarking, Reorders, Marking}
use Rattle.levels_engine.proofs.Marking.{IsMarking-reordered}
use Rattle.levels_engine.proofs.marks.Marks.sort_from.Goals as goal

pub invariant_of-self : goal.invariant_of-self
invariant_of-self c =
    let levels = c.self.inside.levels.items in
    let queue = c.self.inside.queue.items in
    let sorted = c.sort_tail.new.numbers in
    let value = c.deref_mut.ensures.value in
    let old : Marking = record { levels = levels; queue = queue } in
    let new : Marking = record { levels = levels; queue = sorted } in
    let again : Reorders c.args.begin old new = record { levels = refl; front = rw value at c.sort_tail.ensures.front; rest = rw value at c.sort_tail.ensures.rest } in
    let whole = take_at sorted (drop (length sorted) queue) c.self.inside.queue.len (omega (arith, c.sort_tail.auto.numbers, c.deref_mut.ensures.len)) in
    subst (IsMarking levels) (sym whole) (IsMarking-reordered c.args.begin old new again c.self.invariant)
