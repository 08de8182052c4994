-- What the crews ask and do, from their halves.
use Rattle.std.proofs.Common.{OnOk, arith, rules, sym, ◌∙◌}
use Rattle.std.proofs.lemmas.Result.{on_ok_weaker}
use Rattle.script_engine.specs.Workers.{AllWorked}
use Rattle.script_engine.proofs.Crews.{ready_halves, ready_each, idle_worked, worked_halves, on_both}
use Rattle.script_engine.proofs.rounds.+workers.Goals as goal

pub work_all-split_at-requires : goal.work_all-split_at-requires
work_all-split_at-requires g t c =
    let each = ready_each (g.O.Shared.fits c.args.object.now) (g.O.Shared.asks c.args.object.now) c.args.workers.now c.args.calls.now c.requires in
    omega (arith, each)

pub work_all-work_all-requires-after_bounds : goal.work_all-work_all-requires-after_bounds
work_all-work_all-requires-after_bounds g t c κs bounds =
    let left = c.split_at_mut-right.result.0.now in
    let right = c.split_at_mut-right.result.1.now in
    let before = c.split_at.result.0.now in
    let behind = c.split_at.result.1.now in
    (ready_halves (g.O.Shared.fits c.args.object.now) (g.O.Shared.asks c.args.object.now) c.args.workers.now left right c.args.calls.now before behind
    c.split_at_mut-right.ensures.value c.split_at.ensures.by_index.0 (c.split_at_mut-right.ensures.front_len ∙ sym c.split_at.ensures.front_len) c.requires).1

pub work_all-returns-then-not-is_busy : goal.work_all-returns-then-not-is_busy
work_all-returns-then-not-is_busy g t c =
    let left = c.split_at_mut-right.result.0.now in
    let right = c.split_at_mut-right.result.1.now in
    let before = c.split_at.result.0.now in
    let behind = c.split_at.result.1.now in
    let halves =
    ready_halves (g.O.Shared.fits c.args.object.now) (g.O.Shared.asks c.args.object.now) c.args.workers.now left right c.args.calls.now before behind
    c.split_at_mut-right.ensures.value c.split_at.ensures.by_index.0 (c.split_at_mut-right.ensures.front_len ∙ sym c.split_at.ensures.front_len) c.requires in
    let still =
    idle_worked (g.O.Shared.fits c.args.object.now) (g.O.Shared.asks c.args.object.now) g.O.Shared.caller g.O.Shared.page (g.O.Shared.says c.args.object.now) left before halves.0 (c.is_busy.ensures c.if-not-is_busy.true) in
    on_ok_weaker c.work_all.result
    (worked_halves (g.O.Shared.fits c.args.object.now) (g.O.Shared.asks c.args.object.now) g.O.Shared.caller g.O.Shared.page (g.O.Shared.says c.args.object.now) c.args.workers.now left right left c.work_all.new.workers c.args.calls.now before behind
    c.split_at_mut-right.ensures.value c.split_at.ensures.by_index.0 still)
    c.work_all.ensures

pub work_all-work_all-requires-then-not-is_busy-2-after_bounds : goal.work_all-work_all-requires-then-not-is_busy-2-after_bounds
work_all-work_all-requires-then-not-is_busy-2-after_bounds g t c κs bounds =
    let left = c.split_at_mut-left.result.0.now in
    let right = c.split_at_mut-left.result.1.now in
    let before = c.split_at.result.0.now in
    let behind = c.split_at.result.1.now in
    (ready_halves (g.O.Shared.fits c.args.object.now) (g.O.Shared.asks c.args.object.now) c.args.workers.now left right c.args.calls.now before behind
    c.split_at_mut-left.ensures.value c.split_at.ensures.by_index.0 (c.split_at_mut-left.ensures.front_len ∙ sym c.split_at.ensures.front_len) c.requires).0

pub work_all-returns-then-not-is_busy-2 : goal.work_all-returns-then-not-is_busy-2
work_all-returns-then-not-is_busy-2 g t c =
    let left = c.split_at_mut-left.result.0.now in
    let right = c.split_at_mut-left.result.1.now in
    let before = c.split_at.result.0.now in
    let behind = c.split_at.result.1.now in
    let halves =
    ready_halves (g.O.Shared.fits c.args.object.now) (g.O.Shared.asks c.args.object.now) c.args.workers.now left right c.args.calls.now before behind
    c.split_at_mut-left.ensures.value c.split_at.ensures.by_index.0 (c.split_at_mut-left.ensures.front_len ∙ sym c.split_at.ensures.front_len) c.requires in
    let still =
    idle_worked (g.O.Shared.fits c.args.object.now) (g.O.Shared.asks c.args.object.now) g.O.Shared.caller g.O.Shared.page (g.O.Shared.says c.args.object.now) right behind halves.1 (c.is_busy-2.ensures c.if-not-is_busy-2.true) in
    on_ok_weaker c.work_all-then-not-is_busy-2.result
    (λ worked. worked_halves (g.O.Shared.fits c.args.object.now) (g.O.Shared.asks c.args.object.now) g.O.Shared.caller g.O.Shared.page (g.O.Shared.says c.args.object.now) c.args.workers.now left right c.work_all-then-not-is_busy-2.new.workers right c.args.calls.now before behind
    c.split_at_mut-left.ensures.value c.split_at.ensures.by_index.0 worked still)
    c.work_all-then-not-is_busy-2.ensures

pub work_halves-split_at-requires : goal.work_halves-split_at-requires
work_halves-split_at-requires g t c =
    let each = ready_each (g.O.Shared.fits c.args.object.now) (g.O.Shared.asks c.args.object.now) c.args.workers.now c.args.calls.now c.requires.ready in
    omega (arith, each)

pub work_halves-join_mut-one-requires-after_bounds : goal.work_halves-join_mut-one-requires-after_bounds
work_halves-join_mut-one-requires-after_bounds g t c =
    let left = c.split_at_mut-left.result.0.now in
    let right = c.split_at_mut-left.result.1.now in
    let before = c.split_at.result.0.now in
    let behind = c.split_at.result.1.now in
    let halves =
    ready_halves (g.O.Shared.fits c.args.object.now) (g.O.Shared.asks c.args.object.now) c.args.workers.now left right c.args.calls.now before behind
    c.split_at_mut-left.ensures.value c.split_at.ensures.by_index.0 (c.split_at_mut-left.ensures.front_len ∙ sym c.split_at.ensures.front_len) c.requires.ready in
    search (rules, halves.0, halves.1)

pub work_halves-returns : goal.work_halves-returns
work_halves-returns g t c =
    let left = c.split_at_mut-left.result.0.now in
    let right = c.split_at_mut-left.result.1.now in
    let before = c.split_at.result.0.now in
    let behind = c.split_at.result.1.now in
    let one : OnOk c.join_mut-one.result.0 (AllWorked (g.O.Shared.fits c.args.object.now) g.O.Shared.caller g.O.Shared.page (g.O.Shared.says c.args.object.now) left before c.left-1.given.0) = search rules in
    let other : OnOk c.join_mut-one.result.1 (AllWorked (g.O.Shared.fits c.args.object.now) g.O.Shared.caller g.O.Shared.page (g.O.Shared.says c.args.object.now) right behind c.right-1.given.0) = search rules in
    on_both c.both.result c.join_mut-one.result.0 c.join_mut-one.result.1 c.both.ensures one other
    (worked_halves (g.O.Shared.fits c.args.object.now) (g.O.Shared.asks c.args.object.now) g.O.Shared.caller g.O.Shared.page (g.O.Shared.says c.args.object.now) c.args.workers.now left right c.left-1.given.0 c.right-1.given.0 c.args.calls.now before behind
    c.split_at_mut-left.ensures.value c.split_at.ensures.by_index.0)
