use Rattle.std.proofs.Common.{◌≡◌, ◌<◌, ◌++◌, suc, length, take, drop, get_or, List, ap, sym, ◌∙◌, subst, arith, refl}
use Rattle.std.proofs.lemmas.List.{take_all}
use Rattle.epoch_core.specs.Runs.{IsAfter}
use Rattle.epoch_laws.specs.declared.events.Item.{Item}
use Rattle.epoch_laws.specs.declared.steps.Step.{Step}
use Rattle.epoch_laws.specs.Runs.{items_of, outcome, state_after}
use Rattle.run_text.specs.declared.runs.StepLine.{StepLine}
use Rattle.run_text.specs.Checks.{HasMade, ListsItems, opened}
use Rattle.run_text.specs.Runs.{steps_of}
use Rattle.run_text.proofs.CheckedRuns.{items_then, lines_more, made_all, parted}
use Rattle.run_text.proofs.checking.make_steps.Goals as goal

pub returns-in-Some : goal.returns-in-Some
returns-in-Some c run same after none =
    let lines = c.args.steps.now in
    let at = c.loop-line.line-index in
    let line = c.line-item.result in
    let inv = c.loop-line.invariant run same after none in
    let within : at < length lines = omega (arith, c.loop-line-test.true) in
    let here : get_or lines at line ≡ line = sym c.line-item.is in
    let made = subst (HasMade run.shape run.start run.seats (steps_of (take at lines)) line.step c.make_step.new.machine c.loop-line.items.items c.make_step.new.items.items) c.in-Some.is
    (c.in_ok-illegal.ensures run.shape run.start run.seats (steps_of (take at lines)) inv.0) in
    record {
      front = take at lines;
      refused = line;
      rest = drop (suc at) lines;
      parts = same ∙ parted lines at line within here;
      lists = (inv.0.run, made.2 ∙ inv.1);
      line = refl;
      told = made.1;
    }

pub loop-line-preserved : goal.loop-line-preserved
loop-line-preserved c run same after none =
    let lines = c.args.steps.now in
    let at = c.loop-line.line-index in
    let line = c.line-item.result in
    let inv = c.loop-line.invariant run same after none in
    let before = steps_of (take at lines) in
    let within : at < length lines = omega (arith, c.loop-line-test.true) in
    let here : get_or lines at line ≡ line = sym c.line-item.is in
    let made = made_all run.shape run.start run.seats before line.step c.make_step.new.machine c.loop-line.items.items c.make_step.new.items.items c.in_ok-illegal.field-0 c.in_default.not-Some
    (c.in_ok-illegal.ensures run.shape run.start run.seats before inv.0) in
    let more = lines_more lines at line within here in (
      subst (λ (s : List Step). IsAfter c.make_step.new.machine run.shape run.start run.seats s) (sym more) made.0,
      made.1 ∙ (ap (λ (l : List Item). l ++ (outcome (state_after (opened run) before) line.step).items) inv.1
          ∙ (sym (items_then (opened run) before line.step) ∙ ap (λ (s : List Step). items_of (opened run) s) (sym more))),
    )

pub returns : goal.returns
returns c run same after none =
    let lines = c.args.steps.now in
    let inv = c.loop-line.invariant run same after none in
    let all : take c.loop-line.line-index lines ≡ run.steps = take_all c.loop-line.line-index lines (omega (arith, c.loop-line-test.false)) ∙ sym same in
    subst (λ (l : List StepLine). IsAfter c.loop-line.machine run.shape run.start run.seats (steps_of l) → c.loop-line.items.items ≡ items_of (opened run) (steps_of l) → ListsItems run run.steps c.loop-line.items.items) (sym all)
    (λ after items. (after.run, items)) inv.0 inv.1
