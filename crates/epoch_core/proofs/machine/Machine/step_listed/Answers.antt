use Rattle.std.proofs.Common.{ap, sym, ◌∙◌, subst}
use Rattle.pgas_base.specs.Shapes.{IsShape}
use Rattle.epoch_laws.specs.Runs.{state_after}
use Rattle.epoch_laws.specs.States.{opening}
use Rattle.epoch_core.specs.Listed.{listed}
use Rattle.epoch_core.proofs.ListedItems.{listed_is, low_seat, names_pointer}
use Rattle.epoch_core.proofs.machine.Machine.step_listed.Goals as goal

pub returns : goal.returns
returns c shape start seats steps after =
    let s = state_after (opening shape start seats) steps in
    let seat = c.args.step.now.seat in
    let kind = c.args.step.now.kind in
    let went = c.in_ok-seen.ensures shape start seats steps after in
    let known = c.known-known.ensures s after.shows (low_seat s seat kind went.0) in
    let shaped = subst IsShape (sym after.shows.shape) after.shows.shaped in (
      went,
      ap listed (c.item_of.ensures (names_pointer s seat c.known-known.result known shaped kind went.0))
          ∙ listed_is s seat c.known-known.result known kind c.in_ok-seen.seen went.0 went.1,
    )
