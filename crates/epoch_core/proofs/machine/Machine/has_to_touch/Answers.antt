use Rattle.std.proofs.Common.{ap, sym, ◌∙◌}
use Rattle.std.specs.Prelude.{◌||◌}
use Rattle.epoch_laws.specs.Places.{is_among}
use Rattle.epoch_core.specs.Objects.{object_place}
use Rattle.epoch_core.proofs.HeldWords.{among-both}
use Rattle.epoch_core.proofs.SeatStores.{low_read}
use Rattle.epoch_core.proofs.machine.Machine.has_to_touch.Goals as goal

pub returns-then-is_kept : goal.returns-then-is_kept
returns-then-is_kept c s sh place =
    let own = sym (c.is_kept.ensures s sh (low_read _ s sh c.args.seat c.requires) place) ∙ c.if-is_kept.true in
    sym (among-both (object_place c.args.at) _ _ ∙ ap (λ b. b || is_among (object_place c.args.at) (s.seat c.args.seat).held) own)

pub returns : goal.returns
returns c s sh place =
    let not_own = sym (c.is_kept.ensures s sh (low_read _ s sh c.args.seat c.requires) place) ∙ c.if-is_kept.false in
    c.holds.ensures s sh ∙ sym (among-both (object_place c.args.at) _ _ ∙ ap (λ b. b || is_among (object_place c.args.at) (s.seat c.args.seat).held) not_own)
