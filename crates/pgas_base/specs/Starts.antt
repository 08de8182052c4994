-- The numbers that an opening takes.
use Rattle.std.specs.Prelude.{◌^◌, ◌<◌, ◌≤◌}
use Rattle.pgas_base.specs.declared.starts.Start.{Start}

pub record IsStart (start : Start) : Type 0 where
  pub some_epoch : 1 ≤ start.epoch
  pub epoch : start.epoch ≤ 2 ^ 62
  pub stack : start.stack < 2 ^ 40
