use Rattle.epoch_manager.proofs.Openings.{all_new, opened_with}
use Rattle.epoch_manager.proofs.managers.Manager.of_numbers.Goals as goal

pub wrap-requires : goal.wrap-requires
wrap-requires g c = all_new g.C.Client.terms _ _ _ _ _ c.in_ok-words.ensures.2

pub returns : goal.returns
returns g c = opened_with g.C.Client.terms _ _ _ _ _ _ _ _ _ c.in_ok-words.ensures.2 c.in_ok-passes.ensures.same c.in_ok-passes.ensures.idle
