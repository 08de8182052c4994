use Rattle.std.proofs.Common.{◌≢◌, arith}
use Rattle.epoch_tests.proofs.chains.a_taken_chain_leads_to_what_was_pushed.Goals as goal

pub swap_in-requires-2-clause-outside : goal.swap_in-requires-2-clause-outside
swap_in-requires-2-clause-outside g c =
    let apart : 2 ≢ 1 = λ same. omega (arith, same) in
    c.swap_in.ensures.outside 2 apart (c.in_ok-chains.ensures.outside 2)
