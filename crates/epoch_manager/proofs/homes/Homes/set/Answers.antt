use Rattle.std.proofs.Common.{◌<◌, ◌∙◌, length, ap, rules}
use Rattle.epoch_laws.specs.Places.{with_number}
use Rattle.epoch_manager.specs.HomeChains.{chain_of}
use Rattle.epoch_manager.proofs.HomeChains.{chain_set}
use Rattle.epoch_manager.proofs.homes.Homes.set.Goals as goal

pub returns : goal.returns
returns c =
    let chains = c.args.self.now.chains in
    let chain = c.args.chain in
    let low : c.from.result < length chains = search rules in
    λ l. chain_set chains c.from.result chain low l ∙ ap (λ k. with_number (chain_of chains) k chain l) c.from.ensures
