use Rattle.std.proofs.Common.{◌≡◌, ◌∙◌, None, Some, ap, sym, arith}
use Rattle.std.specs.Prelude.{unwrap_or}
use Rattle.epoch_laws.specs.Places.{with_number}
use Rattle.epoch_manager.specs.HomeChains.{chain_of, joined}
use Rattle.epoch_manager.proofs.homes.Homes.join.Goals as goal

pub joined-longer-requires : goal.joined-longer-requires
joined-longer-requires c = λ some is. c.args.self.now.short c.locale-locale.result some (sym c.at-before.ensures ∙ is)

pub returns-then-full : goal.returns-then-full
returns-then-full c =
    let f = chain_of c.args.self.now.chains in
    let here = c.locale-locale.ensures.value in
    let full = c.if-full.true in
    (c.joined-longer.ensures.value ∙ ap (joined c.args.ptr) (c.at-before.ensures ∙ ap f here), omega arith, (λ l. c.set.ensures l ∙ ap (λ k. with_number f k None l) here))

pub set-requires-2-clause-short : goal.set-requires-2-clause-short
set-requires-2-clause-short c = λ some is.
    let longer = c.joined-longer.result in
    let same : longer.many ≡ some.many = ap (λ o. (unwrap_or o longer).many) is in
    let most = c.joined-longer.ensures.bound in
    let other = c.if-full.false in
    omega arith

pub returns : goal.returns
returns c =
    let f = chain_of c.args.self.now.chains in
    let here = c.locale-locale.ensures.value in
    let is = c.joined-longer.ensures.value ∙ ap (joined c.args.ptr) (c.at-before.ensures ∙ ap f here) in
    λ l. c.set-2.ensures l ∙ (ap (λ k. with_number f k (Some c.joined-longer.result) l) here ∙ ap (λ x. with_number f c.args.ptr.locale (Some x) l) is)
