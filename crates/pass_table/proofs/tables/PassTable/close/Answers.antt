use Rattle.std.proofs.Common.{◌<◌, length, arith, rules}
use Rattle.pass_table.proofs.CloseSteps.{closes}
use Rattle.pass_table.proofs.tables.PassTable.close.Goals as goal

pub returns-clause-closes : goal.returns-clause-closes
returns-clause-closes g c = closes g.C.Client.terms g.C.Object.Object.opens g.C.Object.Object.step c.args.self _ _ _ _ c.gather-seat.result.me.0 c.close_with.ensures.values.2 c.gather-seat.ensures.view c.gather-seat.ensures.gathered c.gather-seat.ensures.numbers c.requires.count

pub gather-seat-requires-clause-some : goal.gather-seat-requires-clause-some
gather-seat-requires-clause-some g c = let some : 0 < length c.args.passes.items = omega (arith, c.requires.some, c.requires.count) in search rules
