use Rattle.std.proofs.Common.{ap}
use Rattle.pass_table.proofs.OwnSteps.{allows}
use Rattle.pass_table.proofs.tables.PassTable.swap.Goals as goal

pub swap-requires : goal.swap-requires
swap-requires g c =
    let me = c.args.seat.now.seat.me in (
      ap (λ o. o.table) c.requires.seat,
      c.requires.word,
      allows g.C.Client.terms g.C.Object.Object.opens g.C.Object.Object.step c.args.self.now.table.shared.key _ _ _ me (λ _. c.args.new) (λ n. n) (λ p. g.M.Kind.tells p me.0.number me.0.part me.1)
          c.args.seat.now.role c.args.seat.now.single c.requires.permits,
    )
