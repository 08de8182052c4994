use Rattle.std.proofs.Common.{ap}
use Rattle.std.specs.Prelude.{◌==◌}
use prog.Atomic.{either}
use Rattle.pass_table.proofs.OwnSteps.{allows}
use Rattle.pass_table.proofs.tables.PassTable.compare_exchange.Goals as goal

pub compare_exchange-requires : goal.compare_exchange-requires
compare_exchange-requires g c =
    let me = c.args.seat.now.seat.me in (
      ap (λ o. o.table) c.requires.seat,
      c.requires.word,
      allows g.C.Client.terms g.C.Object.Object.opens g.C.Object.Object.step c.args.self.now.table.shared.key _ _ _ me (λ n. either (n == c.args.old) c.args.new n) (λ n. n) (λ p. g.M.Kind.tells p me.0.number me.0.part me.1)
          c.args.seat.now.role c.args.seat.now.single c.requires.permits,
    )
