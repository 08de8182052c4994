use Rattle.std.proofs.Common.{ap}
use Rattle.pass_table.proofs.NoteSteps.{splits_note}
use Rattle.pass_table.proofs.tables.PassTable.note.Goals as goal

pub split_seat-seat-requires : goal.split_seat-seat-requires
split_seat-seat-requires g c = (
  ap (λ o. o.table) c.requires,
  c.args.self.now.some_word,
  splits_note g.C.Client.terms g.C.Object.Object.opens g.C.Object.Object.step _ _ c.args.pass.now.seat.seat.me.0 c.args.pass.now.seat.role,
)
