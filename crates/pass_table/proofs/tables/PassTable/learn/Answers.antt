use Rattle.std.proofs.Common.{ap, ◌∙◌}
use Rattle.pass_table.proofs.NoteSteps.{joins_note, learns_note}
use Rattle.pass_table.proofs.tables.PassTable.learn.Goals as goal

pub join_seat-requires : goal.join_seat-requires
join_seat-requires g c = (
  ap (λ o. o.table) c.requires.pass,
  ap (λ o. o.table) c.requires.note,
  c.args.note.empty_handed,
  c.args.self.now.some_word,
  joins_note g.C.Client.terms g.C.Object.Object.opens g.C.Object.Object.step _ _ c.args.pass.now.seat.seat.me.0 _ c.args.note.seat.me.0 c.args.pass.now.seat.role c.args.note.role,
)

pub load-requires : goal.load-requires
load-requires g c =
    let is = c.join_seat.ensures.2 in (
      c.join_seat.ensures.0 ∙ ap (λ o. o.table) c.requires.pass,
      c.args.self.now.some_word,
      learns_note g.C.Client.terms g.C.Object.Object.opens g.C.Object.Object.step _ _ _ c.join_seat.new.seat.me
          (ap (λ m. m.0.role) is ∙ c.args.pass.now.seat.role) (ap (λ m. m.0.merged) is ∙ c.args.pass.now.seat.single) c.requires.first,
    )
