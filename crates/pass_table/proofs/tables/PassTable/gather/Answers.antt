use Rattle.std.proofs.Common.{ap, ◌∙◌, ◌≡◌}
use Rattle.pass_table.specs.Passes.{pass_opening, opening_of}
use Rattle.pass_table.proofs.Lists.{none_left}
use Rattle.pass_table.proofs.CloseSteps.{joins_pass, gathers_more, gathers_all, gathers_numbers, next_of}
use Rattle.pass_table.proofs.tables.PassTable.gather.Goals as goal

pub join_seat-requires : goal.join_seat-requires
join_seat-requires g c =
    let l = c.loop-pass.invariant in
    let p = c.in-Some-pop.pass in (
      l.table,
      ap (λ o. o.table) (next_of (λ q. pass_opening q ≡ opening_of c.args.self.now) c.loop-pass.all.me.0 _ _ _ p c.in-Some-pop.ensures.items l.rest c.requires.opening),
      p.empty_handed,
      c.args.self.now.some_word,
      joins_pass g.C.Client.terms g.C.Object.Object.opens g.C.Object.Object.step _ _ _ _ p.seat.seat.me.0 l.role p.seat.role,
    )

pub loop-pass-preserved : goal.loop-pass-preserved
loop-pass-preserved g c =
    let l = c.loop-pass.invariant in
    let join = c.join_seat.ensures in
    record {
      table = join.0 ∙ l.table;
      role = ap (λ m. m.0.role) join.2 ∙ l.role;
      rest = gathers_more c.loop-pass.all.me.0 _ _ _ _ c.in-Some-pop.pass (ap (λ m. m.0) join.2) c.in-Some-pop.ensures.items l.rest;
    }

pub returns-clause-numbers : goal.returns-clause-numbers
returns-clause-numbers g c =
    let pop = c.in_default-pop.ensures in
    gathers_numbers c.loop-pass.all.me.0 _ _ (none_left _ _ _ pop.items pop.rest pop.cases.0) c.loop-pass.invariant.rest

pub returns-clause-gathered : goal.returns-clause-gathered
returns-clause-gathered g c =
    let pop = c.in_default-pop.ensures in
    gathers_all c.loop-pass.all.me.0 _ _ (none_left _ _ _ pop.items pop.rest pop.cases.0) c.loop-pass.invariant.rest
