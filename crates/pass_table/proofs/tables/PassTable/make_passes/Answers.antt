use Rattle.std.proofs.Common.{ap, ap₂, ◌∙◌, arith, ◌≡◌, ◌<◌, []}
use Rattle.pass_table.specs.Views.{opener_next, newcomer, page_of}
use Rattle.pass_table.specs.Passes.{pass_opening, opening_of}
use Rattle.pass_table.specs.Openings.{IsNewPass}
use Rattle.pass_table.proofs.Lists.{in_order_more, all_in_order, count_after}
use Rattle.pass_table.proofs.OpenSteps.{splits_first}
use Rattle.pass_table.proofs.tables.PassTable.make_passes.Goals as goal

pub split_seat-seat-requires : goal.split_seat-seat-requires
split_seat-seat-requires g c =
    let l = c.loop-caller.invariant in
    let v = c.loop-caller.opener.me.0 in
    let less : v.number < g.C.Client.terms.callers c.args.self.now.table.shared.key = omega (arith, ap (λ m. m.0.number) l.view, c.requires.callers, c.loop-caller-test.true) in (
      l.table,
      c.args.self.now.some_word,
      splits_first g.C.Client.terms g.C.Object.Object.opens g.C.Object.Object.step _ _ v l.first (ap (λ m. m.0.role) l.view) less,
    )

pub loop-caller-preserved : goal.loop-caller-preserved
loop-caller-preserved g c =
    let l = c.loop-caller.invariant in
    let split = c.split_seat-seat.ensures in
    let push = c.push_reserved.ensures in
    let here = split.4 ∙ ap (λ m. (newcomer g.C.Client.terms m.0, [])) l.view in
    record {
      table = split.0 ∙ l.table;
      first = split.1 ∙ l.first;
      view = split.2 ∙ ap (λ m. (opener_next m.0, m.1)) l.view;
      count = count_after _ _ _ _ push.items l.count;
      filled = omega (arith, push.len, l.filled);
      room = push.capacity ∙ l.room;
      each = in_order_more (IsNewPass g.C.Client.terms c.args.self.now) _ _ _ _ push.items l.count l.each
          record {
            opening = ap₂ (λ t p. record { table = t; plan = p }) (split.3 ∙ l.table) (ap (λ m. m.0.plan) here);
            numbered = ap (λ m. m.0.number) here;
            empty = ap (λ m. page_of m.0) here;
            unread = ap (λ m. m.0.looked) here;
            part = ap (λ m. m.0.part) here;
          };
    }

pub returns-clause-opening : goal.returns-clause-opening
returns-clause-opening g c =
    let d = c.args.self.now in
    all_in_order (IsNewPass g.C.Client.terms d) (λ p. pass_opening p ≡ opening_of d) c.loop-caller.passes.items (λ k p new. new.opening) c.loop-caller.invariant.each
