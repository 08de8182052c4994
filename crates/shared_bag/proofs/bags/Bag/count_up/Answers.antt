use Rattle.std.proofs.Common.{subst, sym}
use Rattle.std.specs.Prelude.{◌+◌, ◌%◌, ◌^◌}
use Rattle.seq_objects.specs.Meanings.{BagOpens}
use Rattle.seq_objects.specs.BagSteps.{BagStep}
use Rattle.pass_table.specs.Steps.{Steps}
use Rattle.shared_bag.specs.Rule.{bag_terms}
use Rattle.shared_bag.specs.Kinds.{MayDo, TellsChosen}
use Rattle.shared_bag.proofs.Doings.{does_of}
use Rattle.shared_bag.proofs.bags.Bag.count_up.Goals as goal

pub returns-clause-does : goal.returns-clause-does
returns-clause-does g c =
    let m = c.args.seat.now.seat.me in
    let plan = c.args.self.now.table.table.shared.key in
    does_of g.K.Keeps.keeps plan c.args.kind m c.fetch_add.result c.fetch_add.new.seat.seat.me
    (subst (λ k. Steps (bag_terms g.K.Keeps.keeps) BagOpens BagStep plan (λ found e. TellsChosen g.K.Keeps.keeps plan m.0.number m.0.part m.1 k found e) m c.fetch_add.result c.fetch_add.new.seat.seat.me) c.requires.kind c.fetch_add.ensures.steps)

pub fetch_add-requires-clause-permits : goal.fetch_add-requires-clause-permits
fetch_add-requires-clause-permits g c =
    subst (λ k. MayDo g.K.Keeps.keeps c.args.self.now.table.table.shared.key c.args.self.now.table.table.shared.table_id.slots k c.args.seat.now.seat.me 0 (λ n. (n + 1) % 2 ^ 64) (λ n. n)) (sym c.requires.kind) c.requires.may
