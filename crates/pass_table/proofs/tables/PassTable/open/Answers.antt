use Rattle.pass_table.proofs.OpenSteps.{opens_with}
use Rattle.pass_table.proofs.tables.PassTable.open.Goals as goal

pub new-requires : goal.new-requires
new-requires g c = opens_with g.C.Client.terms g.C.Object.Object.opens g.C.Object.Object.step _ _ _ c.requires.opens c.requires.rule
