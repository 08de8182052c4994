use Rattle.pass_table.proofs.LooksBack.{has_looked}
use Rattle.pass_table.proofs.tables.PassTable.size_with.Goals as goal

pub returns : goal.returns
returns g c =
    has_looked g.C.Client.terms g.C.Object.Object.opens g.C.Object.Object.step _ _ _ c.args.pass.now c.look.new.pass _ _ c.look.ensures.pass.0.0 c.look.ensures.looks c.items_in.ensures
