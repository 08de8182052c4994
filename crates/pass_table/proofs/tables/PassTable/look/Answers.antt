use Rattle.std.proofs.Common.{ap, sym, ◌∙◌}
use Rattle.pass_table.proofs.NoteSteps.{looks_at_first}
use Rattle.pass_table.proofs.tables.PassTable.look.Goals as goal

pub load-requires-clause-permits : goal.load-requires-clause-permits
load-requires-clause-permits g c = looks_at_first g.C.Client.terms g.C.Object.Object.opens g.C.Object.Object.step _ _ _ _ _ _ c.requires.first

pub invariant_of-pass : goal.invariant_of-pass
invariant_of-pass g c =
    let steps = c.load.ensures.steps in
    let told = steps.told in record {
      rests = ap (λ m. m.0.rests) steps.after ∙ (ap g.C.Client.terms.rests told.same ∙ (sym steps.rested ∙ c.args.pass.now.rests));
      empty_handed = ap (λ m. m.1) steps.after ∙ (told.held ∙ c.args.pass.now.empty_handed);
    }
