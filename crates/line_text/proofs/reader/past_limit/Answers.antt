use Rattle.std.proofs.Common.{[], ◌++◌, sym, ◌∙◌}
use Rattle.line_text.proofs.reader.past_limit.Goals as goal

pub take-requires : goal.take-requires
take-requires g c = record { said = c.in-Ok.ensures.said; line = (c.requires.placed.part ++ [], c.requires.placed.leads [] ∙ sym c.in-Ok.ensures.value) }
