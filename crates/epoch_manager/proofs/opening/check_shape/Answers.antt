use Rattle.pgas_base.specs.declared.shapes.ShapeFault.TheVariants.{Locales, Tokens, Objects, Width, Words}
use Rattle.epoch_manager.proofs.opening.check_shape.Goals as goal

pub returns-clause-breaks : goal.returns-clause-breaks
returns-clause-breaks c = elim [
  | Locales ↦ c.check.ensures.locales
  | Tokens ↦ c.check.ensures.tokens
  | Objects ↦ c.check.ensures.objects
  | Width ↦ c.check.ensures.width
  | Words ↦ c.check.ensures.words
]
