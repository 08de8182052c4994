-- The limits on a shape.
use Rattle.std.specs.Prelude.{ℕ, ◌+◌, ◌*◌, ◌^◌, ◌≤◌}
use Rattle.pgas_base.specs.declared.shapes.Shape.{Shape}

abbrev pub LocalesInRange : Shape → Type 0
LocalesInRange shape = (1 ≤ shape.locales) × (shape.locales ≤ 16)

abbrev pub TokensInRange : Shape → Type 0
TokensInRange shape = (1 ≤ shape.tokens) × (shape.tokens ≤ 1024)

abbrev pub ObjectsInRange : Shape → Type 0
ObjectsInRange shape = (1 ≤ shape.objects) × (shape.objects ≤ 2 ^ 20)

abbrev pub WidthInRange : Shape → Type 0
WidthInRange shape = (2 ≤ shape.width) × (shape.width ≤ 4096)

-- the words of all objects: each has a row of the width, and two words beside it
abbrev pub object_words : Shape → ℕ
object_words shape = shape.locales * shape.objects * (shape.width + 2)

abbrev pub WordsInRange : Shape → Type 0
WordsInRange shape = object_words shape ≤ 2 ^ 25

-- the shape keeps all limits
abbrev pub IsShape : Shape → Type 0
IsShape shape =
    LocalesInRange shape × TokensInRange shape × ObjectsInRange shape × WidthInRange shape × WordsInRange shape
