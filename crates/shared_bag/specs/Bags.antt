-- What contracts see of a bag.
use Rattle.std.specs.Prelude.{ℕ, Some}
use Rattle.pass_table.specs.Passes.{Opening, table_of, plan_of}
use Rattle.shared_bag.specs.declared.shapes.Shape.{Shape}
use Rattle.shared_bag.specs.declared.clients.Plan.{Plan}
use Rattle.shared_bag.specs.declared.bags.Bag.{Bag}

module _ {K : Type 0} where
  -- the opening that a bag comes from
  abbrev pub opening_of : Bag K → Opening (Plan K)
  opening_of b = record { table = table_of b.table; plan = Some (plan_of b.table) }

  -- the numbers that a bag was opened with
  abbrev pub shape_of : Bag K → Shape
  shape_of b = (plan_of b.table).shape

  -- how many callers a bag has
  abbrev pub callers_of : Bag K → ℕ
  callers_of b = (shape_of b).callers

  -- who says which items a bag holds
  abbrev pub keeper_of : Bag K → K
  keeper_of b = (plan_of b.table).keeper
