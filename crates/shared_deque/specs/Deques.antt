-- What contracts see of a deque.
use Rattle.std.specs.Prelude.{ℕ, Some}
use Rattle.pass_table.specs.Passes.{Opening, table_of, plan_of}
use Rattle.shared_deque.specs.declared.clients.Plan.{Plan}
use Rattle.shared_deque.specs.declared.deques.Deque.{Deque}

module _ {K : Type 0} where
  -- the opening that a deque comes from
  abbrev pub opening_of : Deque K → Opening (Plan K)
  opening_of d = record { table = table_of d.table; plan = Some (plan_of d.table) }

  -- how many items a deque holds at most
  abbrev pub capacity_of : Deque K → ℕ
  capacity_of d = (plan_of d.table).capacity

  -- how many callers a deque has
  abbrev pub callers_of : Deque K → ℕ
  callers_of d = (plan_of d.table).callers

  -- who says which items a deque holds
  abbrev pub keeper_of : Deque K → K
  keeper_of d = (plan_of d.table).keeper
