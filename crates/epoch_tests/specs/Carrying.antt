-- What a caller of a row of cells has with it between its calls.
use Rattle.std.specs.Prelude.{◌≡◌, ℕ, Option, IfSome, Contains}
use Rattle.pgas_base.specs.Pointers.{Pointer, IsPointer, word_of}
use Rattle.epoch_manager.specs.declared.cells.CellsView.{CellsView}
use Rattle.epoch_manager.specs.declared.managers.ClientPass.{ClientPass}
use Rattle.epoch_manager.specs.declared.managers.Manager.{Manager}
use Rattle.epoch_manager.specs.Managers.{plan_of, opening_of, pass_opening, owned_by, held_by, knows}

-- It knows how many cells there are. The pass is of the manager's opening, and owns the object in the hand, may defer the one that was cut out of a cell, and holds the third
pub record Carries {C O Call Reply State' : Type 0} (m : Manager C O CellsView Call Reply State') (cells : ℕ) (p : ClientPass C CellsView Call Reply) (hand cut held : Option Pointer) : Type 0 where
  pub many : cells ≡ (plan_of m).own
  pub opening : pass_opening p ≡ opening_of m
  pub owns : IfSome hand (λ q. Contains (owned_by p) q)
  pub may_defer : IfSome cut (λ q. IsPointer q × Contains (knows p).cut (word_of q))
  pub holds : IfSome held (λ q. Contains (held_by p) q)
