-- What a caller's step leaves as it was: what the others are about to do, and the cells that it does not touch.
use Rattle.std.proofs.Common.{◌≡◌, ◌≢◌, ℕ, ◌+◌, ◌<◌, ◌≤◌, ◌⊎◌, ap, sym, ◌∙◌, subst, arith, ⊎_elim, refl}
use mathlib.Core.Logic.{dite}
use native.Mathlib.Decide.{ℕ_discrete}
use Rattle.pass_table.specs.Terms.{put}
use Rattle.pass_table.proofs.Lists.{put_here, put_else}
use Rattle.shared_deque.specs.declared.sides.Aim.{Aim}
use Rattle.shared_deque.specs.declared.clients.Stage.{Stage}
use Rattle.shared_deque.specs.declared.clients.Stage.TheVariants.{Idle, Looked, Claimed, Read, Storing, Leaving}
use Rattle.shared_deque.specs.Aims.{call_of, cell_of}
use Rattle.shared_deque.specs.Rule.{HasNoCell, HasCell, CellFits, IsLoaded, IsAt}

-- No cell but one is touched, and that one is this caller's or nobody's, before and after
pub record Touches (c cell : ℕ) (owner value has owner' value' has' : ℕ → ℕ) : Type 0 where
  pub same_owner : (k : ℕ) → k ≢ cell → owner' k ≡ owner k
  pub same_value : (k : ℕ) → k ≢ cell → value' k ≡ value k
  pub same_item : (k : ℕ) → k ≢ cell → has' k ≡ has k
  pub before : (owner cell ≡ 0) ⊎ (owner cell ≡ c + 1)
  pub after : (owner' cell ≡ 0) ⊎ (owner' cell ≡ c + 1)

-- an owner word that names this caller or nobody names no other
names_no_other : (c other owner : ℕ) → (owner ≡ 0) ⊎ (owner ≡ c + 1) → other ≢ c → owner ≢ other + 1
names_no_other c other owner either isnt same = ⊎_elim (λ t. absurd (omega arith)) (λ t. isnt (omega arith)) either

module _ (c cell : ℕ) (owner value has owner' value' has' : ℕ → ℕ) (touches : Touches c cell owner value has owner' value' has') (n callers now now' : ℕ) (below : c < callers) where
  no_cell_kept : (other : ℕ) → other ≢ c → HasNoCell owner n other → HasNoCell owner' n other
  no_cell_kept other isnt none k within same =
      dite (ℕ_discrete k cell)
      (λ here. names_no_other c other (owner' cell) touches.after isnt (ap owner' (sym here) ∙ same))
      (λ away. none k within (sym (touches.same_owner k away) ∙ same))

  -- another caller's cell is not the one that is touched
  cell_away : (other k : ℕ) → other ≢ c → HasCell owner n other k → k ≢ cell
  cell_away other k isnt at here = names_no_other c other (owner cell) touches.before isnt (ap owner (sym here) ∙ at.named)

  has_cell_kept : (other k : ℕ) → other ≢ c → HasCell owner n other k → HasCell owner' n other k
  has_cell_kept other k isnt at = record {
    within = at.within;
    named = touches.same_owner k (cell_away other k isnt at) ∙ at.named;
    only = λ o within same.
        dite (ℕ_discrete o cell)
        (λ here. absurd (names_no_other c other (owner' cell) touches.after isnt (ap owner' (sym here) ∙ same)))
        (λ away. at.only o within (sym (touches.same_owner o away) ∙ same));
  }

  value_kept : (other k : ℕ) → other ≢ c → HasCell owner n other k → value k ≡ has k → value' k ≡ has' k
  value_kept other k isnt at is = let away = cell_away other k isnt at in touches.same_value k away ∙ (is ∙ sym (touches.same_item k away))

  item_kept : (other k item : ℕ) → other ≢ c → HasCell owner n other k → has k ≡ item → has' k ≡ item
  item_kept other k item isnt at is = touches.same_item k (cell_away other k isnt at) ∙ is

  -- another caller's loaded ends matter only where there is none
  loaded_kept : (other : ℕ) (aim : Aim) (ends : ℕ) → other ≢ c → other < callers → IsLoaded n callers now aim ends → IsLoaded n callers now' aim ends
  loaded_kept other aim ends isnt less loaded = (loaded.0, λ one. absurd (isnt (omega arith)))

  at_kept : (other : ℕ) (stage : Stage) → other ≢ c → other < callers → IsAt owner value has n callers now other stage → IsAt owner' value' has' n callers now' other stage
  at_kept other Idle isnt less at = no_cell_kept other isnt at
  at_kept other (Looked aim ends) isnt less at = (no_cell_kept other isnt at.0, loaded_kept other aim ends isnt less at.1)
  at_kept other (Claimed aim ends) isnt less at =
      let k : ℕ = cell_of n ends (call_of aim) in (has_cell_kept other k isnt at.0, loaded_kept other aim ends isnt less at.1, value_kept other k isnt at.0 at.2)
  at_kept other (Read aim ends found) isnt less at =
      let k : ℕ = cell_of n ends (call_of aim) in (has_cell_kept other k isnt at.0, loaded_kept other aim ends isnt less at.1, value_kept other k isnt at.0 at.2, item_kept other k found isnt at.0 at.3)
  at_kept other (Storing k item) isnt less at = (has_cell_kept other k isnt at.0, item_kept other k item isnt at.0 at.1)
  at_kept other (Leaving k) isnt less at = (has_cell_kept other k isnt at.0, value_kept other k isnt at.0 at.1)

  -- what all callers are about to do, where this one has gone on
  pub stages_kept : (parts : ℕ → Stage) (stage : Stage) → ((o : ℕ) → o < callers → IsAt owner value has n callers now o (parts o)) → IsAt owner' value' has' n callers now' c stage
      → (o : ℕ) → o < callers → IsAt owner' value' has' n callers now' o (put parts c stage o)
  stages_kept parts stage all own o less =
      dite (ℕ_discrete o c)
      (λ it. subst (λ k. IsAt owner' value' has' n callers now' k (put parts c stage k)) (sym it) (subst (IsAt owner' value' has' n callers now' c) (sym (put_here parts c stage c refl)) own))
      (λ isnt. subst (IsAt owner' value' has' n callers now' o) (sym (put_else parts c stage o isnt)) (at_kept o (parts o) isnt less (all o less)))

  pub cells_kept : (k : ℕ) → (k ≡ cell → CellFits owner' value' has' callers cell) → CellFits owner value has callers k → CellFits owner' value' has' callers k
  cells_kept k own fits =
      dite (ℕ_discrete k cell)
      (λ here. subst (λ j. CellFits owner' value' has' callers j) (sym here) (own here))
      (λ away. record {
        named = subst (λ t. t ≤ callers) (sym (touches.same_owner k away)) fits.named;
        stored = λ free. touches.same_value k away ∙ (fits.stored (sym (touches.same_owner k away) ∙ free) ∙ sym (touches.same_item k away));
      })
