-- What a step of a known kind does to its caller's seat.
use Rattle.std.proofs.Common.{ℕ, Bool, true, false, List}
use Rattle.std.specs.Prelude.{MatchBool}
use Rattle.atomic_table.specs.Table.{Me}
use Rattle.seq_objects.specs.declared.deques.DequeCall.{DequeCall}
use Rattle.seq_objects.specs.declared.deques.DequeReply.{DequeReply}
use Rattle.seq_objects.specs.Meanings.{DequeOpens, DequeSteps}
use Rattle.pass_table.specs.declared.views.View.{View}
use Rattle.pass_table.specs.Terms.{SeesSo, MovesSo}
use Rattle.pass_table.specs.Steps.{Steps, GoesTo, StaysTo}
use Rattle.pass_table.proofs.Going.{goes_to, stays_to}
use Rattle.shared_deque.specs.declared.layout.Word.{Word}
use Rattle.shared_deque.specs.declared.clients.Plan.{Plan}
use Rattle.shared_deque.specs.declared.clients.Stage.{Stage}
use Rattle.shared_deque.specs.declared.clients.Kind.{Kind}
use Rattle.shared_deque.specs.declared.clients.Kind.TheVariants.{EndsLook, Claim, CellLook, EndsExchange, CellStore, Leave}
use Rattle.shared_deque.specs.Counted.{DequeEntry}
use Rattle.shared_deque.specs.Rule.{deque_terms}
use Rattle.shared_deque.specs.Kinds.{Looks, Tells, TellsChosen, Does}

triple_way : (b : Bool) (P A P' A' R S : Type 0) → (P → P') → (A → A') → MatchBool b P (A × R × S) → MatchBool b P' (A' × R × S)
triple_way true P A P' A' R S f g p = f p
triple_way false P A P' A' R S f g q = (g q.0, q.1, q.2)

pair_way : (b : Bool) (A B A' B' R S : Type 0) → (A → A') → (B → B') → MatchBool b (A × R) (B × S) → MatchBool b (A' × R) (B' × S)
pair_way true A B A' B' R S f g p = (f p.0, p.1)
pair_way false A B A' B' R S f g q = (g q.0, q.1)

module _ {K : Type 0} (keeps : K → ℕ → Type 0) (plan : Plan K) (c : ℕ) (sees sees' : Looks → List DequeEntry → Stage → Type 0) (moves moves' : Stage → Type 0)
    (f : (looks : Looks) (entries : List DequeEntry) (stage : Stage) → sees looks entries stage → sees' looks entries stage) (g : (stage : Stage) → moves stage → moves' stage) where
  -- what a step tells, in other terms that follow
  tells_so : (kind : Kind) (found : ℕ) → Tells keeps plan c sees moves kind found → Tells keeps plan c sees' moves' kind found
  tells_so (EndsLook aim) found told = triple_way _ _ _ _ _ _ _ (f _ _ _) (f _ _ _) told
  tells_so (Claim aim ends) found told = triple_way _ _ _ _ _ _ _ (f _ _ _) (f _ _ _) told
  tells_so (CellLook aim ends) found told = f _ _ _ told
  tells_so (EndsExchange aim ends value) found told = pair_way _ _ _ _ _ _ _ (f _ _ _) (f _ _ _) told
  tells_so (CellStore cell item) found told = g _ told
  tells_so (Leave cell) found told = g _ told

module _ {K : Type 0} (keeps : K → ℕ → Type 0) (plan : Plan K) where
  pub does_of : (kind : Kind) (m : Me Unit (View DequeCall DequeReply (Plan K) Stage Word)) (found : ℕ) (n : Me Unit (View DequeCall DequeReply (Plan K) Stage Word))
      → Steps (deque_terms keeps) DequeOpens DequeSteps plan (λ found e. TellsChosen keeps plan m.0.number m.1 kind found e) m found n → Does keeps plan kind m found n
  does_of kind m found n steps =
      tells_so keeps plan m.0.number
      (λ looks entries stage. SeesSo steps.effect looks entries stage m.1) (λ looks entries stage. GoesTo (deque_terms keeps) DequeOpens DequeSteps plan m n looks entries stage m.1)
      (λ stage. MovesSo steps.effect stage m.1) (λ stage. StaysTo (deque_terms keeps) DequeOpens DequeSteps plan m n stage m.1)
      (λ looks entries stage so. goes_to (deque_terms keeps) DequeOpens DequeSteps plan _ m found n steps looks entries stage m.1 so)
      (λ stage so. stays_to (deque_terms keeps) DequeOpens DequeSteps plan _ m found n steps stage m.1 so)
      kind found steps.told
