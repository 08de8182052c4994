-- What a whole try of a push or a pop comes to, by where it ends.
use Rattle.std.proofs.Common.{◌≡◌, ◌≢◌, ℕ, Bool, true, false, List, [], ◌∷◌, ◌++◌, subst, eq-eqb, ne_eqb}
use Rattle.std.specs.Prelude.{MatchBool}
use Rattle.atomic_table.specs.Table.{Me}
use Rattle.seq_objects.specs.declared.deques.DequeCall.{DequeCall}
use Rattle.seq_objects.specs.declared.deques.DequeReply.{DequeReply}
use Rattle.seq_objects.specs.Meanings.{DequeOpens, DequeSteps}
use Rattle.pass_table.specs.declared.views.View.{View}
use Rattle.pass_table.specs.Steps.{Goes, StaysTo}
use Rattle.pass_table.proofs.Going.{goes_then, goes_still}
use Rattle.shared_deque.specs.declared.layout.Word.{Word}
use Rattle.shared_deque.specs.declared.sides.Aim.{Aim}
use Rattle.shared_deque.specs.declared.clients.Plan.{Plan}
use Rattle.shared_deque.specs.declared.clients.Stage.{Stage}
use Rattle.shared_deque.specs.declared.clients.Kind.TheVariants.{EndsLook, Claim, CellLook, EndsExchange}
use Rattle.shared_deque.specs.Aims.{call_of, cell_of, is_turned_away, MayGo, success, HandsOut}
use Rattle.shared_deque.specs.Counted.{DequeEntry}
use Rattle.shared_deque.specs.Rule.{deque_terms}
use Rattle.shared_deque.specs.Kinds.{Looks, Does, ends_read, turn_read, value_read, entry, NamesAnother}

true_way : (b : Bool) (P Q : Type 0) → b ≡ true → MatchBool b P Q → P
true_way b P Q is way = subst (λ v. MatchBool v P Q) is way

false_way : (b : Bool) (P Q : Type 0) → b ≡ false → MatchBool b P Q → Q
false_way b P Q is way = subst (λ v. MatchBool v P Q) is way

module _ {K : Type 0} (keeps : K → ℕ → Type 0) (plan : Plan K) (aim : Aim) (ends : ℕ) (m0 : Me Unit (View DequeCall DequeReply (Plan K) Stage Word)) where
  -- steps from the first moment of a call on
  abbrev pub Since : Me Unit (View DequeCall DequeReply (Plan K) Stage Word) → Looks → List DequeEntry → Type 0
  Since m looks entries = Goes (deque_terms keeps) DequeOpens DequeSteps plan m0.0 m.0 looks entries

  module _ (m n : Me Unit (View DequeCall DequeReply (Plan K) Stage Word)) where
    then_goes : (looks more : Looks) (entries : List DequeEntry) → Since m looks [] → Goes (deque_terms keeps) DequeOpens DequeSteps plan m.0 n.0 more entries → Since n (looks ++ more) entries
    then_goes looks more entries first next = goes_then (deque_terms keeps) DequeOpens DequeSteps plan m0.0 m.0 n.0 looks more entries first next

    -- the ends let the call go on
    pub let_on : is_turned_away plan.capacity ends aim ≡ false → Does keeps plan (EndsLook aim) m0 ends n → Since n (ends_read ends ∷ []) [] × MayGo plan.capacity ends aim
    let_on on does = let all = false_way _ _ _ on does in (all.0.0, all.1)

    -- the cell is another's
    pub held : (turn : ℕ) (looks : Looks) → turn ≢ 0 → Since m looks [] → Does keeps plan (Claim aim ends) m turn n
        → Since n (looks ++ turn_read (cell_of plan.capacity ends (call_of aim)) turn ∷ []) [] × NamesAnother plan.callers m0.0.number turn × (plan.callers ≢ 1)
    held turn looks taken first does =
        let all = false_way _ _ _ (ne_eqb turn 0 taken) does in
        (then_goes looks _ [] first all.0.0, subst (λ c. NamesAnother plan.callers c turn) first.same.number all.1, all.2)

    -- the cell is the call's
    pub claimed : (turn : ℕ) (looks : Looks) → turn ≡ 0 → Since m looks [] → Does keeps plan (Claim aim ends) m turn n → Since n (looks ++ turn_read (cell_of plan.capacity ends (call_of aim)) 0 ∷ []) []
    claimed turn looks free first does =
        let all = true_way _ _ _ (eq-eqb turn 0 free) does in
        subst (λ t. Since n (looks ++ turn_read (cell_of plan.capacity ends (call_of aim)) t ∷ []) []) free (then_goes looks _ [] first all.0)

    -- the value is read
    pub looked_at_cell : (value : ℕ) (looks : Looks) → Since m looks [] → Does keeps plan (CellLook aim ends) m value n → Since n (looks ++ value_read (cell_of plan.capacity ends (call_of aim)) value ∷ []) []
    looked_at_cell value looks first does = then_goes looks _ [] first does.0

    -- the ends were others
    pub lost : (value found : ℕ) (looks : Looks) → found ≢ ends → Since m looks [] → Does keeps plan (EndsExchange aim ends value) m found n → Since n (looks ++ ends_read found ∷ []) [] × (plan.callers ≢ 1)
    lost value found looks others first does =
        let all = false_way _ _ _ (ne_eqb found ends others) does in
        (then_goes looks _ [] first all.0.0, all.1)

    -- the ends were those that the call had loaded
    pub won_ends : (value found : ℕ) (looks : Looks) → found ≡ ends → Since m looks [] → Does keeps plan (EndsExchange aim ends value) m found n
        → Since n (looks ++ ends_read ends ∷ []) (entry m0.0.number (call_of aim) (success aim value) ∷ []) × HandsOut (keeps plan.keeper) aim value
    won_ends value found looks same first does =
        let all = true_way _ _ _ (eq-eqb found ends same) does in (
          subst (λ t. Since n (looks ++ ends_read t ∷ []) (entry m0.0.number (call_of aim) (success aim value) ∷ [])) same
              (subst (λ c. Since n (looks ++ ends_read found ∷ []) (entry c (call_of aim) (success aim value) ∷ [])) first.same.number (then_goes looks _ _ first all.0.0)),
          all.1,
        )

    -- a step that sees nothing
    pub still : (looks : Looks) (entries : List DequeEntry) (stage : Stage) → Since m looks entries → StaysTo (deque_terms keeps) DequeOpens DequeSteps plan m n stage m.1 → Since n looks entries
    still looks entries stage first stays = goes_still (deque_terms keeps) DequeOpens DequeSteps plan m0.0 m.0 n.0 looks entries first stays.0
