-- What a single caller's calls do to its object, one after another.
use Rattle.std.specs.Prelude.{◌≡◌, ◌⊎◌, ℕ, List, [], ◌∷◌, ◌++◌, slice_index_or, All}
use Rattle.std.specs.List.{flat_map}
use Rattle.seq_objects.specs.BagSteps.{BagStep}
use Rattle.seq_objects.specs.DequeSteps.{DequeState}
use Rattle.seq_objects.specs.ListSteps.{ListState}
use Rattle.seq_objects.specs.Meanings.{ListSteps, DequeSteps}
use Rattle.script_text.specs.declared.scripts.Call.{Call}
use Rattle.script_text.specs.declared.scripts.Call.TheVariants.{List as OfList, Bag as OfBag, Deque as OfDeque}
use Rattle.script_text.specs.declared.replies.Reply.{Reply}
use Rattle.script_text.specs.declared.replies.Replies.{Replies}
use Rattle.script_text.specs.Replies.{reply_lists, left_items}
use Rattle.script_engine.specs.Shown.{ShowsList, ShowsBag, ShowsDeque, IsTooLong, Never}

module _ {Asked Told State : Type 0} (step : State → Asked → Told → State → Type 0) (Shows : Call → Reply → Asked → Told → Type 0) where
  -- the call gets the reply: it has no entry and changes nothing, or it is a step of the object
  abbrev pub Does : (Call → Reply → Type 0) → State → Call → Reply → State → Type 0
  Does HasNoEntry old call reply new =
      (HasNoEntry call reply × (new ≡ old)) ⊎ ((asked : Asked) × (told : Told) × Shows call reply asked told × step old asked told new)

-- the same of a list
abbrev pub ListDoes : ListState → Call → Reply → ListState → Type 0
ListDoes old call reply new = Does ListSteps ShowsList (IsTooLong old.width) old call reply new × (new.width ≡ old.width)

-- the same of a bag
abbrev pub BagDoes : List ℕ → Call → Reply → List ℕ → Type 0
BagDoes = Does BagStep ShowsBag Never

-- the same of a deque
abbrev pub DequeDoes : DequeState → Call → Reply → DequeState → Type 0
DequeDoes = Does DequeSteps ShowsDeque Never

-- calls of these objects
abbrev pub IsListCall : Call → Type 0
IsListCall (OfList call) = Unit {0}
IsListCall call = ⊥

abbrev pub IsBagCall : Call → Type 0
IsBagCall (OfBag call once) = Unit {0}
IsBagCall call = ⊥

abbrev pub IsDequeCall : Call → Type 0
IsDequeCall (OfDeque call once) = Unit {0}
IsDequeCall call = ⊥

-- the calls, one after another, get the replies and lead from the one state to the other
abbrev pub Replied : {State : Type 0} → (State → Call → Reply → State → Type 0) → State → List Call → List Reply → State → Type 0
Replied does from [] [] to = to ≡ from
Replied {State} does from (call ∷ calls) (reply ∷ replies) to = (next : State) × does from call reply next × Replied does next calls replies to
Replied does from calls replies to = ⊥

-- No call was made, or the calls before one were, and that one was refused.
abbrev pub StopsEarly : {State : Type 0} → (State → Call → Reply → State → Type 0) → (State → Call → State → Type 0) → State → List Call → State → Type 0
StopsEarly {State} does refuses from calls to =
    (to ≡ from)
    ⊎ ((made rest : List Call) × (call : Call) × (told : List Reply) × (mid : State) × (calls ≡ made ++ call ∷ rest) × Replied does from made told mid × refuses mid call to)

-- the replies of these calls follow the old ones
abbrev pub HasReplied : {State : Type 0} → (State → Call → Reply → State → Type 0) → State → List Call → State → List Reply → List Reply → Type 0
HasReplied does from calls to old new = (told : List Reply) × Replied does from calls told to × (new ≡ old ++ told)

-- the calls of the first caller, round after round
abbrev pub first_calls : List (List (List Call)) → List Call
first_calls rounds = flat_map (λ round. slice_index_or round 0 []) rounds

-- the first caller asks so in each round
abbrev pub AreAsked : (Call → Type 0) → List (List (List Call)) → Type 0
AreAsked asks rounds = All (λ round. All asks (slice_index_or round 0 [])) rounds

-- the object, asked by a single caller, leads to these replies and these items
pub record HasAnswered {State : Type 0} (does : State → Call → Reply → State → Type 0) (holds : State → List ℕ → Type 0) (from : State) (calls : List Call) (replies : Replies) : Type 0 where
  pub told : List Reply
  pub to : State
  pub replied : Replied does from calls told to
  pub alone : reply_lists replies ≡ told ∷ []
  pub held : holds to (left_items replies.left)
