-- What the rounds of a valid script ask of its object.
use Rattle.std.proofs.Common.{◌≡◌, inl, inr, ℕ, ◌<◌, ◌≤◌, ◌^◌, true, List, [], ◌∷◌, length, slice_index_or, All, arith, ap, length-append}
use Rattle.std.specs.Prelude.{sum_by}
use Rattle.std.proofs.lemmas.List.{get_or_past}
use Rattle.std.proofs.lemmas.List.Sums.{sum_by-cons, get_or-le-sum_by}
use Rattle.std.proofs.lemmas.Option.{slice_get_cases}
use Rattle.script_text.specs.declared.scripts.Call.{Call}
use Rattle.script_text.specs.Lines.{IsOfObject}
use Rattle.script_text.specs.Rows.{is_once}
use Rattle.script_text.specs.Scripts.{PlainScript, IsValid}
use Rattle.script_engine.specs.Runs.{IsAskedOf, calls_of}

one_list : (c : ℕ) (round : List (List Call)) → length (slice_index_or round c []) ≤ sum_by length round
one_list c round = elim (slice_get_cases round c).1 [ inl here ↦ get_or-le-sum_by length round c [] here.1 | inr past ↦ outside past.0 ]
  where
    outside : length round ≤ c → length (slice_index_or round c []) ≤ sum_by length round
    outside least = let none = ap length (get_or_past round c [] least) in omega (arith, none)

calls_within : (c : ℕ) (rounds : List (List (List Call))) → length (calls_of c rounds) ≤ sum_by (sum_by length) rounds
calls_within c [] = omega arith
calls_within c (round ∷ rounds) =
    let here = one_list c round in
    let rest = calls_within c rounds in
    let all = sum_by-cons (sum_by (length {A = Call})) round rounds in
    omega (arith, here, rest, all, length-append (slice_index_or round c []) (calls_of c rounds))

-- its callers' calls are few
pub few_calls : (script : PlainScript) → IsValid script → (c : ℕ) → length (calls_of c script.rounds) < 2 ^ 32
few_calls script valid c = let within = calls_within c script.rounds in let few = valid.few in omega (arith, within, few)

-- Each round has a list for each caller, with calls of the object, which are tried once only where there is one caller.
pub asked_rounds : (script : PlainScript) (IsOf : Call → Type 0) → IsValid script → ((call : Call) → IsOfObject script.object call → IsOf call)
    → All (IsAskedOf (λ call. IsOf call × (is_once call ≡ true → script.callers ≡ 1)) script.callers) script.rounds
asked_rounds script IsOf valid of k d within =
    let round = valid.rounds k d within in
    record { each = round.each; calls = λ i e below j call inside. (let is = round.calls i e below j call inside in (of _ is.of_object, is.once)) }
