-- One more call of a caller.
use Rattle.std.proofs.Common.{◌≡◌, ℕ, ◌<◌, List, [], ◌∷◌, ◌++◌, length, map, slice_set, get_or, Vec, Global, ap, sym, ◌∙◌}
use Rattle.std.proofs.lemmas.List.{map-set, get_or-map}
use Rattle.script_text.specs.declared.scripts.Call.{Call}
use Rattle.script_text.specs.ScriptText.{with_call}

pub call_pushed : (lists : List (Vec Call Global)) (caller : ℕ) (old new : Vec Call Global) (call : Call) → caller < length lists → old ≡ get_or lists caller old → new.items ≡ old.items ++ call ∷ []
    → map (λ (calls : Vec Call Global). calls.items) (slice_set lists caller new) ≡ with_call caller call (map (λ (calls : Vec Call Global). calls.items) lists)
call_pushed lists caller old new call within is pushed =
    map-set (λ (calls : Vec Call Global). calls.items) lists caller new
    ∙ ap (λ (items : List Call). slice_set (map (λ (calls : Vec Call Global). calls.items) lists) caller items)
    (pushed ∙ ap (λ (items : List Call). items ++ call ∷ []) (ap (λ (calls : Vec Call Global). calls.items) is ∙ sym (get_or-map (λ (calls : Vec Call Global). calls.items) lists caller old [] within)))
