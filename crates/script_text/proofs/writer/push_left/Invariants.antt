use Rattle.std.proofs.Common.{◌≡◌, ◌∷◌, ◌++◌, take, string_bytes, codes, decimal}
use Rattle.std.specs.List.{flat_map}
use Rattle.script_text.proofs.writer.push_left.Given as goal

abbrev pub invariant-loop-item : goal.invariant-loop-item
invariant-loop-item l =
    string_bytes l.text ≡ (string_bytes l.fn.text ++ codes "left") ++ flat_map (λ item. 32 ∷ decimal item) (take l.item-index l.items)
