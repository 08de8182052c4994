-- Half of a segment's items, taken by another.
use Rattle.std.proofs.Common.{◌≡◌, ℕ, ◌/◌, List, [], ◌∷◌, ◌++◌, length, take, drop, sym, ◌∙◌, ap, arith}
use Rattle.std.proofs.lemmas.List.{append_assoc, length-take-le, length-append, take-append-drop}
use Rattle.segment_store.specs.Steals.{TakesHalf}

-- the last of the first half was popped
pub half_taken : (had own rest : List ℕ) (item : ℕ) → take (length had / 2) had ≡ own ++ item ∷ [] → rest ≡ drop (length had / 2) had → TakesHalf had own rest item
half_taken had own rest item front behind =
    let long : length (take (length had / 2) had) ≡ length had / 2 = length-take-le (length had / 2) had (omega arith) in
    record {
      parts = sym (take-append-drop (length had / 2) had) ∙ (ap (λ l. l ++ drop (length had / 2) had) front ∙ (append_assoc own (item ∷ []) (drop (length had / 2) had) ∙ ap (λ l. own ++ item ∷ l) (sym behind)));
      half = omega (arith, long, ap length front, length-append own (item ∷ []));
    }
