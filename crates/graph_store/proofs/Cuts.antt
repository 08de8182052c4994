-- Targets cut into rows.
use Rattle.std.proofs.Common.{◌≡◌, ℕ, zero, suc, ◌+◌, ◌-◌, ◌<◌, ◌≤◌, List, [], ◌∷◌, ◌++◌, length, get_or, take, drop, ap, sym, subst, refl, ◌∙◌, arith, length-drop}
use Rattle.std.proofs.lemmas.List.{take-append-le, drop-append-le, drop_at, take_all}
use Rattle.graph_store.specs.Rows.{AreStarts, rows_of}

-- a row of the targets that are there is the same with more behind them
row_kept : (targets more : List ℕ) (begin end : ℕ) → begin ≤ end → end ≤ length targets → take (end - begin) (drop begin (targets ++ more)) ≡ take (end - begin) (drop begin targets)
row_kept targets more begin end ordered within =
    ap (λ (l : List ℕ). take (end - begin) l) (drop-append-le begin targets more (omega arith))
    ∙ take-append-le (end - begin) (drop begin targets) more (omega (arith, length-drop begin targets))

row_last : (targets more : List ℕ) (begin end : ℕ) → begin ≡ length targets → end ≡ length targets + length more → take (end - begin) (drop begin (targets ++ more)) ≡ more
row_last targets more begin end at to =
    ap (λ (l : List ℕ). take (end - begin) l) (drop_at targets more begin (sym at))
    ∙ take_all (end - begin) more (omega arith)

-- the starts are not behind the end
starts_within : (start : ℕ) (starts : List ℕ) (end : ℕ) → AreStarts (start ∷ starts) end → start ≤ end
starts_within start [] end are = omega (arith, are)
starts_within start (next ∷ starts) end are = omega (arith, are.0, starts_within next starts end are.1)

-- one row more
pub rows_of-push : (targets more starts : List ℕ) (end : ℕ) → AreStarts starts (length targets) → end ≡ length targets + length more → rows_of (targets ++ more) (starts ++ end ∷ []) ≡ rows_of targets starts ++ more ∷ []
rows_of-push targets more [] end are to = absurd are
rows_of-push targets more (start ∷ []) end are to = ap (λ (row : List ℕ). row ∷ []) (row_last targets more start end are to)
rows_of-push targets more (start ∷ next ∷ starts) end are to =
    ap (λ (row : List ℕ). row ∷ rows_of (targets ++ more) (next ∷ (starts ++ end ∷ []))) (row_kept targets more start next are.0 (starts_within next starts (length targets) are.1))
    ∙ ap (λ (rest : List (List ℕ)). take (next - start) (drop start targets) ∷ rest) (rows_of-push targets more (next ∷ starts) end are.1 to)

pub AreStarts-push : (starts : List ℕ) (old end : ℕ) → AreStarts starts old → old ≤ end → AreStarts (starts ++ end ∷ []) end
AreStarts-push [] old end are more = absurd are
AreStarts-push (start ∷ []) old end are more = (omega (arith, are), refl)
AreStarts-push (start ∷ next ∷ starts) old end are more = (are.0, AreStarts-push (next ∷ starts) old end are.1 more)

-- there is one start more than rows
pub length-rows_of : (targets starts : List ℕ) (end : ℕ) → AreStarts starts end → length (rows_of targets starts) + 1 ≡ length starts
length-rows_of targets [] end are = absurd are
length-rows_of targets (start ∷ []) end are = omega arith
length-rows_of targets (start ∷ next ∷ starts) end are = omega (arith, length-rows_of targets (next ∷ starts) end are.1)

-- What stands between two starts is a row.
pub record IsRowAt (targets starts : List ℕ) (place begin end : ℕ) : Type 0 where
  pub ordered : begin ≤ end
  pub within : end ≤ length targets
  pub row : get_or (rows_of targets starts) place [] ≡ take (end - begin) (drop begin targets)

pub row_at : (targets starts : List ℕ) (place : ℕ) (d e : ℕ) → AreStarts starts (length targets) → place + 1 < length starts → IsRowAt targets starts place (get_or starts place d) (get_or starts (place + 1) e)
row_at targets [] place d e are within = absurd are
row_at targets (start ∷ []) place d e are within = absurd (omega (arith, within))
row_at targets (start ∷ next ∷ starts) zero d e are within = record {
  ordered = are.0;
  within = starts_within next starts (length targets) are.1;
  row = refl;
}
row_at targets (start ∷ next ∷ starts) (suc place) d e are within =
    let rest = row_at targets (next ∷ starts) place d e are.1 (omega (arith, within)) in
    let step : suc (place + 1) ≡ suc place + 1 = omega arith in
    let all = start ∷ next ∷ starts in
    subst (λ (n : ℕ). IsRowAt targets all (suc place) (get_or all (suc place) d) (get_or all n e)) step
    (record { ordered = rest.ordered; within = rest.within; row = rest.row })

-- it is what is read of the starts
pub row_read : (targets starts : List ℕ) (place begin end : ℕ) → AreStarts starts (length targets) → place + 1 < length starts → begin ≡ get_or starts place begin → end ≡ get_or starts (place + 1) end → IsRowAt targets starts place begin end
row_read targets starts place begin end are within at to =
    subst (λ (e : ℕ). IsRowAt targets starts place begin e) (sym to)
    (subst (λ (b : ℕ). IsRowAt targets starts place b (get_or starts (place + 1) end)) (sym at) (row_at targets starts place begin end are within))
