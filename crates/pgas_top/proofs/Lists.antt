use Rattle.std.proofs.Common.{◌≡◌, List, [], ◌∷◌, length, get_or, refl, arith}

-- a list of one element, by its element
pub one_of : {X : Type 0} → (xs : List X) (a : X) → length xs ≡ 1 → a ≡ get_or xs 0 a → xs ≡ a ∷ []
one_of [] a len first = absurd (omega (arith, len))
one_of (x ∷ []) a len first = cc
one_of (x ∷ y ∷ ys) a len first = absurd (omega (arith, len))

-- a list of two elements, by its elements
pub two_of : {X : Type 0} → (xs : List X) (a b : X) → length xs ≡ 2 → a ≡ get_or xs 0 a → b ≡ get_or xs 1 b → xs ≡ a ∷ b ∷ []
two_of [] a b len first second = absurd (omega (arith, len))
two_of (x ∷ []) a b len first second = absurd (omega (arith, len))
two_of (x ∷ y ∷ []) a b len first second = cc
two_of (x ∷ y ∷ z ∷ zs) a b len first second = absurd (omega (arith, len))

-- the element of a list of one
pub only_one : {X : Type 0} → (xs : List X) → length xs ≡ 1 → (x : X) × (xs ≡ x ∷ [])
only_one [] len = absurd (omega (arith, len))
only_one (x ∷ []) len = (x, refl)
only_one (x ∷ y ∷ ys) len = absurd (omega (arith, len))
