-- A test as a need.
use Rattle.std.proofs.Common.{◌≡◌, ◌≤◌, ◌==◌, ◌↔◌, ℕ, Bool, true, false, Result, Ok, Err, IsTrue, sym, subst, inl, inr, arith}
use Rattle.std.proofs.lemmas.Bool.Decides.{eqb_tells}
use Rattle.epoch_laws.specs.declared.steps.Illegal.{Illegal}
use Rattle.epoch_core.specs.Answers.{Checks, ChecksTest}

-- a test that tells a fact checks the need that asks as much
pub tested_as : (b : Bool) (number word : ℕ) (r : Result (Unit {0}) Illegal) (P Q : Type 0) → (IsTrue b ↔ P) → (P → Q) → (Q → P) → ChecksTest b number word r → Checks (record { number = number; met = Q; word = word }) r
tested_as b number word (Ok v) P Q tells to from h = to (tells.0 h)
tested_as b number word (Err e) P Q tells to from h = (λ q. h.0 (tells.1 (from q)), h.1, h.2)

-- a test that tells a fact checks the need that asks an equal fact
pub tested : (b : Bool) (number word : ℕ) (r : Result (Unit {0}) Illegal) (P : Type 0) {Q : Type 0} → (IsTrue b ↔ P) → P ≡ Q → ChecksTest b number word r → Checks (record { number = number; met = Q; word = word }) r
tested b number word r P {Q} tells same h = tested_as b number word r P Q tells (λ v. subst (λ (T : Type 0). T) same v) (λ v. subst (λ (T : Type 0). T) (sym same) v) h

pub eqb-no : (a b : ℕ) → (a ≡ b → ⊥) → (a == b) ≡ false
eqb-no a b apart = elim (eqb_tells a b) [ inl (_, same) ↦ absurd (apart same) | inr (off, _) ↦ off ]

pub positive : (n : ℕ) → (n ≡ 0 → ⊥) → 1 ≤ n
positive n some = omega arith

pub is_true : {b : Bool} → IsTrue b → b ≡ true
is_true h = h
