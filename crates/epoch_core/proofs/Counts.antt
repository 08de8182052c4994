-- The count after one, if there is one.
use Rattle.std.proofs.Common.{◌≡◌, ◌≢◌, ◌<◌, ◌+◌, ℕ, ◌∙◌, ap, arith}

-- there is no count after the last
pub last_of : (count read : ℕ) → read < 4294967296 → read ≡ count → (read + 1 < 4294967296 → ⊥) → count ≡ 4294967295
last_of count read fits is none = omega arith

pub next_of : (count read next : ℕ) → read ≡ count → (read + 1 < 4294967296) × (next ≡ read + 1) → (next ≡ count + 1) × (count ≢ 4294967295)
next_of count read next is h = (h.1 ∙ ap (λ n. n + 1) is, λ e. absurd (omega (arith, h.0, is, e)))
