-- What each line of a text keeps holds wherever its bytes lead.
use Rattle.std.proofs.Common.{◌≡◌, ℕ, ◌+◌, ◌<◌, ◌≤◌, ◌^◌, Bool, true, false, ◌==◌, if◌then◌else◌, List, [], ◌∷◌, ◌++◌, length, Option, Ok, MatchBool, refl, ap, sym, ◌∙◌, arith, subst, append_assoc, append-nil}
use Rattle.std.proofs.lemmas.List.{length_push}
use Rattle.line_text.specs.Lines.{line_says}
use Rattle.line_text.specs.Texts.{Text, Standing, rest_of, said_at, count_of, line_ended, longer, moved, standing, GoesOn, AddsLine, Passes, IsOpen}
use Rattle.line_text.proofs.Standings.{standing_push}

-- what is kept, behind so many counted lines and bytes of whole lines
module _ {Progress Form Line : Type 0} (T : Text Progress Form Line) (Q : Progress → ℕ → ℕ → Type 0)
    (line_keeps : (progress : Progress) (counted size : ℕ) (line : List ℕ) (said : Option Line) → Q progress counted size → line_says T.grammar (T.rules.start progress) line ≡ Ok said → T.rules.ends said ≡ false → (T.rules.counts said ≡ true → counted < T.rules.most)
    → Q (T.rules.after progress said) (counted + count_of T said) (size + length line + 1)) where
  pub record Kept (at : Standing Progress) : Type 0 where
    pub size : ℕ
    pub holds : Q at.progress at.counted size
    pub sizes : at.size ≡ size + length at.part
    pub short : at.size ≤ 2 ^ 30

  byte_keeps : (at : Standing Progress) (byte : ℕ) → Kept at → Passes T at byte → Kept (moved T at byte)
  byte_keeps at byte kept passes = by (byte == 10) passes.1
    where
      by : (end : Bool) → MatchBool end (AddsLine T at) (GoesOn (λ rest. rest_of T at (byte ∷ rest))) → Kept (if end then line_ended T at (said_at T at) else longer at byte)
      by true adds = subst (λ s. Kept (line_ended T at s)) (sym adds.1) (record {
        size = kept.size + length at.part + 1;
        holds = line_keeps at.progress at.counted kept.size at.part adds.0 kept.holds (ap (line_says T.grammar (T.rules.start at.progress)) (sym (append-nil at.part)) ∙ adds.1) adds.2 adds.3;
        sizes = omega (arith, kept.sizes);
        short = omega (arith, passes.0);
      })
      by false goes = record { size = kept.size; holds = kept.holds; sizes = omega (arith, kept.sizes, length_push at.part byte); short = omega (arith, passes.0) }

  bytes_keep : (bytes read : List ℕ) → Kept (standing T read) → IsOpen T (read ++ bytes) → Kept (standing T (read ++ bytes))
  bytes_keep [] read kept opened = subst (λ (r : List ℕ). Kept (standing T r)) (sym (append-nil read)) kept
  bytes_keep (byte ∷ bytes) read kept opened =
      subst (λ (r : List ℕ). Kept (standing T r)) (append_assoc read (byte ∷ []) bytes)
      (bytes_keep bytes (read ++ byte ∷ []) (subst Kept (sym (standing_push T read byte)) (byte_keeps (standing T read) byte kept (opened read bytes byte refl)))
      (subst (IsOpen T) (sym (append_assoc read (byte ∷ []) bytes)) opened))

  pub text_keeps : Q T.rules.opening 0 0 → (read : List ℕ) → IsOpen T read → Kept (standing T read)
  text_keeps opening read opened = bytes_keep read [] (record { size = 0; holds = opening; sizes = refl; short = omega arith }) opened
