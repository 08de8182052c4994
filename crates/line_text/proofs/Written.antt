-- What is written line by line can be read.
use Rattle.std.proofs.Common.{◌≡◌, ◌≢◌, ℕ, ◌+◌, ◌*◌, ◌<◌, ◌≤◌, ◌^◌, true, false, List, [], ◌∷◌, ◌++◌, length, Option, Some, Ok, decimal, refl, ap, sym, ◌∙◌, arith, subst, append_assoc, append-nil, length-append}
use Rattle.std.specs.Char.{digit_value}
use Rattle.std.specs.List.{AllByRecursion}
use Rattle.std.specs.Str.Parse.{AllDigits, digits_value_after}
use Rattle.std.proofs.lemmas.Bool.{lt-ltb}
use Rattle.std.proofs.lemmas.Fmt.{decimal_is_IsNumeral}
use Rattle.line_text.specs.Lines.{line_says}
use Rattle.line_text.specs.Texts.{Text, Standing, count_of, line_ended, said_at, standing, Passes, IsOpen}
use Rattle.line_text.specs.Words.{is_digit, number_behind}
use Rattle.line_text.proofs.Standings.{all_front, passes_within, open_run, open_push, standing_push, standing_run}
use Rattle.line_text.proofs.Steps.{digit_more}

-- ---- numbers

digits_number : (digits : List ℕ) (value : ℕ) → AllDigits 10 digits → AllByRecursion (λ byte. is_digit byte ≡ true) digits × (number_behind value digits ≡ Some (digits_value_after 10 value digits))
digits_number [] value all = (tt, refl)
digits_number (byte ∷ digits) value all =
    let digit : is_digit byte ≡ true = lt-ltb (digit_value byte) 10 all.0 in
    let others = digits_number digits (value * 10 + digit_value byte) all.1 in
    ((digit, others.0), digit_more value byte digits digit ∙ others.1)

-- a number that is written is digits that write it
pub decimal_digits : (number : ℕ) → number < 2 ^ 64 → (0 < length (decimal number)) × AllByRecursion (λ byte. is_digit byte ≡ true) (decimal number) × (number_behind 0 (decimal number) ≡ Some number)
decimal_digits number small =
    let is = decimal_is_IsNumeral number small in
    let digits = digits_number (decimal number) 0 is.0.1 in
    (is.0.0, digits.0, digits.1 ∙ ap (λ n. Some n) is.1)

-- ---- lines

module _ {Progress Form Line : Type 0} (T : Text Progress Form Line) (read line : List ℕ) (progress : Progress) (said : Option Line) (lines counted : ℕ)
    (at : standing T read ≡ record { progress = progress; part = []; lines = lines; counted = counted; size = length read }) (opened : IsOpen T read)
    (within : AllByRecursion (λ byte. byte ≢ 10) line) (says : line_says T.grammar (T.rules.start progress) line ≡ Ok said) (short : length read + length line ≤ 2 ^ 30) where
  abbrev behind : List ℕ → Standing Progress
  behind front = record { progress = progress; part = front; lines = lines; counted = counted; size = length read + length front }

  behind_front : (front : List ℕ) → AllByRecursion (λ byte. byte ≢ 10) front → standing T (read ++ front) ≡ behind front
  behind_front front all = standing_run T front read progress [] lines counted (length read) all at

  passes : (front rest : List ℕ) (byte : ℕ) → line ≡ front ++ byte ∷ rest → Passes T (standing T (read ++ front)) byte
  passes front rest byte is =
      let all = all_front T front (byte ∷ rest) (subst (AllByRecursion (λ byte. byte ≢ 10)) is within) in
      subst (λ (a : Standing Progress). Passes T a byte) (sym (behind_front front all.0))
      (passes_within T (behind front) byte all.1.0 (omega (arith, short, ap length is, length-append front (byte ∷ rest)))
      (rest, said, subst (λ (l : List ℕ). line_says T.grammar (T.rules.start progress) l ≡ Ok said) is says))

  ends : said_at T (behind line) ≡ Ok said
  ends = ap (line_says T.grammar (T.rules.start progress)) (append-nil line) ∙ says

  -- the line without its end
  pub front_stands : standing T (read ++ line) ≡ behind line
  front_stands = behind_front line within

  pub front_open : IsOpen T (read ++ line)
  front_open = open_run T line read opened passes

  pub front_says : said_at T (standing T (read ++ line)) ≡ Ok said
  front_says = ap (said_at T) front_stands ∙ ends

  whole : (read ++ line) ++ 10 ∷ [] ≡ read ++ (line ++ 10 ∷ [])
  whole = append_assoc read line (10 ∷ [])

  -- the line, with its end, leads on
  pub written_stands : standing T (read ++ (line ++ 10 ∷ [])) ≡ record { progress = T.rules.after progress said; part = []; lines = lines + 1; counted = counted + count_of T said; size = length (read ++ (line ++ 10 ∷ [])) }
  written_stands =
      ap (standing T) (sym whole)
      ∙ (standing_push T (read ++ line) 10
      ∙ (ap (λ (a : Standing Progress). line_ended T a (said_at T a)) front_stands
      ∙ (ap (line_ended T (behind line)) ends
      ∙ ap (λ n. record { progress = T.rules.after progress said; part = []; lines = lines + 1; counted = counted + count_of T said; size = n }) length_whole)))
    where
      length_whole : length read + length line + 1 ≡ length (read ++ (line ++ 10 ∷ []))
      length_whole = omega (arith, length-append read (line ++ 10 ∷ []), length-append line (10 ∷ []))

  pub written_open : T.rules.ends said ≡ false → (T.rules.counts said ≡ true → counted < T.rules.most) → length read + length line < 2 ^ 30 → IsOpen T (read ++ (line ++ 10 ∷ []))
  written_open goes_on few room =
      subst (IsOpen T) whole (open_push T (read ++ line) 10 front_open
      (subst (λ (a : Standing Progress). Passes T a 10) (sym front_stands) (omega (arith, room), (said, ends, goes_on, few))))
