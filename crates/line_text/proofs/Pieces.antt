-- Where the bytes of a piece lead.
use Rattle.std.proofs.Common.{◌≡◌, ℕ, ◌+◌, ◌-◌, ◌<◌, ◌≤◌, ◌^◌, List, [], ◌∷◌, ◌++◌, Option, Some, Result, Ok, MatchResult, length, take, drop, get_or, get_or-drop, ap, sym, ◌∙◌, arith, subst, append_assoc, length-append, length-drop}
use Rattle.std.proofs.lemmas.List.{take_all, take_more, take-append-drop, length-take-le}
use Rattle.std.proofs.Math.Seq.{take-add}
use Rattle.line_text.specs.declared.bytes.Place.{Place}
use Rattle.line_text.specs.declared.faults.TextFault.{TextFault}
use Rattle.line_text.specs.declared.states.State.{State}
use Rattle.line_text.specs.declared.states.State.TheVariants.{Lead}
use Rattle.line_text.specs.Lines.{Grammar, IsGrammar, IsSaid, line_says}
use Rattle.line_text.specs.Readings.{Stands, HasReached, HasTaken, IsTakeFault, IsFault, next_place}
use Rattle.line_text.specs.Scans.{Goes, StandsLine}
use Rattle.line_text.specs.States.{IsState, IsPlaced, Leads}
use Rattle.line_text.specs.Texts.{Text, HasText}
use Rattle.line_text.proofs.Said.{rest_said}
use Rattle.line_text.proofs.Standings.{stands_scan, led_line, text_longer, fault_longer}

-- the rest of a piece, as the code cuts it
rest_of_piece : (piece : List ℕ) (at : ℕ) → take (length piece - at) (drop at piece) ≡ drop at piece
rest_of_piece piece at = take_all (length piece - at) (drop at piece) (omega (arith, length-drop at piece))

-- one byte more of a piece
pub with_byte : (read piece : List ℕ) (at : ℕ) → at < length piece → (read ++ take at piece) ++ get_or piece at 0 ∷ [] ≡ read ++ take (at + 1) piece
with_byte read piece at within = append_assoc read (take at piece) (get_or piece at 0 ∷ []) ∙ ap (λ (t : List ℕ). read ++ t) (sym (take_more piece at 0 within))

whole_piece : (read piece : List ℕ) (at : ℕ) → at < length piece → ((read ++ take at piece) ++ get_or piece at 0 ∷ []) ++ drop (at + 1) piece ≡ read ++ piece
whole_piece read piece at within =
    ap (λ (r : List ℕ). r ++ drop (at + 1) piece) (with_byte read piece at within) ∙ (append_assoc read (take (at + 1) piece) (drop (at + 1) piece) ∙ ap (λ (t : List ℕ). read ++ t) (take-append-drop (at + 1) piece))

pub placed_run : {Form Line : Type 0} (G : Grammar Form Line) (IsForm : Form → Type 0) (form : Form) (state next : State Form) (run : List ℕ) → IsPlaced G IsForm form state → Leads G state run next → IsState G IsForm next → IsPlaced G IsForm form next
placed_run G IsForm form state next run placed leads is_state = record {
  is_state = is_state;
  part = placed.part ++ run;
  leads = λ rest. ap (line_says G form) (append_assoc placed.part run rest) ∙ (placed.leads (run ++ rest) ∙ leads rest);
}

module _ {Progress Form Line : Type 0} (T : Text Progress Form Line) where
  module _ (piece : List ℕ) (at : ℕ) where
    pub scan_within : (state next : State Form) (count : ℕ) → at ≤ length piece → Goes T.grammar state (take (length piece - at) (drop at piece)) count next → at + count ≤ length piece
    scan_within state next count within goes = omega (arith, within, goes.within, ap length (rest_of_piece piece at), length-drop at piece)

    pub scan_placed : (IsForm : Form → Type 0) (form : Form) (state next : State Form) (count : ℕ) → IsPlaced T.grammar IsForm form state → Goes T.grammar state (take (length piece - at) (drop at piece)) count next → IsState T.grammar IsForm next → IsPlaced T.grammar IsForm form next
    scan_placed IsForm form state next count placed goes is_state = placed_run T.grammar IsForm form state next (take count (take (length piece - at) (drop at piece))) placed goes.leads is_state

    pub scan_stands : (IsForm : Form → Type 0) → IsGrammar T.grammar IsForm → (read : List ℕ) (progress : Progress) (place : Place Form) (next : State Form) (count : ℕ) → at ≤ length piece → length read + length piece ≤ 2 ^ 30
        → Stands T (read ++ take at piece) progress place → Goes T.grammar place.state (take (length piece - at) (drop at piece)) count next → IsState T.grammar IsForm next
        → Stands T (read ++ take (at + count) piece) progress (record { state = next; lines = place.lines; counted = place.counted })
    scan_stands IsForm sound read progress place next count within short stands goes is_state =
        let slice = take (length piece - at) (drop at piece) in
        subst (λ (r : List ℕ). Stands T r progress (record { state = next; lines = place.lines; counted = place.counted }))
        (append_assoc read (take at piece) (take count slice) ∙ ap (λ (t : List ℕ). read ++ t) (ap (λ (s : List ℕ). take at piece ++ take count s) (rest_of_piece piece at) ∙ sym (take-add at count piece)))
        (stands_scan T IsForm sound (read ++ take at piece) slice progress place count next stands goes is_state
        (omega (arith, short, scan_within place.state next count within goes, length-append read (take at piece), length-take-le at piece within)))

  pub byte_ends : (read piece : List ℕ) (at : ℕ) (made : Progress) → at < length piece → HasText T ((read ++ take at piece) ++ get_or piece at 0 ∷ []) ⊥ made → HasText T (read ++ piece) ⊥ made
  byte_ends read piece at made within text = subst (λ (r : List ℕ). HasText T r ⊥ made) (whole_piece read piece at within) (text_longer T ((read ++ take at piece) ++ get_or piece at 0 ∷ []) (drop (at + 1) piece) ⊥ made text)

  pub byte_fault : (read piece : List ℕ) (at : ℕ) (fault : TextFault) → at < length piece → IsFault T ((read ++ take at piece) ++ get_or piece at 0 ∷ []) ⊥ fault → IsFault T (read ++ piece) ⊥ fault
  byte_fault read piece at fault within refused = subst (λ (r : List ℕ). IsFault T r ⊥ fault) (whole_piece read piece at within) (fault_longer T ((read ++ take at piece) ++ get_or piece at 0 ∷ []) (drop (at + 1) piece) ⊥ fault refused)

  -- ---- a line that stands at once

  module _ (IsForm : Form → Type 0) (sound : IsGrammar T.grammar IsForm) (piece : List ℕ) (at : ℕ) (form : Form) (lines counted : ℕ) (line : Line) (count : ℕ)
      (found : StandsLine T.grammar IsForm form (take (length piece - at) (drop at piece)) line count) (before : at ≤ length piece) where
    pub found_said : IsSaid T.grammar IsForm (Some line)
    found_said = rest_said T.grammar IsForm sound found.next [] (Some line) found.is_state found.says

    pub found_within : at + count < length piece
    found_within = omega (arith, before, found.within, ap length (rest_of_piece piece at), length-drop at piece)

    pub found_line : (start : Form) → IsPlaced T.grammar IsForm start (Lead form) → (letters : List ℕ) × (line_says T.grammar start letters ≡ Ok (Some line))
    found_line start placed = let next = scan_placed piece at IsForm start (Lead form) found.next count placed found.goes found.is_state in (next.part ++ [], next.leads [] ∙ found.says)

    found_ends : get_or piece (at + count) 0 ≡ 10
    found_ends = sym (get_or-drop at piece count 0) ∙ (ap (λ (s : List ℕ). get_or s count 0) (sym (rest_of_piece piece at)) ∙ found.ends)

    pub found_led : (read : List ℕ) (progress new : Progress) (answer : Result (Option ℕ) TextFault) → length read + length piece ≤ 2 ^ 30
        → Stands T (read ++ take at piece) progress (record { state = Lead form; lines = lines; counted = counted })
        → MatchResult answer (HasTaken T progress new counted (Some line)) (IsTakeFault T lines counted (Some line))
        → MatchResult answer (λ next. HasReached T ((read ++ take (at + count) piece) ++ get_or piece (at + count) 0 ∷ []) new (next_place T new lines next)) (IsFault T ((read ++ take (at + count) piece) ++ get_or piece (at + count) 0 ∷ []) ⊥)
    found_led read progress new answer short stands taken =
        led_line T (read ++ take (at + count) piece) progress (record { state = found.next; lines = lines; counted = counted })
        (scan_stands piece at IsForm sound read progress (record { state = Lead form; lines = lines; counted = counted }) found.next count before short stands found.goes found.is_state)
        (get_or piece (at + count) 0) new (Some line) answer
        (omega (arith, short, found_within, length-append read (take (at + count) piece), length-take-le (at + count) piece (omega (arith, found_within)))) found_ends found.says taken
