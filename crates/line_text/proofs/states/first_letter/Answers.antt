use Rattle.std.proofs.Common.{◌≡◌, ◌+◌, ◌*◌, Some, inr, sym}
use Rattle.std.specs.Char.{digit_value}
use Rattle.line_text.specs.declared.states.State.TheVariants.{Gap, Number}
use Rattle.line_text.proofs.Steps.{rejects_by, gap_digit, number_stops, gap_stops, no_bounds, no_number}
use Rattle.line_text.proofs.states.first_letter.Goals as goal
use Rattle.line_text.proofs.states.first_letter.Goals.{then-is_digit+in_default, else-is_digit}

pub returns-in-Err : goal.returns-in-Err
returns-in-Err g c =
    let G = g.F.Form.grammar in
    let form = c.args.form in
    let bounds = c.in-Some.bounds in
    let own : G.bounds form ≡ Some bounds = sym c.in-Some.ensures in
    let longer = 0 * 10 + digit_value c.args.byte in
    rejects_by G g.F.Form.is_form (Gap form) (Number form bounds longer) c.args.byte c.in-Err.reject c.requires.within
    (gap_digit G g.F.Form.is_form form bounds own c.args.byte c.requires.letter (sym c.if-is_digit.ensures))
    (number_stops G g.F.Form.is_form form bounds own longer c.in-Err.reject (g.met.F.Form.sound.bounds form bounds c.requires.form own) c.in-Err.ensures)

pub returns-in-None : goal.returns-in-None
returns-in-None g c =
    let G = g.F.Form.grammar in
    let form = c.args.form in
    inr (
      c.requires.within,
      gap_stops G g.F.Form.is_form form c.args.byte c.requires.letter
          (elim c.if-is_digit.branch [ then-is_digit+in_default w ↦ no_bounds G g.F.Form.is_form form c.args.byte (sym w.in_default.ensures) | else-is_digit w ↦ no_number G g.F.Form.is_form form c.args.byte (sym w.if-is_digit.ensures) ])
          c.in-None.ensures.word,
    )
