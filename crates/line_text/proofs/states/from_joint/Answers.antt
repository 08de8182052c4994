use Rattle.std.proofs.Common.{◌≡◌, ◌+◌, ◌*◌, true, None, inr, sym}
use Rattle.std.specs.Char.{digit_value}
use Rattle.line_text.specs.declared.states.State.TheVariants.{Joint, Number}
use Rattle.line_text.specs.Words.{is_digit}
use Rattle.line_text.proofs.Runs.{digit_letter}
use Rattle.line_text.proofs.Steps.{joint_digit, joint_stops, number_stops, rejects_by}
use Rattle.line_text.proofs.states.from_joint.Goals as goal
use Rattle.line_text.proofs.states.from_joint.Goals.{then-is_digit+in_default, else-is_digit}

pub returns-in-Err : goal.returns-in-Err
returns-in-Err g c =
    let G = g.F.Form.grammar in
    let form = c.args.form in
    let bounds = c.in-Some.bounds in
    let own = sym c.in-Some.ensures in
    let digit = sym c.if-is_digit.ensures in
    let longer = 0 * 10 + digit_value c.args.byte in
    rejects_by G g.F.Form.is_form (Joint form) (Number form bounds longer) c.args.byte c.in-Err.reject c.requires.within
    (joint_digit G g.F.Form.is_form form bounds own c.args.byte (digit_letter c.args.byte digit) digit)
    (number_stops G g.F.Form.is_form form bounds own longer c.in-Err.reject (g.met.F.Form.sound.bounds form bounds c.requires.state.0 own) c.in-Err.ensures)

pub returns : goal.returns
returns g c =
    let G = g.F.Form.grammar in
    let form = c.args.form in
    let none : is_digit c.args.byte ≡ true → G.bounds form ≡ None = elim c.if-is_digit.branch [
      | then-is_digit+in_default w ↦ λ digit. sym w.in_default.ensures
      | else-is_digit w ↦ λ digit. absurd cc
    ] in
    inr (c.requires.within, joint_stops G g.F.Form.is_form form c.args.byte none)
