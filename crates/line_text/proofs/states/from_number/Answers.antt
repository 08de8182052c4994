use Rattle.std.proofs.Common.{◌≡◌, ◌+◌, ◌*◌, true, sym, ◌∙◌}
use Rattle.std.specs.Char.{digit_value}
use Rattle.line_text.specs.declared.states.State.TheVariants.{Number}
use Rattle.line_text.proofs.Steps.{rejects_by, number_digit, number_stops}
use Rattle.line_text.proofs.states.from_number.Goals as goal

pub returns-in-Err : goal.returns-in-Err
returns-in-Err g c =
    let G = g.F.Form.grammar in
    let form = c.args.form in
    let own = c.requires.state.1 in
    let digit : c.is_digit.result ≡ true = cc in
    let longer = c.args.value * 10 + digit_value c.args.byte in
    rejects_by G g.F.Form.is_form (Number form c.args.bounds c.args.value) (Number form c.args.bounds longer) c.args.byte c.in-Err.reject c.requires.within
    (number_digit G g.F.Form.is_form form c.args.bounds own c.args.value c.args.byte (sym c.if-is_blank.ensures) (sym c.is_digit.ensures ∙ digit))
    (number_stops G g.F.Form.is_form form c.args.bounds own longer c.in-Err.reject (g.met.F.Form.sound.bounds form c.args.bounds c.requires.state.0 own) c.in-Err.ensures)
