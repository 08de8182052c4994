use Rattle.std.proofs.Common.{◌≢◌, get_or, sym, subst}
use Rattle.line_text.specs.Scans.{StandsWord}
use Rattle.line_text.proofs.Runs.{literal_stands}
use Rattle.line_text.proofs.scans.scan_literal.Goals as goal

pub returns : goal.returns
returns g c =
    let G = g.F.Form.grammar in
    let form = c.args.form.now in
    let bytes = c.args.bytes.now in
    let count = c.count_letters-count.result in
    let place = c.in_ok-place.place in
    let found = c.in_ok-place.ensures in
    let sign : get_or bytes 0 0 ≢ 35 = c.if-bytes-eq35.false in
    subst (λ f. StandsWord G g.F.Form.is_form form bytes f count) (sym c.after_word.ensures)
    (literal_stands G g.F.Form.is_form g.met.F.Form.sound form place count bytes c.requires.form c.requires.none c.count_letters-count.ensures sign (sym found.value) found.within found.word)
