use Rattle.std.proofs.Common.{◌≡◌, ◌+◌, ◌<◌, false, true, sym, ◌∙◌, subst, arith}
use Rattle.line_text.specs.Scans.{StandsWord, HasJoined}
use Rattle.line_text.proofs.Runs.{numeral_stands, joined_more}
use Rattle.line_text.proofs.scans.scan_numeral.Goals as goal

pub returns-then-not-joined : goal.returns-then-not-joined
returns-then-not-joined g c =
    let G = g.F.Form.grammar in
    let inv = c.loop-at.invariant in
    let scanned = c.scan_digits-value.ensures in
    let value = c.scan_digits-value.result.0 in
    let count = c.scan_digits-value.result.1 in
    let some : 0 < count = omega arith in
    let alone : G.joined c.loop-at.form ≡ false = sym c.if-not-joined.ensures in
    subst (λ f. StandsWord G g.F.Form.is_form c.args.form.now c.args.bytes.now f (c.loop-at.at + count)) (sym c.after_number.ensures)
    (numeral_stands G g.F.Form.is_form c.args.form.now c.loop-at.form c.loop-at.bounds value c.loop-at.at count c.args.bytes.now inv.joined inv.own some scanned.count scanned.digits scanned.value
    g.met.F.Form.sound inv.is_form alone scanned.open c.if-value-bounds.false)

pub bounds-requires : goal.bounds-requires
bounds-requires g c =
    subst g.F.Form.is_form (sym c.after_number.ensures)
    (g.met.F.Form.sound.number c.loop-at.form c.loop-at.bounds c.scan_digits-value.result.0 c.loop-at.invariant.is_form c.loop-at.invariant.own c.if-value-bounds.false c.scan_digits-value.ensures.open.0)

pub loop-at-preserved : goal.loop-at-preserved
loop-at-preserved g c =
    let G = g.F.Form.grammar in
    let inv = c.loop-at.invariant in
    let scanned = c.scan_digits-value.ensures in
    let value = c.scan_digits-value.result.0 in
    let count = c.scan_digits-value.result.1 in
    let some : 0 < count = omega arith in
    let joined : G.joined c.loop-at.form ≡ true = sym c.if-not-joined.ensures in
    let more = joined_more G g.F.Form.is_form c.args.form.now c.loop-at.form c.loop-at.bounds value c.loop-at.at count c.args.bytes.now inv.joined inv.own some scanned.count scanned.digits scanned.value
    joined c.if-value-bounds.false scanned.open.0 c.if-at-bytes.false c.if-bytes-at-ne46.false in
    record {
      within = omega (arith, c.if-at-bytes.false);
      is_form = subst g.F.Form.is_form (sym c.after_number.ensures) (g.met.F.Form.sound.number c.loop-at.form c.loop-at.bounds value inv.is_form inv.own c.if-value-bounds.false scanned.open.0);
      own = sym c.bounds.ensures ∙ c.in_ok-bounds.was;
      joined = subst (λ f. HasJoined G c.args.form.now c.args.bytes.now (c.loop-at.at + count + 1) f) (sym c.after_number.ensures) more;
    }
