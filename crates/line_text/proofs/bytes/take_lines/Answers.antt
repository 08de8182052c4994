use Rattle.std.proofs.Common.{ℕ, ◌+◌, List, ◌++◌, take, arith, sym, subst}
use Rattle.std.proofs.lemmas.Result.{err_from_is_err_and}
use Rattle.line_text.specs.declared.states.State.TheVariants.{Lead}
use Rattle.line_text.specs.Readings.{Stands}
use Rattle.line_text.specs.States.{IsPlaced}
use Rattle.line_text.specs.Texts.{text_of}
use Rattle.line_text.proofs.Pieces.{found_said, found_within, found_line, found_led, with_byte, byte_ends, byte_fault}
use Rattle.line_text.proofs.Sources.{placed_start}
use Rattle.line_text.proofs.bytes.take_lines.Goals as goal

pub take_line-requires-clause-said : goal.take_line-requires-clause-said
take_line-requires-clause-said g c =
    found_said (text_of g.F.Form.grammar g.D.Draft.rules) g.F.Form.is_form g.met.F.Form.sound c.args.piece.now c.loop-at.at c.loop-at.form c.loop-at.lines c.loop-at.counted _ _ c.in-Some.ensures c.loop-at.invariant.within

pub take_line-requires-clause-line : goal.take_line-requires-clause-line
take_line-requires-clause-line g c =
    found_line (text_of g.F.Form.grammar g.D.Draft.rules) g.F.Form.is_form g.met.F.Form.sound c.args.piece.now c.loop-at.at c.loop-at.form c.loop-at.lines c.loop-at.counted _ _ c.in-Some.ensures c.loop-at.invariant.within _ c.loop-at.invariant.placed

pub returns-in_err-more-clause-led : goal.returns-in_err-more-clause-led
returns-in_err-more-clause-led g c =
    let p = err_from_is_err_and c.from_residual.result c.from_residual.ensures.1 in
    let T = text_of g.F.Form.grammar g.D.Draft.rules in
    let piece = c.args.piece.now in
    let inv = c.loop-at.invariant in
    let within = found_within T g.F.Form.is_form g.met.F.Form.sound piece c.loop-at.at c.loop-at.form c.loop-at.lines c.loop-at.counted _ _ c.in-Some.ensures inv.within in
    rw (p.1, p.2) (λ read short from.
    byte_fault T read piece _ _ within (rw c.in_err-more.was at (found_led T g.F.Form.is_form g.met.F.Form.sound piece c.loop-at.at c.loop-at.form c.loop-at.lines c.loop-at.counted _ _ c.in-Some.ensures inv.within
    read (g.D.Draft.progress c.loop-at.draft) _ c.take_line.result short (inv.stands read short from) c.take_line.ensures.taken)))

pub returns-in-None-clause-led : goal.returns-in-None-clause-led
returns-in-None-clause-led g c = λ read short from.
    let T = text_of g.F.Form.grammar g.D.Draft.rules in
    let piece = c.args.piece.now in
    let inv = c.loop-at.invariant in
    let within = found_within T g.F.Form.is_form g.met.F.Form.sound piece c.loop-at.at c.loop-at.form c.loop-at.lines c.loop-at.counted _ _ c.in-Some.ensures inv.within in
    let led = found_led T g.F.Form.is_form g.met.F.Form.sound piece c.loop-at.at c.loop-at.form c.loop-at.lines c.loop-at.counted _ _ c.in-Some.ensures inv.within
    read (g.D.Draft.progress c.loop-at.draft) _ c.take_line.result short (inv.stands read short from) c.take_line.ensures.taken in
    byte_ends T read piece _ _ within (rw c.in-None.is at (rw c.in_ok-more.was at led))

pub loop-at-preserved : goal.loop-at-preserved
loop-at-preserved g c =
    let T = text_of g.F.Form.grammar g.D.Draft.rules in
    let piece = c.args.piece.now in
    let inv = c.loop-at.invariant in
    let new = g.D.Draft.progress c.take_line.new.draft in
    let within = found_within T g.F.Form.is_form g.met.F.Form.sound piece c.loop-at.at c.loop-at.form c.loop-at.lines c.loop-at.counted _ _ c.in-Some.ensures inv.within in
    let count = c.in-Some.found.1 in
    record {
      before = omega (arith, inv.before);
      within = omega (arith, within);
      placed = subst (λ form. IsPlaced T.grammar g.F.Form.is_form (T.rules.start new) (Lead form)) (sym c.start-form.ensures.start)
          (placed_start T g.F.Form.is_form new (subst g.F.Form.is_form c.start-form.ensures.start c.start-form.ensures.form));
      lines = omega (arith, inv.lines);
      counted = rw c.in-Some-2.is at c.in_ok-more.ensures.counted;
      stands = λ read short from.
          let led = found_led T g.F.Form.is_form g.met.F.Form.sound piece c.loop-at.at c.loop-at.form c.loop-at.lines c.loop-at.counted _ _ c.in-Some.ensures inv.within
          read (g.D.Draft.progress c.loop-at.draft) _ c.take_line.result short (inv.stands read short from) c.take_line.ensures.taken in
          subst (λ form. Stands T (read ++ take (c.loop-at.at + (count + 1)) piece) new (record { state = Lead form; lines = c.loop-at.lines + 1; counted = c.in-Some-2.more })) (sym c.start-form.ensures.start)
          (subst (λ n. Stands T (read ++ take n piece) new (record { state = Lead (T.rules.start new); lines = c.loop-at.lines + 1; counted = c.in-Some-2.more })) (omega arith)
          (subst (λ (r : List ℕ). Stands T r new (record { state = Lead (T.rules.start new); lines = c.loop-at.lines + 1; counted = c.in-Some-2.more })) (with_byte read piece (c.loop-at.at + count) within)
          (rw c.in-Some-2.is at (rw c.in_ok-more.was at led))));
    }
