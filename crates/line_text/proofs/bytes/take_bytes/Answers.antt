use Rattle.std.proofs.Common.{◌+◌, ◌<◌, ◌^◌, ℕ, List, ◌++◌, length, take, arith, subst, length-append}
use Rattle.std.proofs.lemmas.List.{length-take-le}
use Rattle.std.proofs.lemmas.Result.{err_from_is_err_and}
use Rattle.line_text.specs.Readings.{Stands}
use Rattle.line_text.specs.Texts.{text_of}
use Rattle.line_text.proofs.Pieces.{scan_within, scan_placed, scan_stands, with_byte, byte_ends, byte_fault}
use Rattle.line_text.proofs.bytes.take_bytes.Goals as goal

pub returns-in_err-after-clause-led : goal.returns-in_err-after-clause-led
returns-in_err-after-clause-led g c =
    let p = err_from_is_err_and c.from_residual.result c.from_residual.ensures.1 in
    rw (p.1, p.2) (λ read short from. c.in_err-after.ensures.led read short (c.loop-at.invariant.stands read short from))

pub take_byte-requires-clause-placed : goal.take_byte-requires-clause-placed
take_byte-requires-clause-placed g c =
    let placed = rw c.in-Some.is at c.in_ok-after.ensures.placed in
    scan_placed (text_of g.F.Form.grammar g.D.Draft.rules) c.args.piece.now c.in_ok-after.field-0.at g.F.Form.is_form _ c.in-Some.next.state c.scan-count.result.0 c.scan-count.result.1 placed c.scan-count.ensures.goes c.scan-count.ensures.state

pub loop-at-preserved : goal.loop-at-preserved
loop-at-preserved g c =
    let T = text_of g.F.Form.grammar g.D.Draft.rules in
    let piece = c.args.piece.now in
    let inv = c.loop-at.invariant in
    let taken = c.in_ok-after.field-0.at in
    let bounds = c.in_ok-after.ensures.at in
    let placed = rw c.in-Some.is at c.in_ok-after.ensures.placed in
    let counted = rw c.in-Some.is at c.in_ok-after.ensures.counted in
    let within = scan_within T piece taken c.in-Some.next.state c.scan-count.result.0 c.scan-count.result.1 bounds.1 c.scan-count.ensures.goes in
    record {
      within = within;
      placed = scan_placed T piece taken g.F.Form.is_form _ c.in-Some.next.state c.scan-count.result.0 c.scan-count.result.1 placed c.scan-count.ensures.goes c.scan-count.ensures.state;
      lines = omega (arith, inv.lines, counted.1);
      counted = counted.0;
      stands = λ read short from.
          let stood = rw c.in-Some.is at c.in_ok-after.ensures.led read short (inv.stands read short from) in
          scan_stands T piece taken g.F.Form.is_form g.met.F.Form.sound read (g.D.Draft.progress c.take_lines.new.draft) c.in-Some.next c.scan-count.result.0 c.scan-count.result.1 bounds.1 short stood c.scan-count.ensures.goes c.scan-count.ensures.state;
    }

pub loop-at-preserved-then-at-piece : goal.loop-at-preserved-then-at-piece
loop-at-preserved-then-at-piece g c =
    let T = text_of g.F.Form.grammar g.D.Draft.rules in
    let piece = c.args.piece.now in
    let inv = c.loop-at.invariant in
    let taken = c.in_ok-after.field-0.at in
    let bounds = c.in_ok-after.ensures.at in
    let behind = rw c.in-Some.is at c.in_ok-after.ensures.counted in
    let at = taken + c.scan-count.result.1 in
    let within : at < length piece = omega arith in
    let placed = rw c.in-Some-2.is at c.in_ok-next.ensures.placed in
    let counted = rw c.in-Some-2.is at c.in_ok-next.ensures.counted in
    record {
      within = omega arith;
      placed = placed;
      lines = omega (arith, inv.lines, behind.1, counted.1);
      counted = counted.0;
      stands = λ read short from.
          let stood = rw c.in-Some.is at c.in_ok-after.ensures.led read short (inv.stands read short from) in
          let scanned = scan_stands T piece taken g.F.Form.is_form g.met.F.Form.sound read (g.D.Draft.progress c.take_lines.new.draft) c.in-Some.next c.scan-count.result.0 c.scan-count.result.1 bounds.1 short stood c.scan-count.ensures.goes c.scan-count.ensures.state in
          let size : length (read ++ take at piece) < 2 ^ 30 = omega (arith, short, within, length-append read (take at piece), length-take-le at piece (omega arith)) in
          let led = c.in_ok-next.ensures.led (read ++ take at piece) size scanned in
          subst (λ (r : List ℕ). Stands T r (g.D.Draft.progress c.take_byte.new.draft) c.in-Some-2.next) (with_byte read piece at within)
          (rw c.in-Some-2.is at led);
    }

pub returns-in-None-clause-led : goal.returns-in-None-clause-led
returns-in-None-clause-led g c = λ read short from.
    let T = text_of g.F.Form.grammar g.D.Draft.rules in
    let piece = c.args.piece.now in
    let inv = c.loop-at.invariant in
    let taken = c.in_ok-after.field-0.at in
    let at = taken + c.scan-count.result.1 in
    let within : at < length piece = omega arith in
    let stood = rw c.in-Some.is at c.in_ok-after.ensures.led read short (inv.stands read short from) in
    let scanned = scan_stands T piece taken g.F.Form.is_form g.met.F.Form.sound read (g.D.Draft.progress c.take_lines.new.draft) c.in-Some.next c.scan-count.result.0 c.scan-count.result.1 c.in_ok-after.ensures.at.1 short stood c.scan-count.ensures.goes c.scan-count.ensures.state in
    let size : length (read ++ take at piece) < 2 ^ 30 = omega (arith, short, within, length-append read (take at piece), length-take-le at piece (omega arith)) in
    let led = c.in_ok-next.ensures.led (read ++ take at piece) size scanned in
    byte_ends T read piece at _ within (rw c.in-None.is at led)

pub returns-in_err-next-clause-led : goal.returns-in_err-next-clause-led
returns-in_err-next-clause-led g c =
    let p = err_from_is_err_and c.from_residual-in_err-next.result c.from_residual-in_err-next.ensures.1 in
    let T = text_of g.F.Form.grammar g.D.Draft.rules in
    let piece = c.args.piece.now in
    let inv = c.loop-at.invariant in
    let taken = c.in_ok-after.field-0.at in
    let at = taken + c.scan-count.result.1 in
    let within : at < length piece = omega arith in
    rw (p.1, p.2) (λ read short from.
    let stood = rw c.in-Some.is at c.in_ok-after.ensures.led read short (inv.stands read short from) in
    let scanned = scan_stands T piece taken g.F.Form.is_form g.met.F.Form.sound read (g.D.Draft.progress c.take_lines.new.draft) c.in-Some.next c.scan-count.result.0 c.scan-count.result.1 c.in_ok-after.ensures.at.1 short stood c.scan-count.ensures.goes c.scan-count.ensures.state in
    let size : length (read ++ take at piece) < 2 ^ 30 = omega (arith, short, within, length-append read (take at piece), length-take-le at piece (omega arith)) in
    byte_fault T read piece at _ within (c.in_err-next.ensures.led (read ++ take at piece) size scanned))
