use Rattle.std.proofs.Common.{◌<◌, ◌≤◌, ◌^◌, length, take, ap, sym, subst, arith, length-take}
use Rattle.std.specs.Io.KnownBytes.{Consumes}
use Rattle.std.proofs.lemmas.Result.{err_from_is_err_and}
use Rattle.line_text.specs.declared.states.State.TheVariants.{Lead}
use Rattle.line_text.specs.States.{IsPlaced}
use Rattle.line_text.specs.Texts.{text_of}
use Rattle.line_text.proofs.Sources.{come_nothing, come_piece, reading_failed, reading_ended, reading_stopped, reading_done, reading_nothing, placed_start}
use Rattle.line_text.proofs.reader.read_pieces.Goals as goal

pub returns-in_err-buffer : goal.returns-in_err-buffer
returns-in_err-buffer g c =
    let p = err_from_is_err_and c.from_residual.result c.from_residual.ensures.1 in
    rw (p.1, p.2) (reading_nothing (text_of g.F.Form.grammar g.D.Draft.rules) _ _ _)

pub loop-buffer-init : goal.loop-buffer-init
loop-buffer-init g c =
    let T = text_of g.F.Form.grammar g.D.Draft.rules in
    let opened = g.D.Draft.progress c.args.draft.now in
    record {
      buffer = c.in_ok-buffer.ensures;
      placed = subst (λ form. IsPlaced T.grammar g.F.Form.is_form (T.rules.start opened) (Lead form)) (sym c.start.ensures.start)
          (placed_start T g.F.Form.is_form opened (subst g.F.Form.is_form c.start.ensures.start c.start.ensures.form));
      counted = (omega arith, omega arith);
      lines = omega arith;
      come = come_nothing T _ _ opened _ c.requires (ap (λ form. record { state = Lead form; lines = 0; counted = 0 }) c.start.ensures.start);
    }

pub returns-in_err-count : goal.returns-in_err-count
returns-in_err-count g c =
    let p = err_from_is_err_and c.from_residual-in_err-count.result c.from_residual-in_err-count.ensures.1 in
    rw (p.1, p.2) (reading_failed (text_of g.F.Form.grammar g.D.Draft.rules) c.loop-buffer.invariant.come _ _ _ c.in_err-count.ensures.count c.in_err-count.ensures.bytes c.in_err-count.ensures.failed)

pub returns-then-count-eq0 : goal.returns-then-count-eq0
returns-then-count-eq0 g c =
    let T = text_of g.F.Form.grammar g.D.Draft.rules in
    let left_now = g.S.Source.left c.loop-buffer.source in
    let left_after = g.S.Source.left c.read.new.self in
    let into = c.read.new.into in
    let come = c.loop-buffer.invariant.come in
    let room : 0 < length into = omega (arith, c.min.ensures, c.read.auto.into, length-take c.min.result c.deref_mut.result.now, c.deref_mut.ensures.len, c.loop-buffer.invariant.buffer) in
    reading_ended T come _ _ c.in_ok-count.ensures.kept c.at_end.result _
    (subst (λ n. Consumes left_now left_after (take n into)) c.if-count-eq0.true c.in_ok-count.ensures.bytes.0)
    (c.in_ok-count.ensures.bytes.1 c.if-count-eq0.true room) (c.at_end.ensures come.read come.stands)

pub returns-in_err-next : goal.returns-in_err-next
returns-in_err-next g c =
    let p = err_from_is_err_and c.from_residual-in_err-next.result c.from_residual-in_err-next.ensures.1 in
    let come = c.loop-buffer.invariant.come in
    let piece = take c.in_ok-count.count c.read.new.into in
    let bounded : length piece ≤ 2 ^ 16 = omega (arith, c.in_ok-count.ensures.bound, c.min.ensures, c.read.auto.into, length-take c.min.result c.deref_mut.result.now, c.deref_mut.ensures.len, c.loop-buffer.invariant.buffer) in
    rw (p.1, p.2) (reading_stopped (text_of g.F.Form.grammar g.D.Draft.rules) come _ _ c.in_ok-count.ensures.kept piece c.in_ok-count.ensures.bytes.0 _ _ bounded (c.in_err-next.ensures.led come.read (omega (arith, come.total_is, come.short)) come.stands))

pub returns-in-None : goal.returns-in-None
returns-in-None g c =
    let come = c.loop-buffer.invariant.come in
    let piece = take c.in_ok-count.count c.read.new.into in
    let bounded : length piece ≤ 2 ^ 16 = omega (arith, c.in_ok-count.ensures.bound, c.min.ensures, c.read.auto.into, length-take c.min.result c.deref_mut.result.now, c.deref_mut.ensures.len, c.loop-buffer.invariant.buffer) in
    let led = c.in_ok-next.ensures.led come.read (omega (arith, come.total_is, come.short)) come.stands in
    reading_done (text_of g.F.Form.grammar g.D.Draft.rules) come _ _ c.in_ok-count.ensures.kept piece c.in_ok-count.ensures.bytes.0 _ bounded (rw c.in-None.is at led)

pub loop-buffer-preserved : goal.loop-buffer-preserved
loop-buffer-preserved g c =
    let T = text_of g.F.Form.grammar g.D.Draft.rules in
    let come = c.loop-buffer.invariant.come in
    let piece = take c.in_ok-count.count c.read.new.into in
    let placed = rw c.in-Some.is at c.in_ok-next.ensures.placed in
    let counted = rw c.in-Some.is at c.in_ok-next.ensures.counted in
    let room = rw c.in-Some.is at c.in_ok-next.ensures.room in
    let led = c.in_ok-next.ensures.led come.read (omega (arith, come.total_is, come.short)) come.stands in
    record {
      buffer = c.loop-buffer.invariant.buffer;
      placed = placed;
      counted = counted.0;
      lines = omega (arith, counted.1, c.loop-buffer.invariant.lines, c.in_ok-count.ensures.bound);
      come = rw c.in_ok-count.ensures.bound.1 (come_piece T come _ _ c.in_ok-count.ensures.kept piece c.in_ok-count.ensures.bytes.0 _ c.in-Some.next room (rw c.in-Some.is at led));
    }
