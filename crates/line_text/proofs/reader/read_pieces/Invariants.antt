use Rattle.std.proofs.Common.{◌≡◌, ◌≤◌, ◌^◌, ◌-◌, vec_len}
use Rattle.line_text.specs.Readings.{IsCounted}
use Rattle.line_text.specs.States.{IsPlaced}
use Rattle.line_text.specs.Texts.{text_of}
use Rattle.line_text.proofs.Sources.{HasCome}
use Rattle.line_text.proofs.reader.read_pieces.Given as goal

abbrev pub invariant-loop-buffer : goal.invariant-loop-buffer
invariant-loop-buffer g l =
    let progress = g.D.Draft.progress l.draft in
    record {
      buffer : vec_len l.buffer ≡ 2 ^ 16;
      placed : IsPlaced g.F.Form.grammar g.F.Form.is_form (g.D.Draft.rules.start progress) l.place.state;
      counted : IsCounted g.D.Draft.rules l.place.lines l.place.counted;
      lines : l.place.lines ≤ l.total;
      come : HasCome (text_of g.F.Form.grammar g.D.Draft.rules) (g.S.Source.left l.fn.source) (g.S.Source.left l.source) (g.S.Source.faults l.fn.source) (g.S.Source.faults l.source) l.total progress l.place;
    }

abbrev pub decreases-loop-buffer : goal.decreases-loop-buffer
decreases-loop-buffer g l = 2 ^ 30 - l.total
