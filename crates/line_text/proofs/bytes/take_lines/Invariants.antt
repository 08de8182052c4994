use Rattle.std.proofs.Common.{ℕ, ◌+◌, ◌-◌, ◌≤◌, ◌^◌, List, ◌++◌, length, take}
use Rattle.line_text.specs.declared.states.State.TheVariants.{Lead}
use Rattle.line_text.specs.Readings.{Stands, IsCounted}
use Rattle.line_text.specs.States.{IsPlaced}
use Rattle.line_text.specs.Texts.{text_of}
use Rattle.line_text.proofs.bytes.take_lines.Given as goal

abbrev pub invariant-loop-at : goal.invariant-loop-at
invariant-loop-at g l =
    let progress = g.D.Draft.progress l.draft in
    let T = text_of g.F.Form.grammar g.D.Draft.rules in
    record {
      before : l.fn.at ≤ l.at;
      within : l.at ≤ length l.piece;
      placed : IsPlaced g.F.Form.grammar g.F.Form.is_form (g.D.Draft.rules.start progress) (Lead l.form);
      lines : l.lines + l.fn.at ≤ l.fn.place.lines + l.at;
      counted : IsCounted g.D.Draft.rules l.lines l.counted;
      stands : (read : List ℕ) → length read + length l.piece ≤ 2 ^ 30 → Stands T (read ++ take l.fn.at l.piece) (g.D.Draft.progress l.fn.draft) l.fn.place
          → Stands T (read ++ take l.at l.piece) progress (record { state = Lead l.form; lines = l.lines; counted = l.counted });
    }

abbrev pub decreases-loop-at : goal.decreases-loop-at
decreases-loop-at g l = length l.piece - l.at
