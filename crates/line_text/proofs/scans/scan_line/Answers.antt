use Rattle.std.proofs.Common.{◌+◌, get_or, Some, Ok, refl, ap, sym, ◌∙◌, arith, inl, inr}
use Rattle.line_text.specs.declared.states.State.TheVariants.{Lead, Gap}
use Rattle.line_text.specs.Lines.{then_leads, or_bad}
use Rattle.line_text.proofs.Runs.{goes_nowhere, goes_byte, begun_word}
use Rattle.line_text.proofs.scans.scan_line.Goals as goal

pub loop-at-init : goal.loop-at-init
loop-at-init g c = record {
  within = omega arith;
  is_form = c.requires;
  begun = record { state = Lead c.args.form; begun = inl refl; goes = goes_nowhere g.F.Form.grammar g.F.Form.is_form (Lead c.args.form) c.args.bytes.now };
}

pub returns-then-bytes-at-eq10 : goal.returns-then-bytes-at-eq10
returns-then-bytes-at-eq10 g c =
    let G = g.F.Form.grammar in
    let inv = c.loop-at.invariant in
    let stands = c.in_ok-count.ensures in
    record {
      next = stands.state;
      is_state = stands.is_state;
      goes = begun_word G g.F.Form.is_form c.args.form c.loop-at.form c.scan_word.new.form c.in_ok-count.count c.loop-at.at c.args.bytes.now inv.begun stands;
      says = stands.ends ∙ ap (λ o. then_leads (or_bad o) (λ line. Ok (Some line))) (sym c.says.ensures ∙ c.in_ok-line.was);
      within = omega arith;
      ends = c.if-bytes-at-eq10.true;
    }

pub loop-at-preserved : goal.loop-at-preserved
loop-at-preserved g c =
    let G = g.F.Form.grammar in
    let inv = c.loop-at.invariant in
    let next = c.scan_word.new.form in
    let count = c.in_ok-count.count in
    let stands = c.in_ok-count.ensures in
    record {
      within = omega arith;
      is_form = stands.is_form;
      begun = record {
        state = Gap next;
        begun = inr refl;
        goes = goes_byte G g.F.Form.is_form (Lead c.args.form) stands.state (Gap next) c.args.bytes.now (c.loop-at.at + count)
            (begun_word G g.F.Form.is_form c.args.form c.loop-at.form next count c.loop-at.at c.args.bytes.now inv.begun stands)
            (omega arith) c.if-bytes-at-eq10.false (stands.blank (get_or c.args.bytes.now (c.loop-at.at + count) 0) (sym c.if-not-is_blank.ensures));
      };
    }
