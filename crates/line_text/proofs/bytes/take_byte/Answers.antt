use Rattle.std.proofs.Common.{[], ◌∷◌, ◌++◌, ◌∙◌, MatchResult, ap, sym, subst, append_assoc}
use Rattle.line_text.specs.Lines.{line_says}
use Rattle.line_text.specs.Readings.{HasReached, IsFault}
use Rattle.line_text.specs.Texts.{text_of}
use Rattle.line_text.proofs.Said.{rest_said}
use Rattle.line_text.proofs.Standings.{stands_byte, fault_byte}
use Rattle.line_text.proofs.bytes.take_byte.Goals as goal

pub end_line-requires-clause-said : goal.end_line-requires-clause-said
end_line-requires-clause-said g c = rest_said g.F.Form.grammar g.F.Form.is_form g.met.F.Form.sound c.args.place.state [] c.in-Ends.said c.requires.placed.is_state c.in-Ends.ensures.1

pub end_line-requires-clause-line : goal.end_line-requires-clause-line
end_line-requires-clause-line g c = (c.requires.placed.part ++ [], c.requires.placed.leads [] ∙ c.in-Ends.ensures.1)

pub returns-in-Next-clause-placed : goal.returns-in-Next-clause-placed
returns-in-Next-clause-placed g c =
    let placed = c.requires.placed in
    let G = g.F.Form.grammar in
    record {
      is_state = c.in-Next.ensures.1;
      part = placed.part ++ c.args.byte ∷ [];
      leads = λ rest. ap (line_says G (g.D.Draft.rules.start (g.D.Draft.progress c.args.draft.now))) (append_assoc placed.part (c.args.byte ∷ []) rest) ∙ (placed.leads (c.args.byte ∷ rest) ∙ c.in-Next.ensures.2 rest);
    }

pub returns-in-Next-clause-led : goal.returns-in-Next-clause-led
returns-in-Next-clause-led g c = λ read short stands.
    stands_byte (text_of g.F.Form.grammar g.D.Draft.rules) g.F.Form.is_form g.met.F.Form.sound read c.args.byte (g.D.Draft.progress c.args.draft.now) c.args.place c.in-Next.state stands c.in-Next.ensures.0 c.in-Next.ensures.2 c.in-Next.ensures.1 short

pub returns-in-Ends-clause-led : goal.returns-in-Ends-clause-led
returns-in-Ends-clause-led g c = λ read short stands.
    let T = text_of g.F.Form.grammar g.D.Draft.rules in
    subst (λ b. MatchResult c.end_line.result (λ next. HasReached T (read ++ b ∷ []) (g.D.Draft.progress c.end_line.new.draft) next) (IsFault T (read ++ b ∷ []) ⊥)) (sym c.in-Ends.ensures.0) (c.end_line.ensures.led read short stands c.in-Ends.ensures.1)

pub returns-in-Rejects-clause-led : goal.returns-in-Rejects-clause-led
returns-in-Rejects-clause-led g c = λ read short stands.
    fault_byte (text_of g.F.Form.grammar g.D.Draft.rules) read (g.D.Draft.progress c.args.draft.now) c.args.place stands c.args.byte c.in-Rejects.reject c.fault_at.result c.fault_at.ensures short c.in-Rejects.ensures
