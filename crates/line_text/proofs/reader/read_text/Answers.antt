use Rattle.line_text.specs.Texts.{text_of}
use Rattle.line_text.proofs.Sources.{accepted_reading, refused_reading}
use Rattle.line_text.proofs.reader.read_text.Goals as goal

pub returns-clause-accepted : goal.returns-clause-accepted
returns-clause-accepted g c = λ input made told text.
    accepted_reading (text_of g.F.Form.grammar g.D.Draft.rules) input _ (g.S.Source.left c.read_pieces.new.source) _ (g.S.Source.faults c.read_pieces.new.source) c.read_pieces.result (g.D.Draft.progress c.read_pieces.new.draft) told c.read_pieces.ensures made text

pub returns-clause-refused : goal.returns-clause-refused
returns-clause-refused g c = λ input refusal told refused.
    refused_reading (text_of g.F.Form.grammar g.D.Draft.rules) input _ (g.S.Source.left c.read_pieces.new.source) _ (g.S.Source.faults c.read_pieces.new.source) c.read_pieces.result (g.D.Draft.progress c.read_pieces.new.draft) told c.read_pieces.ensures refusal refused
