use Rattle.std.proofs.Common.{length}
use denote.Text.{Utf8}
use denote.Shadow.{shadow}
use Rattle.std.specs.List.{slice_split}
use Rattle.pgas_top.specs.Commands.{is_comma}
use Rattle.pgas_top.proofs.WordLemmas.{AreRead}
use Rattle.pgas_top.proofs.commands.sources_of.Given as goal

-- the parts before the rest list the sources
abbrev pub invariant-loop-first : goal.invariant-loop-first
invariant-loop-first l = shadow (Utf8 l.rest) × AreRead (slice_split is_comma l.word) l.sources.items (slice_split is_comma l.rest)

abbrev pub decreases-loop-first : goal.decreases-loop-first
decreases-loop-first l = length l.rest
