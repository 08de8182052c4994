use Rattle.std.proofs.Common.{codes, arith}
use Rattle.clap.specs.Walk.{first_of, rows_of}
use Rattle.clap.specs.Words.{found_of}
use Rattle.pgas_top.proofs.WordLemmas.{IsNumberOf-one}
use Rattle.pgas_top.proofs.commands.make_of.Goals as goal

pub returns-then-vertices-eq0 : goal.returns-then-vertices-eq0
returns-then-vertices-eq0 c = λ seed vertices edges are.
    let same = IsNumberOf-one (first_of (codes "vertices") (rows_of (found_of c.args.matches.now))) vertices _ are.vertices_are c.in_ok-vertices.ensures.0 in
    omega (arith, same, are.some_vertices, c.if-vertices-eq0.true)
