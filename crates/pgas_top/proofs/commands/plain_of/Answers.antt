use Rattle.std.proofs.Common.{◌≡◌, ◌∙◌, ℕ, List, None, Some, codes, refl, subst, sym}
use Rattle.std.specs.List.{slice_split}
use Rattle.clap.proofs.WalkLemmas.{first_value-rows}
use Rattle.clap.specs.Walk.{first_of, rows_of}
use Rattle.clap.specs.Words.{found_of}
use Rattle.pgas_top.specs.Commands.{AreSources, is_comma}
use Rattle.pgas_top.proofs.commands.plain_of.Goals as goal

pub returns-in-Some-sources_of : goal.returns-in-Some-sources_of
returns-in-Some-sources_of c =
    let found : first_of (codes "sources") (rows_of (found_of c.args.matches.now)) ≡ Some c.in-Some.word.now = sym (first_value-rows (found_of c.args.matches.now) (codes "sources")) ∙ sym c.in-Some.ensures in
    (c.in-Some.word.now, c.in-Some-sources_of.sources.items, found, refl, c.in-Some-sources_of.ensures.0, c.in-Some-sources_of.ensures.1)

pub returns-in-None-sources_of : goal.returns-in-None-sources_of
returns-in-None-sources_of c =
    let found : first_of (codes "sources") (rows_of (found_of c.args.matches.now)) ≡ Some c.in-Some.word.now = sym (first_value-rows (found_of c.args.matches.now) (codes "sources")) ∙ sym c.in-Some.ensures in
    λ text sources is are few.
    let same : text ≡ c.in-Some.word.now = cc in
    c.in-None-sources_of.ensures sources (subst (λ (t : List ℕ). AreSources (slice_split is_comma t) sources) same are) few

pub returns-in-None : goal.returns-in-None
returns-in-None c =
    let found : first_of (codes "sources") (rows_of (found_of c.args.matches.now)) ≡ None = sym (first_value-rows (found_of c.args.matches.now) (codes "sources")) ∙ sym c.in-None.ensures in
    λ text sources is are few. cc
