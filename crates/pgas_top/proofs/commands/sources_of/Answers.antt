use Rattle.std.proofs.Common.{◌≡◌, ◌∷◌, [], ℕ, List, None, Some, ap₂, sym, ◌∙◌, subst, arith, get_or, ◌+◌, ◌<◌, rules}
use Rattle.std.specs.List.{slice_split, position_or_len}
use Rattle.std.proofs.lemmas.List.{length_push}
use Rattle.std.specs.Str.{IsUtf8}
use Rattle.std.proofs.lemmas.Bool.{eqb-true}
use Rattle.std.proofs.lemmas.List.Sums.{passes_at_first}
use Rattle.std.proofs.lemmas.Str.{IsCharBoundary-after_ascii, IsUtf8-drop}
use Rattle.std.proofs.lemmas.Str.Pattern.{split_once_first}
use Rattle.pgas_top.specs.Commands.{is_comma}
use Rattle.pgas_top.proofs.WordLemmas.{first_comma, no_comma, read_all, read_more, read_none, read_stopped}
use Rattle.pgas_top.proofs.commands.sources_of.Goals as goal

pub loop-first-init : goal.loop-first-init
loop-first-init c = (c.utf8.word, rw c.new-sources.ensures (read_none _))

pub returns-then-not-push_source : goal.returns-then-not-push_source
returns-then-not-push_source c =
    let rest = c.loop-first.rest.now in
    let cut = split_once_first 44 rest (Some (c.in-Some.first, c.in-Some.others)) c.in-Some.ensures.cases (omega arith) in
    let parts : slice_split is_comma rest ≡ c.in-Some.first.now ∷ slice_split is_comma c.in-Some.others.now = first_comma rest cut.0 ∙ ap₂ (λ (f o : List ℕ). f ∷ slice_split is_comma o) (sym cut.1) (sym cut.2) in
    read_stopped _ c.loop-first.sources.items c.in-Some.first.now _ _ c.loop-first.invariant.1 parts (c.push_source.ensures.none (search rules))

pub loop-first-preserved : goal.loop-first-preserved
loop-first-preserved c =
    let rest = c.loop-first.rest.now in
    let cut = split_once_first 44 rest (Some (c.in-Some.first, c.in-Some.others)) c.in-Some.ensures.cases (omega arith) in
    let parts : slice_split is_comma rest ≡ c.in-Some.first.now ∷ slice_split is_comma c.in-Some.others.now = first_comma rest cut.0 ∙ ap₂ (λ (f o : List ℕ). f ∷ slice_split is_comma o) (sym cut.1) (sym cut.2) in
    let added = c.push_source.ensures.added (search rules) in
    let text = c.loop-first.invariant.0 in
    let at = position_or_len is_comma rest in
    let comma : get_or rest at 0 < 128 = omega (arith, eqb-true (get_or rest at 0) 44 (passes_at_first is_comma rest 0 cut.0)) in
    (subst IsUtf8 (sym cut.2) (IsUtf8-drop rest (at + 1) text (IsCharBoundary-after_ascii rest at text cut.0 comma)), rw added.3 (read_more _ c.loop-first.sources.items c.in-Some.first.now _ _ added.0 c.loop-first.invariant.1 parts added.1 added.2))

pub returns-then-not-push_source-2 : goal.returns-then-not-push_source-2
returns-then-not-push_source-2 c =
    let rest = c.loop-first.rest.now in
    let none = split_once_first 44 rest None c.in_default.ensures.cases (omega arith) in
    read_stopped _ c.loop-first.sources.items rest [] _ c.loop-first.invariant.1 (no_comma rest none) (c.push_source-2.ensures.none (search rules))

pub returns : goal.returns
returns c =
    let rest = c.loop-first.rest.now in
    let none = split_once_first 44 rest None c.in_default.ensures.cases (omega arith) in
    let added = c.push_source-2.ensures.added (search rules) in
    let whole = read_all _ _ (read_more _ c.loop-first.sources.items rest [] _ added.0 c.loop-first.invariant.1 (no_comma rest none) added.1 added.2) in
    rw added.3 (whole, omega (arith, added.4, length_push c.loop-first.sources.items added.0))
