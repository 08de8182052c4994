use Rattle.std.proofs.Common.{◌≡◌, ◌∙◌, ◌∷◌, [], ℕ, List, ap, arith, codes, map, subst, sym, true}
use Rattle.std.specs.String.{string_bytes}
use Rattle.clap.specs.Simple.{App, matches_of}
use Rattle.clap.specs.Takes.{takes}
use Rattle.clap.specs.Walk.{first_of, rows_of}
use Rattle.clap.specs.Words.{app_of, fault_of, found_of}
use Rattle.pgas_top.specs.Forms.{plain_form_app}
use Rattle.pgas_top.proofs.ClapPlain.{plain_found, plain_said, plain_taken}
use Rattle.pgas_top.proofs.Lists.{only_one}
use Rattle.pgas_top.proofs.commands.plain_command.Goals as goal

pub returns-in-Some : goal.returns-in-Some
returns-in-Some c =
    let words = map string_bytes c.args.words.now in
    let one = only_one c.args.words.now (omega (arith, c.if-words-ne1.false)) in
    let word = string_bytes one.0 in
    let is : words ≡ word ∷ [] = ap (map string_bytes) one.1 in
    let told = rw c.in-Some.is at c.in_ok-matches.ensures in
    let none : fault_of plain_form_app (word ∷ []) ≡ [] = subst (λ (a : App). fault_of a (word ∷ []) ≡ []) c.in_ok-plain_form.ensures (subst (λ (ws : List (List ℕ)). fault_of (app_of c.in_ok-plain_form.field-0) ws ≡ []) is told.0) in
    let rows : rows_of (found_of c.in-Some.matches) ≡ matches_of plain_form_app (word ∷ []) = told.1 ∙ (ap (λ (a : App). matches_of a words) c.in_ok-plain_form.ensures ∙ ap (matches_of plain_form_app) is) in
    plain_said words word (rows_of (found_of c.in-Some.matches)) is (ap (first_of (codes "sources")) rows ∙ plain_found word none) c.plain_of.result c.plain_of.ensures

pub returns-in-None : goal.returns-in-None
returns-in-None c =
    let words = map string_bytes c.args.words.now in
    let refused = rw c.in-None.is at c.in_ok-matches.ensures in
    λ sources named. refused (subst (λ (a : App). takes a words ≡ true) (sym c.in_ok-plain_form.ensures) (plain_taken words sources named))
