use Rattle.std.proofs.Common.{◌≡◌, ◌∙◌, ◌++◌, [], ℕ, List, ap, arith, codes, length, map, subst, sym, true, ◌↔◌}
use Rattle.std.specs.String.{string_bytes}
use Rattle.clap.specs.Simple.{App, matches_of}
use Rattle.clap.specs.Takes.{takes}
use Rattle.clap.specs.Walk.{Row, first_of, rows_of}
use Rattle.clap.specs.Words.{fault_of, found_of}
use Rattle.pgas_top.specs.Forms.{make_form_app}
use Rattle.pgas_top.specs.Options.{HasNumber, IsNumberOf, options_of}
use Rattle.pgas_top.proofs.ClapSaid.{make_said, said}
use Rattle.pgas_top.proofs.ClapSteps.{Which, name_of}
use Rattle.pgas_top.proofs.ClapTakes.{make_taken}
use Rattle.pgas_top.proofs.commands.make_command.Goals as goal

pub returns-in-Some : goal.returns-in-Some
returns-in-Some c =
    let words = map string_bytes c.args.words.now in
    let three : length (options_of words) ≡ 3 = omega (arith, c.count_options.ensures, c.if-count_options-ne-MAKE_OPTIONS.false) in
    let told = rw c.in-Some.is at c.in_ok-matches.ensures in
    let none : fault_of make_form_app words ≡ [] = subst (λ (a : App). fault_of a words ≡ []) c.in_ok-make_form.ensures told.0 in
    let rows : rows_of (found_of c.in-Some.matches) ≡ matches_of make_form_app words = told.1 ∙ ap (λ (a : App). matches_of a words) c.in_ok-make_form.ensures in
    let says : (k : Which) (n : ℕ) → HasNumber (options_of words) (codes "--" ++ name_of k) n ↔ IsNumberOf (first_of (name_of k) (rows_of (found_of c.in-Some.matches))) n
    = λ k n. subst (λ (rs : List Row). HasNumber (options_of words) (codes "--" ++ name_of k) n ↔ IsNumberOf (first_of (name_of k) rs) n) (sym rows) (said words none three k n) in
    make_said words (rows_of (found_of c.in-Some.matches)) three says c.make_of.result c.make_of.ensures

pub returns-in-None : goal.returns-in-None
returns-in-None c =
    let words = map string_bytes c.args.words.now in
    let refused = rw c.in-None.is at c.in_ok-matches.ensures in
    λ seed vertices edges named. refused (subst (λ (a : App). takes a words ≡ true) (sym c.in_ok-make_form.ensures) (make_taken words seed vertices edges named))
