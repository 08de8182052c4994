use Rattle.std.proofs.Common.{◌≡◌, ◌≤◌, ◌∙◌, ℕ, List, Option, None, Some, MatchOption, subst, sym}
use Rattle.clap.proofs.WalkLemmas.{first_value-rows}
use Rattle.clap.specs.Walk.{first_of, rows_of}
use Rattle.clap.specs.Words.{found_of}
use Rattle.pgas_top.specs.Options.{IsNumberOf}
use Rattle.pgas_top.proofs.commands.number_of.Goals as goal

pub returns-in-Some : goal.returns-in-Some
returns-in-Some c =
    let found : first_of c.args.name.now (rows_of (found_of c.args.matches.now)) ≡ Some c.in-Some.word.now = sym (first_value-rows (found_of c.args.matches.now) c.args.name.now) ∙ sym c.in-Some.ensures in
    subst (λ (word : Option (List ℕ)). MatchOption c.number.result ((n : ℕ) → IsNumberOf word n → n ≤ c.args.greatest → ⊥) (λ n. IsNumberOf word n × (n ≤ c.args.greatest))) (sym found) c.number.ensures

pub returns-in-None : goal.returns-in-None
returns-in-None c =
    let found : first_of c.args.name.now (rows_of (found_of c.args.matches.now)) ≡ None = sym (first_value-rows (found_of c.args.matches.now) c.args.name.now) ∙ sym c.in-None.ensures in
    λ n number small. subst (λ (word : Option (List ℕ)). IsNumberOf word n) found number
