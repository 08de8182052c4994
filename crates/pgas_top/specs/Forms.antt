-- The forms of the commands' words, as clap has them.
use Rattle.std.specs.Prelude.{ℕ, ◌<◌, ◌≤◌, ◌^◌, List, Some, true, codes}
use Rattle.clap.specs.Simple.{App, new_app, new_rule, on_top, with_rule}
use Rattle.clap.specs.Walk.{Row, Rule, Text, first_of}
use Rattle.pgas_top.specs.Options.{IsNumberOf}
use Rattle.clap.specs.declared.builder.action.ArgAction.TheVariants.{Set}

-- words of the command alone, and no help
abbrev pub plain_app : Text → App
plain_app name = on_top (λ s. record s { no_binary_name = true; disable_help_flag = true }) (new_app name)

-- a word that has to be there
abbrev pub word_rule : Text → Rule
word_rule name = record (new_rule name) { action = Some Set; required = true }

-- an option that has to be there, with a value
abbrev pub option_rule : Text → Rule
option_rule name = record (word_rule name) { long = Some name }

abbrev pub plain_form_app : App
plain_form_app = with_rule (plain_app (codes "plain")) (word_rule (codes "sources"))

abbrev pub make_form_app : App
make_form_app = with_rule (with_rule (with_rule (plain_app (codes "make")) (option_rule (codes "seed"))) (option_rule (codes "vertices"))) (option_rule (codes "edges"))

-- the numbers that the options of `make` have in what clap found, within their bounds
pub record AreNumbers (rows : List Row) (seed vertices edges : ℕ) : Type 0 where
  pub seed_is : IsNumberOf (first_of (codes "seed") rows) seed
  pub seed_fits : seed < 2 ^ 64
  pub vertices_are : IsNumberOf (first_of (codes "vertices") rows) vertices
  pub some_vertices : 0 < vertices
  pub few_vertices : vertices ≤ 2 ^ 24
  pub edges_are : IsNumberOf (first_of (codes "edges") rows) edges
  pub few_edges : edges ≤ 2 ^ 25
