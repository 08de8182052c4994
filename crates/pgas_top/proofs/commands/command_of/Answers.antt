use Rattle.std.proofs.Common.{ℕ, List, ◌∷◌, ap, sym, ◌∙◌, map}
use Rattle.std.specs.String.{string_bytes}
use Rattle.std.proofs.lemmas.Result.{IfOk-weaker}
use Rattle.pgas_top.proofs.Offers.{names_check, names_make, names_plain}
use Rattle.pgas_top.proofs.commands.command_of.Goals as goal

pub returns-in-plain : goal.returns-in-plain
returns-in-plain c =
    let rest = map string_bytes c.in-Some.rest.now in
    let is = ap (map string_bytes) c.in-Some.ensures.cases.0 ∙ ap (λ (w : List ℕ). w ∷ rest) (sym c.as_str.ensures.value ∙ c.in-plain.is) in
    IfOk-weaker c.plain_command.result _ _ (λ named told. names_plain (map string_bytes c.args.words.now) rest named is told) c.plain_command.ensures

pub returns-in-make : goal.returns-in-make
returns-in-make c =
    let rest = map string_bytes c.in-Some.rest.now in
    let is = ap (map string_bytes) c.in-Some.ensures.cases.0 ∙ ap (λ (w : List ℕ). w ∷ rest) (sym c.as_str.ensures.value ∙ c.in-make.is) in
    IfOk-weaker c.make_command.result _ _ (λ named told. names_make (map string_bytes c.args.words.now) rest named is told) c.make_command.ensures

pub returns-in-check : goal.returns-in-check
returns-in-check c =
    let rest = map string_bytes c.in-Some.rest.now in
    let is = ap (map string_bytes) c.in-Some.ensures.cases.0 ∙ ap (λ (w : List ℕ). w ∷ rest) (sym c.as_str.ensures.value ∙ c.in-check.is) in
    names_check (map string_bytes c.args.words.now) rest c.check_command.result is c.check_command.ensures
