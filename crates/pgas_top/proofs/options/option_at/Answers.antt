use Rattle.std.proofs.Common.{◌≡◌, ℕ, ◌+◌, ◌<◌, true, false, List, ◌∷◌, None, Some, length, get_or, drop, map, ap, ap₂, sym, ◌∙◌, arith}
use Rattle.std.specs.String.{string_bytes}
use Rattle.std.specs.List.{position_or_len}
use Rattle.std.proofs.lemmas.Bool.{lt-ltb, le-ltb}
use Rattle.std.proofs.lemmas.List.{get_or-map, length-map}
use Rattle.std.proofs.lemmas.Str.Pattern.{split_once_first}
use Rattle.pgas_top.specs.Options.{is_equals, has_equals, options_of}
use Rattle.pgas_top.proofs.OptionLemmas.{option_one, option_two}
use Rattle.pgas_top.proofs.options.option_at.Goals as goal

pub returns-in-Some-clause-option : goal.returns-in-Some-clause-option
returns-in-Some-clause-option c =
    let words = map string_bytes c.args.words.now in
    let word = c.as_str-word.result.now in
    let within : c.args.at < length words = omega (arith, c.requires, length-map c.args.words.now string_bytes) in
    let is : get_or words c.args.at word ≡ word = get_or-map string_bytes c.args.words.now c.args.at c.index-words-at.result word c.requires ∙ (ap string_bytes (sym c.index-words-at.is) ∙ sym c.as_str-word.ensures.value) in
    let cut = split_once_first 61 word (Some (c.in-Some.name, c.in-Some.value)) c.in-Some.ensures.cases (omega arith) in
    let has : has_equals word ≡ true = lt-ltb (position_or_len is_equals word) (length word) cut.0 in
    option_one words c.args.at word within is has
    ∙ ap₂ (λ (name value : List ℕ). record { name = name; value = value } ∷ options_of (drop (c.args.at + 1) words)) (sym cut.1) (sym cut.2)

pub returns-then-next-words-clause-option : goal.returns-then-next-words-clause-option
returns-then-next-words-clause-option c =
    let words = map string_bytes c.args.words.now in
    let word = c.as_str-word.result.now in
    let value = c.as_str.result.now in
    let within : c.args.at + 1 < length words = omega (arith, c.if-next-words.true, length-map c.args.words.now string_bytes) in
    let is : get_or words c.args.at word ≡ word = get_or-map string_bytes c.args.words.now c.args.at c.index-words-at.result word c.requires ∙ (ap string_bytes (sym c.index-words-at.is) ∙ sym c.as_str-word.ensures.value) in
    let next : get_or words (c.args.at + 1) value ≡ value = get_or-map string_bytes c.args.words.now (c.args.at + 1) c.index-words-next.result value c.if-next-words.true ∙ (ap string_bytes (sym c.index-words-next.is) ∙ sym c.as_str.ensures.value) in
    let none = split_once_first 61 word None c.in_default.ensures.cases (omega arith) in
    let hasnt : has_equals word ≡ false = le-ltb (position_or_len is_equals word) (length word) (omega (arith, none)) in
    option_two words c.args.at word value within is next hasnt
