-- What clap makes of the one word of `plain`.
use Rattle.std.proofs.Common.{ℕ, ◌≡◌, ◌==◌, ◌≤◌, refl, ap, sym, subst, ◌∙◌, codes, true, false, List, Option, Some, None, [], ◌∷◌, length, arith}
use Rattle.std.specs.Prelude.{MatchOption, slice_get}
use Rattle.std.specs.List.{onto_first, slice_split}
use Rattle.std.specs.Str.{bytes_eq, chars}
use Rattle.std.proofs.lemmas.Bool.{ne_eqb}
use Rattle.clap.proofs.OnLiterals.{clap_on_literals}
use Rattle.clap.specs.Faults.{fault_of}
use Rattle.clap.specs.Lexer.{long_of, short_of}
use Rattle.clap.specs.Simple.{matches_of}
use Rattle.clap.specs.Takes.{takes}
use Rattle.clap.specs.Walk.{Row, Text, first_of}
use Rattle.pgas_top.specs.Commands.{AreSources, NamePlain, Plain, is_comma, request_of}
use Rattle.pgas_top.specs.declared.commands.Command.{Command}
use Rattle.pgas_top.specs.Forms.{plain_form_app}
use Rattle.pgas_top.proofs.ClapWords.{Class, class_of, dashed, long, plain, short}

one_taken : (d : ℕ) (ds : Text) → (d == 45) ≡ false → takes plain_form_app ((d ∷ ds) ∷ []) ≡ true
unfolding clap_on_literals
one_taken d ds other = rw (other, other) refl

-- a word that lists sources begins with no dash
none_empty : (parts : List Text) (sources : List ℕ) → AreSources ([] ∷ parts) sources → ⊥
none_empty parts [] h = h
none_empty parts (source ∷ sources) h = omega (arith, h.0.0.0)

none_dashed : (parts : List Text) (sources : List ℕ) → AreSources (onto_first 45 parts) sources → ⊥
none_dashed [] [] h = h
none_dashed [] (source ∷ sources) h = omega (arith, h.0.0.1.0)
none_dashed (part ∷ parts) [] h = h
none_dashed (part ∷ parts) (source ∷ sources) h = omega (arith, h.0.0.1.0)

starts : (word : Text) (sources : List ℕ) → AreSources (slice_split is_comma word) sources → (d : ℕ) × (ds : Text) × (word ≡ d ∷ ds) × ((d == 45) ≡ false)
starts [] sources h = absurd (none_empty [] sources h)
starts (d ∷ ds) sources h = (d, ds, refl, ne_eqb d 45 (λ dash. none_dashed (slice_split is_comma ds) sources (subst (λ (c : ℕ). AreSources (slice_split is_comma (c ∷ ds)) sources) dash h)))

-- words that name sources are taken
pub plain_taken : (words : List Text) (sources : List ℕ) → NamePlain words sources → takes plain_form_app words ≡ true
plain_taken words sources named =
    let from = starts named.0 sources named.2 in
    subst (λ (ws : List Text). takes plain_form_app ws ≡ true) (sym (named.1 ∙ ap (λ (w : Text). w ∷ []) from.2)) (one_taken from.0 from.1 from.3)

-- no flags are taken
flags_found : (word : Text) → fault_of plain_form_app (word ∷ []) ≡ [] → (x : ℕ) (xs : Text) → bytes_eq word (45 ∷ 45 ∷ []) ≡ false → long_of word ≡ None → short_of word ≡ Some (x ∷ xs) → first_of (codes "sources") (matches_of plain_form_app (word ∷ [])) ≡ Some word
unfolding clap_on_literals
flags_found word none x xs other looks flags = either (slice_get (chars (x ∷ xs)) 0) refl
  where
    either : (c : Option ℕ) → slice_get (chars (x ∷ xs)) 0 ≡ c → first_of (codes "sources") (matches_of plain_form_app (word ∷ [])) ≡ Some word
    either None is = rw (other, looks, flags, is) refl
    either (Some c) is = let bad = rw (other, looks, flags, is) at none in cc

-- and a word that is taken is found
pub plain_found : (word : Text) → fault_of plain_form_app (word ∷ []) ≡ [] → first_of (codes "sources") (matches_of plain_form_app (word ∷ [])) ≡ Some word
unfolding clap_on_literals
plain_found word none = by_class (class_of word)
  where
    by_class : Class word → first_of (codes "sources") (matches_of plain_form_app (word ∷ [])) ≡ Some word
    by_class (dashed is) = let bad = rw is at none in cc
    by_class (long text is other looks) = let bad = rw (other, looks) at none in cc
    by_class (short x xs other looks flags) = flags_found word none x xs other looks flags
    by_class (plain other looks nothing) = rw (other, looks, nothing) refl

-- So the words say what was found.
pub plain_said : (words : List Text) (word : Text) (rows : List Row) → words ≡ word ∷ [] → first_of (codes "sources") rows ≡ Some word → (answer : Option Command)
    → MatchOption answer ((text : Text) (sources : List ℕ) → first_of (codes "sources") rows ≡ Some text → AreSources (slice_split is_comma text) sources → length sources ≤ 64 → ⊥)
    (λ command. (text : Text) × (sources : List ℕ) × (first_of (codes "sources") rows ≡ Some text) × (request_of command ≡ Plain sources) × AreSources (slice_split is_comma text) sources × (length sources ≤ 64))
    → MatchOption answer ((sources : List ℕ) → NamePlain words sources → ⊥) (λ command. (sources : List ℕ) × (request_of command ≡ Plain sources) × NamePlain words sources)
plain_said words word rows are found None none = λ sources named. let same : named.0 ≡ word = cc in none named.0 sources (found ∙ ap Some (sym same)) named.2 named.3
plain_said words word rows are found (Some command) some = let same : some.0 ≡ word = cc in (some.1, some.3, (some.0, are ∙ ap (λ (w : Text). w ∷ []) (sym same), some.4, some.5))
