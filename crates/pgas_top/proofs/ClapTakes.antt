-- Clap takes the words that name a command.
use Rattle.std.proofs.Common.{ℕ, ◌≡◌, ◌==◌, ◌<◌, refl, ap, sym, subst, ◌∙◌, codes, true, false, List, [], ◌∷◌, ◌++◌, length, arith, inl, inr}
use Rattle.std.specs.Prelude.{fold, ◌⊎◌}
use Rattle.std.specs.Char.{digit_value}
use Rattle.std.specs.Str.Parse.{IsNumeral}
use Rattle.std.proofs.lemmas.Bool.{ne_eqb}
use Rattle.clap.specs.Walk.{Row, Text, nothing_held, with_default, has_row}
use Rattle.clap.specs.Takes.{is_valid, takes}
use Rattle.pgas_top.specs.Options.{HasNumber, IsNumberWord, Setting, options_of}
use Rattle.pgas_top.specs.Commands.{NameMake}
use Rattle.pgas_top.specs.Forms.{make_form_app}
use Rattle.pgas_top.proofs.ClapSteps.{Edges, Ready, Seed, Vertices, Which, name_of, top, with_option}
use Rattle.pgas_top.proofs.ClapGoes.{Fits, Goes, goes}

-- the first byte of a number is no dash
pub begins : (word : Text) → IsNumeral 10 word → (d : ℕ) × (ds : Text) × (word ≡ d ∷ ds) × ((d == 45) ≡ false)
begins [] is = absurd (omega (arith, is.0))
begins (d ∷ ds) is = (d, ds, refl, ne_eqb d 45 (λ dash. let low : digit_value d < 10 = is.1.0 in absurd (omega (arith, subst (λ (c : ℕ). digit_value c < 10) dash low))))

-- an option with a number for its value
record IsOption (o : Setting) (k : Which) : Type 0 where
  name : o.name ≡ codes "--" ++ name_of k
  number : ℕ
  is : IsNumberWord o.value number

whole : (words : List Text) (end : List Row) → Goes words nothing_held end → is_valid top (fold with_default end top.rules) false ≡ true → takes make_form_app words ≡ true
whole words end goes valid = rw (goes.1.leads, goes.1.passes, goes.2.passes, goes.2.are, valid) refl

nothing_ready : Ready nothing_held []
nothing_ready = record { passes = refl; are = refl }

-- Three options, none of which is another.
record AreApart (k j i : Which) : Type 0 where
  second : (v : Text) → has_row (name_of j) (with_option k v []) ≡ false
  third : (v w : Text) → has_row (name_of i) (with_option j w (with_option k v [])) ≡ false
  valid : (v w x : Text) → is_valid top (fold with_default (with_option i x (with_option j w (with_option k v []))) top.rules) false ≡ true

in_order : (k j i : Which) (first second third : Setting) → IsOption first k → IsOption second j → IsOption third i → AreApart k j i → (words : List Text) → options_of words ≡ first ∷ second ∷ third ∷ [] → takes make_form_app words ≡ true
in_order k j i first second third one two three apart words are =
    let a = begins first.value one.is.0 in
    let b = begins second.value two.is.0 in
    let c = begins third.value three.is.0 in
    let v = a.0 ∷ a.1 in
    let w = b.0 ∷ b.1 in
    let x = c.0 ∷ c.1 in
    let end = with_option i x (with_option j w (with_option k v [])) in
    let fits : Fits (first ∷ second ∷ third ∷ []) [] end =
    (k, one.name, a.0, a.1, a.2, a.3, first_fresh k, (j, two.name, b.0, b.1, b.2, b.3, apart.second v, (i, three.name, c.0, c.1, c.2, c.3, apart.third v w, refl))) in
    whole words end (goes words nothing_held [] end nothing_ready (subst (λ (os : List Setting). Fits os [] end) (sym are) fits)) (apart.valid v w x)
  where
    first_fresh : (k : Which) → has_row (name_of k) [] ≡ false
    first_fresh k = refl

-- where an option stands
Stands : Setting → Setting → Setting → Which → Type 0
Stands first second third k = IsOption first k ⊎ (IsOption second k ⊎ IsOption third k)

stands : (first second third : Setting) (k : Which) (n : ℕ) → HasNumber (first ∷ second ∷ third ∷ []) (codes "--" ++ name_of k) n → Stands first second third k
unfolding Stands
stands first second third k n (inl here) = inl (record { name = here.0; number = n; is = here.1 })
stands first second third k n (inr (other, inl here)) = inr (inl (record { name = here.0; number = n; is = here.1 }))
stands first second third k n (inr (other, inr (also, inl here))) = inr (inr (record { name = here.0; number = n; is = here.1 }))
stands first second third k n (inr (other, inr (also, inr none))) = absurd none.1

-- no option has two names
seed_or_vertices : (o : Setting) → IsOption o Seed → IsOption o Vertices → ⊥
seed_or_vertices o a b = omega (arith, ap length (sym a.name ∙ b.name))

seed_or_edges : (o : Setting) → IsOption o Seed → IsOption o Edges → ⊥
seed_or_edges o a b = omega (arith, ap length (sym a.name ∙ b.name))

vertices_or_edges : (o : Setting) → IsOption o Vertices → IsOption o Edges → ⊥
vertices_or_edges o a b = omega (arith, ap length (sym a.name ∙ b.name))

in_any_order : (first second third : Setting) (words : List Text) → options_of words ≡ first ∷ second ∷ third ∷ [] → Stands first second third Seed → Stands first second third Vertices → Stands first second third Edges → takes make_form_app words ≡ true
unfolding Stands
in_any_order first second third words are (inl a) (inl b) c = absurd (seed_or_vertices first a b)
in_any_order first second third words are (inl a) (inr (inl b)) (inl c) = absurd (seed_or_edges first a c)
in_any_order first second third words are (inl a) (inr (inl b)) (inr (inl c)) = absurd (vertices_or_edges second b c)
in_any_order first second third words are (inl a) (inr (inl b)) (inr (inr c)) =
    in_order Seed Vertices Edges first second third a b c (record { second = λ v. refl; third = λ v w. refl; valid = λ v w x. refl }) words are
in_any_order first second third words are (inl a) (inr (inr b)) (inl c) = absurd (seed_or_edges first a c)
in_any_order first second third words are (inl a) (inr (inr b)) (inr (inl c)) =
    in_order Seed Edges Vertices first second third a c b (record { second = λ v. refl; third = λ v w. refl; valid = λ v w x. refl }) words are
in_any_order first second third words are (inl a) (inr (inr b)) (inr (inr c)) = absurd (vertices_or_edges third b c)
in_any_order first second third words are (inr (inl a)) (inl b) (inl c) = absurd (vertices_or_edges first b c)
in_any_order first second third words are (inr (inl a)) (inl b) (inr (inl c)) = absurd (seed_or_edges second a c)
in_any_order first second third words are (inr (inl a)) (inl b) (inr (inr c)) =
    in_order Vertices Seed Edges first second third b a c (record { second = λ v. refl; third = λ v w. refl; valid = λ v w x. refl }) words are
in_any_order first second third words are (inr (inl a)) (inr (inl b)) c = absurd (seed_or_vertices second a b)
in_any_order first second third words are (inr (inl a)) (inr (inr b)) (inl c) =
    in_order Edges Seed Vertices first second third c a b (record { second = λ v. refl; third = λ v w. refl; valid = λ v w x. refl }) words are
in_any_order first second third words are (inr (inl a)) (inr (inr b)) (inr (inl c)) = absurd (seed_or_edges second a c)
in_any_order first second third words are (inr (inl a)) (inr (inr b)) (inr (inr c)) = absurd (vertices_or_edges third b c)
in_any_order first second third words are (inr (inr a)) (inl b) (inl c) = absurd (vertices_or_edges first b c)
in_any_order first second third words are (inr (inr a)) (inl b) (inr (inl c)) =
    in_order Vertices Edges Seed first second third b c a (record { second = λ v. refl; third = λ v w. refl; valid = λ v w x. refl }) words are
in_any_order first second third words are (inr (inr a)) (inl b) (inr (inr c)) = absurd (seed_or_edges third a c)
in_any_order first second third words are (inr (inr a)) (inr (inl b)) (inl c) =
    in_order Edges Vertices Seed first second third c b a (record { second = λ v. refl; third = λ v w. refl; valid = λ v w x. refl }) words are
in_any_order first second third words are (inr (inr a)) (inr (inl b)) (inr (inl c)) = absurd (vertices_or_edges second b c)
in_any_order first second third words are (inr (inr a)) (inr (inl b)) (inr (inr c)) = absurd (seed_or_edges third a c)
in_any_order first second third words are (inr (inr a)) (inr (inr b)) c = absurd (seed_or_vertices third a b)

-- the words of `make` are taken
pub make_taken : (words : List Text) (seed vertices edges : ℕ) → NameMake words seed vertices edges → takes make_form_app words ≡ true
make_taken words seed vertices edges named = three (options_of words) refl named.three named.seed_is named.vertices_are named.edges_are
  where
    three : (options : List Setting) → options_of words ≡ options → length options ≡ 3 → HasNumber options (codes "--seed") seed → HasNumber options (codes "--vertices") vertices → HasNumber options (codes "--edges") edges → takes make_form_app words ≡ true
    three [] are count a b c = absurd (omega (arith, count))
    three (first ∷ []) are count a b c = absurd (omega (arith, count))
    three (first ∷ second ∷ []) are count a b c = absurd (omega (arith, count))
    three (first ∷ second ∷ third ∷ []) are count a b c = in_any_order first second third words are (stands first second third Seed seed a) (stands first second third Vertices vertices b) (stands first second third Edges edges c)
    three (first ∷ second ∷ third ∷ more ∷ rest) are count a b c = absurd (omega (arith, count))
