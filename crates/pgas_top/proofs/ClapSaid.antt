-- What words that clap takes say.
use Rattle.std.proofs.Common.{ℕ, ◌≡◌, ◌&&◌, refl, ap, ap₂, sym, subst, ◌∙◌, codes, not, Bool, true, false, List, Option, Some, None, [], ◌∷◌, ◌++◌, cond, length, map, arith, inl, inr, length-append, append-nil, ◌↔◌}
use Rattle.std.specs.Prelude.{MatchOption, fold, is_some}
use Rattle.std.specs.List.{list_any}
use Rattle.std.proofs.lemmas.Bool.{cond-true, lt-ltb}
use Rattle.std.proofs.lemmas.List.{length-map}
use Rattle.clap.specs.Faults.{check_fault, defaults_fault, entered_fault, fault_of, settle_fault, walk_fault}
use Rattle.clap.specs.Simple.{built, entered, matches_of}
use Rattle.clap.specs.Takes.{is_given}
use Rattle.clap.specs.Walk.{Row, Text, finished, first_of, has_row, nothing_held, settled, walk, with_default}
use Rattle.pgas_top.specs.Commands.{Make, NameMake, request_of}
use Rattle.pgas_top.specs.declared.commands.Command.{Command}
use Rattle.pgas_top.specs.Forms.{AreNumbers}
use Rattle.pgas_top.specs.Options.{HasNumber, IsNumberOf, Setting, has_equals, options_of, word_option}
use Rattle.pgas_top.specs.Forms.{make_form_app}
use Rattle.pgas_top.proofs.ClapSteps.{Edges, Seed, Vertices, Which, at, name_of, top, with_option}
use Rattle.pgas_top.proofs.ClapFaults.{both_none}
use Rattle.pgas_top.proofs.ClapReads.{Clean, Fresh, Given, reads, tail_of, words_of}

abbrev pub same : Which → Which → Bool
same Seed Seed = true
same Vertices Vertices = true
same Edges Edges = true
same _ _ = false

-- ---- the words as options

abbrev pub setting : Given → Setting
setting g = record { name = codes "--" ++ name_of g.which; value = g.value }

first_equals : (word : Text) (rest : List Text) → has_equals word ≡ true → options_of (word ∷ rest) ≡ word_option word ∷ options_of rest
first_equals word [] has = refl
first_equals word (next ∷ rest) has = cond-true (has_equals word) (word_option word ∷ options_of (next ∷ rest)) _ has

joined_equals : (k : Which) (v : Text) → has_equals (codes "--" ++ name_of k ++ codes "=" ++ v) ≡ true
joined_equals Seed v = lt-ltb 6 (length (codes "--seed=" ++ v)) (omega arith)
joined_equals Vertices v = lt-ltb 10 (length (codes "--vertices=" ++ v)) (omega arith)
joined_equals Edges v = lt-ltb 7 (length (codes "--edges=" ++ v)) (omega arith)

joined_option : (k : Which) (v : Text) → word_option (codes "--" ++ name_of k ++ codes "=" ++ v) ≡ record { name = codes "--" ++ name_of k; value = v }
joined_option Seed v = refl
joined_option Vertices v = refl
joined_option Edges v = refl

parted_option : (k : Which) (v : Text) (rest : List Text) → options_of ((codes "--" ++ name_of k) ∷ v ∷ rest) ≡ record { name = codes "--" ++ name_of k; value = v } ∷ options_of rest
parted_option Seed v rest = refl
parted_option Vertices v rest = refl
parted_option Edges v rest = refl

options_are : (given : List Given) (ts : List Text) → options_of (words_of given ++ ts) ≡ map setting given ++ options_of ts
options_are [] ts = refl
options_are (g ∷ gs) ts = either g.joined (options_are gs ts)
  where
    either : (b : Bool) → options_of (words_of gs ++ ts) ≡ map setting gs ++ options_of ts
        → options_of (cond b ((codes "--" ++ name_of g.which ++ codes "=" ++ g.value) ∷ words_of gs) ((codes "--" ++ name_of g.which) ∷ g.value ∷ words_of gs) ++ ts) ≡ setting g ∷ (map setting gs ++ options_of ts)
    either true rest = first_equals (codes "--" ++ name_of g.which ++ codes "=" ++ g.value) (words_of gs ++ ts) (joined_equals g.which g.value) ∙ ap₂ (λ (o : Setting) (os : List Setting). o ∷ os) (joined_option g.which g.value) rest
    either false rest = parted_option g.which g.value (words_of gs ++ ts) ∙ ap (λ (os : List Setting). setting g ∷ os) rest

-- ---- what a parse with no fault tells

entered_none : (stop : Option (Text × List Text)) → entered (built make_form_app) stop ≡ None
entered_none None = refl
entered_none (Some p) = refl

abbrev pub lacks : List Row → Bool
lacks rows = list_any (λ a. a.required && not (is_given a.id rows)) top.rules

complete : (rows : List Row) → check_fault top rows false ≡ [] → lacks rows ≡ false
complete rows none = either (lacks rows) refl
  where
    either : (b : Bool) → lacks rows ≡ b → lacks rows ≡ false
    either true is = let bad = rw is at none in cc
    either false is = is

pub record Faultless (words : List Text) : Type 0 where
  pub clean : Clean (at nothing_held) words
  pub whole : lacks (finished top.rules (walk top.rules [] nothing_held words).held) ≡ false

pub faultless : (words : List Text) → fault_of make_form_app words ≡ [] → Faultless words
faultless words none =
    let w = walk top.rules [] nothing_held words in
    let below = entered_fault (built make_form_app) w.stopped in
    let has = is_some (entered (built make_form_app) w.stopped) in
    let rows = finished top.rules w.held in
    let one = both_none (walk_fault top [] (at nothing_held) words) _ none in
    let two = both_none below _ one.1 in
    let three = both_none (settle_fault top.rules false w.held) _ two.1 in
    let four = both_none (defaults_fault (settled top.rules w.held).rows top.rules) (check_fault top rows has) three.1 in
    record {
      clean = record { goes = one.0; settles = three.0 };
      whole = complete rows (subst (λ (o : Option (Text × List Row)). check_fault top rows (is_some o) ≡ []) (entered_none w.stopped) four.1);
    }

-- ---- three options, each once

-- the value of the first of this name
abbrev pub value_of : Which → List Given → Option Text
value_of k [] = None
value_of k (g ∷ gs) = cond (same k g.which) (Some g.value) (value_of k gs)

-- the three in some order
data Order : Which → Which → Which → Type 0 where
  seed_vertices_edges : Order Seed Vertices Edges
  seed_edges_vertices : Order Seed Edges Vertices
  vertices_seed_edges : Order Vertices Seed Edges
  vertices_edges_seed : Order Vertices Edges Seed
  edges_seed_vertices : Order Edges Seed Vertices
  edges_vertices_seed : Order Edges Vertices Seed

order_of : (k j i : Which) (v w : Text) → has_row (name_of j) (with_option k v []) ≡ false → has_row (name_of i) (with_option j w (with_option k v [])) ≡ false → Order k j i
order_of Seed Seed i v w second third = cc
order_of Seed Vertices Seed v w second third = cc
order_of Seed Vertices Vertices v w second third = cc
order_of Seed Vertices Edges v w second third = seed_vertices_edges
order_of Seed Edges Seed v w second third = cc
order_of Seed Edges Vertices v w second third = seed_edges_vertices
order_of Seed Edges Edges v w second third = cc
order_of Vertices Seed Seed v w second third = cc
order_of Vertices Seed Vertices v w second third = cc
order_of Vertices Seed Edges v w second third = vertices_seed_edges
order_of Vertices Vertices i v w second third = cc
order_of Vertices Edges Seed v w second third = vertices_edges_seed
order_of Vertices Edges Vertices v w second third = cc
order_of Vertices Edges Edges v w second third = cc
order_of Edges Seed Seed v w second third = cc
order_of Edges Seed Vertices v w second third = edges_seed_vertices
order_of Edges Seed Edges v w second third = cc
order_of Edges Vertices Seed v w second third = edges_vertices_seed
order_of Edges Vertices Vertices v w second third = cc
order_of Edges Vertices Edges v w second third = cc
order_of Edges Edges i v w second third = cc

two_lack : (k j : Which) (v w : Text) → lacks (fold with_default (with_option j w (with_option k v [])) top.rules) ≡ true
two_lack Seed Seed v w = refl
two_lack Seed Vertices v w = refl
two_lack Seed Edges v w = refl
two_lack Vertices Seed v w = refl
two_lack Vertices Vertices v w = refl
two_lack Vertices Edges v w = refl
two_lack Edges Seed v w = refl
two_lack Edges Vertices v w = refl
two_lack Edges Edges v w = refl

one_lacks : (k : Which) (v : Text) → lacks (fold with_default (with_option k v []) top.rules) ≡ true
one_lacks Seed v = refl
one_lacks Vertices v = refl
one_lacks Edges v = refl

no_fourth : {k j i : Which} (h : Which) (v w x : Text) → Order k j i → has_row (name_of h) (with_option i x (with_option j w (with_option k v []))) ≡ false → ⊥
no_fourth Seed v w x seed_vertices_edges fresh = cc
no_fourth Vertices v w x seed_vertices_edges fresh = cc
no_fourth Edges v w x seed_vertices_edges fresh = cc
no_fourth Seed v w x seed_edges_vertices fresh = cc
no_fourth Vertices v w x seed_edges_vertices fresh = cc
no_fourth Edges v w x seed_edges_vertices fresh = cc
no_fourth Seed v w x vertices_seed_edges fresh = cc
no_fourth Vertices v w x vertices_seed_edges fresh = cc
no_fourth Edges v w x vertices_seed_edges fresh = cc
no_fourth Seed v w x vertices_edges_seed fresh = cc
no_fourth Vertices v w x vertices_edges_seed fresh = cc
no_fourth Edges v w x vertices_edges_seed fresh = cc
no_fourth Seed v w x edges_seed_vertices fresh = cc
no_fourth Vertices v w x edges_seed_vertices fresh = cc
no_fourth Edges v w x edges_seed_vertices fresh = cc
no_fourth Seed v w x edges_vertices_seed fresh = cc
no_fourth Vertices v w x edges_vertices_seed fresh = cc
no_fourth Edges v w x edges_vertices_seed fresh = cc

all_found : (g h i : Given) → Order g.which h.which i.which → (k : Which) → first_of (name_of k) (fold with_default (with_option i.which i.value (with_option h.which h.value (with_option g.which g.value []))) top.rules) ≡ value_of k (g ∷ h ∷ i ∷ [])
all_found g h i order k = found order k
  where
    found : {a b c : Which} → Order a b c → (k : Which) → first_of (name_of k) (fold with_default (with_option c i.value (with_option b h.value (with_option a g.value []))) top.rules)
        ≡ cond (same k a) (Some g.value) (cond (same k b) (Some h.value) (cond (same k c) (Some i.value) None))
    found seed_vertices_edges Seed = refl
    found seed_vertices_edges Vertices = refl
    found seed_vertices_edges Edges = refl
    found seed_edges_vertices Seed = refl
    found seed_edges_vertices Vertices = refl
    found seed_edges_vertices Edges = refl
    found vertices_seed_edges Seed = refl
    found vertices_seed_edges Vertices = refl
    found vertices_seed_edges Edges = refl
    found vertices_edges_seed Seed = refl
    found vertices_edges_seed Vertices = refl
    found vertices_edges_seed Edges = refl
    found edges_seed_vertices Seed = refl
    found edges_seed_vertices Vertices = refl
    found edges_seed_vertices Edges = refl
    found edges_vertices_seed Seed = refl
    found edges_vertices_seed Vertices = refl
    found edges_vertices_seed Edges = refl

pub record Three (given : List Given) (end : List Row) : Type 0 where
  pub count : length given ≡ 3
  pub found : (k : Which) → first_of (name_of k) (fold with_default end top.rules) ≡ value_of k given

three : (given : List Given) (end : List Row) → Fresh given [] end → lacks (fold with_default end top.rules) ≡ false → Three given end
three [] end fresh whole = let bad = rw (← fresh) at whole in cc
three (g ∷ []) end fresh whole = let bad : true ≡ false = sym (one_lacks g.which g.value) ∙ (ap (λ (rows : List Row). lacks (fold with_default rows top.rules)) fresh.1 ∙ whole) in cc
three (g ∷ h ∷ []) end fresh whole = let bad : true ≡ false = sym (two_lack g.which h.which g.value h.value) ∙ (ap (λ (rows : List Row). lacks (fold with_default rows top.rules)) fresh.1.1 ∙ whole) in cc
three (g ∷ h ∷ i ∷ []) end fresh whole =
    let order = order_of g.which h.which i.which g.value h.value fresh.1.0 fresh.1.1.0 in
    subst (Three (g ∷ h ∷ i ∷ [])) fresh.1.1.1 (record { count = refl; found = all_found g h i order })
three (g ∷ h ∷ i ∷ j ∷ rest) end fresh whole =
    let order = order_of g.which h.which i.which g.value h.value fresh.1.0 fresh.1.1.0 in
    absurd (no_fourth j.which g.value h.value i.value order fresh.1.1.1.0)

-- ---- what the words say

names_apart : (k j : Which) → same k j ≡ false → codes "--" ++ name_of j ≡ codes "--" ++ name_of k → ⊥
names_apart Seed Seed other is = cc
names_apart Seed Vertices other is = omega (arith, ap length is)
names_apart Seed Edges other is = omega (arith, ap length is)
names_apart Vertices Seed other is = omega (arith, ap length is)
names_apart Vertices Vertices other is = cc
names_apart Vertices Edges other is = omega (arith, ap length is)
names_apart Edges Seed other is = omega (arith, ap length is)
names_apart Edges Vertices other is = omega (arith, ap length is)
names_apart Edges Edges other is = cc

names_same : (k j : Which) → same k j ≡ true → codes "--" ++ name_of j ≡ codes "--" ++ name_of k
names_same Seed Seed is = refl
names_same Seed Vertices is = cc
names_same Seed Edges is = cc
names_same Vertices Seed is = cc
names_same Vertices Vertices is = refl
names_same Vertices Edges is = cc
names_same Edges Seed is = cc
names_same Edges Vertices is = cc
names_same Edges Edges is = refl

number_of : (k : Which) (given : List Given) (n : ℕ) → HasNumber (map setting given) (codes "--" ++ name_of k) n ↔ IsNumberOf (value_of k given) n
number_of k [] n = ((λ h. h), (λ h. h))
number_of k (g ∷ gs) n = either (same k g.which) refl (number_of k gs n)
  where
    either : (b : Bool) → same k g.which ≡ b → HasNumber (map setting gs) (codes "--" ++ name_of k) n ↔ IsNumberOf (value_of k gs) n → HasNumber (setting g ∷ map setting gs) (codes "--" ++ name_of k) n ↔ IsNumberOf (cond b (Some g.value) (value_of k gs)) n
    either true is rest = ((λ h. elim h [ inl here ↦ here.1 | inr other ↦ absurd (other.0 (names_same k g.which is)) ]), (λ number. inl (names_same k g.which is, number)))
    either false is rest = ((λ h. elim h [ inl here ↦ absurd (names_apart k g.which is here.0) | inr other ↦ rest.0 other.1 ]), (λ number. inr (names_apart k g.which is, rest.1 number)))

-- Words that clap takes, and that are three options, have the numbers that clap finds.
pub said : (words : List Text) → fault_of make_form_app words ≡ [] → length (options_of words) ≡ 3 → (k : Which) (n : ℕ) → HasNumber (options_of words) (codes "--" ++ name_of k) n ↔ IsNumberOf (first_of (name_of k) (matches_of make_form_app words)) n
said words none count k n =
    let told = faultless words none in
    let read = reads words [] None told.clean in
    let rows : finished top.rules (walk top.rules [] nothing_held words).held ≡ fold with_default read.end top.rules = ap (λ (rs : List Row). fold with_default rs top.rules) read.rows_are in
    let are = three read.given read.end read.fresh (ap lacks (sym rows) ∙ told.whole) in
    let options : options_of words ≡ map setting read.given ++ options_of (tail_of read.tail) = ap options_of read.are ∙ options_are read.given (tail_of read.tail) in
    let found : first_of (name_of k) (matches_of make_form_app words) ≡ value_of k read.given = ap (first_of (name_of k)) rows ∙ are.found k in
    let plain : options_of words ≡ map setting read.given = no_tail read.tail options (omega (arith, count, ap length options, length-append (map setting read.given) (options_of (tail_of read.tail)), length-map read.given setting, are.count)) in
    subst (λ (o : Option Text). HasNumber (options_of words) (codes "--" ++ name_of k) n ↔ IsNumberOf o n) (sym found)
    (subst (λ (os : List Setting). HasNumber os (codes "--" ++ name_of k) n ↔ IsNumberOf (value_of k read.given) n) (sym plain) (number_of k read.given n))
  where
    no_tail : {given : List Setting} (tail : Bool) → options_of words ≡ given ++ options_of (tail_of tail) → length (options_of (tail_of tail)) ≡ 0 → options_of words ≡ given
    no_tail true options none = absurd (omega (arith, none))
    no_tail {given} false options none = options ∙ append-nil given

-- So the words say what was found.
module _ (words : List Text) (rows : List Row) (three : length (options_of words) ≡ 3) (said : (k : Which) (n : ℕ) → HasNumber (options_of words) (codes "--" ++ name_of k) n ↔ IsNumberOf (first_of (name_of k) rows) n) where
  found_named : (seed vertices edges : ℕ) → AreNumbers rows seed vertices edges → NameMake words seed vertices edges
  found_named seed vertices edges are = record {
    three = three;
    seed_is = (said Seed seed).1 are.seed_is;
    seed_fits = are.seed_fits;
    vertices_are = (said Vertices vertices).1 are.vertices_are;
    some_vertices = are.some_vertices;
    few_vertices = are.few_vertices;
    edges_are = (said Edges edges).1 are.edges_are;
    few_edges = are.few_edges;
  }

  named_found : (seed vertices edges : ℕ) → NameMake words seed vertices edges → AreNumbers rows seed vertices edges
  named_found seed vertices edges named = record {
    seed_is = (said Seed seed).0 named.seed_is;
    seed_fits = named.seed_fits;
    vertices_are = (said Vertices vertices).0 named.vertices_are;
    some_vertices = named.some_vertices;
    few_vertices = named.few_vertices;
    edges_are = (said Edges edges).0 named.edges_are;
    few_edges = named.few_edges;
  }

  pub make_said : (answer : Option Command)
      → MatchOption answer ((seed vertices edges : ℕ) → AreNumbers rows seed vertices edges → ⊥) (λ command. (seed : ℕ) × (vertices : ℕ) × (edges : ℕ) × (request_of command ≡ Make seed vertices edges) × AreNumbers rows seed vertices edges)
      → MatchOption answer ((seed vertices edges : ℕ) → NameMake words seed vertices edges → ⊥) (λ command. (seed : ℕ) × (vertices : ℕ) × (edges : ℕ) × (request_of command ≡ Make seed vertices edges) × NameMake words seed vertices edges)
  make_said None none = λ seed vertices edges named. none seed vertices edges (named_found seed vertices edges named)
  make_said (Some command) some = (some.0, some.1, some.2, some.3, found_named some.0 some.1 some.2 some.4)
