-- Words over which clap goes without a fault are those of options, and a last `--` may stand behind them.
use Rattle.std.proofs.Common.{◌≡◌, refl, ap, ap₂, sym, subst, ◌∙◌, codes, Bool, true, false, List, Option, Some, [], ◌∷◌, ◌++◌, cond, inl, inr}
use Rattle.std.specs.Prelude.{fold}
use Rattle.std.specs.List.{after_first, before_first}
use Rattle.std.specs.Str.{bytes_eq}
use Rattle.clap.specs.Faults.{settle_fault, turn_fault, walk_fault}
use Rattle.clap.specs.Lexer.{has_byte, long_of, name_and_value}
use Rattle.clap.specs.Walk.{Held, Row, Text, Walk, has_row, settled, walked}
use Rattle.pgas_top.specs.Options.{is_equals}
use Rattle.pgas_top.proofs.ClapSteps.{Edges, Seed, Vertices, Which, after_one, after_two, at, name_of, top, waits, walked_name, walked_one, with_option}
use Rattle.pgas_top.proofs.ClapWords.{Class, class_of, dashed, dashes, known, long, plain, short, with_equals, without_equals}
use Rattle.pgas_top.proofs.ClapFaults.{both_none, held, plain_faults, short_faults, told_name, told_one, told_two, trailing, trailing_faults, trailing_wait_faults, unknown_faults, waited_dashes, waited_long, waited_plain, waited_short, waits_unsettled, walked_dashes}

-- a walk that raises no fault, to its end
pub record Clean (start : Walk) (words : List Text) : Type 0 where
  pub goes : walk_fault top [] start words ≡ []
  pub settles : settle_fault top.rules false (fold (walked top.rules []) start words).held ≡ []

clean_cons : (start : Walk) (word : Text) (words : List Text) → Clean start (word ∷ words) → (turn_fault top [] start word ≡ []) × Clean (walked top.rules [] start word) words
unfolding walk_fault
clean_cons start word words clean =
    let parts = both_none (turn_fault top [] start word) (walk_fault top [] (walked top.rules [] start word) words) clean.goes in
    (parts.0, record { goes = parts.1; settles = clean.settles })

-- an option as it is given: in one word or in two
pub record Given : Type 0 where
  pub which : Which
  pub joined : Bool
  pub value : Text

abbrev pub words_of : List Given → List Text
words_of [] = []
words_of (g ∷ gs) = cond g.joined ((codes "--" ++ name_of g.which ++ codes "=" ++ g.value) ∷ words_of gs) ((codes "--" ++ name_of g.which) ∷ g.value ∷ words_of gs)

-- none is given twice or among the rows; these are the rows with them
abbrev pub Fresh : List Given → List Row → List Row → Type 0
Fresh [] rows end = rows ≡ end
Fresh (g ∷ gs) rows end = (has_row (name_of g.which) rows ≡ false) × Fresh gs (with_option g.which g.value rows) end

abbrev pub tail_of : Bool → List Text
tail_of true = dashes ∷ []
tail_of false = []

pub record Reads (words : List Text) (h : Held) : Type 0 where
  pub given : List Given
  pub tail : Bool
  pub are : words ≡ words_of given ++ tail_of tail
  pub end : List Row
  pub fresh : Fresh given (settled top.rules h).rows end
  pub rows_are : (settled top.rules (fold (walked top.rules []) (at h) words).held).rows ≡ end
  pub settles : settle_fault top.rules false h ≡ []

spelled : (k : Which) (v : Text) → 45 ∷ 45 ∷ (name_of k ++ 61 ∷ v) ≡ codes "--" ++ name_of k ++ codes "=" ++ v
spelled Seed v = refl
spelled Vertices v = refl
spelled Edges v = refl

-- what a word between two options is
idle_long : {R : Type 0} (word text : Text) (words : List Text) (h : Held) → Clean (at h) (word ∷ words) → word ≡ 45 ∷ 45 ∷ text → bytes_eq word dashes ≡ false → long_of word ≡ Some (name_and_value text)
    → ((k : Which) (v : Text) → word ≡ codes "--" ++ name_of k ++ codes "=" ++ v → R) → ((k : Which) → word ≡ codes "--" ++ name_of k → R) → R
idle_long {R} word text words h clean is dash looks one name = elim (known (before_first is_equals text)) [
  | inl found ↦ either found.0 found.1 (has_byte 61 text) refl
  | inr none ↦ absurd (unknown_faults h word (before_first is_equals text) (name_and_value text).1 dash looks none (clean_cons (at h) word words clean).0)
]
  where
    either : (k : Which) → before_first is_equals text ≡ name_of k → (b : Bool) → has_byte 61 text ≡ b → R
    either k named true has = one k (after_first is_equals text) (is ∙ ap (λ (t : Text). 45 ∷ 45 ∷ t) (with_equals text has ∙ ap (λ (t : Text). t ++ 61 ∷ after_first is_equals text) named) ∙ spelled k (after_first is_equals text))
    either k named false has = name k (is ∙ ap (λ (t : Text). 45 ∷ 45 ∷ t) (sym (without_equals text has) ∙ named))

idle_word : {R : Type 0} (word : Text) (words : List Text) (rows : List Row) (pending : Option (Text × List Text)) → Clean (at (held rows pending)) (word ∷ words)
    → ((k : Which) (v : Text) → word ≡ codes "--" ++ name_of k ++ codes "=" ++ v → R) → ((k : Which) → word ≡ codes "--" ++ name_of k → R) → (word ≡ dashes → R) → R
idle_word {R} word words rows pending clean one name dash = either (class_of word)
  where
    either : Class word → R
    either (dashed is) = dash is
    either (long text is other looks) = idle_long word text words (held rows pending) clean is other looks one name
    either (short x xs other looks flags) = absurd (short_faults rows pending word x xs other looks flags (clean_cons (at (held rows pending)) word words clean).0)
    either (plain other looks none) = absurd (plain_faults (held rows pending) word other looks none (clean_cons (at (held rows pending)) word words clean).0)

-- nothing goes behind `--`
idle_dashes : (word : Text) (words : List Text) (h : Held) → Clean (at h) (word ∷ words) → word ≡ dashes → words ≡ []
idle_dashes word [] h clean is = refl
idle_dashes word (next ∷ words) h clean is =
    let after : Clean (trailing (at h)) (next ∷ words) = subst (λ (w : Walk). Clean w (next ∷ words)) (ap (λ (t : Text). walked top.rules [] (at h) t) is ∙ walked_dashes h) (clean_cons (at h) word (next ∷ words) clean).1 in
    absurd (trailing_faults h next (clean_cons (trailing (at h)) next words after).0)

-- a word that is waited for is a value
wait_word : (k : Which) (word : Text) (words : List Text) (rows : List Row) (pending : Option (Text × List Text)) → Clean (waits k (held rows pending)) (word ∷ words) → walked top.rules [] (waits k (held rows pending)) word ≡ at (after_two k word (held rows pending))
wait_word k word words rows pending clean = either (class_of word)
  where
    none : turn_fault top [] (waits k (held rows pending)) word ≡ []
    none = (clean_cons (waits k (held rows pending)) word words clean).0

    trails : word ≡ dashes → (words : List Text) → Clean (waits k (held rows pending)) (word ∷ words) → ⊥
    trails is [] clean = waits_unsettled k (held rows pending) (subst (λ (w : Walk). settle_fault top.rules false w.held ≡ []) (ap (λ (t : Text). walked top.rules [] (waits k (held rows pending)) t) is ∙ waited_dashes k (held rows pending)) clean.settles)
    trails is (next ∷ words) clean =
        let after : Clean (trailing (waits k (held rows pending))) (next ∷ words) = subst (λ (w : Walk). Clean w (next ∷ words)) (ap (λ (t : Text). walked top.rules [] (waits k (held rows pending)) t) is ∙ waited_dashes k (held rows pending)) (clean_cons (waits k (held rows pending)) word (next ∷ words) clean).1 in
        trailing_wait_faults k (held rows pending) next (clean_cons (trailing (waits k (held rows pending))) next words after).0

    either : Class word → walked top.rules [] (waits k (held rows pending)) word ≡ at (after_two k word (held rows pending))
    either (dashed is) = absurd (trails is words clean)
    either (long text is other looks) = absurd (waited_long k (held rows pending) word (name_and_value text).0 (name_and_value text).1 other looks (known (name_and_value text).0) none)
    either (short x xs other looks flags) = waited_short k rows pending word x xs other looks flags none
    either (plain other looks nothing) = waited_plain k (held rows pending) word other looks nothing

-- an option in one word, and then the rest
add_one : (k : Which) (v word : Text) (words : List Text) (rows : List Row) (pending : Option (Text × List Text)) → Clean (at (held rows pending)) (word ∷ words) → word ≡ codes "--" ++ name_of k ++ codes "=" ++ v
    → ((h : Held) → h ≡ after_one k v (held rows pending) → Clean (at h) words → Reads words h) → Reads (word ∷ words) (held rows pending)
add_one k v word words rows pending clean is rest =
    let h = held rows pending in
    let parts = clean_cons (at h) word words clean in
    let step : walked top.rules [] (at h) word ≡ at (after_one k v h) = ap (λ (t : Text). walked top.rules [] (at h) t) is ∙ walked_one k v h in
    let heard = told_one k v h (subst (λ (t : Text). turn_fault top [] (at h) t ≡ []) is parts.0) in
    let more = rest (after_one k v h) refl (subst (λ (w : Walk). Clean w words) step parts.1) in
    record {
      given = record { which = k; joined = true; value = v } ∷ more.given;
      tail = more.tail;
      are = ap₂ (λ (t : Text) (ts : List Text). t ∷ ts) is more.are;
      end = more.end;
      fresh = (heard.1, more.fresh);
      rows_are = ap (λ (w : Walk). (settled top.rules (fold (walked top.rules []) w words).held).rows) step ∙ more.rows_are;
      settles = heard.0;
    }

-- an option in two words, and then the rest
add_two : (k : Which) (word value : Text) (words : List Text) (rows : List Row) (pending : Option (Text × List Text)) → Clean (at (held rows pending)) (word ∷ value ∷ words) → word ≡ codes "--" ++ name_of k
    → ((h : Held) → h ≡ after_two k value (held rows pending) → Clean (at h) words → Reads words h) → Reads (word ∷ value ∷ words) (held rows pending)
add_two k word value words rows pending clean is rest =
    let h = held rows pending in
    let parts = clean_cons (at h) word (value ∷ words) clean in
    let step : walked top.rules [] (at h) word ≡ waits k h = ap (λ (t : Text). walked top.rules [] (at h) t) is ∙ walked_name k h in
    let waiting : Clean (waits k h) (value ∷ words) = subst (λ (w : Walk). Clean w (value ∷ words)) step parts.1 in
    let next : walked top.rules [] (waits k h) value ≡ at (after_two k value h) = wait_word k value words rows pending waiting in
    let more = rest (after_two k value h) refl (subst (λ (w : Walk). Clean w words) next (clean_cons (waits k h) value words waiting).1) in
    record {
      given = record { which = k; joined = false; value = value } ∷ more.given;
      tail = more.tail;
      are = ap₂ (λ (t : Text) (ts : List Text). t ∷ value ∷ ts) is more.are;
      end = more.end;
      fresh = (told_two k value h more.settles, subst (λ (rs : List Row). Fresh more.given rs more.end) (rows_two k value h) more.fresh);
      rows_are = ap (λ (w : Walk). (settled top.rules (fold (walked top.rules []) (walked top.rules [] w value) words).held).rows) step ∙ (ap (λ (w : Walk). (settled top.rules (fold (walked top.rules []) w words).held).rows) next ∙ more.rows_are);
      settles = told_name k h (subst (λ (t : Text). turn_fault top [] (at h) t ≡ []) is parts.0);
    }
  where
    rows_two : (k : Which) (v : Text) (h : Held) → (settled top.rules (after_two k v h)).rows ≡ with_option k v (settled top.rules h).rows
    rows_two Seed v h = refl
    rows_two Vertices v h = refl
    rows_two Edges v h = refl

-- `--` at the end
add_dashes : (word : Text) (words : List Text) (h : Held) → Clean (at h) (word ∷ words) → word ≡ dashes → Reads (word ∷ words) h
add_dashes word words h clean is =
    let none = idle_dashes word words h clean is in
    let step : walked top.rules [] (at h) word ≡ trailing (at h) = ap (λ (t : Text). walked top.rules [] (at h) t) is ∙ walked_dashes h in
    let ends : fold (walked top.rules []) (at h) (word ∷ words) ≡ trailing (at h) = ap (λ (ts : List Text). fold (walked top.rules []) (at h) (word ∷ ts)) none ∙ step in
    record {
      given = [];
      tail = true;
      are = ap₂ (λ (t : Text) (ts : List Text). t ∷ ts) is none;
      end = (settled top.rules h).rows;
      fresh = refl;
      rows_are = ap (λ (w : Walk). (settled top.rules w.held).rows) ends;
      settles = subst (λ (w : Walk). settle_fault top.rules false w.held ≡ []) ends clean.settles;
    }

pub reads : (words : List Text) (rows : List Row) (pending : Option (Text × List Text)) → Clean (at (held rows pending)) words → Reads words (held rows pending)
reads [] rows pending clean = record { given = []; tail = false; are = refl; end = (settled top.rules (held rows pending)).rows; fresh = refl; rows_are = refl; settles = clean.settles }
reads (word ∷ []) rows pending clean =
    idle_word word [] rows pending clean
    (λ k v is. add_one k v word [] rows pending clean is (λ h from now. subst (Reads []) (sym from) (reads [] _ _ (subst (λ (h' : Held). Clean (at h') []) from now))))
    (λ k is. absurd (waits_unsettled k (held rows pending) (subst (λ (w : Walk). settle_fault top.rules false w.held ≡ []) (ap (λ (t : Text). walked top.rules [] (at (held rows pending)) t) is ∙ walked_name k (held rows pending)) clean.settles)))
    (λ is. add_dashes word [] (held rows pending) clean is)
reads (word ∷ next ∷ words) rows pending clean =
    idle_word word (next ∷ words) rows pending clean
    (λ k v is. add_one k v word (next ∷ words) rows pending clean is (λ h from now. subst (Reads (next ∷ words)) (sym from) (reads (next ∷ words) _ _ (subst (λ (h' : Held). Clean (at h') (next ∷ words)) from now))))
    (λ k is. add_two k word next words rows pending clean is (λ h from now. subst (Reads words) (sym from) (reads words _ _ (subst (λ (h' : Held). Clean (at h') words) from now))))
    (λ is. add_dashes word (next ∷ words) (held rows pending) clean is)
