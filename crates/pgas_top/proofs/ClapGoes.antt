-- The words of options, as clap meets them.
use Rattle.std.proofs.Common.{ℕ, ◌≡◌, ◌==◌, ◌+◌, refl, ap, sym, subst, ◌∙◌, codes, Bool, true, false, List, [], ◌∷◌, ◌++◌, cond, suc, take, drop, arith, append_assoc}
use Rattle.std.specs.List.{after_first, before_first, position_or_len}
use Rattle.std.proofs.lemmas.Bool.{eqb-true}
use Rattle.clap.specs.Walk.{Held, Row, Text, has_row}
use Rattle.pgas_top.specs.Options.{Setting, has_equals, is_equals, options_of, word_option}
use Rattle.pgas_top.proofs.ClapSteps.{Ready, Runs, Which, after_one, after_two, at, name_of, ready_one, ready_two, runs_cons, runs_none, turn_name, turn_one, turn_value, waits, walked_name, walked_one, walked_value, with_option}

-- a word with something behind its first `=`
cut : (word : Text) (d : ℕ) (ds : Text) → after_first is_equals word ≡ d ∷ ds → word ≡ before_first is_equals word ++ 61 ∷ d ∷ ds
cut [] d ds is = cc
cut (x ∷ xs) d ds is = either (x == 61) refl (cut xs d ds)
  where
    either : (b : Bool) → (x == 61) ≡ b → (after_first is_equals xs ≡ d ∷ ds → xs ≡ before_first is_equals xs ++ 61 ∷ d ∷ ds) → x ∷ xs ≡ before_first is_equals (x ∷ xs) ++ 61 ∷ d ∷ ds
    either true equal rest =
        let here : xs ≡ d ∷ ds = rw equal at is in
        let first : x ≡ 61 = eqb-true x 61 equal in
        rw equal (ap (λ (l : Text). x ∷ l) here ∙ ap (λ (y : ℕ). y ∷ d ∷ ds) first)
    either false other rest =
        let n = position_or_len is_equals xs in
        let step : 1 + n ≡ suc n = omega arith in
        let back : 1 + n + 1 ≡ suc (n + 1) = omega arith in
        let behind : drop (n + 1) xs ≡ d ∷ ds = ap (λ (k : ℕ). drop k (x ∷ xs)) (sym back) ∙ (rw other at is) in
        rw other (ap (λ (l : Text). x ∷ l) (rest behind) ∙ ap (λ (k : ℕ). take k (x ∷ xs) ++ 61 ∷ d ∷ ds) (sym step))

-- The options are of `make`, none is given twice or among the rows, and their values don't begin with a dash. These are the rows with them.
abbrev pub Fits : List Setting → List Row → List Row → Type 0
Fits [] rows end = rows ≡ end
Fits (o ∷ os) rows end = (k : Which) × (o.name ≡ codes "--" ++ name_of k) × (d : ℕ) × (ds : Text) × (o.value ≡ d ∷ ds) × ((d == 45) ≡ false) × (has_row (name_of k) rows ≡ false) × Fits os (with_option k (d ∷ ds) rows) end

-- Clap goes over such words.
abbrev pub Goes : List Text → Held → List Row → Type 0
Goes words h end = (h' : Held) × Runs (at h) words h' × Ready h' end

go_one : (words : List Text) (word : Text) (h : Held) (rows end : List Row) (k : Which) (d : ℕ) (ds : Text) → Ready h rows → has_row (name_of k) rows ≡ false → before_first is_equals word ≡ codes "--" ++ name_of k → after_first is_equals word ≡ d ∷ ds
    → ((h' : Held) → Ready h' (with_option k (d ∷ ds) rows) → Goes words h' end) → Goes (word ∷ words) h end
go_one words word h rows end k d ds ready fresh name value rest =
    let is : word ≡ codes "--" ++ name_of k ++ codes "=" ++ (d ∷ ds) = cut word d ds value ∙ (ap (λ (n : Text). n ++ 61 ∷ d ∷ ds) name ∙ sym (append_assoc (codes "--" ++ name_of k) (codes "=") (d ∷ ds))) in
    let next = after_one k (d ∷ ds) h in
    let more = rest next (ready_one k (d ∷ ds) h rows ready) in (
      more.0,
      subst (λ (w : Text). Runs (at h) (w ∷ words) more.0) (sym is)
          (runs_cons (at h) (at next) _ words more.0 (turn_one k (d ∷ ds) h rows ready fresh) (walked_one k (d ∷ ds) h) more.1),
      more.2,
    )

go_two : (words : List Text) (word : Text) (h : Held) (rows end : List Row) (k : Which) (value : Text) (d : ℕ) (ds : Text) → Ready h rows → has_row (name_of k) rows ≡ false → word ≡ codes "--" ++ name_of k → value ≡ d ∷ ds → (d == 45) ≡ false
    → ((h' : Held) → Ready h' (with_option k (d ∷ ds) rows) → Goes words h' end) → Goes (word ∷ value ∷ words) h end
go_two words word h rows end k value d ds ready fresh name is plain rest =
    let next = after_two k (d ∷ ds) h in
    let more = rest next (ready_two k (d ∷ ds) h rows ready fresh) in (
      more.0,
      subst (λ (w : Text). Runs (at h) (w ∷ value ∷ words) more.0) (sym name) (subst (λ (v : Text). Runs (at h) ((codes "--" ++ name_of k) ∷ v ∷ words) more.0) (sym is)
          (runs_cons (at h) (waits k h) _ ((d ∷ ds) ∷ words) more.0 (turn_name k h rows ready) (walked_name k h)
          (runs_cons (waits k h) (at next) (d ∷ ds) words more.0 (turn_value k d ds h plain) (walked_value k d ds h plain) more.1))),
      more.2,
    )

pub goes : (words : List Text) (h : Held) (rows end : List Row) → Ready h rows → Fits (options_of words) rows end → Goes words h end
goes [] h rows end ready fits = (h, runs_none h, subst (Ready h) fits ready)
goes (word ∷ []) h rows end ready (k, name, d, ds, value, plain, fresh, rest) =
    go_one [] word h rows end k d ds ready fresh name value (λ h' now. goes [] h' _ end now rest)
goes (word ∷ next ∷ words) h rows end ready fits = either (has_equals word) fits (λ h' rows' now more. goes (next ∷ words) h' rows' end now more) (λ h' rows' now more. goes words h' rows' end now more)
  where
    either : (b : Bool) → Fits (cond b (word_option word ∷ options_of (next ∷ words)) (record { name = word; value = next } ∷ options_of words)) rows end
        → ((h' : Held) (rows' : List Row) → Ready h' rows' → Fits (options_of (next ∷ words)) rows' end → Goes (next ∷ words) h' end)
        → ((h' : Held) (rows' : List Row) → Ready h' rows' → Fits (options_of words) rows' end → Goes words h' end)
        → Goes (word ∷ next ∷ words) h end
    either true (k, name, d, ds, value, plain, fresh, rest) one two = go_one (next ∷ words) word h rows end k d ds ready fresh name value (λ h' now. one h' _ now rest)
    either false (k, name, d, ds, value, plain, fresh, rest) one two = go_two words word h rows end k next d ds ready fresh name value plain (λ h' now. two h' _ now rest)
