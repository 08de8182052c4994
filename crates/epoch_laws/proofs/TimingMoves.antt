-- Each move of tokens and epochs keeps what holds of them.
use Rattle.std.proofs.Common.{◌≡◌, ◌≢◌, ◌⊎◌, ℕ, ◌+◌, ◌<◌, ◌≤◌, Bool, true, false, Option, Some, None, refl, ap, sym, ◌∙◌, subst, inl, inr, ⊎_elim, arith}
use Rattle.std.proofs.lemmas.Bool.{false_from_ne_true}
use Rattle.std.proofs.lemmas.Bool.Decides.{eqb_tells}
use Rattle.epoch_laws.specs.declared.tokens.Token.{Token}
use Rattle.epoch_laws.specs.Places.{with_number, with_token}
use Rattle.epoch_laws.proofs.Updates.{number_here, number_there, token_here, token_there, at_number, at_token, part_kept, part_with}
use Rattle.epoch_laws.proofs.Timing.{Timing, NoToken, HasToken, Looks, IsPinned, HasGlobal, Scans, HasAdvanced, token_at, pinned_at, global_at, scan_at, spread_at, Clock, IsToken, Precedes, AreApart, IsAlone, IsScanned, IsSpread, Own, IsTimed, own_same, own_word, own_token, own_global, own_no_global}

-- the kept parts of a clock
abbrev with_words_of : Clock → (Token → ℕ) → Clock
with_words_of k words = record k { token_word = words }

-- a value that is none of the others' keeps the seats apart
apart_new : (f : ℕ → Option Token) (c : ℕ) (v : Option Token) → AreApart f → ((d : ℕ) (t : Token) → d ≢ c → f d ≡ Some t → v ≡ Some t → ⊥) → AreApart (with_number f c v)
apart_new f c v old new a b t ea eb =
    ⊎_elim
    (λ h.
    ⊎_elim
    (λ g. h.1 ∙ sym g.1)
    (λ g. let ne = g.1 in absurd (new b t ne (sym (number_there f c v b ne) ∙ eb) (sym (number_here f c v) ∙ subst (λ x. with_number f c v x ≡ Some t) h.1 ea)))
    (eqb_tells b c))
    (λ h.
    let ne = h.1 in
    ⊎_elim
    (λ g. absurd (new a t ne (sym (number_there f c v a ne) ∙ ea) (sym (number_here f c v) ∙ subst (λ x. with_number f c v x ≡ Some t) g.1 eb)))
    (λ g. let me = g.1 in old a b t (sym (number_there f c v a ne) ∙ ea) (sym (number_there f c v b me) ∙ eb))
    (eqb_tells b c))
    (eqb_tells a c)

alone_new : (f : ℕ → Bool) (c : ℕ) (v : Bool) → IsAlone f → ((d : ℕ) → d ≢ c → f d ≡ true → v ≡ true → ⊥) → IsAlone (with_number f c v)
alone_new f c v old new a b ea eb =
    ⊎_elim
    (λ h.
    ⊎_elim
    (λ g. h.1 ∙ sym g.1)
    (λ g. let ne = g.1 in absurd (new b ne (sym (number_there f c v b ne) ∙ eb) (sym (number_here f c v) ∙ subst (λ x. with_number f c v x ≡ true) h.1 ea)))
    (eqb_tells b c))
    (λ h.
    let ne = h.1 in
    ⊎_elim
    (λ g. absurd (new a ne (sym (number_there f c v a ne) ∙ ea) (sym (number_here f c v) ∙ subst (λ x. with_number f c v x ≡ true) g.1 eb)))
    (λ g. let me = g.1 in old a b (sym (number_there f c v a ne) ∙ ea) (sym (number_there f c v b me) ∙ eb))
    (eqb_tells b c))
    (eqb_tells a c)

module _ (locales tokens : ℕ) (k : Clock) (time : ℕ → Timing) (old : IsTimed locales tokens k time) (c : ℕ) (y : Timing) where
  apart_kept : token_at y ≡ token_at (time c) → AreApart (λ d. token_at (with_number time c y d))
  apart_kept e = subst AreApart (sym (part_kept token_at time c y e)) old.apart

  apart_gone : token_at y ≡ None → AreApart (λ d. token_at (with_number time c y d))
  apart_gone e = subst AreApart (sym (part_with token_at time c y)) (apart_new (λ d. token_at (time d)) c (token_at y) old.apart (λ d t ne ed ey. absurd (cc (e, ey))))

  alone_kept : global_at y ≡ global_at (time c) → IsAlone (λ d. global_at (with_number time c y d))
  alone_kept e = subst IsAlone (sym (part_kept global_at time c y e)) old.alone

  alone_gone : global_at y ≡ false → IsAlone (λ d. global_at (with_number time c y d))
  alone_gone e = subst IsAlone (sym (part_with global_at time c y)) (alone_new (λ d. global_at (time d)) c (global_at y) old.alone (λ d ne ed ey. absurd (cc (e, ey))))

  -- the others have other tokens
  others : (t : Token) → token_at (time c) ≡ Some t → (d : ℕ) → d ≢ c → (u : Token) → token_at (time d) ≡ Some u → u ≢ t
  others t mine d ne u its same = ne (old.apart d c t (its ∙ ap Some same) mine)

  scanned_kept : (epoch : ℕ) (born : Token → ℕ) → scan_at y ≡ scan_at (time c) → pinned_at y ≡ pinned_at (time c)
      → IsScanned epoch born (λ d. scan_at (time d)) (λ d. pinned_at (time d))
      → IsScanned epoch born (λ d. scan_at (with_number time c y d)) (λ d. pinned_at (with_number time c y d))
  scanned_kept epoch born es ep h =
      subst (λ f. IsScanned epoch born f (λ d. pinned_at (with_number time c y d))) (sym (part_kept scan_at time c y es))
      (subst (λ f. IsScanned epoch born (λ d. scan_at (time d)) f) (sym (part_kept pinned_at time c y ep)) h)

  spread_kept : (epoch : ℕ) (local : ℕ → ℕ) → spread_at y ≡ spread_at (time c)
      → ((l : ℕ) → l < locales → IsSpread epoch (λ d. spread_at (time d)) l (local l))
      → (l : ℕ) → l < locales → IsSpread epoch (λ d. spread_at (with_number time c y d)) l (local l)
  spread_kept epoch local es h = subst (λ f. (l : ℕ) → l < locales → IsSpread epoch f l (local l)) (sym (part_kept spread_at time c y es)) h

  own_new : (j : Clock) → Own locales tokens j y → ((d : ℕ) → d ≢ c → Own locales tokens j (time d)) → (d : ℕ) → Own locales tokens j (with_number time c y d)
  own_new j here there = at_number (λ d x. Own locales tokens j x) time c y here there

module _ (locales tokens : ℕ) (k : Clock) (time : ℕ → Timing) (old : IsTimed locales tokens k time) (c : ℕ) where
  own_of : (x : Timing) → time c ≡ x → Own locales tokens k x
  own_of x e = subst (Own locales tokens k) e (old.own c)

  pub registers : (t : Token) → time c ≡ NoToken → IsToken locales tokens t → k.token_word t ≡ 0
      → IsTimed locales tokens (record k { token_word = with_token k.token_word t 1 }) (with_number time c (HasToken t))
  unfolding token_at pinned_at global_at scan_at spread_at
  registers t e inside zero-word =
      let y = HasToken t in
      let j : Clock = record k { token_word = with_token k.token_word t 1 } in
      let away : (d : ℕ) (u : Token) → token_at (time d) ≡ Some u → u ≢ t = λ d u its same. own_word locales tokens k (time d) u its (old.own d) (ap k.token_word same ∙ zero-word) in
      record {
        own = own_new locales tokens k time old c y j (inside, token_here k.token_word t 1) (λ d ne. own_same locales tokens k j (time d) refl refl (λ u its. (token_there k.token_word t 1 u (away d u its), refl)) (old.own d));
        apart = subst AreApart (sym (part_with token_at time c y)) (apart_new (λ d. token_at (time d)) c (Some t) old.apart (λ d u ne its mine. away d u its (cc mine)));
        alone = alone_kept locales tokens k time old c y (sym (ap global_at e));
        scanned = scanned_kept locales tokens k time old c y k.epoch k.born (sym (ap scan_at e)) (sym (ap pinned_at e)) old.scanned;
        spread = spread_kept locales tokens k time old c y k.epoch k.epoch_of (sym (ap spread_at e)) old.spread;
      }

  pub unregisters : (t : Token) → time c ≡ HasToken t
      → IsTimed locales tokens (record k { token_word = with_token k.token_word t 0 }) (with_number time c NoToken)
  unfolding token_at pinned_at global_at scan_at spread_at
  unregisters t e =
      let y = NoToken in
      let j : Clock = record k { token_word = with_token k.token_word t 0 } in
      let away : (d : ℕ) → d ≢ c → (u : Token) → token_at (time d) ≡ Some u → u ≢ t = others locales tokens k time old c y t (ap token_at e) in
      record {
        own = own_new locales tokens k time old c y j tt (λ d ne. own_same locales tokens k j (time d) refl refl (λ u its. (token_there k.token_word t 0 u (away d ne u its), refl)) (old.own d));
        apart = apart_gone locales tokens k time old c y refl;
        alone = alone_kept locales tokens k time old c y (sym (ap global_at e));
        scanned = scanned_kept locales tokens k time old c y k.epoch k.born (sym (ap scan_at e)) (sym (ap pinned_at e)) old.scanned;
        spread = spread_kept locales tokens k time old c y k.epoch k.epoch_of (sym (ap spread_at e)) old.spread;
      }

  pub looks : (t : Token) → time c ≡ HasToken t → IsTimed locales tokens k (with_number time c (Looks t (k.epoch_of t.locale)))
  unfolding token_at pinned_at global_at scan_at spread_at
  looks t e =
      let y = Looks t (k.epoch_of t.locale) in
      let mine = own_of (HasToken t) e in
      record {
        own = own_new locales tokens k time old c y k (mine.0, mine.1, (old.spread t.locale mine.0.locale).most) (λ d ne. old.own d);
        apart = apart_kept locales tokens k time old c y (sym (ap token_at e));
        alone = alone_kept locales tokens k time old c y (sym (ap global_at e));
        scanned = scanned_kept locales tokens k time old c y k.epoch k.born (sym (ap scan_at e)) (sym (ap pinned_at e)) old.scanned;
        spread = spread_kept locales tokens k time old c y k.epoch k.epoch_of (sym (ap spread_at e)) old.spread;
      }

  pub pins : (t : Token) (a : ℕ) → time c ≡ Looks t a
      → IsTimed locales tokens (record k { token_word = with_token k.token_word t (a + 2); born = with_token k.born t k.epoch }) (with_number time c (IsPinned t a))
  unfolding token_at pinned_at global_at scan_at spread_at
  pins t a e =
      let y = IsPinned t a in
      let j : Clock = record k { token_word = with_token k.token_word t (a + 2); born = with_token k.born t k.epoch } in
      let mine = own_of (Looks t a) e in
      let away : (d : ℕ) → d ≢ c → (u : Token) → token_at (time d) ≡ Some u → u ≢ t = others locales tokens k time old c y t (ap token_at e) in
      let here : j.born t ≡ k.epoch = token_here k.born t k.epoch in
      record {
        own = own_new locales tokens k time old c y j (mine.0, token_here k.token_word t (a + 2), omega arith, omega arith, omega arith)
            (λ d ne. own_same locales tokens k j (time d) refl refl (λ u its. let aw = away d ne u its in (token_there k.token_word t (a + 2) u aw, token_there k.born t k.epoch u aw)) (old.own d));
        apart = apart_kept locales tokens k time old c y (sym (ap token_at e));
        alone = alone_kept locales tokens k time old c y (sym (ap global_at e));
        scanned = subst (λ f. IsScanned k.epoch j.born f (λ d. pinned_at (with_number time c y d))) (sym (part_kept scan_at time c y (sym (ap scan_at e))))
            (subst (λ f. IsScanned k.epoch j.born (λ d. scan_at (time d)) f) (sym (part_with pinned_at time c y)) (λ b d n u es ep before.
            at_token (λ v m. (v ≡ u) → m ≡ k.epoch) k.born t k.epoch (λ _. refl)
            (λ v ne same.
            let other : d ≢ c = λ is. ne (same ∙ cc (ep, number_here (λ d. pinned_at (time d)) c (Some t), ap (with_number (λ d. pinned_at (time d)) c (Some t)) is)) in
            old.scanned b d n v es (sym (number_there (λ d. pinned_at (time d)) c (Some t) d other) ∙ ep ∙ ap Some (sym same)) (subst (λ x. Precedes x n) (sym same) before))
            u refl));
        spread = spread_kept locales tokens k time old c y k.epoch k.epoch_of (sym (ap spread_at e)) old.spread;
      }

  pub unpins : (t : Token) (a : ℕ) → time c ≡ IsPinned t a
      → IsTimed locales tokens (record k { token_word = with_token k.token_word t 1 }) (with_number time c (HasToken t))
  unfolding token_at pinned_at global_at scan_at spread_at
  unpins t a e =
      let y = HasToken t in
      let j : Clock = record k { token_word = with_token k.token_word t 1 } in
      let mine = own_of (IsPinned t a) e in
      let away : (d : ℕ) → d ≢ c → (u : Token) → token_at (time d) ≡ Some u → u ≢ t = others locales tokens k time old c y t (ap token_at e) in
      record {
        own = own_new locales tokens k time old c y j (mine.0, token_here k.token_word t 1)
            (λ d ne. own_same locales tokens k j (time d) refl refl (λ u its. (token_there k.token_word t 1 u (away d ne u its), refl)) (old.own d));
        apart = apart_kept locales tokens k time old c y (sym (ap token_at e));
        alone = alone_kept locales tokens k time old c y (sym (ap global_at e));
        scanned = subst (λ f. IsScanned k.epoch k.born f (λ d. pinned_at (with_number time c y d))) (sym (part_kept scan_at time c y (sym (ap scan_at e))))
            (subst (λ f. IsScanned k.epoch k.born (λ d. scan_at (time d)) f) (sym (part_with pinned_at time c y)) (λ b d n u es ep before.
            let other : d ≢ c = λ is. absurd (cc (ep, number_here (λ d. pinned_at (time d)) c None, ap (with_number (λ d. pinned_at (time d)) c None) is)) in
            old.scanned b d n u es (sym (number_there (λ d. pinned_at (time d)) c None d other) ∙ ep) before));
        spread = spread_kept locales tokens k time old c y k.epoch k.epoch_of (sym (ap spread_at e)) old.spread;
      }

  pub wins : (t : Token) → time c ≡ HasToken t → k.election ≡ 0 → IsTimed locales tokens (record k { election = 1 }) (with_number time c (HasGlobal t))
  unfolding token_at pinned_at global_at scan_at spread_at
  wins t e none =
      let y = HasGlobal t in
      let j : Clock = record k { election = 1 } in
      let mine = own_of (HasToken t) e in
      let nobody : (d : ℕ) → global_at (time d) ≡ true → ⊥ = λ d g. let one = own_global locales tokens k (time d) g (old.own d) in omega arith in
      record {
        own = own_new locales tokens k time old c y j (mine.0, mine.1, refl)
            (λ d ne. own_no_global locales tokens k j (time d) (false_from_ne_true (global_at (time d)) (nobody d)) refl (λ t. refl) (λ t. refl) (old.own d));
        apart = apart_kept locales tokens k time old c y (sym (ap token_at e));
        alone = subst IsAlone (sym (part_with global_at time c y)) (alone_new (λ d. global_at (time d)) c true old.alone (λ d ne g _. nobody d g));
        scanned = scanned_kept locales tokens k time old c y k.epoch k.born (sym (ap scan_at e)) (sym (ap pinned_at e)) old.scanned;
        spread = spread_kept locales tokens k time old c y k.epoch k.epoch_of (sym (ap spread_at e)) old.spread;
      }

  -- the seat goes on without the global election, where nobody has yet to spread to a locale
  loses : (t : Token) → token_at (time c) ≡ Some t → global_at (time c) ≡ true → pinned_at (time c) ≡ None → IsToken locales tokens t → k.token_word t ≡ 1
      → ((l : ℕ) → l < locales → (n : ℕ) → spread_at (time c) ≡ Some n → n ≤ l → ⊥)
      → IsTimed locales tokens (record k { election = 0 }) (with_number time c (HasToken t))
  unfolding token_at pinned_at global_at scan_at spread_at
  loses t et eg ep inside word done =
      let y = HasToken t in
      let j : Clock = record k { election = 0 } in
      let without_it : (d : ℕ) → d ≢ c → global_at (time d) ≡ false = λ d ne. false_from_ne_true (global_at (time d)) (λ g. ne (old.alone d c g eg)) in
      record {
        own = own_new locales tokens k time old c y j (inside, word)
            (λ d ne. own_no_global locales tokens k j (time d) (without_it d ne) refl (λ t. refl) (λ t. refl) (old.own d));
        apart = apart_kept locales tokens k time old c y (sym et);
        alone = alone_gone locales tokens k time old c y refl;
        scanned = subst (λ f. IsScanned k.epoch k.born (λ d. scan_at (with_number time c y d)) f) (sym (part_kept pinned_at time c y (sym ep)))
            (subst (λ f. IsScanned k.epoch k.born f (λ d. pinned_at (time d))) (sym (part_with scan_at time c y)) (λ b d n u es eu before.
            let other : b ≢ c = λ is. absurd (cc (es, number_here (λ d. scan_at (time d)) c None, ap (with_number (λ d. scan_at (time d)) c None) is)) in
            old.scanned b d n u (sym (number_there (λ d. scan_at (time d)) c None b other) ∙ es) eu before));
        spread = subst (λ f. (l : ℕ) → l < locales → IsSpread k.epoch f l (k.epoch_of l)) (sym (part_with spread_at time c y)) (λ l below.
            let was = old.spread l below in
            record {
              most = was.most;
              least = was.least;
              same =
                  ⊎_elim
                  (λ h. inl h)
                  (λ h.
                  let other : h.0 ≢ c = λ is. done l below h.1 (subst (λ x. spread_at (time x) ≡ Some h.1) is h.2) h.3 in
                  inr (h.0, h.1, number_there (λ d. spread_at (time d)) c None h.0 other ∙ h.2, h.3))
                  was.same;
            });
      }

  pub leaves : (t : Token) → time c ≡ HasGlobal t → IsTimed locales tokens (record k { election = 0 }) (with_number time c (HasToken t))
  unfolding token_at pinned_at global_at scan_at spread_at
  leaves t e =
      let mine = own_of (HasGlobal t) e in
      loses t (ap token_at e) (ap global_at e) (ap pinned_at e) mine.0 mine.1 (λ l below n s. absurd (cc (s, ap spread_at e)))

  pub leaves_done : (t : Token) (g : ℕ) → time c ≡ HasAdvanced t g locales → IsTimed locales tokens (record k { election = 0 }) (with_number time c (HasToken t))
  unfolding token_at pinned_at global_at scan_at spread_at
  leaves_done t g e =
      let mine = own_of (HasAdvanced t g locales) e in
      loses t (ap token_at e) (ap global_at e) (ap pinned_at e) mine.0 mine.1 (λ l below n s before. let same : n ≡ locales = cc (s, ap spread_at e) in omega arith)

  pub begins_scan : (t : Token) → time c ≡ HasGlobal t
      → IsTimed locales tokens k (with_number time c (Scans t k.epoch (record { locale = 0; number = 0 })))
  unfolding token_at pinned_at global_at scan_at spread_at
  begins_scan t e =
      let n : Token = record { locale = 0; number = 0 } in
      let y = Scans t k.epoch n in
      let mine = own_of (HasGlobal t) e in
      record {
        own = own_new locales tokens k time old c y k (mine.0, mine.1, mine.2, refl) (λ d ne. old.own d);
        apart = apart_kept locales tokens k time old c y (sym (ap token_at e));
        alone = alone_kept locales tokens k time old c y (sym (ap global_at e));
        scanned = subst (λ f. IsScanned k.epoch k.born (λ d. scan_at (with_number time c y d)) f) (sym (part_kept pinned_at time c y (sym (ap pinned_at e))))
            (subst (λ f. IsScanned k.epoch k.born f (λ d. pinned_at (time d))) (sym (part_with scan_at time c y)) (λ b d m u es eu before.
            ⊎_elim
            (λ h. let first : n ≡ m = cc (es, number_here (λ d. scan_at (time d)) c (Some n), ap (with_number (λ d. scan_at (time d)) c (Some n)) h.1) in
            absurd (not_before_first u (subst (Precedes u) (sym first) before)))
            (λ h. let ne = h.1 in old.scanned b d m u (sym (number_there (λ d. scan_at (time d)) c (Some n) b ne) ∙ es) eu before)
            (eqb_tells b c)));
        spread = spread_kept locales tokens k time old c y k.epoch k.epoch_of (sym (ap spread_at e)) old.spread;
      }
    where
      not_before_first : (u : Token) → Precedes u (record { locale = 0; number = 0 }) → ⊥
      not_before_first u h = ⊎_elim (λ x. omega arith) (λ x. omega arith) h

  pub stops : (t n : Token) (g : ℕ) → time c ≡ Scans t g n → IsTimed locales tokens k (with_number time c (HasGlobal t))
  unfolding token_at pinned_at global_at scan_at spread_at
  stops t n g e =
      let y = HasGlobal t in
      let mine = own_of (Scans t g n) e in
      record {
        own = own_new locales tokens k time old c y k (mine.0, mine.1, mine.2) (λ d ne. old.own d);
        apart = apart_kept locales tokens k time old c y (sym (ap token_at e));
        alone = alone_kept locales tokens k time old c y (sym (ap global_at e));
        scanned = subst (λ f. IsScanned k.epoch k.born (λ d. scan_at (with_number time c y d)) f) (sym (part_kept pinned_at time c y (sym (ap pinned_at e))))
            (subst (λ f. IsScanned k.epoch k.born f (λ d. pinned_at (time d))) (sym (part_with scan_at time c y)) (λ b d m u es eu before.
            let other : b ≢ c = λ is. absurd (cc (es, number_here (λ d. scan_at (time d)) c None, ap (with_number (λ d. scan_at (time d)) c None) is)) in
            old.scanned b d m u (sym (number_there (λ d. scan_at (time d)) c None b other) ∙ es) eu before));
        spread = spread_kept locales tokens k time old c y k.epoch k.epoch_of (sym (ap spread_at e)) old.spread;
      }

  -- the scan goes on to the token m, where what comes before that came before n or is n, whose word doesn't stop it
  pub passes_on : (t n m : Token) (g : ℕ) → time c ≡ Scans t g n
      → ((u : Token) → u.number < tokens → Precedes u m → Precedes u n ⊎ (u ≡ n))
      → (k.token_word n ≡ 0) ⊎ ((k.token_word n ≡ 1) ⊎ (k.token_word n ≡ g + 2))
      → IsTimed locales tokens k (with_number time c (Scans t g m))
  unfolding token_at pinned_at global_at scan_at spread_at
  passes_on t n m g e next word =
      let y = Scans t g m in
      let mine = own_of (Scans t g n) e in
      record {
        own = own_new locales tokens k time old c y k (mine.0, mine.1, mine.2, mine.3) (λ d ne. old.own d);
        apart = apart_kept locales tokens k time old c y (sym (ap token_at e));
        alone = alone_kept locales tokens k time old c y (sym (ap global_at e));
        scanned = subst (λ f. IsScanned k.epoch k.born (λ d. scan_at (with_number time c y d)) f) (sym (part_kept pinned_at time c y (sym (ap pinned_at e))))
            (subst (λ f. IsScanned k.epoch k.born f (λ d. pinned_at (time d))) (sym (part_with scan_at time c y)) (λ b d x u es eu before.
            ⊎_elim
            (λ h.
            let now : m ≡ x = cc (es, number_here (λ d. scan_at (time d)) c (Some m), ap (with_number (λ d. scan_at (time d)) c (Some m)) h.1) in
            let inside : IsToken locales tokens u = own_token locales tokens k (time d) u (pinned_has (time d) u eu) (old.own d) in
            ⊎_elim
            (λ was. old.scanned c d n u (ap scan_at e) eu was)
            (λ is. let at = pinned_word k (time d) n (eu ∙ ap Some is) (old.own d) in
            let bs : k.born u ≡ k.born n = ap k.born is in
            let ge = mine.3 in ⊎_elim (λ w. absurd (at.0 w)) (λ o. ⊎_elim (λ w. absurd (at.1 w)) (λ w. bs ∙ at.2 g ge w) o) word)
            (next u inside.number (subst (Precedes u) (sym now) before)))
            (λ h. let ne = h.1 in old.scanned b d x u (sym (number_there (λ d. scan_at (time d)) c (Some m) b ne) ∙ es) eu before)
            (eqb_tells b c)));
        spread = spread_kept locales tokens k time old c y k.epoch k.epoch_of (sym (ap spread_at e)) old.spread;
      }
    where
      pinned_has : (x : Timing) (u : Token) → pinned_at x ≡ Some u → token_at x ≡ Some u
      pinned_has NoToken u h = absurd (cc h)
      pinned_has (HasToken t) u h = absurd (cc h)
      pinned_has (Looks t a) u h = absurd (cc h)
      pinned_has (IsPinned t a) u h = h
      pinned_has (HasGlobal t) u h = absurd (cc h)
      pinned_has (Scans t g n) u h = absurd (cc h)
      pinned_has (HasAdvanced t g n) u h = absurd (cc h)

      pinned_word : (k : Clock) (x : Timing) (u : Token) → pinned_at x ≡ Some u → Own locales tokens k x
          → (k.token_word u ≢ 0) × (k.token_word u ≢ 1) × ((g : ℕ) → g ≡ k.epoch → k.token_word u ≡ g + 2 → k.born u ≡ k.epoch)
      pinned_word k NoToken u h o = absurd (cc h)
      pinned_word k (HasToken t) u h o = absurd (cc h)
      pinned_word k (Looks t a) u h o = absurd (cc h)
      pinned_word k (HasGlobal t) u h o = absurd (cc h)
      pinned_word k (Scans t g n) u h o = absurd (cc h)
      pinned_word k (HasAdvanced t g n) u h o = absurd (cc h)
      pinned_word k (IsPinned t a) u h o =
          let same : t ≡ u = cc h in
          let w : k.token_word t ≡ k.token_word u = ap k.token_word same in
          let b : k.born t ≡ k.born u = ap k.born same in
          let o1 = o.1 in let o2 = o.2 in let o3 = o.3 in
          ((λ z. omega arith), (λ z. omega arith), (λ g eg z. omega arith))

  pub advances : (t n : Token) (g : ℕ) → time c ≡ Scans t g n → n.locale ≡ locales
      → IsTimed locales tokens (record k { epoch = g + 1 }) (with_number time c (HasAdvanced t g 0))
  unfolding token_at pinned_at global_at scan_at spread_at
  advances t n g e all =
      let y = HasAdvanced t g 0 in
      let j : Clock = record k { epoch = g + 1 } in
      let mine = own_of (Scans t g n) e in
      let ge = mine.3 in
      record {
        own = own_new locales tokens k time old c y j (mine.0, mine.1, mine.2, refl, omega arith) (λ d ne.
            risen d (time d) refl (false_from_ne_true (global_at (time d)) (λ h. ne (old.alone d c h (ap global_at e)))) ge (old.own d));
        apart = apart_kept locales tokens k time old c y (sym (ap token_at e));
        alone = alone_kept locales tokens k time old c y (sym (ap global_at e));
        scanned = subst (λ f. IsScanned (g + 1) k.born (λ d. scan_at (with_number time c y d)) f) (sym (part_kept pinned_at time c y (sym (ap pinned_at e))))
            (subst (λ f. IsScanned (g + 1) k.born f (λ d. pinned_at (time d))) (sym (part_with scan_at time c y)) (λ b d x u es eu before.
            ⊎_elim
            (λ h. absurd (cc (es, number_here (λ d. scan_at (time d)) c None, ap (with_number (λ d. scan_at (time d)) c None) h.1)))
            (λ h. let ne = h.1 in
            absurd (ne (old.alone b c (scan_global (time b) x (sym (number_there (λ d. scan_at (time d)) c None b ne) ∙ es)) (ap global_at e))))
            (eqb_tells b c)));
        spread = subst (λ f. (l : ℕ) → l < locales → IsSpread (g + 1) f l (k.epoch_of l)) (sym (part_with spread_at time c y)) (λ l below.
            let was = old.spread l below in
            let now : k.epoch_of l ≡ k.epoch = ⊎_elim (λ h. h) (λ h. absurd (others_none h.0 h.1 h.2)) was.same in
            record { most = omega arith; least = omega arith; same = inr (c, 0, number_here (λ d. spread_at (time d)) c (Some 0), omega arith) });
      }
    where
      scan_global : (x : Timing) (m : Token) → scan_at x ≡ Some m → global_at x ≡ true
      scan_global NoToken u h = absurd (cc h)
      scan_global (HasToken t) u h = absurd (cc h)
      scan_global (Looks t a) u h = absurd (cc h)
      scan_global (IsPinned t a) u h = absurd (cc h)
      scan_global (HasGlobal t) u h = absurd (cc h)
      scan_global (Scans t g n) u h = refl
      scan_global (HasAdvanced t g n) u h = absurd (cc h)

      spread_global : (x : Timing) (m : ℕ) → spread_at x ≡ Some m → global_at x ≡ true
      spread_global NoToken u h = absurd (cc h)
      spread_global (HasToken t) u h = absurd (cc h)
      spread_global (Looks t a) u h = absurd (cc h)
      spread_global (IsPinned t a) u h = absurd (cc h)
      spread_global (HasGlobal t) u h = absurd (cc h)
      spread_global (Scans t g n) u h = absurd (cc h)
      spread_global (HasAdvanced t g n) u h = refl

      others_none : (d m : ℕ) → spread_at (time d) ≡ Some m → ⊥
      others_none d m h =
          let same : d ≡ c = old.alone d c (spread_global (time d) m h) (ap global_at e) in
          absurd (cc (h, ap (λ x. spread_at (time x)) same, ap spread_at e))

      risen : (d : ℕ) (x : Timing) → time d ≡ x → global_at x ≡ false → g ≡ k.epoch → Own locales tokens k x → Own locales tokens (record k { epoch = g + 1 }) x
      risen d NoToken is f ge h = tt
      risen d (HasToken u) is f ge h = (h.0, h.1)
      risen d (Looks u a) is f ge h = (h.0, h.1, omega arith)
      risen d (IsPinned u a) is f ge h =
          let inside = h.0 in
          let low : u.locale < locales = inside.locale in
          let before : u.locale < n.locale = omega arith in
          let at : k.born u ≡ k.epoch = old.scanned c d n u (ap scan_at e) (ap pinned_at is) (inl before) in
          (h.0, h.1, h.2, omega arith, omega arith)
      risen d (HasGlobal u) is f ge h = absurd (cc f)
      risen d (Scans u a m) is f ge h = absurd (cc f)
      risen d (HasAdvanced u a m) is f ge h = absurd (cc f)

  pub spreads : (t : Token) (g n : ℕ) → time c ≡ HasAdvanced t g n → n < locales
      → IsTimed locales tokens (record k { epoch_of = with_number k.epoch_of n (g + 1) }) (with_number time c (HasAdvanced t g (n + 1)))
  unfolding token_at pinned_at global_at scan_at spread_at
  spreads t g n e below =
      let y = HasAdvanced t g (n + 1) in
      let j : Clock = record k { epoch_of = with_number k.epoch_of n (g + 1) } in
      let mine = own_of (HasAdvanced t g n) e in
      let ge = mine.3 in
      record {
        own = own_new locales tokens k time old c y j (mine.0, mine.1, mine.2, mine.3, omega arith) (λ d ne. own_same locales tokens k j (time d) refl refl (λ u its. (refl, refl)) (old.own d));
        apart = apart_kept locales tokens k time old c y (sym (ap token_at e));
        alone = alone_kept locales tokens k time old c y (sym (ap global_at e));
        scanned = scanned_kept locales tokens k time old c y k.epoch k.born (sym (ap scan_at e)) (sym (ap pinned_at e)) old.scanned;
        spread = subst (λ f. (l : ℕ) → l < locales → IsSpread k.epoch f l (j.epoch_of l)) (sym (part_with spread_at time c y))
            (at_number (λ l local. l < locales → IsSpread k.epoch (with_number (λ d. spread_at (time d)) c (Some (n + 1))) l local) k.epoch_of n (g + 1)
            (λ _. record { most = omega arith; least = omega arith; same = inl (omega arith) })
            (λ l ne in_range.
            let was = old.spread l in_range in
            record {
              most = was.most;
              least = was.least;
              same =
                  ⊎_elim
                  (λ h. inl h)
                  (λ h.
                  ⊎_elim
                  (λ is.
                  let same : h.1 ≡ n = cc (h.2, ap (λ x. spread_at (time x)) is.1, ap spread_at e) in
                  let h3 = h.3 in
                  inr (c, n + 1, number_here (λ d. spread_at (time d)) c (Some (n + 1)), omega arith))
                  (λ is. let other = is.1 in inr (h.0, h.1, number_there (λ d. spread_at (time d)) c (Some (n + 1)) h.0 other ∙ h.2, h.3))
                  (eqb_tells h.0 c))
                  was.same;
            }));
      }
