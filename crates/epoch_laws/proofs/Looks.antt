-- What a look at a stack still says: while the head is the word that was read, the object on top has the next word that was read.
use Rattle.std.proofs.Common.{◌≡◌, ◌≢◌, ℕ, ◌<◌, ◌≤◌, ap, sym, ◌∙◌, subst, ⊎_elim, arith}
use Rattle.std.proofs.lemmas.Bool.Decides.{eqb_tells}
use Rattle.pool_core.specs.declared.free_words.FreeWord.{FreeWord}
use Rattle.epoch_laws.specs.Places.{Place, with_number, with_place}
use Rattle.epoch_laws.specs.Seats.{StackLook, NoLook, NextRead}
use Rattle.epoch_laws.specs.StackSteps.{looked_top}
use Rattle.epoch_laws.proofs.Updates.{number_here, number_there, at_number, place_there}
pub use Rattle.epoch_laws.specs.Looks.{IsLook, AreLooks}

module _ (locales : ℕ) (looks : ℕ → StackLook) (free_head : ℕ → FreeWord) (next : Place → ℕ) (old : AreLooks locales looks free_head next) where
  -- the head rises: no look at that stack is of now
  pub heads_rise : (l : ℕ) (head : FreeWord) → (free_head l).count < head.count → AreLooks locales looks (with_number free_head l head) next
  heads_rise l head rises c =
      ⊎_elim
      (λ h.
      let was = old c in
      let e : with_number free_head l head ((looks c).locale) ≡ head = ap (with_number free_head l head) h.1 ∙ number_here free_head l head in
      let ec : (with_number free_head l head ((looks c).locale)).count ≡ head.count = ap (λ x. x.count) e in
      let ef : (free_head ((looks c).locale)).count ≡ (free_head l).count = ap (λ x. (free_head x).count) h.1 in
      record {
        locale = was.locale;
        most = λ n. let m = was.most n in omega arith;
        same = λ n s. let m = was.most n in absurd (omega arith);
        index = was.index;
        next_read = λ n s. let m = was.most (λ z. absurd (cc (n, z))) in absurd (omega arith);
      })
      (λ h.
      let ne = h.1 in
      let was = old c in
      let e : free_head ((looks c).locale) ≡ with_number free_head l head ((looks c).locale) = sym (number_there free_head l head ((looks c).locale) ne) in
      record {
        locale = was.locale;
        most = subst (λ x. (looks c).phase ≢ NoLook → (looks c).head.count ≤ x.count) e was.most;
        same = subst (λ x. (looks c).phase ≢ NoLook → (looks c).head.count ≡ x.count → (looks c).head ≡ x) e was.same;
        index = was.index;
        next_read = subst (λ x. (looks c).phase ≡ NextRead → (looks c).head.count ≡ x.count → (looks c).next ≡ next (looked_top (looks c))) e was.next_read;
      })
      (eqb_tells ((looks c).locale) l)

  -- a next word changes of an object that is on top of no stack
  pub next_changes : (p : Place) (word : ℕ) → ((l : ℕ) → l < locales → (free_head l).index ≢ 0 → (◌≢◌ {A = Place} (record { locale = l; index = (free_head l).index }) p))
      → AreLooks locales looks free_head (with_place next p word)
  next_changes p word top c =
      let was = old c in
      let look = looks c in record {
        locale = was.locale;
        most = was.most;
        same = was.same;
        index = was.index;
        next_read = λ n s.
            let some : look.phase ≢ NoLook = λ z. absurd (cc (n, z)) in
            let e : look.head ≡ free_head look.locale = was.same some s in
            let at : ◌≡◌ {A = Place} (looked_top look) (record { locale = look.locale; index = (free_head look.locale).index }) =
            λ i. record { locale = look.locale; index = (e i).index } in
            let index : (free_head look.locale).index ≢ 0 = λ z. was.index n (ap (λ x. x.index) e ∙ z) in
            was.next_read n s ∙ sym (place_there next p word (looked_top look) (λ same. top look.locale (was.locale some) index (sym at ∙ same)));
      }

  pub looks_anew : (c : ℕ) (look : StackLook) → IsLook locales free_head next look → AreLooks locales (with_number looks c look) free_head next
  looks_anew c look is = at_number (λ d x. IsLook locales free_head next x) looks c look is (λ d ne. old d)
