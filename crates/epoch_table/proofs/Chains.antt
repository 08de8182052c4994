-- A chain of a hand leads as the words that are known of the hand say.
use Rattle.std.proofs.Common.{◌≡◌, ◌&&◌, ℕ, zero, suc, Bool, true, false, if◌then◌else◌, List, [], ◌∷◌, length, ◌∙◌, refl, ap, ⊎_elim}
use Rattle.std.proofs.lemmas.Bool.{cases_Bool}
use Rattle.epoch_laws.specs.Places.{Place, place_in, same_place, is_among, without}
use Rattle.epoch_laws.specs.Chains.{Led, Reaches, Breaks, led, led_in, led_from, leads_into}
use Rattle.epoch_laws.specs.Words.{Words}
use Rattle.epoch_laws.proofs.Segments.{among_without}

-- of these objects the two have the same next words and counts
abbrev pub AreAlike : Words → Words → List Place → Type 0
AreAlike a b places = (p : Place) → is_among p places ≡ true → (a.next p ≡ b.next p) × ((a.header p).count ≡ (b.header p).count)

leads_alike : (a b : Words) (locale : ℕ) (left : List Place) (word : ℕ) → AreAlike a b left → leads_into a locale left word ≡ leads_into b locale left word
leads_alike a b locale left word alike =
    ⊎_elim (λ e. rw (e, (alike (place_in word) e).1) refl) (λ e. rw e refl) (cases_Bool (is_among (place_in word) left))

first_true : (x y : Bool) → (x && y) ≡ true → x ≡ true
first_true true y e = refl
first_true false y e = e

-- one step on, where this says whether it is the tail, this is the next word, this says whether it leads into the hand, and this is what follows
abbrev goes_on : (ℕ → Bool) → Place → Bool → ℕ → Bool → Led → Led
goes_on ends p is_tail word inside rest =
    elim is_tail as (λ _. Led) [
      | true ↦ if ends word then Reaches (p ∷ []) else Breaks word
      | false ↦ elim inside as (λ _. Led) [ true ↦ led_from p rest | false ↦ Breaks word ]
    ]

led_alike : (n : ℕ) (a b : Words) (locale : ℕ) (ends : ℕ → Bool) (tail : Place) (left : List Place) (p : Place) → a.next p ≡ b.next p → AreAlike a b left
    → led n a locale ends tail left p ≡ led n b locale ends tail left p
unfolding led
led_alike zero a b locale ends tail left p here alike = ap Breaks here
led_alike (suc n) a b locale ends tail left p here alike =
    let after : Words → ℕ → Led = λ words word. led n words locale ends tail (without (place_in word) left) (place_in word) in
    let word = b.next p in
    ap (λ w. goes_on ends p (same_place p tail) w (leads_into a locale left w) (after a w)) here
    ∙ (ap (λ l. goes_on ends p (same_place p tail) word l (after a word)) (leads_alike a b locale left word alike)
    ∙ by_leads (leads_into b locale left word) refl
    (λ e. let q = place_in word in led_alike n a b locale ends tail (without q left) q (alike q (first_true _ _ e)).0 (λ r h. alike r (among_without r q left h).1)))
  where
    by_leads : (l : Bool) → leads_into b locale left (b.next p) ≡ l
        → (leads_into b locale left (b.next p) ≡ true → led n a locale ends tail (without (place_in (b.next p)) left) (place_in (b.next p)) ≡ led n b locale ends tail (without (place_in (b.next p)) left) (place_in (b.next p)))
        → goes_on ends p (same_place p tail) (b.next p) l (led n a locale ends tail (without (place_in (b.next p)) left) (place_in (b.next p)))
        ≡ goes_on ends p (same_place p tail) (b.next p) l (led n b locale ends tail (without (place_in (b.next p)) left) (place_in (b.next p)))
    by_leads true e rest = ap (goes_on ends p (same_place p tail) (b.next p) true) (rest e)
    by_leads false e rest = refl

pub led_in_alike : (a b : Words) (hand : List Place) (ends : ℕ → Bool) (top tail : Place) → is_among top hand ≡ true → AreAlike a b hand → led_in a hand ends top tail ≡ led_in b hand ends top tail
led_in_alike a b hand ends top tail in_hand alike =
    led_alike (length hand) a b top.locale ends tail (without top hand) top (alike top in_hand).0 (λ r h. alike r (among_without r top hand h).1)
