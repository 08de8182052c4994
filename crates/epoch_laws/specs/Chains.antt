-- Chains of a hand.
use Rattle.std.specs.Prelude.{◌==◌, ◌&&◌, ℕ, zero, suc, Bool, true, false, if◌then◌else◌, List, [], ◌∷◌, length}
use Rattle.pgas_base.specs.Pointers.{word_of}
use Rattle.epoch_laws.specs.Places.{Place, place_in, pointer_at, same_place, is_among, without}
use Rattle.epoch_laws.specs.Words.{Words}

-- where the next words lead from an object of a hand: over these objects to the tail, or to a word that isn't as it should be
pub data Led : Type 0 where
  Reaches : List Place → Led
  Breaks : ℕ → Led

abbrev pub led_from : Place → Led → Led
led_from p (Reaches places) = Reaches (p ∷ places)
led_from p (Breaks word) = Breaks word

-- the word is that of a pointer to an object of these, of this locale, with the count of its header
abbrev pub leads_into : Words → ℕ → List Place → ℕ → Bool
leads_into words locale left word =
    let p = place_in word in is_among p left && ((p.locale == locale) && (word == word_of (pointer_at p (words.header p).count)))

-- From one object to the tail each next word is that of a pointer to an object of the hand that was not met before, of the
-- locale and with its header's count, and the tail's next word passes the test. `left` is what of the hand was not met
unfoldable pub led : ℕ → Words → ℕ → (ℕ → Bool) → Place → List Place → Place → Led
led zero words locale ends tail left p = Breaks (words.next p)
led (suc n) words locale ends tail left p =
    let word = words.next p in
    let q = place_in word in
    elim (same_place p tail) [
      | true ↦ if ends word then Reaches (p ∷ []) else Breaks word
      | false ↦ elim (leads_into words locale left word) [ true ↦ led_from p (led n words locale ends tail (without q left) q) | false ↦ Breaks word ]
    ]

-- from top to tail over objects of the hand; the hand's length is steps enough, as none is met twice
abbrev pub led_in : Words → List Place → (ℕ → Bool) → Place → Place → Led
led_in words hand ends top tail = led (length hand) words top.locale ends tail (without top hand) top

-- the objects led over
unfoldable pub led_over : Led → List Place
led_over (Reaches places) = places
led_over (Breaks word) = []

-- the word that isn't as it should be
unfoldable pub broken_at : Led → ℕ
broken_at (Reaches places) = 0
broken_at (Breaks word) = word

abbrev pub IsLed : Led → Type 0
IsLed (Reaches places) = Unit {0}
IsLed (Breaks word) = ⊥
