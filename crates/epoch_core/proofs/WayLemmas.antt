-- Chains of a hand, walked object by object.
use Rattle.std.proofs.Common.{◌≡◌, ◌≢◌, ◌≤◌, ◌+◌, ◌%◌, ◌&&◌, ◌==◌, ℕ, zero, suc, Bool, true, false, if◌then◌else◌, List, [], ◌∷◌, ◌++◌, length, refl, ap, sym, ◌∙◌, subst, inl, inr, arith, append_assoc}
use Rattle.std.proofs.lemmas.Bool.Decides.{eqb_tells}
use Rattle.std.proofs.lemmas.Bool.{cases_Bool}
use Rattle.pgas_base.specs.Pointers.{word_of}
use Rattle.epoch_laws.specs.Chains.{Led, Reaches, Breaks, leads_into, led, led_from}
use Rattle.epoch_laws.specs.Places.{Place, is_among, index_in, pointer_at, place_in, same_place, without, without_all}
use Rattle.epoch_laws.specs.Words.{Words}
use Rattle.epoch_laws.proofs.Updates.{same_place_tells}
use Rattle.epoch_core.specs.Ends.{IsWay, behind, path}
use Rattle.epoch_core.proofs.MarkMoves.{among-cons_here, among-cons_other, among-without_here, among-without_other}

-- the object so many further
abbrev pub follow : Words → Place → ℕ → Place
follow words p zero = p
follow words p (suc n) = behind words (follow words p n)

pub follow-behind : (words : Words) (p : Place) (n : ℕ) → follow words (behind words p) n ≡ behind words (follow words p n)
follow-behind words p zero = refl
follow-behind words p (suc n) = ap (behind words) (follow-behind words p n)

pub path-more : (words : Words) (p : Place) (n : ℕ) → path words p (suc n) ≡ path words p n ++ follow words p n ∷ []
path-more words p zero = refl
path-more words p (suc n) = ap (λ l. p ∷ l) (path-more words (behind words p) n ∙ ap (λ q. path words (behind words p) n ++ q ∷ []) (follow-behind words p n))

pub among-append_here : (x : Place) (l : List Place) → is_among x (l ++ x ∷ []) ≡ true
unfolding is_among
among-append_here x [] = among-cons_here x []
among-append_here x (q ∷ l) = elim (same_place x q) as (λ b. (if b then true else is_among x (l ++ x ∷ [])) ≡ true) [ true ↦ refl | false ↦ among-append_here x l ]

pub among-append_other : (x y : Place) (l : List Place) → x ≢ y → is_among x (l ++ y ∷ []) ≡ is_among x l
unfolding is_among
among-append_other x y [] apart = among-cons_other x y [] apart
among-append_other x y (q ∷ l) apart = ap (λ b. if same_place x q then true else b) (among-append_other x y l apart)

not_same : (x y : Place) (l : List Place) → is_among x l ≡ true → is_among y l ≡ false → x ≢ y
not_same x y l on off same = absurd (cc (on, off, ap (λ q. is_among q l) same))

pub IsWay-more : (words : Words) (hand : List Place) (p : Place) (n : ℕ) → IsWay words hand p n → is_among (follow words p n) hand ≡ true → is_among (follow words p n) (path words p n) ≡ false → IsWay words hand p (suc n)
unfolding is_among
IsWay-more words hand p zero way has new = (has, refl, tt)
IsWay-more words hand p (suc n) (here, once, rest) has new =
    let q = behind words p in
    let last_is : follow words q n ≡ follow words p (suc n) = follow-behind words p n in
    let apart : p ≢ follow words q n = λ same. absurd (cc (among-cons_here p (path words q n), new, ap (λ x. is_among x (p ∷ path words q n)) (same ∙ last_is))) in
    let new_there : is_among (follow words q n) (path words q n) ≡ false = sym (among-cons_other (follow words q n) p (path words q n) (λ e. apart (sym e))) ∙ ap (λ x. is_among x (p ∷ path words q n)) last_is ∙ new in (
      here,
      ap (λ l. is_among p l) (path-more words q n) ∙ among-append_other p (follow words q n) (path words q n) apart ∙ once,
      IsWay-more words hand q n rest (ap (λ x. is_among x hand) last_is ∙ has) new_there,
    )

-- what is left of the hand
abbrev pub lefts : Words → List Place → Place → ℕ → List Place
lefts words hand top zero = hand
lefts words hand top (suc i) = without (follow words top i) (lefts words hand top i)

pub among-without_all : (x : Place) (gone l : List Place) → is_among x (without_all gone l) ≡ (if is_among x gone then false else is_among x l)
unfolding is_among without_all
among-without_all x gone [] = elim (is_among x gone) as (λ b. false ≡ (if b then false else false)) [ true ↦ refl | false ↦ refl ]
among-without_all x gone (q ∷ l) = elim (cases_Bool (is_among q gone)) [
  | inl on ↦ elim (same_place_tells x q) [
    | inl (_, same) ↦ rw (on, among-without_all x gone l, ap (λ y. is_among y gone) same ∙ on) refl
    | inr (off, _) ↦ rw (on, among-without_all x gone l, off) refl
  ]
  | inr off ↦ elim (same_place_tells x q) [
    | inl (at, same) ↦ rw (off, at, ap (λ y. is_among y gone) same ∙ off) refl
    | inr (other, _) ↦ rw (off, other, among-without_all x gone l) refl
  ]
]

none : (x : Place) (hand : List Place) → (if is_among x [] then false else is_among x hand) ≡ is_among x hand
unfolding is_among
none x hand = refl

pub among-lefts : (words : Words) (hand : List Place) (top : Place) (i : ℕ) (x : Place) → is_among x (lefts words hand top i) ≡ is_among x (without_all (path words top i) hand)
among-lefts words hand top zero x = sym (among-without_all x [] hand ∙ none x hand)
among-lefts words hand top (suc i) x =
    let p = follow words top i in
    let before = path words top i in
    sym (among-without_all x (path words top (suc i)) hand ∙ ap (λ l. if is_among x l then false else is_among x hand) (path-more words top i) ∙ elim (same_place_tells x p) [
      | inl (_, same) ↦
          ap (λ b. if b then false else is_among x hand) (subst (λ y. is_among x (before ++ y ∷ []) ≡ true) same (among-append_here x before))
          ∙ sym (subst (λ y. is_among x (without y (lefts words hand top i)) ≡ false) same (among-without_here x (lefts words hand top i)))
      | inr (_, apart) ↦
          ap (λ b. if b then false else is_among x hand) (among-append_other x p before apart) ∙ sym (among-without_all x before hand) ∙ sym (among-lefts words hand top i x)
          ∙ sym (among-without_other x p (lefts words hand top i) apart)
    ])

pub length-without_le : (p : Place) (l : List Place) → length (without p l) ≤ length l
unfolding without
length-without_le p [] = omega arith
length-without_le p (q ∷ l) = elim (same_place q p) as (λ b. length (if b then without p l else q ∷ without p l) ≤ length (q ∷ l)) [ true ↦ omega (arith, length-without_le p l) | false ↦ omega (arith, length-without_le p l) ]

-- one that is there is gone
pub length-without : (p : Place) (l : List Place) → is_among p l ≡ true → length (without p l) + 1 ≤ length l
unfolding is_among without
length-without p [] on = absurd (cc on)
length-without p (q ∷ l) on = elim (same_place_tells q p) [
  | inl (at, _) ↦ rw at (omega (arith, length-without_le p l))
  | inr (off, apart) ↦ rw off (let there : is_among p l ≡ true = sym (among-cons_other p q l (λ e. apart (sym e))) ∙ on in omega (arith, length-without p l there))
]

some_fuel : (fuel : ℕ) (l : List Place) (p : Place) → length l ≤ fuel → is_among p l ≡ true → (n : ℕ) × (fuel ≡ suc n) × (length (without p l) ≤ n)
some_fuel zero l p enough on = absurd (omega (arith, length-without p l on))
some_fuel (suc n) l p enough on = (n, refl, omega (arith, length-without p l on))

kept_part : (a b : Bool) → (if a then false else b) ≡ true → b ≡ true
kept_part true b h = absurd (cc h)
kept_part false b h = h

out_part : (a b : Bool) → (if a then false else b) ≡ true → a ≡ false
out_part true b h = absurd (cc h)
out_part false b h = refl

left_of : (a b : Bool) → (a && b) ≡ true → a ≡ true
left_of true b h = refl
left_of false b h = absurd (cc h)

in_hand : (x : Place) (gone l : List Place) → is_among x (without_all gone l) ≡ true → is_among x l ≡ true
in_hand x gone l on = kept_part (is_among x gone) (is_among x l) (sym (among-without_all x gone l) ∙ on)

is_out : (x : Place) (gone l : List Place) → is_among x (without_all gone l) ≡ true → is_among x gone ≡ false
is_out x gone l on = out_part (is_among x gone) (is_among x l) (sym (among-without_all x gone l) ∙ on)

-- the objects behind those that were walked over
abbrev pub led_behind : List Place → Led → Led
led_behind front (Reaches places) = Reaches (front ++ places)
led_behind front (Breaks word) = Breaks word

behind_from : (front : List Place) (p : Place) (l : Led) → led_behind front (led_from p l) ≡ led_behind (front ++ p ∷ []) l
behind_from front p (Reaches places) = ap Reaches (sym (append_assoc front (p ∷ []) places))
behind_from front p (Breaks word) = refl

-- one step of the walk, by its three tests
abbrev pub step_of : Place → ℕ → Led → Bool → Bool → Bool → Led
step_of p word rest at_tail good on = elim at_tail [ true ↦ if good then Reaches (p ∷ []) else Breaks word | false ↦ elim on [ true ↦ led_from p rest | false ↦ Breaks word ] ]

led-step : (n : ℕ) (words : Words) (locale : ℕ) (ends : ℕ → Bool) (tail : Place) (left : List Place) (p : Place)
    → led (suc n) words locale ends tail left p ≡ step_of p (words.next p) (led n words locale ends tail (without (behind words p) left) (behind words p)) (same_place p tail) (ends (words.next p)) (leads_into words locale left (words.next p))
unfolding led
led-step n words locale ends tail left p = refl

module _ (words : Words) (hand : List Place) (locale : ℕ) (ends : ℕ → Bool) (tail top : Place) (way : Led) where
  -- so far the walk agrees with the way
  pub record Walks (i : ℕ) : Type 0 where
    pub fuel : ℕ
    pub enough : length (lefts words hand top i) ≤ fuel
    pub here : is_among (follow words top i) (lefts words hand top i) ≡ true
    pub agrees : way ≡ led_behind (path words top i) (led fuel words locale ends tail (lefts words hand top (suc i)) (follow words top i))
    pub is_way : IsWay words hand top i

  begins : (l : Led) → l ≡ led_behind [] l
  begins (Reaches places) = refl
  begins (Breaks word) = refl

  pub walks-begin : way ≡ led (length hand) words locale ends tail (without top hand) top → is_among top hand ≡ true → Walks 0
  walks-begin is has = record { fuel = length hand; enough = omega arith; here = has; agrees = is ∙ begins (led (length hand) words locale ends tail (without top hand) top); is_way = tt }

  module _ (i : ℕ) (w : Walks i) where
    some : (n : ℕ) × (w.fuel ≡ suc n) × (length (lefts words hand top (suc i)) ≤ n)
    some = some_fuel w.fuel (lefts words hand top i) (follow words top i) w.enough w.here

    pub has_hand : is_among (follow words top i) hand ≡ true
    has_hand = in_hand (follow words top i) (path words top i) hand (sym (among-lefts words hand top i (follow words top i)) ∙ w.here)

    pub is_new : is_among (follow words top i) (path words top i) ≡ false
    is_new = is_out (follow words top i) (path words top i) hand (sym (among-lefts words hand top i (follow words top i)) ∙ w.here)

    pub is_way_now : IsWay words hand top (suc i)
    is_way_now = IsWay-more words hand top i w.is_way has_hand is_new

    stepped : way ≡ led_behind (path words top i)
        (step_of (follow words top i) (words.next (follow words top i)) (led some.0 words locale ends tail (lefts words hand top (suc (suc i))) (follow words top (suc i)))
        (same_place (follow words top i) tail) (ends (words.next (follow words top i))) (leads_into words locale (lefts words hand top (suc i)) (words.next (follow words top i))))
    stepped =
        w.agrees ∙ ap (λ n. led_behind (path words top i) (led n words locale ends tail (lefts words hand top (suc i)) (follow words top i))) some.1
        ∙ ap (λ l. led_behind (path words top i) l) (led-step some.0 words locale ends tail (lefts words hand top (suc i)) (follow words top i))

    tests : (a b c : Bool) → same_place (follow words top i) tail ≡ a → ends (words.next (follow words top i)) ≡ b → leads_into words locale (lefts words hand top (suc i)) (words.next (follow words top i)) ≡ c
        → way ≡ led_behind (path words top i) (step_of (follow words top i) (words.next (follow words top i)) (led some.0 words locale ends tail (lefts words hand top (suc (suc i))) (follow words top (suc i))) a b c)
    tests a b c at good on = stepped ∙ (λ j. led_behind (path words top i) (step_of (follow words top i) (words.next (follow words top i)) (led some.0 words locale ends tail (lefts words hand top (suc (suc i))) (follow words top (suc i))) (at j) (good j) (on j)))

    pub walks-end : same_place (follow words top i) tail ≡ true → ends (words.next (follow words top i)) ≡ true → way ≡ Reaches (path words top (suc i))
    walks-end at good = tests true true _ at good refl ∙ ap Reaches (sym (path-more words top i))

    pub walks-bad_end : same_place (follow words top i) tail ≡ true → ends (words.next (follow words top i)) ≡ false → way ≡ Breaks (words.next (follow words top i))
    walks-bad_end at bad = tests true false _ at bad refl

    pub walks-break : same_place (follow words top i) tail ≡ false → leads_into words locale (lefts words hand top (suc i)) (words.next (follow words top i)) ≡ false → way ≡ Breaks (words.next (follow words top i))
    walks-break off bad = tests false _ false off refl bad

    pub walks-on : same_place (follow words top i) tail ≡ false → leads_into words locale (lefts words hand top (suc i)) (words.next (follow words top i)) ≡ true → Walks (suc i)
    walks-on off good = record {
      fuel = some.0;
      enough = some.2;
      here = left_of (is_among (behind words (follow words top i)) (lefts words hand top (suc i))) _ good;
      agrees =
          tests false _ true off refl good ∙ behind_from (path words top i) (follow words top i) (led some.0 words locale ends tail (lefts words hand top (suc (suc i))) (follow words top (suc i)))
          ∙ ap (λ l. led_behind l (led some.0 words locale ends tail (lefts words hand top (suc (suc i))) (follow words top (suc i)))) (sym (path-more words top i));
      is_way = is_way_now;
    }

and_true : (a b c : Bool) → a ≡ true → b ≡ true → (a && (b && c)) ≡ c
and_true true true c h k = refl
and_true true false c h k = absurd (cc k)
and_true false b c h k = absurd (cc h)

count_test : (word count : ℕ) → (count == word % 4294967296) ≡ (word == word_of (pointer_at (place_in word) count))
unfolding place_in index_in
count_test word count = elim (eqb_tells count (word % 4294967296)) [
  | inl (on, same) ↦ elim (eqb_tells word (word_of (pointer_at (place_in word) count))) [ inl (also, _) ↦ on ∙ sym also | inr (_, apart) ↦ absurd (apart (omega arith)) ]
  | inr (off, apart) ↦ elim (eqb_tells word (word_of (pointer_at (place_in word) count))) [ inl (_, same) ↦ absurd (apart (omega arith)) | inr (also, _) ↦ off ∙ sym also ]
]

-- the word of a pointer to an object of the hand, by its count
pub leads_test : (words : Words) (locale : ℕ) (hand : List Place) (word : ℕ) → is_among (place_in word) hand ≡ true → (place_in word).locale ≡ locale
    → ((words.header (place_in word)).count == word % 4294967296) ≡ leads_into words locale hand word
leads_test words locale hand word has at =
    count_test word ((words.header (place_in word)).count)
    ∙ sym (and_true (is_among (place_in word) hand) ((place_in word).locale == locale) (word == word_of (pointer_at (place_in word) ((words.header (place_in word)).count))) has (elim (eqb_tells ((place_in word).locale) locale) [ inl (on, _) ↦ on | inr (_, apart) ↦ absurd (apart at) ]))

-- an object that isn't in the hand is led to by no word
pub leads_not : (words : Words) (locale : ℕ) (hand : List Place) (word : ℕ) → is_among (place_in word) hand ≡ false → leads_into words locale hand word ≡ false
leads_not words locale hand word off = ap (λ b. b && (((place_in word).locale == locale) && (word == word_of (pointer_at (place_in word) ((words.header (place_in word)).count))))) off

-- only which objects are in the hand matters
pub leads_as : (words : Words) (locale : ℕ) (a b : List Place) (word : ℕ) → ((x : Place) → is_among x a ≡ is_among x b) → leads_into words locale a word ≡ leads_into words locale b word
leads_as words locale a b word same = ap (λ t. t && (((place_in word).locale == locale) && (word == word_of (pointer_at (place_in word) ((words.header (place_in word)).count))))) (same (place_in word))
