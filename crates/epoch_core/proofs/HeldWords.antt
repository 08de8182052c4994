-- The objects that a seat holds, as a list of words and as a list of places.
use Rattle.std.proofs.Common.{◌≡◌, ◌<◌, ◌+◌, ◌*◌, ◌/◌, ◌%◌, ◌↔◌, ℕ, Bool, true, false, if◌then◌else◌, List, [], ◌∷◌, ◌++◌, Result, Ok, Err, IsOk, length, map, reverse, refl, ap, sym, ◌∙◌, subst, arith, inl, inr}
use Rattle.std.specs.Prelude.{OnOk, ◌||◌}
use Rattle.std.specs.List.{list_any}
use Rattle.pgas_base.specs.Pointers.{Pointer, IsPointer, word_of}
use Rattle.epoch_laws.specs.Places.{Place, same_place, index_in, is_among, joined_by, place_in, place_of, with_number}
use Rattle.epoch_laws.specs.Seats.{Seat}
use Rattle.epoch_laws.specs.States.{State, with_seat}
use Rattle.epoch_laws.proofs.Updates.{number_here, number_there}
use mathlib.Core.Path.{fun_ext}
use Rattle.std.proofs.lemmas.List.{length-map, length-reverse, map-append, reverse-append}
use Rattle.std.proofs.lemmas.Bool.Decides.{eqb_tells}
use Rattle.epoch_core.specs.declared.machine.Machine.{Machine}
use Rattle.epoch_core.specs.Shown.{IsShowing}

pub joined_there : (p : Place) (l : List Place) → is_among p l ≡ true → joined_by p l ≡ l
unfolding joined_by
joined_there p l on = rw on refl

pub joined_new : (p : Place) (l : List Place) → is_among p l ≡ false → joined_by p l ≡ p ∷ l
unfolding joined_by
joined_new p l off = rw off refl

pub stored_same : (s : State) (c : ℕ) → with_number s.seat c (s.seat c) ≡ s.seat
stored_same s c = fun_ext (λ k. elim (eqb_tells k c) [
  | inl (_, at) ↦ subst (λ n. with_number s.seat c (s.seat c) n ≡ s.seat n) (sym at) (number_here s.seat c (s.seat c))
  | inr (_, apart) ↦ number_there s.seat c (s.seat c) k apart
])

-- a seat that is stored as it was
pub unchanged : (m : Machine) (s : State) → IsShowing m s → (c : ℕ) → IsShowing m (with_seat s c (s.seat c))
unchanged m s sh c = subst (λ (f : ℕ → Seat). IsShowing m (record s { seat = f })) (sym (stored_same s c)) sh

pub length-held : (words : List ℕ) → length (map place_in (reverse words)) ≡ length words
length-held words = length-map (reverse words) place_in ∙ length-reverse words

pub held-push : (words : List ℕ) (word : ℕ) → map place_in (reverse (words ++ word ∷ [])) ≡ place_in word ∷ map place_in (reverse words)
held-push words word = ap (λ (l : List ℕ). map place_in l) (reverse-append words (word ∷ []))

locale_in : (l i n : ℕ) → i < 16777216 → n < 4294967296 → (l * 72057594037927936 + i * 4294967296 + n) / 72057594037927936 ≡ l
locale_in l i n low_index low_count = omega arith

index_in_word : (l i n : ℕ) → i < 16777216 → n < 4294967296 → (l * 72057594037927936 + i * 4294967296 + n) / 4294967296 % 16777216 ≡ i
index_in_word l i n low_index low_count = omega arith

-- the word of a pointer names its place
pub place_in-word : (p : Pointer) → IsPointer p → place_in (word_of p) ≡ place_of p
unfolding place_in index_in
place_in-word p is =
    let low_index : p.index < 16777216 = is.index in
    let low_count : p.count < 4294967296 = is.count in
    (λ i. record { locale = locale_in p.locale p.index p.count low_index low_count i; index = index_in_word p.locale p.index p.count low_index low_count i })

-- what a push with room gives
pub pushes : {A B E : Type 0} (r : Result B E) (n : ℕ) (now after : List A) → (IsOk r ↔ (n < 4)) → OnOk r (now ≡ after) → n < 4 → now ≡ after
pushes (Ok v) n now after variant ok room = ok
pushes (Err e) n now after variant ok room = absurd (cc (variant.1 room))

among-append : (p : Place) (a b : List Place) → is_among p (a ++ b) ≡ (is_among p a || is_among p b)
unfolding is_among
among-append p [] b = refl
among-append p (q ∷ a) b = elim (same_place p q) as (λ h. (if h then true else is_among p (a ++ b)) ≡ ((if h then true else is_among p a) || is_among p b)) [ true ↦ refl | false ↦ among-append p a b ]

or_false : (a : Bool) → (a || false) ≡ a
or_false true = refl
or_false false = refl

or_swap : (a b : Bool) → (a || b) ≡ (b || a)
or_swap true true = refl
or_swap true false = refl
or_swap false true = refl
or_swap false false = refl

among-one : (p q : Place) → is_among p (q ∷ []) ≡ same_place p q
unfolding is_among
among-one p q = elim (same_place p q) as (λ b. (if b then true else false) ≡ b) [ true ↦ refl | false ↦ refl ]

-- what stands among the held
pub among-held : (p : Place) (words : List ℕ) → is_among p (map place_in (reverse words)) ≡ list_any (λ word. same_place p (place_in word)) words
unfolding is_among
among-held p [] = refl
among-held p (word ∷ words) =
    let split : map place_in (reverse (word ∷ words)) ≡ map place_in (reverse words) ++ place_in word ∷ [] =
    ap (λ (l : List ℕ). map place_in l) (reverse-append (word ∷ []) words) ∙ map-append place_in (reverse words) (word ∷ []) in
    ap (λ (l : List Place). is_among p l) split ∙ among-append p (map place_in (reverse words)) (place_in word ∷ [])
    ∙ ap (λ b. b || is_among p (place_in word ∷ [])) (among-held p words) ∙ or_swap (list_any (λ w. same_place p (place_in w)) words) (is_among p (place_in word ∷ []))
    ∙ ap (λ b. b || list_any (λ w. same_place p (place_in w)) words) (among-one p (place_in word))

pub among-both : (p : Place) (a b : List Place) → is_among p (a ++ b) ≡ (is_among p a || is_among p b)
among-both = among-append
