-- The forms of a line of a run are a grammar.
use Rattle.std.proofs.Common.{◌≡◌, ℕ, ◌+◌, ◌-◌, ◌*◌, ◌/◌, ◌<◌, ◌≤◌, ◌^◌, true, false, List, [], ◌∷◌, ◌++◌, length, Some, None, Ok, codes, refl, ap, ◌∙◌, arith, subst}
use Rattle.std.specs.List.{AllByRecursion}
use Rattle.std.proofs.Math.Nat.{div-mul-le_self}
use Rattle.std.proofs.lemmas.Bool.{false≢true}
use Rattle.std.proofs.lemmas.Nat.{le-div, mul-le}
use Rattle.std.proofs.lemmas.Option.{none-some, same_Some}
use Rattle.line_text.specs.declared.forms.Bounds.{Bounds}
use Rattle.line_text.specs.Letters.{words_from, all_at}
use Rattle.line_text.specs.Lines.{IsGrammar, IsBounds, MayJoin, then_leads, says_number, says_words, word_leads, word_at}
use Rattle.line_text.specs.Ranges.{between, between_sound}
use Rattle.line_text.specs.Words.{Cut, cut, with_letter, words_of as words_in, AreLetters}
use Rattle.line_text.proofs.WrittenWords.{number_leads_on}
use Rattle.epoch_laws.specs.declared.steps.Kind.TheVariants as kind
use Rattle.run_text.specs.declared.forms.RunLine.{RunLine}
use Rattle.run_text.specs.declared.forms.RunLine.TheVariants as line
use Rattle.run_text.specs.declared.forms.Spot.{Spot}
use Rattle.run_text.specs.declared.forms.Spot.TheVariants.{First, Version, ShapeWord, Locales, Tokens, Objects, Width, StartWord, Epoch, Count, Stack, SeatsWord, Seats, Seat, Kind, Locale, Number, Pointer, Index, Uses, Next, Whole}
use Rattle.run_text.specs.declared.verbs.LocaleVerb.TheVariants as locale
use Rattle.run_text.specs.declared.verbs.NumberVerb.TheVariants as number
use Rattle.run_text.specs.declared.verbs.PointerVerb.{PointerVerb}
use Rattle.run_text.specs.declared.verbs.PointerVerb.TheVariants as pointer
use Rattle.pgas_base.specs.Pointers.{Pointer as Ptr, IsPointer}
use Rattle.run_text.specs.Forms.{kind_words, kind_spots, words_of, after_word, objects_most, width_most, bounds_of, after_locale, after_number_of, after_pointer, after_number, joined_of, run_grammar, IsVerb, IsSpot}

-- ---- words

kinds_keep : (seat : ℕ) → seat < 2 ^ 32 → AllByRecursion IsSpot (kind_spots seat)
kinds_keep seat is =
    (is, ((is, tt), ((is, tt), ((is, tt), ((is, tt), (is, (is, ((is, tt), ((is, tt), ((is, tt), ((is, tt), ((is, tt), ((is, tt), ((is, tt), ((is, tt), ((is, tt), ((is, tt), ((is, tt), ((is, tt), ((is, tt), ((is, tt), ((is, tt), ((is, tt), ((is, tt), (is, ((is, tt), ((is, tt), ((is, tt), ((is, tt), ((is, tt), ((is, tt), (is, ((is, tt), tt)))))))))))))))))))))))))))))))))

word_keeps : (spot : Spot) (index : ℕ) → IsSpot spot → index < length (words_of spot) → IsSpot (after_word spot index)
word_keeps First index is within = tt
word_keeps Version index is within = tt
word_keeps ShapeWord index is within = tt
word_keeps Locales index is within = tt
word_keeps StartWord index is within = tt
word_keeps Epoch index is within = tt
word_keeps SeatsWord index is within = tt
word_keeps Seats index is within = tt
word_keeps Seat index is within = tt
word_keeps (Kind seat) index is within = all_at IsSpot (kind_spots seat) index (Kind seat) within (kinds_keep seat is)
word_keeps spot index is within = is

letters : (spot : Spot) (index : ℕ) → IsSpot spot → index < length (words_of spot) → AreLetters (word_at run_grammar spot index)
letters First index is within = all_at AreLetters (codes "pgas-run" ∷ []) index [] within (words_from (codes "pgas-run" ∷ []) refl)
letters Version index is within = all_at AreLetters (codes "1" ∷ []) index [] within (words_from (codes "1" ∷ []) refl)
letters ShapeWord index is within = all_at AreLetters (codes "shape" ∷ []) index [] within (words_from (codes "shape" ∷ []) refl)
letters StartWord index is within = all_at AreLetters (codes "start" ∷ []) index [] within (words_from (codes "start" ∷ []) refl)
letters SeatsWord index is within = all_at AreLetters (codes "seats" ∷ []) index [] within (words_from (codes "seats" ∷ []) refl)
letters Seat index is within = all_at AreLetters (codes "end" ∷ []) index [] within (words_from (codes "end" ∷ []) refl)
letters (Kind seat) index is within = all_at AreLetters kind_words index [] within (words_from kind_words refl)
letters spot index is within = absurd (omega (arith, within))

-- ---- bounds

-- room for an object, and for the least width of all
objects_some : (locales : ℕ) → 1 ≤ locales → locales ≤ 16 → 1 ≤ objects_most locales
objects_some locales some few =
    let room : 1 ≤ 2 ^ 25 / (4 * locales) = le-div 1 (2 ^ 25) (4 * locales) (omega arith) (omega arith) in omega (arith, room)

width_room : (locales objects : ℕ) → 1 ≤ locales → 1 ≤ objects → locales * objects * 4 ≤ 2 ^ 25 → 4 ≤ 2 ^ 25 / (locales * objects)
width_room locales objects some some_object few = le-div 4 (2 ^ 25) (locales * objects) (omega (arith, mul-le 1 1 locales objects some some_object)) (omega (arith, few))

width_some : (locales objects : ℕ) → 1 ≤ locales → 1 ≤ objects → locales * objects * 4 ≤ 2 ^ 25 → 2 ≤ width_most locales objects
width_some locales objects some some_object few = omega (arith, width_room locales objects some some_object few)

-- a quotient keeps its bound
mul_quotient : (n m k : ℕ) → k ≤ n / m → k * m ≤ n
mul_quotient n m k below = omega (arith, mul-le k m (n / m) m below (omega arith), div-mul-le_self n m)

bounds_sound : (spot : Spot) (bounds : Bounds) → IsSpot spot → bounds_of spot ≡ Some bounds → IsBounds bounds
bounds_sound Locales own is same = subst IsBounds (same_Some (between 1 16) own same) (between_sound 1 16 (omega arith) (omega arith) (omega arith))
bounds_sound (Tokens locales) own is same = subst IsBounds (same_Some (between 1 1024) own same) (between_sound 1 1024 (omega arith) (omega arith) (omega arith))
bounds_sound (Objects locales tokens) own is same = subst IsBounds (same_Some (between 1 (objects_most locales)) own same) (between_sound 1 (objects_most locales) (omega arith) (objects_some locales is.0.0 is.0.1) (omega arith))
bounds_sound (Width locales tokens objects) own is same = subst IsBounds (same_Some (between 2 (width_most locales objects)) own same) (between_sound 2 (width_most locales objects) (omega arith) (width_some locales objects is.0.0 is.2.0 is.3) (omega arith))
bounds_sound Epoch own is same = subst IsBounds (same_Some (between 1 (2 ^ 62)) own same) (between_sound 1 (2 ^ 62) (omega arith) (omega arith) (omega arith))
bounds_sound (Count epoch) own is same = subst IsBounds (same_Some (between 0 (2 ^ 32 - 1)) own same) (between_sound 0 (2 ^ 32 - 1) (omega arith) (omega arith) (omega arith))
bounds_sound (Stack epoch count) own is same = subst IsBounds (same_Some (between 0 (2 ^ 40 - 1)) own same) (between_sound 0 (2 ^ 40 - 1) (omega arith) (omega arith) (omega arith))
bounds_sound Seats own is same = subst IsBounds (same_Some (between 1 1024) own same) (between_sound 1 1024 (omega arith) (omega arith) (omega arith))
bounds_sound Seat own is same = subst IsBounds (same_Some (between 0 (2 ^ 32 - 1)) own same) (between_sound 0 (2 ^ 32 - 1) (omega arith) (omega arith) (omega arith))
bounds_sound (Locale seat verb) own is same = subst IsBounds (same_Some (between 0 255) own same) (between_sound 0 255 (omega arith) (omega arith) (omega arith))
bounds_sound (Number seat verb locale) own is same = subst IsBounds (same_Some (between 0 (2 ^ 32 - 1)) own same) (between_sound 0 (2 ^ 32 - 1) (omega arith) (omega arith) (omega arith))
bounds_sound (Pointer seat verb) own is same = subst IsBounds (same_Some (between 0 15) own same) (between_sound 0 15 (omega arith) (omega arith) (omega arith))
bounds_sound (Index seat verb locale) own is same = subst IsBounds (same_Some (between 1 (2 ^ 24 - 1)) own same) (between_sound 1 (2 ^ 24 - 1) (omega arith) (omega arith) (omega arith))
bounds_sound (Uses seat verb locale i) own is same = subst IsBounds (same_Some (between 0 (2 ^ 32 - 1)) own same) (between_sound 0 (2 ^ 32 - 1) (omega arith) (omega arith) (omega arith))
bounds_sound (Next seat ptr) own is same = subst IsBounds (same_Some (between 0 (2 ^ 64 - 1)) own same) (between_sound 0 (2 ^ 64 - 1) (omega arith) (omega arith) (omega arith))
bounds_sound spot own is same = absurd (none-some own same)

-- ---- numbers

-- the number is in the form's own bounds
ranged : (own bounds : Bounds) (n : ℕ) → Some own ≡ Some bounds → bounds.least ≤ n → n ≤ bounds.most → (own.least ≤ n) × (n ≤ own.most)
ranged own bounds n same least most = let is = same_Some own bounds same in (omega (arith, least, ap (λ (b : Bounds). b.least) is), omega (arith, most, ap (λ (b : Bounds). b.most) is))

objects_room : (locales n : ℕ) → n ≤ objects_most locales → locales * n * 4 ≤ 2 ^ 25
objects_room locales n below = let product = mul_quotient (2 ^ 25) (4 * locales) n (omega (arith, below)) in omega (arith, product)

width_fits : (locales objects n : ℕ) → 1 ≤ locales → 1 ≤ objects → locales * objects * 4 ≤ 2 ^ 25 → n ≤ width_most locales objects → locales * objects * (n + 2) ≤ 2 ^ 25
width_fits locales objects n some some_object few below =
    let room = width_room locales objects some some_object few in
    let product = mul_quotient (2 ^ 25) (locales * objects) (n + 2) (omega (arith, room, below)) in omega (arith, product)

locale_keeps : (seat : ℕ) (verb : _) (l : ℕ) → seat < 2 ^ 32 → l < 2 ^ 8 → IsSpot (after_locale seat verb l)
locale_keeps seat (locale.Number verb) l is fits = (is, fits)
locale_keeps seat locale.StackLook l is fits = (is, fits)
locale_keeps seat locale.HomeTake l is fits = (is, fits)

number_of_keeps : (seat : ℕ) (verb : _) (l n : ℕ) → seat < 2 ^ 32 → l < 2 ^ 8 → n < 2 ^ 32 → IsSpot (after_number_of seat verb l n)
number_of_keeps seat number.Register l n is fits other = (is, (fits, other))
number_of_keeps seat number.TakeLook l n is fits other = (is, (fits, other))
number_of_keeps seat number.TakeTry l n is fits other = (is, (fits, other))

pointer_keeps : (seat : ℕ) (verb : PointerVerb) (p : Ptr) → seat < 2 ^ 32 → IsVerb verb → IsPointer p → IsSpot (after_pointer seat verb p)
pointer_keeps seat (pointer.StackTail top) p is own points = (is, (own, points))
pointer_keeps seat (pointer.HomeTail top) p is own points = (is, (own, points))
pointer_keeps seat verb p is own points = (is, points)

number_keeps : (spot : Spot) (bounds : Bounds) (n : ℕ) → IsSpot spot → bounds_of spot ≡ Some bounds → bounds.least ≤ n → n ≤ bounds.most → IsSpot (after_number spot n)
number_keeps Locales bounds n is own least most = let r = ranged (between 1 16) bounds n own least most in r
number_keeps (Tokens locales) bounds n is own least most = let r = ranged (between 1 1024) bounds n own least most in (is, r.0, r.1)
number_keeps (Objects locales tokens) bounds n is own least most = let r = ranged (between 1 (objects_most locales)) bounds n own least most in (is.0, (is.1, is.2), (r.0, omega (arith, r.1)), objects_room locales n r.1)
number_keeps (Width locales tokens objects) bounds n is own least most = let r = ranged (between 2 (width_most locales objects)) bounds n own least most in (is.0, is.1, is.2, (r.0, omega (arith, r.1)), width_fits locales objects n is.0.0 is.2.0 is.3 r.1)
number_keeps Epoch bounds n is own least most = let r = ranged (between 1 (2 ^ 62)) bounds n own least most in r
number_keeps (Count epoch) bounds n is own least most = let r = ranged (between 0 (2 ^ 32 - 1)) bounds n own least most in (is, omega (arith, r.1))
number_keeps (Stack epoch count) bounds n is own least most = let r = ranged (between 0 (2 ^ 40 - 1)) bounds n own least most in (record { some_epoch = is.0.0; epoch = is.0.1; stack = omega (arith, r.1) }, is.1)
number_keeps Seats bounds n is own least most = let r = ranged (between 1 1024) bounds n own least most in r
number_keeps Seat bounds n is own least most = let r = ranged (between 0 (2 ^ 32 - 1)) bounds n own least most in omega (arith, r.1)
number_keeps (Locale seat verb) bounds n is own least most = let r = ranged (between 0 255) bounds n own least most in locale_keeps seat verb n is (omega (arith, r.1))
number_keeps (Number seat verb locale) bounds n is own least most = let r = ranged (between 0 (2 ^ 32 - 1)) bounds n own least most in number_of_keeps seat verb locale n is.0 is.1 (omega (arith, r.1))
number_keeps (Pointer seat verb) bounds n is own least most = let r = ranged (between 0 15) bounds n own least most in (is.0, is.1, omega (arith, r.1))
number_keeps (Index seat verb locale) bounds n is own least most = let r = ranged (between 1 (2 ^ 24 - 1)) bounds n own least most in (is.0, is.1, is.2, r.0, omega (arith, r.1))
number_keeps (Uses seat verb locale i) bounds n is own least most = let r = ranged (between 0 (2 ^ 32 - 1)) bounds n own least most in pointer_keeps seat verb (record { locale = locale; index = i; count = n }) is.0 is.1 (record { locale = is.2; some_object = is.3; index = is.4; count = omega (arith, r.1) })
number_keeps (Next seat ptr) bounds n is own least most = let r = ranged (between 0 (2 ^ 64 - 1)) bounds n own least most in (is.0, (is.1, omega (arith, r.1)))
number_keeps spot bounds n is own least most = absurd (none-some bounds own)

-- ---- each form goes on

abbrev GoesFrom : Spot → Type 0
GoesFrom spot = (rest : List ℕ) × (said : RunLine) × (says_words run_grammar spot (words_in (cut rest)) ≡ Ok (Some said))

-- a digit that is in the bounds of a form with other numbers in them
one_leads : (spot : Spot) (bounds : Bounds) → bounds_of spot ≡ Some bounds → joined_of spot ≡ false → bounds.least ≤ 1 → 1 ≤ bounds.most → word_leads run_grammar spot (codes "1") ≡ Ok (after_number spot 1)
one_leads spot bounds own alone least most = number_leads_on run_grammar IsSpot spot bounds (codes "1") 1 own (omega arith) (refl, tt) refl least most alone

two_leads : (spot : Spot) (bounds : Bounds) → bounds_of spot ≡ Some bounds → joined_of spot ≡ false → bounds.least ≤ 2 → 2 ≤ bounds.most → word_leads run_grammar spot (codes "2") ≡ Ok (after_number spot 2)
two_leads spot bounds own alone least most = number_leads_on run_grammar IsSpot spot bounds (codes "2") 2 own (omega arith) (refl, tt) refl least most alone

width_goes : (locales tokens objects : ℕ) → IsSpot (Width locales tokens objects)
    → says_words run_grammar (Width locales tokens objects) (codes "2" ∷ []) ≡ Ok (Some (line.Shape (record { locales = locales; tokens = tokens; objects = objects; width = 2 })))
width_goes locales tokens objects is =
    ap (λ r. then_leads r (λ next. says_words run_grammar next []))
    (two_leads (Width locales tokens objects) (between 2 (width_most locales objects)) refl refl (omega arith) (width_some locales objects is.0.0 is.2.0 is.3))

objects_goes : (locales tokens : ℕ) → IsSpot (Objects locales tokens)
    → says_words run_grammar (Objects locales tokens) (codes "1" ∷ codes "2" ∷ []) ≡ Ok (Some (line.Shape (record { locales = locales; tokens = tokens; objects = 1; width = 2 })))
objects_goes locales tokens is =
    ap (λ r. then_leads r (λ next. says_words run_grammar next (codes "2" ∷ [])))
    (one_leads (Objects locales tokens) (between 1 (objects_most locales)) refl refl (omega arith) (objects_some locales is.0.0 is.0.1))
    ∙ width_goes locales tokens 1 (is.0, (is.1, is.2), (omega arith, omega arith), omega (arith, is.0.1))

tokens_goes : (locales : ℕ) → IsSpot (Tokens locales)
    → says_words run_grammar (Tokens locales) (codes "1" ∷ codes "1" ∷ codes "2" ∷ []) ≡ Ok (Some (line.Shape (record { locales = locales; tokens = 1; objects = 1; width = 2 })))
tokens_goes locales is = objects_goes locales 1 (is, omega arith, omega arith)

-- the least pointer of a locale
abbrev least : ℕ → Ptr
least l = record { locale = l; index = 1; count = 0 }

-- what may stand behind a pointer, and what the step then says
abbrev Behind : ℕ → PointerVerb → Ptr → Type 0
Behind seat verb p =
    (rest : List ℕ) × (words : List (List ℕ)) × (said : RunLine) × (cut rest ≡ record { word = []; others = words }) × (says_words run_grammar (after_pointer seat verb p) words ≡ Ok (Some said))

behind : (seat : ℕ) (verb : PointerVerb) (p : Ptr) → Behind seat verb p
behind seat pointer.Show p = ([], [], line.Step (record { seat = seat; kind = kind.Show p }), refl, refl)
behind seat pointer.Hold p = ([], [], line.Step (record { seat = seat; kind = kind.Hold p }), refl, refl)
behind seat pointer.Touch p = ([], [], line.Step (record { seat = seat; kind = kind.Touch p }), refl, refl)
behind seat pointer.Return p = ([], [], line.Step (record { seat = seat; kind = kind.Return p }), refl, refl)
behind seat pointer.DeferLook p = ([], [], line.Step (record { seat = seat; kind = kind.DeferLook p }), refl, refl)
behind seat pointer.Release p = ([], [], line.Step (record { seat = seat; kind = kind.Release p }), refl, refl)
behind seat pointer.HandLink p = (codes " 0", codes "0" ∷ [], line.Step (record { seat = seat; kind = kind.HandLink p 0 }), refl, refl)
behind seat pointer.StackPut p = (codes " 0.1.0", codes "0.1.0" ∷ [], line.Step (record { seat = seat; kind = kind.StackPut p (least 0) }), refl, refl)
behind seat (pointer.StackTail top) p = ([], [], line.Step (record { seat = seat; kind = kind.StackPut top p }), refl, refl)
behind seat pointer.HomeSwap p = (codes " 0.1.0", codes "0.1.0" ∷ [], line.Step (record { seat = seat; kind = kind.HomeSwap p (least 0) }), refl, refl)
behind seat (pointer.HomeTail top) p = ([], [], line.Step (record { seat = seat; kind = kind.HomeSwap top p }), refl, refl)

abbrev lettered : List ℕ → Cut → Cut
lettered [] cut = cut
lettered (letter ∷ letters) cut = with_letter letter (lettered letters cut)

module _ (seat : ℕ) (verb : PointerVerb) where
  pointer_goes : GoesFrom (Pointer seat verb)
  pointer_goes = let b = behind seat verb (least 0) in (codes "0.1.0" ++ b.0, b.2, ap (λ (c : Cut). says_words run_grammar (Pointer seat verb) (words_in (lettered (codes "0.1.0") c))) b.3 ∙ b.4)

  index_goes : (l : ℕ) → GoesFrom (Index seat verb l)
  index_goes l = let b = behind seat verb (least l) in (codes "1.0" ++ b.0, b.2, ap (λ (c : Cut). says_words run_grammar (Index seat verb l) (words_in (lettered (codes "1.0") c))) b.3 ∙ b.4)

  index_joins : (l : ℕ) → MayJoin run_grammar (Index seat verb l)
  index_joins l = let b = behind seat verb (least l) in (codes "1.0" ++ b.0, b.2, ap (λ (c : Cut). says_number run_grammar (Index seat verb l) None (lettered (codes "1.0") c)) b.3 ∙ b.4)

  uses_goes : (l i : ℕ) → GoesFrom (Uses seat verb l i)
  uses_goes l i = let b = behind seat verb (record { locale = l; index = i; count = 0 }) in (codes "0" ++ b.0, b.2, ap (λ (c : Cut). says_words run_grammar (Uses seat verb l i) (words_in (lettered (codes "0") c))) b.3 ∙ b.4)

  uses_joins : (l i : ℕ) → MayJoin run_grammar (Uses seat verb l i)
  uses_joins l i = let b = behind seat verb (record { locale = l; index = i; count = 0 }) in (codes "0" ++ b.0, b.2, ap (λ (c : Cut). says_number run_grammar (Uses seat verb l i) None (lettered (codes "0") c)) b.3 ∙ b.4)

locale_goes : (seat : ℕ) (verb : _) → GoesFrom (Locale seat verb)
locale_goes seat (locale.Number number.Register) = (codes "0 0", line.Step (record { seat = seat; kind = kind.Register 0 0 }), refl)
locale_goes seat (locale.Number number.TakeLook) = (codes "0 0", line.Step (record { seat = seat; kind = kind.TakeLook 0 0 }), refl)
locale_goes seat (locale.Number number.TakeTry) = (codes "0 0", line.Step (record { seat = seat; kind = kind.TakeTry 0 0 }), refl)
locale_goes seat locale.StackLook = (codes "0", line.Step (record { seat = seat; kind = kind.StackLook 0 }), refl)
locale_goes seat locale.HomeTake = (codes "0", line.Step (record { seat = seat; kind = kind.HomeTake 0 }), refl)

number_goes : (seat : ℕ) (verb : _) (l : ℕ) → GoesFrom (Number seat verb l)
number_goes seat number.Register l = (codes "0", line.Step (record { seat = seat; kind = kind.Register l 0 }), refl)
number_goes seat number.TakeLook l = (codes "0", line.Step (record { seat = seat; kind = kind.TakeLook l 0 }), refl)
number_goes seat number.TakeTry l = (codes "0", line.Step (record { seat = seat; kind = kind.TakeTry l 0 }), refl)

goes_on : (spot : Spot) → IsSpot spot → GoesFrom spot
goes_on First is = (codes "pgas-run 1", line.Version, refl)
goes_on Version is = (codes "1", line.Version, refl)
goes_on ShapeWord is = (codes "shape 1 1 1 2", line.Shape (record { locales = 1; tokens = 1; objects = 1; width = 2 }), refl)
goes_on Locales is = (codes "1 1 1 2", line.Shape (record { locales = 1; tokens = 1; objects = 1; width = 2 }), refl)
goes_on (Tokens locales) is = (codes "1 1 2", line.Shape (record { locales = locales; tokens = 1; objects = 1; width = 2 }), tokens_goes locales is)
goes_on (Objects locales tokens) is = (codes "1 2", line.Shape (record { locales = locales; tokens = tokens; objects = 1; width = 2 }), objects_goes locales tokens is)
goes_on (Width locales tokens objects) is = (codes "2", line.Shape (record { locales = locales; tokens = tokens; objects = objects; width = 2 }), width_goes locales tokens objects is)
goes_on StartWord is = (codes "start 1 0 0", line.Start (record { epoch = 1; count = 0; stack = 0 }), refl)
goes_on Epoch is = (codes "1 0 0", line.Start (record { epoch = 1; count = 0; stack = 0 }), refl)
goes_on (Count epoch) is = (codes "0 0", line.Start (record { epoch = epoch; count = 0; stack = 0 }), refl)
goes_on (Stack epoch count) is = (codes "0", line.Start (record { epoch = epoch; count = count; stack = 0 }), refl)
goes_on SeatsWord is = (codes "seats 1", line.Seats 1, refl)
goes_on Seats is = (codes "1", line.Seats 1, refl)
goes_on Seat is = (codes "end", line.End, refl)
goes_on (Kind seat) is = (codes "unpin", line.Step (record { seat = seat; kind = kind.Unpin }), refl)
goes_on (Locale seat verb) is = locale_goes seat verb
goes_on (Number seat verb locale) is = number_goes seat verb locale
goes_on (Pointer seat verb) is = pointer_goes seat verb
goes_on (Index seat verb locale) is = index_goes seat verb locale
goes_on (Uses seat verb locale i) is = uses_goes seat verb locale i
goes_on (Next seat ptr) is = (codes "0", line.Step (record { seat = seat; kind = kind.HandLink ptr 0 }), refl)
goes_on (Whole said) is = ([], said, refl)

joins : (spot : Spot) (bounds : Bounds) (n : ℕ) → IsSpot spot → bounds_of spot ≡ Some bounds → bounds.least ≤ n → n ≤ bounds.most → joined_of spot ≡ true → MayJoin run_grammar (after_number spot n)
joins (Pointer seat verb) bounds n is own least most joined = index_joins seat verb n
joins (Index seat verb locale) bounds n is own least most joined = uses_joins seat verb locale n
joins spot bounds n is own least most joined = absurd (false≢true joined)

-- from each form some line goes on
pub run_grammar_sound : IsGrammar run_grammar IsSpot
run_grammar_sound = record {
  word = word_keeps;
  number = number_keeps;
  indents = λ spot is. is;
  indents_once = λ spot. refl;
  letters = letters;
  bounds = bounds_sound;
  joins = joins;
  goes_on = goes_on;
}
