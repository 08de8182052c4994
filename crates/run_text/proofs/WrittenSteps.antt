-- What is written of a step, word by word.
use Rattle.std.proofs.Common.{◌≡◌, ◌≢◌, ℕ, ◌+◌, ◌-◌, ◌*◌, ◌<◌, ◌≤◌, ◌^◌, false, true, List, [], ◌∷◌, ◌++◌, length, slice_index_or, nat_lt, Some, Ok, codes, decimal, refl, ap, sym, ◌∙◌, arith, subst, append-nil, length-append}
use Rattle.std.specs.List.{AllByRecursion}
use Rattle.std.proofs.lemmas.Fmt.{length-decimal-le}
use Rattle.line_text.specs.declared.forms.Bounds.{Bounds}
use Rattle.line_text.specs.Letters.{are_words, words_from}
use Rattle.line_text.specs.Lines.{line_says, says_words, then_leads}
use Rattle.std.proofs.lemmas.Bool.{false≢true, ltb-true}
use Rattle.line_text.specs.Words.{is_digit, AreLetters, IsLetter, spaced, words_line}
use Rattle.line_text.proofs.Written.{decimal_digits}
use Rattle.line_text.proofs.WrittenWords.{AreWords, digits_are, joined_leads_on, line_of_words, number_joined, number_last, number_leads_on, words_within}
use Rattle.pgas_base.specs.Pointers.{Pointer as Ptr, IsPointer}
use Rattle.epoch_laws.specs.declared.steps.Kind.{Kind as StepKind}
use Rattle.epoch_laws.specs.declared.steps.Kind.TheVariants as kind
use Rattle.epoch_laws.specs.declared.steps.Step.{Step}
use Rattle.run_text.specs.declared.forms.RunLine.{RunLine}
use Rattle.run_text.specs.declared.forms.RunLine.TheVariants as line
use Rattle.run_text.specs.declared.forms.Spot.{Spot}
use Rattle.run_text.specs.declared.forms.Spot.TheVariants.{Seat, Kind, Locale, Number, Pointer, Index, Uses, Next}
use Rattle.run_text.specs.declared.verbs.LocaleVerb.TheVariants as locale
use Rattle.run_text.specs.declared.verbs.NumberVerb.TheVariants as number
use Rattle.run_text.specs.declared.verbs.PointerVerb.{PointerVerb}
use Rattle.run_text.specs.declared.verbs.PointerVerb.TheVariants as pointer
use Rattle.line_text.specs.Ranges.{between}
use Rattle.run_text.specs.Forms.{bounds_of, after_number, after_pointer, joined_of, run_grammar, IsSpot}
use Rattle.run_text.specs.Listing.{pointer_word}
use Rattle.run_text.specs.Runs.{IsKind, IsStep}
use Rattle.run_text.specs.Written.{kind_text, step_words}

-- ---- words of numbers

-- a word that is short
abbrev pub IsPart : List ℕ → Type 0
IsPart word = AreLetters word × (length word ≤ 62)

number_size : (n : ℕ) → n < 2 ^ 64 → length (decimal n) ≤ 20
number_size n small = length-decimal-le 20 n (omega arith) (omega (arith, small)) (omega (arith, small))

pub number_part : (n : ℕ) → n < 2 ^ 64 → IsPart (decimal n)
number_part n small =
    let digits = decimal_digits n small in
    ((digits.0, digits_are (decimal n) digits.1), omega (arith, number_size n small))

all_append : (one other : List ℕ) → AllByRecursion IsLetter one → AllByRecursion IsLetter other → AllByRecursion IsLetter (one ++ other)
all_append [] other all more = more
all_append (byte ∷ one) other all more = (all.0, all_append one other all.1 more)

pointer_part : (p : Ptr) → IsPointer p → IsPart (pointer_word p)
pointer_part p is =
    let l = number_part p.locale (omega (arith, is.locale)) in
    let i = number_part p.index (omega (arith, is.index)) in
    let n = number_part p.count (omega (arith, is.count)) in
    let behind = decimal p.index ++ 46 ∷ decimal p.count in
    let size : length (pointer_word p) ≡ length (decimal p.locale) + (length behind + 1) = length-append (decimal p.locale) (46 ∷ behind) ∙ omega arith in
    let size_behind : length behind ≡ length (decimal p.index) + (length (decimal p.count) + 1) = length-append (decimal p.index) (46 ∷ decimal p.count) ∙ omega arith in (
      (
        omega (arith, size),
        all_append (decimal p.locale) (46 ∷ behind) l.0.1 ((refl, λ e. omega (arith, e)), all_append (decimal p.index) (46 ∷ decimal p.count) i.0.1 ((refl, λ e. omega (arith, e)), n.0.1)),
      ),
      omega (arith, size, size_behind, number_size p.locale (omega (arith, is.locale)), number_size p.index (omega (arith, is.index)), number_size p.count (omega (arith, is.count))),
    )

-- ---- where they lead

-- a pointer is what its parts make
parts_make : (p : Ptr) → record { locale = p.locale; index = p.index; count = p.count } ≡ p
parts_make p = refl

pub number_step : (spot : Spot) (bounds : Bounds) (n : ℕ) (words : List (List ℕ)) → n < 2 ^ 64 → bounds_of spot ≡ Some bounds → joined_of spot ≡ false → bounds.least ≤ n → n ≤ bounds.most
    → says_words run_grammar spot (decimal n ∷ words) ≡ says_words run_grammar (after_number spot n) words
number_step spot bounds n words small own alone least most =
    let digits = decimal_digits n small in
    ap (λ r. then_leads r (λ next. says_words run_grammar next words)) (number_leads_on run_grammar IsSpot spot bounds (decimal n) n own digits.0 digits.1 digits.2 least most alone)

pointer_step : (seat : ℕ) (verb : PointerVerb) (p : Ptr) (words : List (List ℕ)) → IsPointer p
    → says_words run_grammar (Pointer seat verb) (pointer_word p ∷ words) ≡ says_words run_grammar (after_pointer seat verb p) words
pointer_step seat verb p words is =
    let l = decimal_digits p.locale (omega (arith, is.locale)) in
    let i = decimal_digits p.index (omega (arith, is.index)) in
    let n = decimal_digits p.count (omega (arith, is.count)) in
    (ap (λ r. then_leads r (λ next. says_words run_grammar next words))
    (joined_leads_on run_grammar IsSpot (Pointer seat verb) (between 0 15) (decimal p.locale) p.locale refl l.0 l.1 l.2 (omega arith) (omega (arith, is.locale)) (decimal p.index ++ 46 ∷ decimal p.count) refl
    ∙ (number_joined run_grammar IsSpot (Index seat verb p.locale) (between 1 (2 ^ 24 - 1)) (decimal p.index) p.index refl i.0 i.1 i.2 is.some_object (omega (arith, is.index)) (decimal p.count) refl
    ∙ number_last run_grammar IsSpot (Uses seat verb p.locale p.index) (between 0 (2 ^ 32 - 1)) (decimal p.count) p.count refl n.0 n.1 n.2 (omega arith) (omega (arith, is.count)) refl)))
    ∙ ap (λ (q : Ptr). says_words run_grammar (after_pointer seat verb q) words) (parts_make p)

-- ---- kinds

-- the words of a kind with its arguments
abbrev pub parts_of : StepKind → List (List ℕ)
parts_of (kind.Register l n) = codes "register" ∷ decimal l ∷ decimal n ∷ []
parts_of kind.Unregister = codes "unregister" ∷ []
parts_of kind.PinLook = codes "pin_look" ∷ []
parts_of kind.PinSet = codes "pin_set" ∷ []
parts_of kind.Unpin = codes "unpin" ∷ []
parts_of (kind.TakeLook l n) = codes "take_look" ∷ decimal l ∷ decimal n ∷ []
parts_of (kind.TakeTry l n) = codes "take_try" ∷ decimal l ∷ decimal n ∷ []
parts_of (kind.Show p) = codes "show" ∷ pointer_word p ∷ []
parts_of (kind.Hold p) = codes "hold" ∷ pointer_word p ∷ []
parts_of (kind.Touch p) = codes "touch" ∷ pointer_word p ∷ []
parts_of (kind.Return p) = codes "return" ∷ pointer_word p ∷ []
parts_of (kind.DeferLook p) = codes "defer_look" ∷ pointer_word p ∷ []
parts_of kind.DeferSwap = codes "defer_swap" ∷ []
parts_of kind.DeferLink = codes "defer_link" ∷ []
parts_of kind.ElectLocal = codes "elect_local" ∷ []
parts_of kind.ElectGlobal = codes "elect_global" ∷ []
parts_of kind.EpochLook = codes "epoch_look" ∷ []
parts_of kind.ScanToken = codes "scan_token" ∷ []
parts_of kind.Advance = codes "advance" ∷ []
parts_of kind.Spread = codes "spread" ∷ []
parts_of kind.Collect = codes "collect" ∷ []
parts_of kind.Walk = codes "walk" ∷ []
parts_of (kind.Release p) = codes "release" ∷ pointer_word p ∷ []
parts_of kind.Leave = codes "leave" ∷ []
parts_of (kind.StackLook l) = codes "stack_look" ∷ decimal l ∷ []
parts_of kind.StackNext = codes "stack_next" ∷ []
parts_of kind.StackPop = codes "stack_pop" ∷ []
parts_of (kind.StackPut top tail) = codes "stack_put" ∷ pointer_word top ∷ pointer_word tail ∷ []
parts_of (kind.HandLink p n) = codes "hand_link" ∷ pointer_word p ∷ decimal n ∷ []
parts_of (kind.HomeSwap top tail) = codes "home_swap" ∷ pointer_word top ∷ pointer_word tail ∷ []
parts_of kind.HomeLink = codes "home_link" ∷ []
parts_of (kind.HomeTake l) = codes "home_take" ∷ decimal l ∷ []
parts_of kind.HomeWalk = codes "home_walk" ∷ []

pub spaced_parts : (k : StepKind) → spaced (parts_of k) ≡ kind_text k
spaced_parts (kind.Register l n) = ap (λ (t : List ℕ). codes " register " ++ decimal l ++ 32 ∷ t) (append-nil (decimal n))
spaced_parts (kind.TakeLook l n) = ap (λ (t : List ℕ). codes " take_look " ++ decimal l ++ 32 ∷ t) (append-nil (decimal n))
spaced_parts (kind.TakeTry l n) = ap (λ (t : List ℕ). codes " take_try " ++ decimal l ++ 32 ∷ t) (append-nil (decimal n))
spaced_parts (kind.Show p) = ap (λ (t : List ℕ). codes " show " ++ t) (append-nil (pointer_word p))
spaced_parts (kind.Hold p) = ap (λ (t : List ℕ). codes " hold " ++ t) (append-nil (pointer_word p))
spaced_parts (kind.Touch p) = ap (λ (t : List ℕ). codes " touch " ++ t) (append-nil (pointer_word p))
spaced_parts (kind.Return p) = ap (λ (t : List ℕ). codes " return " ++ t) (append-nil (pointer_word p))
spaced_parts (kind.DeferLook p) = ap (λ (t : List ℕ). codes " defer_look " ++ t) (append-nil (pointer_word p))
spaced_parts (kind.Release p) = ap (λ (t : List ℕ). codes " release " ++ t) (append-nil (pointer_word p))
spaced_parts (kind.StackLook l) = ap (λ (t : List ℕ). codes " stack_look " ++ t) (append-nil (decimal l))
spaced_parts (kind.StackPut top tail) = ap (λ (t : List ℕ). codes " stack_put " ++ pointer_word top ++ 32 ∷ t) (append-nil (pointer_word tail))
spaced_parts (kind.HandLink p n) = ap (λ (t : List ℕ). codes " hand_link " ++ pointer_word p ++ 32 ∷ t) (append-nil (decimal n))
spaced_parts (kind.HomeSwap top tail) = ap (λ (t : List ℕ). codes " home_swap " ++ pointer_word top ++ 32 ∷ t) (append-nil (pointer_word tail))
spaced_parts (kind.HomeTake l) = ap (λ (t : List ℕ). codes " home_take " ++ t) (append-nil (decimal l))
spaced_parts k = refl

pub word_part : (word : List ℕ) → are_words (word ∷ []) ≡ true → nat_lt (length word) 63 ≡ true → IsPart word
word_part word is short = ((words_from (word ∷ []) is).0, omega (arith, ltb-true (length word) 63 short))

pub are_parts : (k : StepKind) → IsKind k → AllByRecursion IsPart (parts_of k)
are_parts (kind.Register l n) is = (word_part (codes "register") refl refl, (number_part l (omega (arith, is.0)), (number_part n (omega (arith, is.1)), tt)))
are_parts (kind.TakeLook l n) is = (word_part (codes "take_look") refl refl, (number_part l (omega (arith, is.0)), (number_part n (omega (arith, is.1)), tt)))
are_parts (kind.TakeTry l n) is = (word_part (codes "take_try") refl refl, (number_part l (omega (arith, is.0)), (number_part n (omega (arith, is.1)), tt)))
are_parts (kind.Show p) is = (word_part (codes "show") refl refl, (pointer_part p is, tt))
are_parts (kind.Hold p) is = (word_part (codes "hold") refl refl, (pointer_part p is, tt))
are_parts (kind.Touch p) is = (word_part (codes "touch") refl refl, (pointer_part p is, tt))
are_parts (kind.Return p) is = (word_part (codes "return") refl refl, (pointer_part p is, tt))
are_parts (kind.DeferLook p) is = (word_part (codes "defer_look") refl refl, (pointer_part p is, tt))
are_parts (kind.Release p) is = (word_part (codes "release") refl refl, (pointer_part p is, tt))
are_parts (kind.StackLook l) is = (word_part (codes "stack_look") refl refl, (number_part l (omega (arith, is)), tt))
are_parts (kind.StackPut top tail) is = (word_part (codes "stack_put") refl refl, (pointer_part top is.0, (pointer_part tail is.1, tt)))
are_parts (kind.HandLink p n) is = (word_part (codes "hand_link") refl refl, (pointer_part p is.0, (number_part n is.1, tt)))
are_parts (kind.HomeSwap top tail) is = (word_part (codes "home_swap") refl refl, (pointer_part top is.0, (pointer_part tail is.1, tt)))
are_parts (kind.HomeTake l) is = (word_part (codes "home_take") refl refl, (number_part l (omega (arith, is)), tt))
are_parts k is = (word_part (slice_index_or (parts_of k) 0 []) refl refl, tt)

pub few_parts : (k : StepKind) → length (parts_of k) ≤ 3
few_parts (kind.Register l n) = omega arith
few_parts k = omega arith

pub says_kind : (seat : ℕ) (k : StepKind) → IsKind k → says_words run_grammar (Kind seat) (parts_of k) ≡ Ok (Some (line.Step (record { seat = seat; kind = k })))
says_kind seat (kind.Register l n) is = number_step (Locale seat (locale.Number number.Register)) (between 0 255) l (decimal n ∷ []) (omega (arith, is.0)) refl refl (omega arith) (omega (arith, is.0)) ∙ number_step (Number seat number.Register l) (between 0 (2 ^ 32 - 1)) n [] (omega (arith, is.1)) refl refl (omega arith) (omega (arith, is.1))
says_kind seat (kind.TakeLook l n) is = number_step (Locale seat (locale.Number number.TakeLook)) (between 0 255) l (decimal n ∷ []) (omega (arith, is.0)) refl refl (omega arith) (omega (arith, is.0)) ∙ number_step (Number seat number.TakeLook l) (between 0 (2 ^ 32 - 1)) n [] (omega (arith, is.1)) refl refl (omega arith) (omega (arith, is.1))
says_kind seat (kind.TakeTry l n) is = number_step (Locale seat (locale.Number number.TakeTry)) (between 0 255) l (decimal n ∷ []) (omega (arith, is.0)) refl refl (omega arith) (omega (arith, is.0)) ∙ number_step (Number seat number.TakeTry l) (between 0 (2 ^ 32 - 1)) n [] (omega (arith, is.1)) refl refl (omega arith) (omega (arith, is.1))
says_kind seat (kind.Show p) is = pointer_step seat pointer.Show p [] is
says_kind seat (kind.Hold p) is = pointer_step seat pointer.Hold p [] is
says_kind seat (kind.Touch p) is = pointer_step seat pointer.Touch p [] is
says_kind seat (kind.Return p) is = pointer_step seat pointer.Return p [] is
says_kind seat (kind.DeferLook p) is = pointer_step seat pointer.DeferLook p [] is
says_kind seat (kind.Release p) is = pointer_step seat pointer.Release p [] is
says_kind seat (kind.StackLook l) is = number_step (Locale seat locale.StackLook) (between 0 255) l [] (omega (arith, is)) refl refl (omega arith) (omega (arith, is))
says_kind seat (kind.StackPut top tail) is = pointer_step seat pointer.StackPut top (pointer_word tail ∷ []) is.0 ∙ pointer_step seat (pointer.StackTail top) tail [] is.1
says_kind seat (kind.HandLink p n) is = pointer_step seat pointer.HandLink p (decimal n ∷ []) is.0 ∙ number_step (Next seat p) (between 0 (2 ^ 64 - 1)) n [] is.1 refl refl (omega arith) (omega (arith, is.1))
says_kind seat (kind.HomeSwap top tail) is = pointer_step seat pointer.HomeSwap top (pointer_word tail ∷ []) is.0 ∙ pointer_step seat (pointer.HomeTail top) tail [] is.1
says_kind seat (kind.HomeTake l) is = number_step (Locale seat locale.HomeTake) (between 0 255) l [] (omega (arith, is)) refl refl (omega arith) (omega (arith, is))
says_kind seat k is = refl

-- ---- a line of words

-- a line that says so, within its line and short
pub record Writes (spot : Spot) (text : List ℕ) (said : RunLine) : Type 0 where
  pub says : line_says run_grammar spot text ≡ Ok (Some said)
  pub within : AllByRecursion (λ byte. byte ≢ 10) text
  pub short : length text ≤ 320

all_words : (words : List (List ℕ)) → AllByRecursion IsPart words → AreWords words
all_words [] all = tt
all_words (word ∷ words) all = (all.0.0, all_words words all.1)

spaced_short : (words : List (List ℕ)) → AllByRecursion IsPart words → length (spaced words) ≤ 63 * length words
spaced_short [] all = omega arith
spaced_short (word ∷ words) all = omega (arith, all.0.1, length-append word (spaced words), spaced_short words all.1)

-- a line of a few short words, the first of which is no comment
pub of_words : (spot : Spot) (letter : ℕ) (letters : List ℕ) (words : List (List ℕ)) (said : RunLine) → letter ≢ 35 → AllByRecursion IsPart ((letter ∷ letters) ∷ words) → length words ≤ 4
    → says_words run_grammar spot ((letter ∷ letters) ∷ words) ≡ Ok (Some said) → Writes spot (words_line ((letter ∷ letters) ∷ words)) said
of_words spot letter letters words said sign all few says =
    let word = letter ∷ letters in
    record {
      says = line_of_words run_grammar IsSpot spot letter letters words sign (all_words (word ∷ words) all) ∙ says;
      within = words_within (word ∷ words) (all_words (word ∷ words) all);
      short = omega (arith, all.0.1, length-append word (spaced words), spaced_short words all.1, few);
    }

-- the same where the first word is a number
of_digits : (spot : Spot) (digits : List ℕ) (words : List (List ℕ)) (said : RunLine) → AllByRecursion (λ byte. is_digit byte ≡ true) digits → AllByRecursion IsPart (digits ∷ words) → length words ≤ 4
    → says_words run_grammar spot (digits ∷ words) ≡ Ok (Some said) → Writes spot (words_line (digits ∷ words)) said
of_digits spot [] words said digits all few says = absurd (omega (arith, all.0.0.0))
of_digits spot (letter ∷ letters) words said digits all few says = of_words spot letter letters words said (λ e. false≢true (sym (ap is_digit e) ∙ digits.0)) all few says

pub step_writes : (step : Step) → IsStep step → Writes Seat (step_words step) (line.Step step)
step_writes step is =
    let digits = decimal_digits step.seat (omega (arith, is.0)) in
    subst (λ (t : List ℕ). Writes Seat (decimal step.seat ++ t) (line.Step step)) (spaced_parts step.kind)
    (of_digits Seat (decimal step.seat) (parts_of step.kind) (line.Step step) digits.1 (number_part step.seat (omega (arith, is.0)), are_parts step.kind is.1) (omega (arith, few_parts step.kind))
    (number_step Seat (between 0 (2 ^ 32 - 1)) step.seat (parts_of step.kind) (omega (arith, is.0)) refl refl (omega arith) (omega (arith, is.0)) ∙ says_kind step.seat step.kind is.1))
