-- Chains of the hand, as lists of their objects.
use Rattle.std.proofs.Common.{◌≡◌, ◌≢◌, ◌<◌, ◌≤◌, ◌==◌, ◌++◌, ℕ, zero, suc, Bool, true, false, List, [], ◌∷◌, length, Some, refl, ap, sym, ◌∙◌, subst, ⊎_elim, arith, eq-eqb}
use Rattle.std.specs.Prelude.{unwrap_or}
use Rattle.std.proofs.lemmas.Bool.{false_from_ne_true}
use Rattle.std.proofs.lemmas.List.{length-map}
use Rattle.pgas_base.specs.declared.shapes.Shape.{Shape}
use Rattle.pgas_base.specs.Pointers.{Pointer, IsPointer, word_of}
use Rattle.epoch_laws.specs.Chains.{Reaches, led, led_in, led_from, leads_into}
use Rattle.epoch_laws.specs.Locations.{IsDistinct}
use Rattle.epoch_laws.specs.Places.{Place, place_of, place_in, pointer_at, same_place, is_among, without, without_all}
use Rattle.epoch_laws.proofs.Lists.{among_here, among_more, among_nil, among_cons, among_one, among_kept, without_one}
use Rattle.epoch_laws.proofs.Segments.{led_ends, led_inside}
use Rattle.epoch_laws.proofs.Updates.{same_place_tells}
use Rattle.epoch_laws.proofs.Words.{IsSmall, place_in-word_of}
use Rattle.epoch_table.specs.Facts.{Facts, count_of, next_word_of}
use Rattle.epoch_table.specs.Knowledge.{known_words}
use Rattle.epoch_manager.proofs.Known.{and_so}
use Rattle.epoch_manager.specs.TakeSeats.{places, AreLinked, IsOfChain, AreOfChain, last_of}

pub small_of : (q : Pointer) → IsPointer q → IsSmall q
small_of q is = record { locale = is.locale; some_object = is.some_object; index = is.index; count = is.count }

pub places-append : (ps : List Pointer) (q : Pointer) → places (ps ++ q ∷ []) ≡ places ps ++ place_of q ∷ []
places-append [] q = refl
places-append (p ∷ ps) q = ap (λ l. place_of p ∷ l) (places-append ps q)

pub last-append : (p : Pointer) (ps : List Pointer) (q : Pointer) → last_of p (ps ++ q ∷ []) ≡ q
last-append p [] q = refl
last-append p (r ∷ ps) q = last-append r ps q

-- the last one is among them
pub last_among : (q : Pointer) (rest : List Pointer) → is_among (place_of (last_of q rest)) (places (q ∷ rest)) ≡ true
last_among q [] = among_here (place_of q) []
last_among q (r ∷ rest) = among_more (place_of (last_of r rest)) (place_of q) (places (r ∷ rest)) (last_among r rest)

-- ---- one more at the end

module _ (f g : Facts) where
  pub linked_more : (p : Pointer) (ps : List Pointer) (q : Pointer) (word : ℕ) → AreLinked f p ps (word_of q)
      → ((x : Place) → is_among x (places (p ∷ ps)) ≡ true → next_word_of g x ≡ next_word_of f x) → next_word_of g (place_of q) ≡ Some word → AreLinked g p (ps ++ q ∷ []) word
  linked_more p [] q word linked agree next = (agree (place_of p) (among_here (place_of p) []) ∙ linked, next)
  linked_more p (r ∷ ps) q word linked agree next =
      (agree (place_of p) (among_here (place_of p) (places (r ∷ ps))) ∙ linked.0, linked_more r ps q word linked.1 (λ x h. agree x (among_more x (place_of p) (places (r ∷ ps)) h)) next)

  -- another word at the end
  pub linked_again : (p : Pointer) (ps : List Pointer) (old word : ℕ) → AreLinked f p ps old → IsDistinct (places (p ∷ ps))
      → ((x : Place) → x ≢ place_of (last_of p ps) → next_word_of g x ≡ next_word_of f x) → next_word_of g (place_of (last_of p ps)) ≡ Some word → AreLinked g p ps word
  linked_again p [] old word linked distinct agree next = next
  linked_again p (r ∷ ps) old word linked distinct agree next = (
    agree (place_of p) (λ e. absurd (cc (distinct.0, ap (λ x. is_among x (places (r ∷ ps))) e, last_among r ps))) ∙ linked.0,
    linked_again r ps old word linked.1 distinct.1 agree next,
  )

  -- the same words
  pub linked_still : (p : Pointer) (ps : List Pointer) (word : ℕ) → AreLinked f p ps word → ((x : Place) → is_among x (places (p ∷ ps)) ≡ true → next_word_of g x ≡ next_word_of f x) → AreLinked g p ps word
  linked_still p [] word linked agree = agree (place_of p) (among_here (place_of p) []) ∙ linked
  linked_still p (r ∷ ps) word linked agree =
      (agree (place_of p) (among_here (place_of p) (places (r ∷ ps))) ∙ linked.0, linked_still r ps word linked.1 (λ x h. agree x (among_more x (place_of p) (places (r ∷ ps)) h)))

  pub each_still : (shape : Shape) (locale : ℕ) (ps : List Pointer) → AreOfChain shape f locale ps → ((x : Place) → is_among x (places ps) ≡ true → count_of g x ≡ count_of f x) → AreOfChain shape g locale ps
  each_still shape locale [] each agree = tt
  each_still shape locale (p ∷ ps) each agree =
      let one = each.0 in (
        record { local = one.local; pointer = one.pointer; inside = one.inside; count = agree (place_of p) (among_here (place_of p) (places ps)) ∙ one.count },
        each_still shape locale ps each.1 (λ x h. agree x (among_more x (place_of p) (places ps) h)),
      )

pub each_more : (shape : Shape) (f : Facts) (locale : ℕ) (ps : List Pointer) (q : Pointer) → AreOfChain shape f locale ps → IsOfChain shape f locale q → AreOfChain shape f locale (ps ++ q ∷ [])
each_more shape f locale [] q each one = (one, tt)
each_more shape f locale (p ∷ ps) q each one = (each.0, each_more shape f locale ps q each.1 one)

pub of_last : (shape : Shape) (f : Facts) (locale : ℕ) (q : Pointer) (rest : List Pointer) → AreOfChain shape f locale (q ∷ rest) → IsOfChain shape f locale (last_of q rest)
of_last shape f locale q [] each = each.0
of_last shape f locale q (r ∷ rest) each = of_last shape f locale r rest each.1

-- counts and next words are known
pub chain_known : (shape : Shape) (f : Facts) (locale : ℕ) (q : Pointer) (rest : List Pointer) (last : ℕ) → AreLinked f q rest last → AreOfChain shape f locale (q ∷ rest) → (p : Place) → is_among p (places (q ∷ rest)) ≡ true
    → ((n : ℕ) × (count_of f p ≡ Some n)) × ((w : ℕ) × (next_word_of f p ≡ Some w))
chain_known shape f locale q [] last linked each p h =
    let e = among_one p (place_of q) h in
    let one = each.0 in
    ((q.count, ap (count_of f) e ∙ one.count), (last, ap (next_word_of f) e ∙ linked))
chain_known shape f locale q (r ∷ rest) last linked each p h =
    let one = each.0 in
    ⊎_elim
    (λ e. ((q.count, ap (count_of f) e ∙ one.count), (word_of r, ap (next_word_of f) e ∙ linked.0)))
    (λ e. chain_known shape f locale r rest last linked.1 each.1 p e.1)
    (among_cons p (place_of q) (places (r ∷ rest)) h)

-- each is of the locale
pub of_locale : (shape : Shape) (f : Facts) (locale : ℕ) (ps : List Pointer) → AreOfChain shape f locale ps → (p : Place) → is_among p (places ps) ≡ true → p.locale ≡ locale
of_locale shape f locale [] each p h = absurd (among_nil p h)
of_locale shape f locale (q ∷ ps) each p h = ⊎_elim (λ e. ap (λ x. x.locale) e ∙ each.0.local) (λ e. of_locale shape f locale ps each.1 p e.1) (among_cons p (place_of q) (places ps) h)

-- ---- the next words lead over them

pub without_other : (p q : Place) (xs : List Place) → p ≢ q → is_among p xs ≡ true → is_among p (without q xs) ≡ true
without_other p q xs ne h =
    subst (λ l. is_among p l ≡ true) (without_one q xs) (among_kept p (q ∷ []) xs (false_from_ne_true _ (λ x. ne (among_one p q x))) h)

led_step : (n : ℕ) (locale : ℕ) (facts : Facts) (found : ℕ) (ends : ℕ → Bool) (tail : Place) (left : List Place) (q r : Pointer) → same_place (place_of q) tail ≡ false → next_word_of facts (place_of q) ≡ Some (word_of r)
    → IsSmall r → is_among (place_of r) left ≡ true → r.locale ≡ locale → count_of facts (place_of r) ≡ Some r.count → (places : List Place)
    → led n (known_words facts found) locale ends tail (without (place_of r) left) (place_of r) ≡ Reaches places → led (suc n) (known_words facts found) locale ends tail left (place_of q) ≡ Reaches (place_of q ∷ places)
led_step n locale facts found ends tail left q r other next small among local count places rest =
    let words = known_words facts found in
    let word = unwrap_or (next_word_of facts (place_of q)) 0 in
    let en : word ≡ word_of r = ap (λ x. unwrap_or x 0) next in
    let at : place_in word ≡ place_of r = ap place_in en ∙ place_in-word_of r small in
    let present : word_of (pointer_at (place_in word) (unwrap_or (count_of facts (place_in word)) 0)) ≡ word_of r =
    ap (λ x. word_of (pointer_at x (unwrap_or (count_of facts x) 0))) at ∙ ap (λ c. word_of (pointer_at (place_of r) (unwrap_or c 0))) count in
    let leads : leads_into words locale left word ≡ true =
    and_so (is_among (place_in word) left) _ (ap (λ x. is_among x left) at ∙ among)
    (and_so ((place_in word).locale == locale) _ (eq-eqb (place_in word).locale locale (ap (λ x. x.locale) at ∙ local)) (eq-eqb word _ (en ∙ sym present))) in
    led_inside words locale ends tail n left (place_of q) true other leads
    ∙ (ap (λ x. led_from (place_of q) (led n words locale ends tail (without x left) x)) at ∙ ap (led_from (place_of q)) rest)

pub leads_over : (shape : Shape) (n locale : ℕ) (facts : Facts) (found : ℕ) (ends : ℕ → Bool) (left : List Place) (q : Pointer) (rest : List Pointer) (word : ℕ) → length rest < n → AreLinked facts q rest word → AreOfChain shape facts locale rest
    → IsDistinct (places (q ∷ rest)) → ((p : Place) → is_among p (places rest) ≡ true → is_among p left ≡ true) → ends word ≡ true
    → led n (known_words facts found) locale ends (place_of (last_of q rest)) left (place_of q) ≡ Reaches (places (q ∷ rest))
leads_over shape zero locale facts found ends left q rest word some linked each distinct among ends_so = absurd (omega arith)
leads_over shape (suc n) locale facts found ends left q [] word some linked each distinct among ends_so =
    led_ends (known_words facts found) locale ends (place_of q) n left (place_of q)
    (⊎_elim (λ e. e.0) (λ e. let ne = e.1 in absurd (ne refl)) (same_place_tells (place_of q) (place_of q))) (ap (λ x. ends (unwrap_or x 0)) linked ∙ ends_so)
leads_over shape (suc n) locale facts found ends left q (r ∷ rest) word some linked each distinct among ends_so =
    let one = each.0 in
    let tail = place_of (last_of r rest) in
    let apart : place_of q ≢ tail = (λ e. absurd (cc (distinct.0, ap (λ x. is_among x (places (r ∷ rest))) e, last_among r rest))) in
    let further : (p : Place) → is_among p (places rest) ≡ true → is_among p (without (place_of r) left) ≡ true =
    λ p h. without_other p (place_of r) left (λ e. absurd (cc (distinct.1.0, ap (λ x. is_among x (places rest)) (sym e), h))) (among p (among_more p (place_of r) (places rest) h)) in
    led_step n locale facts found ends tail left q r (⊎_elim (λ e. absurd (apart e.1)) (λ e. e.0) (same_place_tells (place_of q) tail)) linked.0 (small_of r one.pointer)
    (among (place_of r) (among_here (place_of r) (places rest))) one.local one.count (places (r ∷ rest))
    (leads_over shape n locale facts found ends (without (place_of r) left) r rest word (omega arith) linked.1 each.1 distinct.1 further ends_so)

no_longer : (p : Place) (xs : List Place) → length (without p xs) ≤ length xs
unfolding without
no_longer p [] = omega arith
no_longer p (x ∷ xs) = let rest = no_longer p xs in ⊎_elim (λ e. rw e.0 (omega arith)) (λ e. rw e.0 (omega arith)) (same_place_tells x p)

shorter : (p : Place) (xs : List Place) → is_among p xs ≡ true → length (without p xs) < length xs
unfolding without
shorter p [] h = absurd (among_nil p h)
shorter p (x ∷ xs) h =
    let rest = no_longer p xs in
    ⊎_elim
    (λ e. rw e.0 (omega arith))
    (λ e. let ne = e.1 in let less = shorter p xs (⊎_elim (λ s. absurd (ne (sym s))) (λ s. s.1) (among_cons p x xs h)) in rw e.0 (omega arith))
    (same_place_tells x p)

-- distinct places among others are no more than those
pub few_among : (xs ys : List Place) → IsDistinct xs → ((p : Place) → is_among p xs ≡ true → is_among p ys ≡ true) → length xs ≤ length ys
few_among [] ys distinct among = omega arith
few_among (x ∷ xs) ys distinct among =
    let less = shorter x ys (among x (among_here x xs)) in
    let few = few_among xs (without x ys) distinct.1 (λ p h. without_other p x ys (λ e. absurd (cc (distinct.0, ap (λ y. is_among y xs) e, h))) (among p (among_more p x xs h))) in
    omega arith

-- from the first of a chain to its last, over objects of a hand
pub leads_within : (shape : Shape) (facts : Facts) (found : ℕ) (ends : ℕ → Bool) (hand : List Place) (q : Pointer) (rest : List Pointer) (word : ℕ) → AreLinked facts q rest word → AreOfChain shape facts q.locale rest → IsDistinct (places (q ∷ rest))
    → ((p : Place) → is_among p (places (q ∷ rest)) ≡ true → is_among p hand ≡ true) → ends word ≡ true → led_in (known_words facts found) hand ends (place_of q) (place_of (last_of q rest)) ≡ Reaches (places (q ∷ rest))
leads_within shape facts found ends hand q rest word linked each distinct inside ends_so =
    let few = few_among (places (q ∷ rest)) hand distinct inside in
    let many = length-map rest place_of in
    leads_over shape (length hand) q.locale facts found ends (without (place_of q) hand) q rest word (omega arith) linked each distinct
    (λ p h. without_other p (place_of q) hand (λ e. absurd (cc (distinct.0, ap (λ x. is_among x (places rest)) (sym e), h))) (inside p (among_more p (place_of q) (places rest) h)))
    ends_so

-- what is left of a hand when they leave it
pub leaves_first : (gone back : List Place) (first : Place) → ((p : Place) → is_among p back ≡ true → is_among p gone ≡ true) → is_among first gone ≡ false → without_all gone (back ++ first ∷ []) ≡ first ∷ []
unfolding without_all
leaves_first gone [] first all none = rw none refl
leaves_first gone (p ∷ back) first all none = rw (all p (among_here p back)) (leaves_first gone back first (λ q h. all q (among_more q p back h)) none)
