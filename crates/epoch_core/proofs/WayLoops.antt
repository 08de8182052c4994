-- What the walks over a chain of a hand keep.
use Rattle.std.proofs.Common.{◌≡◌, ◌<◌, ◌≤◌, ◌+◌, ℕ, zero, suc, Bool, true, false, List, [], ◌∷◌, ◌++◌, length, refl, ap, sym, ◌∙◌, subst, arith}
use Rattle.std.specs.Prelude.{count_by}
use Rattle.pgas_base.specs.Pointers.{Pointer}
use Rattle.epoch_laws.specs.Chains.{Led, Reaches, Breaks, led_in, leads_into}
use Rattle.epoch_laws.specs.Places.{Place, is_among, place_in, place_of, same_place, without, without_all}
use Rattle.epoch_laws.specs.Seats.{Seat}
use Rattle.epoch_laws.specs.States.{IsPlace, State, with_seat}
use Rattle.epoch_laws.proofs.Updates.{number_here}
use Rattle.epoch_core.specs.declared.machine.Machine.{Machine}
use Rattle.epoch_core.specs.declared.marks.Role.TheVariants.{Hand}
use Rattle.epoch_core.specs.declared.ways.End.{End}
use Rattle.epoch_core.specs.Ends.{IsWay, behind, ends_at, hand_but, path}
use Rattle.epoch_core.specs.Fresh.{IsFresh}
use Rattle.epoch_core.specs.Marks.{is_kept}
use Rattle.epoch_core.specs.Shown.{IsShowing}
use Rattle.epoch_core.proofs.HandStores.{fresh_gone, hand_less, hand_more}
use Rattle.epoch_core.proofs.Empties.{empty_if_none}
use Rattle.epoch_core.proofs.MarkMoves.{among-cons_here}
use Rattle.epoch_core.proofs.SeatStores.{same_shape}
use Rattle.epoch_core.proofs.WayLemmas.{Walks, among-lefts, follow, has_hand, is_way_now, leads_as, lefts, path-more, walks-bad_end, walks-break, walks-end, walks-on}

-- the objects that have yet to go back into the hand are behind these
pub record TakesBack (first now : Machine) (seat : ℕ) (top : Place) (count i : ℕ) (at : Place) : Type 0 where
  pub seats : length now.seats.items ≡ length first.seats.items
  pub back : (before : Machine) (s : State) → IsShowing before s → IsShowing first (hand_but s seat (path s.words top count)) → IsWay s.words ((s.seat seat).hand) top count
      → (k : ℕ) × (i + k ≡ count) × (at ≡ follow s.words top i) × IsShowing now (hand_but s seat (path s.words (follow s.words top i) k)) × IsWay s.words ((s.seat seat).hand) (follow s.words top i) k

-- the objects that were walked over are out of the hand
pub record GoesOn (first now : Machine) (seat limit : ℕ) (top tail : Pointer) (end : End) (i : ℕ) (at : Place) : Type 0 where
  pub seats : length now.seats.items ≡ length first.seats.items
  pub on : (s : State) → IsShowing first s → is_among (place_of top) ((s.seat seat).hand) ≡ true
      → Walks s.words ((s.seat seat).hand) top.locale (ends_at end) (place_of tail) (place_of top) (led_in s.words ((s.seat seat).hand) (ends_at end) (place_of top) (place_of tail)) i
      × IsShowing now (hand_but s seat (path s.words (place_of top) i)) × (at ≡ follow s.words (place_of top) i) × (count_by (is_kept Hand seat) now.keepers.items + i ≡ limit)

pub hand_there : (s : State) (c : ℕ) (gone : List Place) → ((hand_but s c gone).seat c).hand ≡ without_all gone ((s.seat c).hand)
hand_there s c gone = ap (λ (q : Seat). q.hand) (number_here s.seat c (record (s.seat c) { hand = without_all gone ((s.seat c).hand) }))

-- the object that the walk is at is still in the hand
pub still_there : (s : State) (c : ℕ) (top : Place) (i : ℕ) (p : Place) → p ≡ follow s.words top i → is_among (follow s.words top i) (lefts s.words ((s.seat c).hand) top i) ≡ true
    → is_among p (((hand_but s c (path s.words top i)).seat c).hand) ≡ true
still_there s c top i p at here =
    ap (λ l. is_among p l) (hand_there s c (path s.words top i)) ∙ ap (λ q. is_among q (without_all (path s.words top i) ((s.seat c).hand))) at
    ∙ sym (among-lefts s.words ((s.seat c).hand) top i (follow s.words top i)) ∙ here

-- it goes out of the hand
pub one_gone : (after : Machine) (s : State) (c : ℕ) (top : Place) (i : ℕ) (p : Place) → p ≡ follow s.words top i
    → IsShowing after (with_seat (hand_but s c (path s.words top i)) c (record ((hand_but s c (path s.words top i)).seat c) { hand = without p (((hand_but s c (path s.words top i)).seat c).hand) }))
    → IsShowing after (hand_but s c (path s.words top (suc i)))
one_gone after s c top i p at sh =
    subst (λ l. IsShowing after (hand_but s c l)) (ap (λ q. path s.words top i ++ q ∷ []) at ∙ sym (path-more s.words top i)) (hand_less after s c (path s.words top i) p sh)

-- what is left is the same either way
pub left_same : (s : State) (c : ℕ) (top : Place) (i : ℕ) (x : Place) → is_among x (((hand_but s c (path s.words top i)).seat c).hand) ≡ is_among x (lefts s.words ((s.seat c).hand) top i)
left_same s c top i x = ap (λ l. is_among x l) (hand_there s c (path s.words top i)) ∙ sym (among-lefts s.words ((s.seat c).hand) top i x)

-- one object goes back into the hand
pub back_step : (before now after : Machine) (s : State) (c : ℕ) (top : Place) (count i : ℕ) (at next : Place) (word : ℕ) → IsShowing before s → c < s.seats → (k : ℕ) → i + k ≡ count → i < count → at ≡ follow s.words top i
    → IsShowing now (hand_but s c (path s.words (follow s.words top i) k)) → IsWay s.words ((s.seat c).hand) (follow s.words top i) k
    → ((t : State) → IsShowing now t → IsFresh t at → IsShowing after (with_seat t c (record (t.seat c) { hand = at ∷ (t.seat c).hand })))
    → ((t : State) → IsShowing after t → IsPlace after.shape at → word ≡ t.words.next at) → next ≡ place_in word
    → (n : ℕ) × (suc i + n ≡ count) × (next ≡ follow s.words top (suc i)) × IsShowing after (hand_but s c (path s.words (follow s.words top (suc i)) n)) × IsWay s.words ((s.seat c).hand) (follow s.words top (suc i)) n
back_step before now after s c top count i at next word shb low zero sum less at_is sh way put read next_is = absurd (omega arith)
back_step before now after s c top count i at next word shb low (suc k) sum less at_is sh (has, new, way) put read next_is =
    let p = follow s.words top i in
    let gone = path s.words (behind s.words p) k in
    let has_at : is_among at ((s.seat c).hand) ≡ true = ap (λ q. is_among q ((s.seat c).hand)) at_is ∙ has in
    let out : is_among at (p ∷ gone) ≡ true = ap (λ q. is_among q (p ∷ gone)) at_is ∙ among-cons_here p gone in
    let fresh = fresh_gone before s shb c (p ∷ gone) at low has_at out in
    let put_back = put (hand_but s c (p ∷ gone)) sh fresh in
    let P : Place → Type 0 = λ q. IsShowing after (with_seat (hand_but s c (p ∷ gone)) c (record ((hand_but s c (p ∷ gone)).seat c) { hand = q ∷ ((hand_but s c (p ∷ gone)).seat c).hand })) in
    let back = hand_more after s c gone p has new (subst P at_is put_back) in
    let place = same_shape before after s (hand_but s c gone) shb back refl (λ d. IsPlace d at) (shb.marks.inside Hand c at low has_at) in
    let word_is : word ≡ s.words.next p = read (hand_but s c gone) back place ∙ ap (λ q. s.words.next q) at_is in
    (k, omega arith, next_is ∙ ap place_in word_is, back, way)

module _ (first now after : Machine) (s : State) (c limit : ℕ) (top tail : Pointer) (end : End) (i : ℕ) (at last : Place) (word : ℕ) (shf : IsShowing first s) (has : is_among (place_of top) ((s.seat c).hand) ≡ true)
    (inv : GoesOn first now c limit top tail end i at)
    (put : (t : State) → IsShowing now t → is_among at ((t.seat c).hand) ≡ true → IsShowing after (with_seat t c (record (t.seat c) { hand = without at ((t.seat c).hand) })))
    (fewer : (t : State) → IsShowing now t → is_among at ((t.seat c).hand) ≡ true → count_by (is_kept Hand c) after.keepers.items + 1 ≡ count_by (is_kept Hand c) now.keepers.items)
    (read : (t : State) → IsShowing after t → IsPlace after.shape at → word ≡ t.words.next at) (low : c < s.seats) (last_is : last ≡ place_of tail) where
  abbrev pub the_way : Led
  the_way = led_in s.words ((s.seat c).hand) (ends_at end) (place_of top) (place_of tail)

  abbrev pub the_walk : Walks s.words ((s.seat c).hand) top.locale (ends_at end) (place_of tail) (place_of top) the_way i
  the_walk = (inv.on s shf has).0

  at_is : at ≡ follow s.words (place_of top) i
  at_is = (inv.on s shf has).2

  there : is_among at (((hand_but s c (path s.words (place_of top) i)).seat c).hand) ≡ true
  there = still_there s c (place_of top) i at at_is the_walk.here

  pub sh_after : IsShowing after (hand_but s c (path s.words (place_of top) (suc i)))
  sh_after = one_gone after s c (place_of top) i at at_is (put (hand_but s c (path s.words (place_of top) i)) (inv.on s shf has).1 there)

  pub less : count_by (is_kept Hand c) after.keepers.items + suc i ≡ limit
  less =
      let one = fewer (hand_but s c (path s.words (place_of top) i)) (inv.on s shf has).1 there in
      let was : count_by (is_kept Hand c) now.keepers.items + i ≡ limit = (inv.on s shf has).3 in
      omega arith

  pub is_way : IsWay s.words ((s.seat c).hand) (place_of top) (suc i)
  is_way = is_way_now s.words ((s.seat c).hand) top.locale (ends_at end) (place_of tail) (place_of top) the_way i the_walk

  word_is : word ≡ s.words.next (follow s.words (place_of top) i)
  word_is =
      let in_hand = has_hand s.words ((s.seat c).hand) top.locale (ends_at end) (place_of tail) (place_of top) the_way i the_walk in
      let at_hand : is_among at ((s.seat c).hand) ≡ true = ap (λ q. is_among q ((s.seat c).hand)) at_is ∙ in_hand in
      let place = same_shape first after s (hand_but s c (path s.words (place_of top) (suc i))) shf sh_after refl (λ d. IsPlace d at) (shf.marks.inside Hand c at low at_hand) in
      read (hand_but s c (path s.words (place_of top) (suc i))) sh_after place ∙ ap (λ q. s.words.next q) at_is

  same_test : (b : Bool) → same_place at last ≡ b → same_place (follow s.words (place_of top) i) (place_of tail) ≡ b
  same_test b h = sym (λ j. same_place (at_is j) (last_is j)) ∙ h

  pub ends_well : same_place at last ≡ true → ends_at end word ≡ true → the_way ≡ Reaches (path s.words (place_of top) (suc i))
  ends_well on good = walks-end s.words ((s.seat c).hand) top.locale (ends_at end) (place_of tail) (place_of top) the_way i the_walk (same_test true on) (ap (ends_at end) (sym word_is) ∙ good)

  pub ends_badly : same_place at last ≡ true → ends_at end word ≡ false → the_way ≡ Breaks word
  ends_badly on bad = walks-bad_end s.words ((s.seat c).hand) top.locale (ends_at end) (place_of tail) (place_of top) the_way i the_walk (same_test true on) (ap (ends_at end) (sym word_is) ∙ bad) ∙ ap Breaks (sym word_is)

  leads_is : (b : Bool) → leads_into s.words top.locale (((hand_but s c (path s.words (place_of top) (suc i))).seat c).hand) word ≡ b
      → leads_into s.words top.locale (lefts s.words ((s.seat c).hand) (place_of top) (suc i)) (s.words.next (follow s.words (place_of top) i)) ≡ b
  leads_is b h =
      ap (λ w. leads_into s.words top.locale (lefts s.words ((s.seat c).hand) (place_of top) (suc i)) w) (sym word_is)
      ∙ sym (leads_as s.words top.locale _ (lefts s.words ((s.seat c).hand) (place_of top) (suc i)) word (left_same s c (place_of top) (suc i))) ∙ h

  pub breaks_off : same_place at last ≡ false → leads_into s.words top.locale (((hand_but s c (path s.words (place_of top) (suc i))).seat c).hand) word ≡ false → the_way ≡ Breaks word
  breaks_off off bad = walks-break s.words ((s.seat c).hand) top.locale (ends_at end) (place_of tail) (place_of top) the_way i the_walk (same_test false off) (leads_is false bad) ∙ ap Breaks (sym word_is)

  pub goes_on : same_place at last ≡ false → leads_into s.words top.locale (((hand_but s c (path s.words (place_of top) (suc i))).seat c).hand) word ≡ true
      → Walks s.words ((s.seat c).hand) top.locale (ends_at end) (place_of tail) (place_of top) the_way (suc i)
  goes_on off good = walks-on s.words ((s.seat c).hand) top.locale (ends_at end) (place_of tail) (place_of top) the_way i the_walk (same_test false off) (leads_is true good)

  pub next_at : (next : Place) → next ≡ place_in word → next ≡ follow s.words (place_of top) (suc i)
  next_at next is = is ∙ ap place_in word_is

none_among : (p : Place) (l : List Place) → l ≡ [] → is_among p l ≡ true → ⊥
unfolding is_among
none_among p l empty on = absurd (cc (on, ap (λ q. is_among p q) empty))

-- the walk ends before the hand is empty
pub never_through : (first now : Machine) (s : State) (c limit : ℕ) (top tail : Pointer) (end : End) (i : ℕ) (at : Place) → IsShowing first s → is_among (place_of top) ((s.seat c).hand) ≡ true → c < s.seats
    → GoesOn first now c limit top tail end i at → limit ≤ i → ⊥
never_through first now s c limit top tail end i at shf has low inv past =
    let so = inv.on s shf has in
    let sum : count_by (is_kept Hand c) now.keepers.items + i ≡ limit = so.3 in
    let none : count_by (is_kept Hand c) now.keepers.items ≡ 0 = omega arith in
    let empty = empty_if_none now (hand_but s c (path s.words (place_of top) i)) so.1 c Hand low none in
    let there = still_there s c (place_of top) i at so.2 so.0.here in
    absurd (none_among at _ empty there)
