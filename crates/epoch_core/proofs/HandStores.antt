-- What a machine shows of a hand depends on which objects are in it alone.
use Rattle.std.proofs.Common.{◌≡◌, ◌≢◌, ◌<◌, ℕ, true, false, if◌then◌else◌, List, [], ◌∷◌, ◌++◌, refl, ap, sym, ◌∙◌, subst, inl, inr, slice_index_or}
use Rattle.std.proofs.lemmas.Bool.Decides.{eqb_tells}
use Rattle.epoch_laws.specs.Places.{Place, is_among, without, without_all, with_number}
use Rattle.epoch_laws.specs.Seats.{Seat}
use Rattle.epoch_laws.specs.States.{State, IsPlace, with_seat}
use Rattle.epoch_laws.proofs.Updates.{number_here, number_there, same_place_tells}
use Rattle.epoch_core.specs.declared.machine.Machine.{Machine}
use Rattle.epoch_core.specs.declared.marks.Keeper.TheVariants.{Nobody, Kept}
use Rattle.epoch_core.specs.declared.marks.Role.{Role}
use Rattle.epoch_core.specs.declared.marks.Role.TheVariants.{Owner, Hand, Walker}
use Rattle.epoch_core.specs.Ends.{hand_but}
use Rattle.epoch_core.specs.Fresh.{IsFresh}
use Rattle.epoch_core.specs.Marks.{list_of, is_kept}
use Rattle.epoch_core.specs.Seated.{SeatShown}
use Rattle.epoch_core.specs.Shown.{IsShowing}
use Rattle.epoch_core.specs.Tables.{place_number}
use Rattle.epoch_core.proofs.HeldWords.{stored_same, unchanged}
use Rattle.epoch_core.proofs.MarkMoves.{among-cons_here, among-cons_other, among-without_here, among-without_other, kept_is, kept_other}
use Rattle.epoch_core.proofs.SeatStores.{seat_twice}
use Rattle.epoch_core.proofs.WayLemmas.{among-append_here, among-append_other, among-without_all}

-- at one seat or at another
cases : (P : ℕ → Seat → Type 0) (s : State) (c : ℕ) (a : Seat) → P c a → ((k : ℕ) → k ≢ c → P k (s.seat k)) → (k : ℕ) → P k (with_number s.seat c a k)
cases P s c a here there k = elim (eqb_tells k c) [
  | inl (_, same) ↦ subst (λ n. P n (with_number s.seat c a n)) (sym same) (subst (P c) (sym (number_here s.seat c a)) here)
  | inr (_, apart) ↦ subst (P k) (sym (number_there s.seat c a k apart)) (there k apart)
]

list_with : (role : Role) (q : Seat) (a b : List Place) → ((x : Place) → is_among x a ≡ is_among x b) → (x : Place) → is_among x (list_of role (record q { hand = b })) ≡ is_among x (list_of role (record q { hand = a }))
list_with Owner q a b same x = refl
list_with Hand q a b same x = sym (same x)
list_with Walker q a b same x = refl

pub hand_as : (m : Machine) (s : State) (c : ℕ) (a b : List Place) → IsShowing m (with_seat s c (record (s.seat c) { hand = a })) → ((x : Place) → is_among x a ≡ is_among x b)
    → IsShowing m (with_seat s c (record (s.seat c) { hand = b }))
hand_as m s c a b sh same =
    let qa : Seat = record (s.seat c) { hand = a } in
    let qb : Seat = record (s.seat c) { hand = b } in
    let lists : (role : Role) (k : ℕ) (x : Place) → is_among x (list_of role (with_number s.seat c qb k)) ≡ is_among x (list_of role (with_number s.seat c qa k)) =
    λ role k x. elim (eqb_tells k c) [
      | inl (_, at) ↦
          subst (λ n. is_among x (list_of role (with_number s.seat c qb n)) ≡ is_among x (list_of role (with_number s.seat c qa n))) (sym at)
          (ap (λ (q : Seat). is_among x (list_of role q)) (number_here s.seat c qb) ∙ list_with role (s.seat c) a b same x ∙ sym (ap (λ (q : Seat). is_among x (list_of role q)) (number_here s.seat c qa)))
      | inr (_, apart) ↦ ap (λ (q : Seat). is_among x (list_of role q)) (number_there s.seat c qb k apart) ∙ sym (ap (λ (q : Seat). is_among x (list_of role q)) (number_there s.seat c qa k apart))
    ] in
    record {
      shaped = sh.shaped;
      shape = sh.shape;
      words = sh.words;
      low = sh.low;
      tags = sh.tags;
      seats = record {
        count = sh.seats.count;
        each = λ k d low. elim (eqb_tells k c) [
          | inl (_, at) ↦
              let old : SeatShown m.shape (slice_index_or m.seats.items k d) qa = subst (λ (q : Seat). SeatShown m.shape (slice_index_or m.seats.items k d) q) (ap (λ n. with_number s.seat c qa n) at ∙ number_here s.seat c qa) (sh.seats.each k d low) in
              let now : SeatShown m.shape (slice_index_or m.seats.items k d) qb = record { same = ap (λ (q : Seat). record q { hand = b }) old.same; in_range = old.in_range } in
              subst (λ (q : Seat). SeatShown m.shape (slice_index_or m.seats.items k d) q) (sym (ap (λ n. with_number s.seat c qb n) at ∙ number_here s.seat c qb)) now
          | inr (_, apart) ↦
              subst (λ (q : Seat). SeatShown m.shape (slice_index_or m.seats.items k d) q) (number_there s.seat c qa k apart ∙ sym (number_there s.seat c qb k apart)) (sh.seats.each k d low)
        ];
        counted = sh.seats.counted;
      };
      marks = record {
        len = sh.marks.len;
        kept = λ role k p d low in_p. lists role k p ∙ sh.marks.kept role k p d low in_p;
        inside = λ role k p low among. sh.marks.inside role k p low (sym (lists role k p) ∙ among);
      };
    }

-- one object more goes
pub hand_less : (m : Machine) (s : State) (c : ℕ) (gone : List Place) (p : Place)
    → IsShowing m (with_seat (hand_but s c gone) c (record ((hand_but s c gone).seat c) { hand = without p (((hand_but s c gone).seat c).hand) })) → IsShowing m (hand_but s c (gone ++ p ∷ []))
hand_less m s c gone p sh =
    let a : Seat = record (s.seat c) { hand = without_all gone ((s.seat c).hand) } in
    let once = subst (λ t. IsShowing m t) (seat_twice s c a (λ (q : Seat). record q { hand = without p q.hand })) sh in
    hand_as m s c (without p (without_all gone ((s.seat c).hand))) (without_all (gone ++ p ∷ []) ((s.seat c).hand)) once (λ x. sym (among-without_all x (gone ++ p ∷ []) ((s.seat c).hand)
    ∙ elim (same_place_tells x p) [
      | inl (_, same) ↦
          ap (λ t. if t then false else is_among x ((s.seat c).hand)) (subst (λ y. is_among x (gone ++ y ∷ []) ≡ true) same (among-append_here x gone))
          ∙ sym (subst (λ y. is_among x (without y (without_all gone ((s.seat c).hand))) ≡ false) same (among-without_here x (without_all gone ((s.seat c).hand))))
      | inr (_, apart) ↦
          ap (λ t. if t then false else is_among x ((s.seat c).hand)) (among-append_other x p gone apart) ∙ sym (among-without_all x gone ((s.seat c).hand)) ∙ sym (among-without_other x p (without_all gone ((s.seat c).hand)) apart)
    ]))

-- one comes back
pub hand_more : (m : Machine) (s : State) (c : ℕ) (gone : List Place) (p : Place) → is_among p ((s.seat c).hand) ≡ true → is_among p gone ≡ false
    → IsShowing m (with_seat (hand_but s c (p ∷ gone)) c (record ((hand_but s c (p ∷ gone)).seat c) { hand = p ∷ ((hand_but s c (p ∷ gone)).seat c).hand })) → IsShowing m (hand_but s c gone)
hand_more m s c gone p has new sh =
    let a : Seat = record (s.seat c) { hand = without_all (p ∷ gone) ((s.seat c).hand) } in
    let once = subst (λ t. IsShowing m t) (seat_twice s c a (λ (q : Seat). record q { hand = p ∷ q.hand })) sh in
    hand_as m s c (p ∷ without_all (p ∷ gone) ((s.seat c).hand)) (without_all gone ((s.seat c).hand)) once (λ x. elim (same_place_tells x p) [
      | inl (_, same) ↦
          subst (λ y. is_among x (y ∷ without_all (p ∷ gone) ((s.seat c).hand)) ≡ true) same (among-cons_here x (without_all (p ∷ gone) ((s.seat c).hand)))
          ∙ sym (ap (λ y. is_among y (without_all gone ((s.seat c).hand))) same ∙ among-without_all p gone ((s.seat c).hand) ∙ ap (λ t. if t then false else is_among p ((s.seat c).hand)) new ∙ has)
      | inr (_, apart) ↦
          among-cons_other x p (without_all (p ∷ gone) ((s.seat c).hand)) apart ∙ among-without_all x (p ∷ gone) ((s.seat c).hand)
          ∙ ap (λ t. if t then false else is_among x ((s.seat c).hand)) (among-cons_other x p gone apart) ∙ sym (among-without_all x gone ((s.seat c).hand))
    ])

nothing : (x : Place) (hand : List Place) → (if is_among x [] then false else is_among x hand) ≡ is_among x hand
unfolding is_among
nothing x hand = refl

whole : (m : Machine) (s : State) (c : ℕ) → IsShowing m (with_seat s c (s.seat c)) → IsShowing m s
whole m s c sh = subst (λ (f : ℕ → Seat). IsShowing m (record s { seat = f })) (stored_same s c) sh

-- nothing is gone
pub hand_whole : (m : Machine) (s : State) (c : ℕ) → IsShowing m (hand_but s c []) → IsShowing m s
hand_whole m s c sh = whole m s c (hand_as m s c (without_all [] ((s.seat c).hand)) ((s.seat c).hand) sh (λ x. among-without_all x [] ((s.seat c).hand) ∙ nothing x ((s.seat c).hand)))

-- and the other way
pub hand_all : (m : Machine) (s : State) (c : ℕ) → IsShowing m s → IsShowing m (hand_but s c [])
hand_all m s c sh = hand_as m s c ((s.seat c).hand) (without_all [] ((s.seat c).hand)) (unchanged m s sh c) (λ x. sym (among-without_all x [] ((s.seat c).hand) ∙ nothing x ((s.seat c).hand)))

-- an object that goes out of a hand is no seat's
pub fresh_gone : (before : Machine) (s : State) → IsShowing before s → (c : ℕ) (gone : List Place) (p : Place) → c < s.seats → is_among p ((s.seat c).hand) ≡ true → is_among p gone ≡ true → IsFresh (hand_but s c gone) p
fresh_gone before s sh c gone p low has out =
    let place = sh.marks.inside Hand c p low has in
    let mark = slice_index_or before.keepers.items (place_number before.shape p) Nobody in
    let is : mark ≡ Kept Hand c = kept_is Hand c mark (sym (sh.marks.kept Hand c p Nobody low place) ∙ has) in
    record {
      place = subst (λ d. IsPlace d p) (sym sh.shape) place;
      unkept = λ role n low_n. cases (λ k q. k < s.seats → is_among p (list_of role q) ≡ false) s c (record (s.seat c) { hand = without_all gone ((s.seat c).hand) })
          (λ low_c. own role low_c place is)
          (λ k apart low_k. sh.marks.kept role k p Nobody low_k place ∙ ap (λ w. is_kept role k w) is ∙ kept_other role Hand k c apart) n low_n;
    } where
      own : (role : Role) → c < s.seats → IsPlace before.shape p → slice_index_or before.keepers.items (place_number before.shape p) Nobody ≡ Kept Hand c → is_among p (list_of role (record (s.seat c) { hand = without_all gone ((s.seat c).hand) })) ≡ false
      own Owner low_c place is = sh.marks.kept Owner c p Nobody low_c place ∙ ap (λ w. is_kept Owner c w) is
      own Hand low_c place is = among-without_all p gone ((s.seat c).hand) ∙ ap (λ t. if t then false else is_among p ((s.seat c).hand)) out
      own Walker low_c place is = sh.marks.kept Walker c p Nobody low_c place ∙ ap (λ w. is_kept Walker c w) is
