-- What a machine shows after the record of one seat was changed.
use Rattle.std.proofs.Common.{◌≡◌, ◌<◌, ℕ, List, Vec, Global, length, slice_index_or, slice_set, ap, sym, ◌∙◌, subst, inl, inr, arith}
use mathlib.Core.Path.{fun_ext}
use Rattle.std.proofs.lemmas.List.{get_or-set_other, get_or-set_same, length-set}
use Rattle.std.proofs.lemmas.Option.{slice_get_cases}
use Rattle.std.proofs.lemmas.Bool.Decides.{eqb_tells}
use Rattle.pgas_base.specs.declared.shapes.Shape.{Shape}
use Rattle.epoch_laws.specs.Places.{Place, is_among, with_number}
use Rattle.epoch_laws.specs.Seats.{Seat}
use Rattle.epoch_laws.specs.States.{State, with_seat}
use Rattle.epoch_laws.proofs.Updates.{number_here, number_there}
use Rattle.epoch_core.specs.declared.machine.Machine.{Machine}
use Rattle.epoch_core.specs.declared.marks.Role.{Role}
use Rattle.epoch_core.specs.declared.marks.Role.TheVariants.{Owner, Hand, Walker}
use Rattle.epoch_core.specs.declared.seats.Seat.{Seat as RunningSeat}
use Rattle.epoch_core.specs.Marks.{AreCounted, list_of}
use Rattle.epoch_core.specs.Seated.{IsInRange, SeatShown, seat_with}
use Rattle.epoch_core.specs.Fresh.{IsFresh}
use Rattle.epoch_core.specs.Shown.{IsShowing}

-- the record of a seat, as code reads it
pub seat_read : (m : Machine) (s : State) → IsShowing m s → (c : ℕ) (r : RunningSeat) → c < s.seats → r ≡ slice_index_or m.seats.items c r → SeatShown m.shape r (s.seat c)
seat_read m s sh c r low is = let P : RunningSeat → Type 0 = λ v. SeatShown m.shape v (s.seat c) in subst P (sym is) (sh.seats.each c r low)

pub low_read : (m : Machine) (s : State) → IsShowing m s → (c : ℕ) → c < length m.seats.items → c < s.seats
low_read m s sh c low = rw (sym sh.seats.count) low

pub counts_read : (m : Machine) (s : State) → IsShowing m s → (c : ℕ) (r : RunningSeat) → c < s.seats → r ≡ slice_index_or m.seats.items c r → AreCounted r c m.keepers.items
counts_read m s sh c r low is = let P : RunningSeat → Type 0 = λ v. AreCounted v c m.keepers.items in subst P (sym is) (sh.seats.counted c r low)

module _ (m : Machine) (s : State) (sh : IsShowing m s) (v : Vec RunningSeat Global) (c : ℕ) (r : RunningSeat) (seat : Seat) (low : c < s.seats) (is : v.items ≡ slice_set m.seats.items c r) where
  at_seat : (P : ℕ → RunningSeat → Seat → Type 0) → P c r seat → ((k : ℕ) (d : RunningSeat) → k < s.seats → P k (slice_index_or m.seats.items k d) (s.seat k))
      → (k : ℕ) (d : RunningSeat) → k < s.seats → P k (slice_index_or v.items k d) (with_number s.seat c seat k)
  at_seat P here there k d low_k = elim (eqb_tells k c) [
    | inl (_, same) ↦
        let fits : c < length m.seats.items = rw sh.seats.count low in
        let run : slice_index_or v.items c d ≡ r = ap (λ (l : List RunningSeat). slice_index_or l c d) is ∙ get_or-set_same m.seats.items c r d fits in
        let Q : RunningSeat → Type 0 = λ w. P c w seat in
        let R : Seat → Type 0 = λ w. P c (slice_index_or v.items c d) w in
        let S : ℕ → Type 0 = λ n. P n (slice_index_or v.items n d) (with_number s.seat c seat n) in
        subst S (sym same) (subst R (sym (number_here s.seat c seat)) (subst Q (sym run) here))
    | inr (_, apart) ↦
        let run : slice_index_or v.items k d ≡ slice_index_or m.seats.items k d = ap (λ (l : List RunningSeat). slice_index_or l k d) is ∙ get_or-set_other m.seats.items c k r d apart in
        let Q : RunningSeat → Type 0 = λ w. P k w (s.seat k) in
        let R : Seat → Type 0 = λ w. P k (slice_index_or v.items k d) w in
        subst R (sym (number_there s.seat c seat k apart)) (subst Q (sym run) (there k d low_k))
  ]

  -- the lists of the seat that marks speak of stay
  pub seat_stored : SeatShown m.shape r seat → AreCounted r c m.keepers.items → ((role : Role) → list_of role seat ≡ list_of role (s.seat c)) → IsShowing (record m { seats = v }) (with_seat s c seat)
  seat_stored shown counted lists = record {
    shaped = sh.shaped;
    shape = sh.shape;
    words = record {
      epoch = sh.words.epoch;
      election = sh.words.election;
      epochs = sh.words.epochs;
      elections = sh.words.elections;
      lists = sh.words.lists;
      free_heads = sh.words.free_heads;
      home_heads = sh.words.home_heads;
      tokens = sh.words.tokens;
      headers = sh.words.headers;
      next = sh.words.next;
    };
    low = record { epoch = sh.low.epoch; epoch_of = sh.low.epoch_of; free_index = sh.low.free_index; free_count = sh.low.free_count };
    tags = sh.tags;
    seats = record {
      count = ap (λ (l : List RunningSeat). length l) is ∙ length-set m.seats.items c r ∙ sh.seats.count;
      each = at_seat (λ _ run q. SeatShown m.shape run q) shown sh.seats.each;
      counted = λ k d low_k. at_seat (λ n run _. AreCounted run n m.keepers.items) counted sh.seats.counted k d low_k;
    };
    marks = record {
      len = sh.marks.len;
      kept = λ role k p d low_k in_p. ap (λ (l : List Place). is_among p l) (same_lists role k) ∙ sh.marks.kept role k p d low_k in_p;
      inside = λ role k p low_k among. sh.marks.inside role k p low_k (ap (λ (l : List Place). is_among p l) (sym (same_lists role k)) ∙ among);
    };
  } where
    same_lists : (role : Role) (k : ℕ) → list_of role (with_number s.seat c seat k) ≡ list_of role (s.seat k)
    same_lists role k = elim (eqb_tells k c) [
      | inl (_, same) ↦
          let S : ℕ → Type 0 = λ n. list_of role (with_number s.seat c seat n) ≡ list_of role (s.seat n) in
          subst S (sym same) (ap (λ (q : Seat). list_of role q) (number_here s.seat c seat) ∙ lists role)
      | inr (_, apart) ↦ ap (λ (q : Seat). list_of role q) (number_there s.seat c seat k apart)
    ]

three : {A B : Type 0} (f : A → A → A → B) {a a' b b' c c' : A} → a ≡ a' → b ≡ b' → c ≡ c' → f a b c ≡ f a' b' c'
three f p q r = λ i. f (p i) (q i) (r i)

lists_same : (F : Seat → Seat) → ((q : Seat) → (F q).owned ≡ q.owned) → ((q : Seat) → (F q).hand ≡ q.hand) → ((q : Seat) → (F q).reclaim.walked ≡ q.reclaim.walked) → (q : Seat) (role : Role) → list_of role (F q) ≡ list_of role q
lists_same F owned hand walked q Owner = owned q
lists_same F owned hand walked q Hand = hand q
lists_same F owned hand walked q Walker = walked q

-- a change of a seat that leaves what it has to itself
pub seat_changed : (m : Machine) (s : State) (sh : IsShowing m s) (v : Vec RunningSeat Global) (c : ℕ) (r r' : RunningSeat) (F : Seat → Seat) → c < s.seats → r ≡ slice_index_or m.seats.items c r
    → v.items ≡ slice_set m.seats.items c r' → ((o h w : List Place) → F (seat_with r o h w) ≡ seat_with r' o h w)
    → ((q : Seat) → (F q).owned ≡ q.owned) → ((q : Seat) → (F q).hand ≡ q.hand) → ((q : Seat) → (F q).reclaim.walked ≡ q.reclaim.walked)
    → r'.hand ≡ r.hand → r'.reclaim.walked ≡ r.reclaim.walked → ((w : List Place) → IsInRange m.shape r w → IsInRange m.shape r' w) → IsShowing (record m { seats = v }) (with_seat s c (F (s.seat c)))
seat_changed m s sh v c r r' F low read is same owned hand walked count_hand count_walked in_range =
    let shown = seat_read m s sh c r low read in
    let counts = counts_read m s sh c r low read in
    let q = s.seat c in
    let lists : (role : Role) → list_of role (F q) ≡ list_of role q = lists_same F owned hand walked q in
    let now : F q ≡ seat_with r' (F q).owned (F q).hand (F q).reclaim.walked =
    ap F shown.same ∙ same q.owned q.hand q.reclaim.walked ∙ three (seat_with r') (sym (owned q)) (sym (hand q)) (sym (walked q)) in
    seat_stored m s sh v c r' (F q) low is (record { same = now; in_range = let P : List Place → Type 0 = λ w. IsInRange m.shape r' w in subst P (sym (walked q)) (in_range q.reclaim.walked shown.in_range) }) (count_hand ∙ counts.0, count_walked ∙ counts.1) lists

-- the same, where the range is shown of this seat's own list alone
pub seat_changed_all : (m : Machine) (s : State) (sh : IsShowing m s) (v : Vec RunningSeat Global) (c : ℕ) (r r' : RunningSeat) (F : Seat → Seat) → c < s.seats → r ≡ slice_index_or m.seats.items c r
    → v.items ≡ slice_set m.seats.items c r' → ((o h w : List Place) → F (seat_with r o h w) ≡ seat_with r' o h w)
    → ((q : Seat) → (F q).owned ≡ q.owned) → ((q : Seat) → (F q).hand ≡ q.hand) → ((q : Seat) → (F q).reclaim.walked ≡ q.reclaim.walked)
    → r'.hand ≡ r.hand → r'.reclaim.walked ≡ r.reclaim.walked → (IsInRange m.shape r (s.seat c).reclaim.walked → IsInRange m.shape r' (s.seat c).reclaim.walked)
    → IsShowing (record m { seats = v }) (with_seat s c (F (s.seat c)))
seat_changed_all m s sh v c r r' F low read is same owned hand walked count_hand count_walked in_range =
    let shown = seat_read m s sh c r low read in
    let counts = counts_read m s sh c r low read in
    let q = s.seat c in
    let lists : (role : Role) → list_of role (F q) ≡ list_of role q = lists_same F owned hand walked q in
    let now : F q ≡ seat_with r' (F q).owned (F q).hand (F q).reclaim.walked =
    ap F shown.same ∙ same q.owned q.hand q.reclaim.walked ∙ three (seat_with r') (sym (owned q)) (sym (hand q)) (sym (walked q)) in
    seat_stored m s sh v c r' (F q) low is (record { same = now; in_range = let P : List Place → Type 0 = λ w. IsInRange m.shape r' w in subst P (sym (walked q)) (in_range shown.in_range) }) (count_hand ∙ counts.0, count_walked ∙ counts.1) lists

-- two machines that show states of one shape have one shape
pub same_shape : (m n : Machine) (s t : State) → IsShowing m s → IsShowing n t → s.shape ≡ t.shape → (P : Shape → Type 0) → P m.shape → P n.shape
same_shape m n s t sh sh' one P h = subst P (sym sh.shape ∙ one ∙ sh'.shape) h

-- the record of one seat changed twice
pub seat_twice : (s : State) (c : ℕ) (a : Seat) (G : Seat → Seat) → with_seat (with_seat s c a) c (G (with_number s.seat c a c)) ≡ with_seat s c (G a)
seat_twice s c a G = ap (λ (f : ℕ → Seat). record s { seat = f }) (fun_ext (λ k. elim (eqb_tells k c) [
  | inl (_, same) ↦
      let P : ℕ → Type 0 = λ n. with_number (with_number s.seat c a) c (G (with_number s.seat c a c)) n ≡ with_number s.seat c (G a) n in
      subst P (sym same) (number_here (with_number s.seat c a) c (G (with_number s.seat c a c)) ∙ ap G (number_here s.seat c a) ∙ sym (number_here s.seat c (G a)))
  | inr (_, apart) ↦
      number_there (with_number s.seat c a) c (G (with_number s.seat c a c)) k apart ∙ number_there s.seat c a k apart ∙ sym (number_there s.seat c (G a) k apart)
]))

-- an object that is fresh stays so while the lists stay
pub fresh_stays : (s : State) (c : ℕ) (F : Seat → Seat) → ((q : Seat) → (F q).owned ≡ q.owned) → ((q : Seat) → (F q).hand ≡ q.hand) → ((q : Seat) → (F q).reclaim.walked ≡ q.reclaim.walked)
    → (p : Place) → IsFresh s p → IsFresh (with_seat s c (F (s.seat c))) p
fresh_stays s c F owned hand walked p fresh = record {
  place = fresh.place;
  unkept = λ role n low. ap (λ (l : List Place). is_among p l) (elim (eqb_tells n c) [
    | inl (_, same) ↦
        let P : ℕ → Type 0 = λ k. list_of role (with_number s.seat c (F (s.seat c)) k) ≡ list_of role (s.seat k) in
        subst P (sym same) (ap (λ (q : Seat). list_of role q) (number_here s.seat c (F (s.seat c))) ∙ lists_same F owned hand walked (s.seat c) role)
    | inr (_, apart) ↦ ap (λ (q : Seat). list_of role q) (number_there s.seat c (F (s.seat c)) n apart)
  ]) ∙ fresh.unkept role n low;
}

-- the element there
pub element : {A : Type 0} (xs : List A) (i : ℕ) → i < length xs → (x : A) × (slice_index_or xs i x ≡ x)
element xs i low = elim ((slice_get_cases xs i).1) [ inl (x, _, _, is) ↦ (x, is) | inr (past, _) ↦ absurd (omega arith) ]
