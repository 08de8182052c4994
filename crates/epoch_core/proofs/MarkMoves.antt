-- What a machine shows after the mark of one object was changed, with the seat that has it or gets it.
use Rattle.std.proofs.Common.{◌≡◌, ◌≢◌, ◌<◌, ◌≤◌, ◌+◌, ◌*◌, ◌&&◌, ℕ, Bool, true, false, if◌then◌else◌, List, [], ◌∷◌, Vec, Global, length, slice_index_or, slice_set, refl, ap, sym, ◌∙◌, subst, inl, inr, arith}
use Rattle.std.specs.Prelude.{count_by}
use Rattle.std.proofs.lemmas.List.{get_or-set_other, get_or-set_same, length-set}
use Rattle.std.proofs.lemmas.List.Sums.{count_by-le-length, sum_by-set}
use Rattle.std.proofs.lemmas.Bool.Decides.{eqb_tells}
use Rattle.epoch_laws.specs.Places.{Place, is_among, same_place, without, with_number}
use Rattle.epoch_laws.specs.Seats.{Seat}
use Rattle.epoch_laws.specs.States.{IsPlace, State, with_seat}
use Rattle.epoch_laws.proofs.Updates.{number_here, number_there, same_place_tells}
use Rattle.epoch_core.specs.declared.machine.Machine.{Machine}
use Rattle.epoch_core.specs.declared.marks.Keeper.{Keeper}
use Rattle.epoch_core.specs.declared.marks.Keeper.TheVariants.{Nobody, Kept}
use Rattle.epoch_core.specs.declared.marks.Role.{Role}
use Rattle.epoch_core.specs.declared.marks.Role.TheVariants.{Owner, Hand, Walker}
use Rattle.epoch_core.specs.declared.seats.Seat.{Seat as RunningSeat}
use Rattle.epoch_core.specs.Marks.{AreCounted, list_of, is_kept, same_role}
use Rattle.epoch_core.specs.Seated.{IsInRange, SeatShown, seat_with}
use Rattle.epoch_core.specs.Fresh.{IsFresh}
use Rattle.epoch_core.specs.Shown.{IsShowing}
use Rattle.epoch_core.specs.Tables.{place_number}
use Rattle.epoch_core.proofs.SeatStores.{seat_read, counts_read}
use Rattle.epoch_core.proofs.Tables.{place_apart, place_low}

abbrev pub bit : Bool → ℕ
bit b = if b then 1 else 0

-- a count after one element is changed
pub count_by-set : {X : Type 0} (p : X → Bool) (xs : List X) (i : ℕ) (y d : X) → i < length xs → count_by p (slice_set xs i y) + bit (p (slice_index_or xs i d)) ≡ count_by p xs + bit (p y)
count_by-set p xs i y d low = sum_by-set (λ x. bit (p x)) xs i y d low

among-without : (x p : Place) (l : List Place) → is_among x (without p l) ≡ (if same_place x p then false else is_among x l)
unfolding is_among without
among-without x p [] = elim (same_place x p) as (λ b. false ≡ (if b then false else false)) [ true ↦ refl | false ↦ refl ]
among-without x p (q ∷ l) = elim (same_place_tells q p) [
  | inl (is, same) ↦ elim (same_place_tells x p) [
    | inl (at, _) ↦ rw (is, among-without x p l, at) refl
    | inr (off, apart) ↦ elim (same_place_tells x q) [ inl (_, also) ↦ absurd (apart (also ∙ same)) | inr (off2, _) ↦ rw (is, among-without x p l, off, off2) refl ]
  ]
  | inr (not, other) ↦ elim (same_place_tells x q) [
    | inl (on, also) ↦ elim (same_place_tells x p) [ inl (_, at) ↦ absurd (other (sym also ∙ at)) | inr (off, _) ↦ rw (not, on, off) refl ]
    | inr (off2, _) ↦ rw (not, off2, among-without x p l) refl
  ]
]

same_here : (p : Place) → same_place p p ≡ true
same_here p = elim (same_place_tells p p) [ inl (on, _) ↦ on | inr (_, diff) ↦ absurd (diff refl) ]

same_not : (x p : Place) → x ≢ p → same_place x p ≡ false
same_not x p apart = elim (same_place_tells x p) [ inl (_, same) ↦ absurd (apart same) | inr (off, _) ↦ off ]

pub among-cons_here : (p : Place) (l : List Place) → is_among p (p ∷ l) ≡ true
unfolding is_among
among-cons_here p l = rw (same_here p) refl

pub among-cons_other : (x p : Place) (l : List Place) → x ≢ p → is_among x (p ∷ l) ≡ is_among x l
unfolding is_among
among-cons_other x p l apart = rw (same_not x p apart) refl

pub among-without_here : (p : Place) (l : List Place) → is_among p (without p l) ≡ false
among-without_here p l = among-without p p l ∙ rw (same_here p) refl

pub among-without_other : (x p : Place) (l : List Place) → x ≢ p → is_among x (without p l) ≡ is_among x l
among-without_other x p l apart = among-without x p l ∙ rw (same_not x p apart) refl

-- the mark that says so
pub kept_is : (role : Role) (c : ℕ) (k : Keeper) → is_kept role c k ≡ true → k ≡ Kept role c
kept_is role c Nobody h = absurd (cc h)
kept_is Owner c (Kept Owner seat) h = elim (eqb_tells c seat) [ inl (_, same) ↦ ap (λ n. Kept Owner n) (sym same) | inr (off2, _) ↦ absurd (cc (h, off2)) ]
kept_is Hand c (Kept Hand seat) h = elim (eqb_tells c seat) [ inl (_, same) ↦ ap (λ n. Kept Hand n) (sym same) | inr (off2, _) ↦ absurd (cc (h, off2)) ]
kept_is Walker c (Kept Walker seat) h = elim (eqb_tells c seat) [ inl (_, same) ↦ ap (λ n. Kept Walker n) (sym same) | inr (off2, _) ↦ absurd (cc (h, off2)) ]
kept_is Owner c (Kept Hand seat) h = absurd (cc h)
kept_is Owner c (Kept Walker seat) h = absurd (cc h)
kept_is Hand c (Kept Owner seat) h = absurd (cc h)
kept_is Hand c (Kept Walker seat) h = absurd (cc h)
kept_is Walker c (Kept Owner seat) h = absurd (cc h)
kept_is Walker c (Kept Hand seat) h = absurd (cc h)

role_and_false : (b : Bool) → (b && false) ≡ false
role_and_false true = refl
role_and_false false = refl

-- another seat has nothing that this one has
pub kept_other : (role' role : Role) (j c : ℕ) → j ≢ c → is_kept role' j (Kept role c) ≡ false
kept_other role' role j c apart = elim (eqb_tells j c) [ inl (_, same) ↦ absurd (apart same) | inr (off2, _) ↦ ap (λ b. same_role role' role && b) off2 ∙ role_and_false (same_role role' role) ]

pub kept_here : (role' role : Role) (c : ℕ) → is_kept role' c (Kept role c) ≡ same_role role' role
kept_here Owner Owner c = elim (eqb_tells c c) [ inl (on, _) ↦ on | inr (_, diff) ↦ absurd (diff refl) ]
kept_here Hand Hand c = elim (eqb_tells c c) [ inl (on, _) ↦ on | inr (_, diff) ↦ absurd (diff refl) ]
kept_here Walker Walker c = elim (eqb_tells c c) [ inl (on, _) ↦ on | inr (_, diff) ↦ absurd (diff refl) ]
kept_here Owner Hand c = refl
kept_here Owner Walker c = refl
kept_here Hand Owner c = refl
kept_here Hand Walker c = refl
kept_here Walker Owner c = refl
kept_here Walker Hand c = refl

module _ (m : Machine) (s : State) (sh : IsShowing m s) (ks : Vec Keeper Global) (v : Vec RunningSeat Global) (c : ℕ) (r : RunningSeat) (seat : Seat) (p : Place) (k : Keeper) (low : c < s.seats) (place : IsPlace m.shape p)
    (marked : ks.items ≡ slice_set m.keepers.items (place_number m.shape p) k) (is : v.items ≡ slice_set m.seats.items c r) where
  -- the mark before
  abbrev pub was : Keeper
  was = slice_index_or m.keepers.items (place_number m.shape p) Nobody

  at_seat : (P : ℕ → RunningSeat → Seat → Type 0) → P c r seat → ((n : ℕ) (d : RunningSeat) → n < s.seats → n ≢ c → P n (slice_index_or m.seats.items n d) (s.seat n))
      → (n : ℕ) (d : RunningSeat) → n < s.seats → P n (slice_index_or v.items n d) (with_number s.seat c seat n)
  at_seat P here there n d low_n = elim (eqb_tells n c) [
    | inl (_, same) ↦
        let fits : c < length m.seats.items = rw sh.seats.count low in
        let run : slice_index_or v.items c d ≡ r = ap (λ (l : List RunningSeat). slice_index_or l c d) is ∙ get_or-set_same m.seats.items c r d fits in
        let Q : RunningSeat → Type 0 = λ w. P c w seat in
        let R : Seat → Type 0 = λ w. P c (slice_index_or v.items c d) w in
        let S : ℕ → Type 0 = λ j. P j (slice_index_or v.items j d) (with_number s.seat c seat j) in
        subst S (sym same) (subst R (sym (number_here s.seat c seat)) (subst Q (sym run) here))
    | inr (_, apart) ↦
        let run : slice_index_or v.items n d ≡ slice_index_or m.seats.items n d = ap (λ (l : List RunningSeat). slice_index_or l n d) is ∙ get_or-set_other m.seats.items c n r d apart in
        let Q : RunningSeat → Type 0 = λ w. P n w (s.seat n) in
        let R : Seat → Type 0 = λ w. P n (slice_index_or v.items n d) w in
        subst R (sym (number_there s.seat c seat n apart)) (subst Q (sym run) (there n d low_n apart))
  ]

  fits_mark : place_number m.shape p < length m.keepers.items
  fits_mark = rw sh.marks.len (place_low m.shape p place)

  mark_here : (d : Keeper) → slice_index_or ks.items (place_number m.shape p) d ≡ k
  mark_here d = ap (λ (l : List Keeper). slice_index_or l (place_number m.shape p) d) marked ∙ get_or-set_same m.keepers.items (place_number m.shape p) k d fits_mark

  mark_there : (q : Place) (d : Keeper) → IsPlace m.shape q → q ≢ p → slice_index_or ks.items (place_number m.shape q) d ≡ slice_index_or m.keepers.items (place_number m.shape q) d
  mark_there q d in_q apart = ap (λ (l : List Keeper). slice_index_or l (place_number m.shape q) d) marked
      ∙ get_or-set_other m.keepers.items (place_number m.shape p) (place_number m.shape q) k d (place_apart m.shape q p in_q place apart)

  -- a seat that neither had the object nor gets it
  count_same : (role : Role) (n : ℕ) → is_kept role n was ≡ false → is_kept role n k ≡ false → count_by (is_kept role n) ks.items ≡ count_by (is_kept role n) m.keepers.items
  count_same role n had gets =
      let set : count_by (is_kept role n) (slice_set m.keepers.items (place_number m.shape p) k) + bit (is_kept role n was) ≡ count_by (is_kept role n) m.keepers.items + bit (is_kept role n k) =
      count_by-set (is_kept role n) m.keepers.items (place_number m.shape p) k Nobody fits_mark in
      let before : bit (is_kept role n was) ≡ 0 = ap bit had in
      let after : bit (is_kept role n k) ≡ 0 = ap bit gets in
      let moved : count_by (is_kept role n) ks.items ≡ count_by (is_kept role n) (slice_set m.keepers.items (place_number m.shape p) k) = ap (λ (l : List Keeper). count_by (is_kept role n) l) marked in
      omega arith

  -- how the seat's own counts change
  pub count_moves : (role : Role) → count_by (is_kept role c) ks.items + bit (is_kept role c was) ≡ count_by (is_kept role c) m.keepers.items + bit (is_kept role c k)
  count_moves role = ap (λ (l : List Keeper). count_by (is_kept role c) l + bit (is_kept role c was)) marked ∙ count_by-set (is_kept role c) m.keepers.items (place_number m.shape p) k Nobody fits_mark

  pub was_among : (role : Role) → is_among p (list_of role (s.seat c)) ≡ is_kept role c was
  was_among role = sh.marks.kept role c p Nobody low place

  module _ (shown : SeatShown m.shape r seat) (counted : AreCounted r c ks.items)
      (lists : (role : Role) (x : Place) → is_among x (list_of role seat) ≡ (if same_place x p then is_kept role c k else is_among x (list_of role (s.seat c))))
      (others_had : (role : Role) (n : ℕ) → n < s.seats → n ≢ c → is_kept role n was ≡ false) (others_get : (role : Role) (n : ℕ) → n ≢ c → is_kept role n k ≡ false) where
    kept_now : (role : Role) (n : ℕ) (x : Place) (d : Keeper) → n < s.seats → IsPlace m.shape x → is_among x (list_of role (with_number s.seat c seat n)) ≡ is_kept role n (slice_index_or ks.items (place_number m.shape x) d)
    kept_now role n x d low_n in_x = elim (same_place_tells x p) [
      | inl (at, same) ↦
          let S : Place → Type 0 = λ y. is_among y (list_of role (with_number s.seat c seat n)) ≡ is_kept role n (slice_index_or ks.items (place_number m.shape y) d) in
          subst S (sym same) (elim (eqb_tells n c) [
            | inl (_, own) ↦
                let T : ℕ → Type 0 = λ j. is_among p (list_of role (with_number s.seat c seat j)) ≡ is_kept role j (slice_index_or ks.items (place_number m.shape p) d) in
                let at_p : same_place p p ≡ true = subst (λ (y : Place). same_place p y ≡ true) refl (elim (same_place_tells p p) [ inl (on, _) ↦ on | inr (_, diff) ↦ absurd (diff refl) ]) in
                subst T (sym own) (ap (λ (q : Seat). is_among p (list_of role q)) (number_here s.seat c seat) ∙ lists role p ∙ ap (λ b. if b then is_kept role c k else is_among p (list_of role (s.seat c))) at_p ∙ ap (λ w. is_kept role c w) (sym (mark_here d)))
            | inr (_, apart) ↦
                ap (λ (q : Seat). is_among p (list_of role q)) (number_there s.seat c seat n apart) ∙ sh.marks.kept role n p Nobody low_n place ∙ others_had role n low_n apart ∙ sym (others_get role n apart) ∙ ap (λ w. is_kept role n w) (sym (mark_here d))
          ])
      | inr (off, apart) ↦
          (elim (eqb_tells n c) [
            | inl (_, own) ↦
                let T : ℕ → Type 0 = λ j. is_among x (list_of role (with_number s.seat c seat j)) ≡ is_among x (list_of role (s.seat j)) in
                subst T (sym own) (ap (λ (q : Seat). is_among x (list_of role q)) (number_here s.seat c seat) ∙ lists role x ∙ ap (λ b. if b then is_kept role c k else is_among x (list_of role (s.seat c))) off)
            | inr (_, other) ↦ ap (λ (q : Seat). is_among x (list_of role q)) (number_there s.seat c seat n other)
          ])
          ∙ sh.marks.kept role n x d low_n in_x ∙ ap (λ w. is_kept role n w) (sym (mark_there x d in_x apart))
    ]

    inside_now : (role : Role) (n : ℕ) (x : Place) → n < s.seats → is_among x (list_of role (with_number s.seat c seat n)) ≡ true → IsPlace m.shape x
    inside_now role n x low_n among = elim (same_place_tells x p) [
      | inl (_, same) ↦ subst (IsPlace m.shape) (sym same) place
      | inr (off, _) ↦ sh.marks.inside role n x low_n ((elim (eqb_tells n c) [
        | inl (_, own) ↦
            let T : ℕ → Type 0 = λ j. is_among x (list_of role (s.seat j)) ≡ is_among x (list_of role (with_number s.seat c seat j)) in
            subst T (sym own) (sym (ap (λ (q : Seat). is_among x (list_of role q)) (number_here s.seat c seat) ∙ lists role x ∙ ap (λ b. if b then is_kept role c k else is_among x (list_of role (s.seat c))) off))
        | inr (_, other) ↦ sym (ap (λ (q : Seat). is_among x (list_of role q)) (number_there s.seat c seat n other))
      ]) ∙ among)
    ]

    pub mark_moved : IsShowing (record m { keepers = ks; seats = v }) (with_seat s c seat)
    mark_moved = record {
      shaped = sh.shaped;
      shape = sh.shape;
      words = record {
        epoch = sh.words.epoch;
        election = sh.words.election;
        epochs = sh.words.epochs;
        elections = sh.words.elections;
        lists = sh.words.lists;
        free_heads = sh.words.free_heads;
        home_heads = sh.words.home_heads;
        tokens = sh.words.tokens;
        headers = sh.words.headers;
        next = sh.words.next;
      };
      low = record { epoch = sh.low.epoch; epoch_of = sh.low.epoch_of; free_index = sh.low.free_index; free_count = sh.low.free_count };
      tags = sh.tags;
      seats = record {
        count = ap (λ (l : List RunningSeat). length l) is ∙ length-set m.seats.items c r ∙ sh.seats.count;
        each = at_seat (λ _ run q. SeatShown m.shape run q) shown (λ n d low_n _. sh.seats.each n d low_n);
        counted = λ n d low_n. at_seat (λ j run _. AreCounted run j ks.items) counted
            (λ j e low_j apart.
            let old = sh.seats.counted j e low_j in
            (old.0 ∙ sym (count_same Hand j (others_had Hand j low_j apart) (others_get Hand j apart)), old.1 ∙ sym (count_same Walker j (others_had Walker j low_j apart) (others_get Walker j apart))))
            n d low_n;
      };
      marks = record { len = ap (λ (l : List Keeper). length l) marked ∙ length-set m.keepers.items (place_number m.shape p) k ∙ sh.marks.len; kept = kept_now; inside = inside_now };
    }

-- there are few objects, so counts of them have room
pub few : (m : Machine) (s : State) → IsShowing m s → (test : Keeper → Bool) → count_by test m.keepers.items ≤ 33554432
few m s sh test =
    let words : m.shape.locales * m.shape.objects * (m.shape.width + 2) ≤ 33554432 = sh.shaped.4 in
    let len : length m.keepers.items ≡ m.shape.locales * m.shape.objects = sh.marks.len in
    let most : count_by test m.keepers.items ≤ length m.keepers.items = count_by-le-length test m.keepers.items in
    omega arith

-- a move of one object from what the seat had it for, or from nobody
module _ (m : Machine) (s : State) (sh : IsShowing m s) (after : Machine) (v : Vec RunningSeat Global) (c : ℕ) (r r' : RunningSeat) (F : Seat → Seat) (p : Place) (k : Keeper)
    (low : c < s.seats) (place : IsPlace m.shape p) (rest : after ≡ record m { keepers = after.keepers })
    (marked : after.keepers.items ≡ slice_set m.keepers.items (place_number m.shape p) k) (read : r ≡ slice_index_or after.seats.items c r) (is : v.items ≡ slice_set after.seats.items c r')
    (same : (o h w : List Place) → F (seat_with r o h w) ≡ seat_with r' (F (seat_with r o h w)).owned (F (seat_with r o h w)).hand (F (seat_with r o h w)).reclaim.walked)
    (gets : (role : Role) (n : ℕ) → n ≢ c → is_kept role n k ≡ false)
    (in_range : IsInRange m.shape r (s.seat c).reclaim.walked → IsInRange m.shape r' (F (s.seat c)).reclaim.walked)
    (there : (role : Role) (x : Place) → x ≢ p → is_among x (list_of role (F (s.seat c))) ≡ is_among x (list_of role (s.seat c))) where
  lists_then : ((role : Role) → is_among p (list_of role (F (s.seat c))) ≡ is_kept role c k) → (role : Role) (x : Place) → is_among x (list_of role (F (s.seat c))) ≡ (if same_place x p then is_kept role c k else is_among x (list_of role (s.seat c)))
  lists_then here role x = elim (same_place_tells x p) [
    | inl (on, at) ↦ ap (λ (y : Place). is_among y (list_of role (F (s.seat c)))) at ∙ here role ∙ sym (ap (λ b. if b then is_kept role c k else is_among x (list_of role (s.seat c))) on)
    | inr (off, apart) ↦ there role x apart ∙ sym (ap (λ b. if b then is_kept role c k else is_among x (list_of role (s.seat c))) off)
  ]

  seats_same : after.seats.items ≡ m.seats.items
  seats_same = ap (λ (n : Machine). n.seats.items) rest

  read_before : r ≡ slice_index_or m.seats.items c r
  read_before = read ∙ ap (λ (l : List RunningSeat). slice_index_or l c r) seats_same

  shown_before : SeatShown m.shape r (s.seat c)
  shown_before = seat_read m s sh c r low read_before

  shown_after : SeatShown m.shape r' (F (s.seat c))
  shown_after = record {
    same =
        let P : Seat → Type 0 = λ q. F q ≡ seat_with r' (F q).owned (F q).hand (F q).reclaim.walked in
        subst P (sym shown_before.same) (same (s.seat c).owned (s.seat c).hand (s.seat c).reclaim.walked);
    in_range = in_range shown_before.in_range;
  }

  abbrev pub old_mark : Keeper
  old_mark = slice_index_or m.keepers.items (place_number m.shape p) Nobody

  pub counts_before : AreCounted r c m.keepers.items
  counts_before = counts_read m s sh c r low read_before

  -- how many the marks count, before and after
  abbrev pub Counts : Role → Bool → Type 0
  Counts role had = count_by (is_kept role c) after.keepers.items + bit had ≡ count_by (is_kept role c) m.keepers.items + bit (is_kept role c k)

  moved : ((role : Role) → is_among p (list_of role (F (s.seat c))) ≡ is_kept role c k) → ((role : Role) (n : ℕ) → n < s.seats → n ≢ c → is_kept role n old_mark ≡ false) → AreCounted r' c after.keepers.items → IsShowing (record after { seats = v }) (with_seat s c (F (s.seat c)))
  moved here had counted =
      let P : Machine → Type 0 = λ n. IsShowing (record n { seats = v }) (with_seat s c (F (s.seat c))) in
      subst P (sym rest)
      (mark_moved m s sh after.keepers v c r' (F (s.seat c)) p k low place marked (is ∙ ap (λ (l : List RunningSeat). slice_set l c r') seats_same) shown_after counted (lists_then here) had gets)

  counts : (role : Role) → Counts role (is_kept role c old_mark)
  counts role = count_moves m s sh after.keepers v c r' (F (s.seat c)) p k low place marked (is ∙ ap (λ (l : List RunningSeat). slice_set l c r') seats_same) role

  pub moved_from : (from : Role) → is_among p (list_of from (s.seat c)) ≡ true
      → (((role : Role) → is_among p (list_of role (s.seat c)) ≡ same_role role from) → (role : Role) → is_among p (list_of role (F (s.seat c))) ≡ is_kept role c k)
      → (AreCounted r c m.keepers.items → Counts Hand (same_role Hand from) → Counts Walker (same_role Walker from) → AreCounted r' c after.keepers.items)
      → IsShowing (record after { seats = v }) (with_seat s c (F (s.seat c)))
  moved_from from has here counted =
      let was_kept : is_kept from c old_mark ≡ true = sym (sh.marks.kept from c p Nobody low place) ∙ has in
      let was_it : old_mark ≡ Kept from c = kept_is from c old_mark was_kept in
      let part : (role : Role) → Counts role (same_role role from) = λ role. subst (Counts role) (ap (λ w. is_kept role c w) was_it ∙ kept_here role from c) (counts role) in
      let had : (role : Role) → is_among p (list_of role (s.seat c)) ≡ same_role role from = λ role. sh.marks.kept role c p Nobody low place ∙ ap (λ w. is_kept role c w) was_it ∙ kept_here role from c in
      moved (here had) (λ role n _ apart. ap (λ w. is_kept role n w) was_it ∙ kept_other role from n c apart) (counted counts_before (part Hand) (part Walker))

  pub moved_fresh : IsFresh s p
      → (((role : Role) → is_among p (list_of role (s.seat c)) ≡ false) → (role : Role) → is_among p (list_of role (F (s.seat c))) ≡ is_kept role c k)
      → (AreCounted r c m.keepers.items → Counts Hand false → Counts Walker false → AreCounted r' c after.keepers.items)
      → IsShowing (record after { seats = v }) (with_seat s c (F (s.seat c)))
  moved_fresh fresh here counted =
      let none : (role : Role) (n : ℕ) → n < s.seats → is_kept role n old_mark ≡ false = λ role n low_n. sym (sh.marks.kept role n p Nobody low_n place) ∙ fresh.unkept role n low_n in
      let part : (role : Role) → Counts role false = λ role. subst (Counts role) (none role c low) (counts role) in
      moved (here (λ role. fresh.unkept role c low)) (λ role n low_n _. none role n low_n) (counted counts_before (part Hand) (part Walker))

pub without_nil : (p : Place) (l : List Place) → l ≡ [] → without p l ≡ []
unfolding without
without_nil p l none = rw none refl
