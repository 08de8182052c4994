-- A count of 0 as a list of a seat that is empty.
use Rattle.std.proofs.Common.{◌≡◌, ◌<◌, ◌≤◌, ◌+◌, ◌*◌, ◌/◌, ◌%◌, ℕ, zero, suc, Bool, true, false, List, [], ◌∷◌, length, slice_index_or, refl, ap, sym, ◌∙◌, subst, arith}
use Rattle.std.specs.Prelude.{count_by}
use Rattle.std.proofs.lemmas.List.Sums.{get_or-le-sum_by, sum_by-cons}
use Rattle.std.proofs.lemmas.Nat.{div-add-mod'}
use Rattle.std.proofs.Math.Nat.{div-lt_iff_lt-mul}
use Rattle.pgas_base.specs.declared.shapes.Shape.{Shape}
use Rattle.epoch_laws.specs.Places.{Place, is_among}
use Rattle.epoch_laws.specs.Seats.{Seat}
use Rattle.epoch_laws.specs.States.{IsPlace, State}
use Rattle.epoch_laws.specs.ReclaimSteps.{IsBetweenLists, MayLeave}
use Rattle.epoch_core.specs.declared.machine.Machine.{Machine}
use Rattle.epoch_core.specs.declared.marks.Keeper.TheVariants.{Nobody}
use Rattle.epoch_core.specs.declared.marks.Role.{Role}
use Rattle.epoch_core.specs.declared.marks.Role.TheVariants.{Walker}
use Rattle.epoch_core.specs.declared.seats.Phase.{Phase as RunningPhase}
use Rattle.epoch_core.specs.declared.seats.Phase.TheVariants.{Idle, Registered, PinLooked, Pinned, DeferLooked, DeferSwapped, WonLocal, LostGlobal, WonGlobal, Scanning, Stopped, Advanced, LeftGlobal}
use Rattle.epoch_core.specs.declared.seats.Seat.{Seat as RunningSeat}
use Rattle.epoch_core.specs.Leaves.{IsBetween, Leaves}
use Rattle.epoch_core.specs.Marks.{AreCounted, is_kept, list_of}
use Rattle.epoch_core.specs.Phases.{phase_of}
use Rattle.epoch_core.specs.Seated.{SeatShown}
use Rattle.epoch_core.specs.Shown.{IsShowing}
use Rattle.epoch_core.specs.Tables.{place_number}
use Rattle.epoch_core.proofs.MarkMoves.{among-cons_here, bit}
use Rattle.epoch_core.proofs.Tables.{place_low}

empty_if : (l : List Place) → ((p : Place) → is_among p l ≡ false) → l ≡ []
empty_if [] none = refl
empty_if (q ∷ l) none = absurd (cc (none q, among-cons_here q l))

no_bit : (b : Bool) (n : ℕ) → bit b ≤ n → n ≡ 0 → b ≡ false
no_bit true n low none = absurd (omega arith)
no_bit false n low none = refl

pub no_count : {X : Type 0} (test : X → Bool) (xs : List X) (d : X) → ((i : ℕ) → i < length xs → test (slice_index_or xs i d) ≡ false) → count_by test xs ≡ 0
no_count test [] d none = refl
no_count test (x ∷ xs) d none =
    sum_by-cons (λ y. bit (test y)) x xs ∙ ap (λ b. bit b + count_by test xs) (none 0 (omega arith))
    ∙ ap (λ n. 0 + n) (no_count test xs d (λ i low. none (suc i) (omega arith)))

some_column : (a b i : ℕ) → i < a * b → 0 < b
some_column a zero i low = absurd (omega arith)
some_column a (suc b) i low = omega arith

below_row : {a b : ℕ} → 0 < b → (i : ℕ) → i < a * b → i / b < a
below_row {a} {b} some i low = let iff = div-lt_iff_lt-mul {k = b} {x = i} {y = a} some in iff.1 low

-- an object has each number below those of the tables
place_at : (shape : Shape) (i : ℕ) → i < shape.locales * shape.objects → (p : Place) × IsPlace shape p × (place_number shape p ≡ i)
place_at shape i low =
    let some : 0 < shape.objects = some_column shape.locales shape.objects i low in
    let parts : i / shape.objects * shape.objects + i % shape.objects ≡ i = div-add-mod' i shape.objects in
    let row : i / shape.objects < shape.locales = below_row some i low in
    let column : i % shape.objects < shape.objects = omega arith in
    (record { locale = i / shape.objects; index = i % shape.objects + 1 }, record { locale = row; some_object = omega arith; index = omega arith }, omega arith)

module _ (m : Machine) (s : State) (sh : IsShowing m s) (c : ℕ) where
  pub empty_if_none : (role : Role) → c < s.seats → count_by (is_kept role c) m.keepers.items ≡ 0 → list_of role (s.seat c) ≡ []
  empty_if_none role low none = empty_if (list_of role (s.seat c)) (λ p. elim (is_among p (list_of role (s.seat c))) as (λ b. is_among p (list_of role (s.seat c)) ≡ b → b ≡ false) [
    | true ↦ λ on.
        let place = sh.marks.inside role c p low on in
        let fits : place_number m.shape p < length m.keepers.items = rw sh.marks.len (place_low m.shape p place) in
        sym on ∙ sh.marks.kept role c p Nobody low place ∙ no_bit (is_kept role c (slice_index_or m.keepers.items (place_number m.shape p) Nobody)) (count_by (is_kept role c) m.keepers.items) (get_or-le-sum_by (λ k. bit (is_kept role c k)) m.keepers.items (place_number m.shape p) Nobody fits) none
    | false ↦ λ _. refl
  ] refl)

  pub none_if_empty : (role : Role) → c < s.seats → list_of role (s.seat c) ≡ [] → count_by (is_kept role c) m.keepers.items ≡ 0
  unfolding is_among
  none_if_empty role low empty = no_count (is_kept role c) m.keepers.items Nobody
      (λ i fits.
      let at = place_at m.shape i (rw (sym sh.marks.len) fits) in
      ap (λ n. is_kept role c (slice_index_or m.keepers.items n Nobody)) (sym at.2) ∙ sym (sh.marks.kept role c at.0 Nobody low at.1) ∙ ap (λ (l : List Place). is_among at.0 l) empty)

  module _ (r : RunningSeat) (low : c < s.seats) (own : SeatShown m.shape r (s.seat c)) (counts : AreCounted r c m.keepers.items) where
    pub between_as : IsBetween m.shape.locales r.reclaim → IsBetweenLists s.shape.locales (s.seat c).reclaim
    between_as h = record {
      spread = ap (λ (q : Seat). q.reclaim.spread) own.same ∙ h.0 ∙ sym (ap (λ (d : Shape). d.locales) sh.shape);
      chain = ap (λ (q : Seat). q.reclaim.chain) own.same ∙ h.1;
      walked = empty_if_none Walker low (sym counts.1 ∙ h.2);
    }

    pub between_so : IsBetweenLists s.shape.locales (s.seat c).reclaim → IsBetween m.shape.locales r.reclaim
    between_so h =
        (sym (ap (λ (q : Seat). q.reclaim.spread) own.same) ∙ h.spread ∙ ap (λ (d : Shape). d.locales) sh.shape, sym (ap (λ (q : Seat). q.reclaim.chain) own.same) ∙ h.chain, counts.1 ∙ none_if_empty Walker low h.walked)

    collected_is : (s.seat c).reclaim.collected ≡ r.reclaim.collected
    collected_is = ap (λ (q : Seat). q.reclaim.collected) own.same

    locales_are : s.shape.locales ≡ m.shape.locales
    locales_are = ap (λ (d : Shape). d.locales) sh.shape

    leaves_to : (phase : RunningPhase) → Leaves m.shape.locales phase r.reclaim → MayLeave s.shape.locales (phase_of phase) (s.seat c).reclaim
    leaves_to LostGlobal h = tt
    leaves_to Stopped h = tt
    leaves_to LeftGlobal h = tt
    leaves_to Advanced h = record { between = between_as h.0; collected = collected_is ∙ h.1 ∙ sym locales_are }
    leaves_to Idle h = h
    leaves_to Registered h = h
    leaves_to PinLooked h = h
    leaves_to Pinned h = h
    leaves_to DeferLooked h = h
    leaves_to DeferSwapped h = h
    leaves_to WonLocal h = h
    leaves_to WonGlobal h = h
    leaves_to Scanning h = h

    leaves_from : (phase : RunningPhase) → MayLeave s.shape.locales (phase_of phase) (s.seat c).reclaim → Leaves m.shape.locales phase r.reclaim
    leaves_from LostGlobal h = tt
    leaves_from Stopped h = tt
    leaves_from LeftGlobal h = tt
    leaves_from Advanced h = (between_so h.between, sym collected_is ∙ h.collected ∙ locales_are)
    leaves_from Idle h = h
    leaves_from Registered h = h
    leaves_from PinLooked h = h
    leaves_from Pinned h = h
    leaves_from DeferLooked h = h
    leaves_from DeferSwapped h = h
    leaves_from WonLocal h = h
    leaves_from WonGlobal h = h
    leaves_from Scanning h = h

    pub leaves_as : Leaves m.shape.locales r.phase r.reclaim → MayLeave s.shape.locales (s.seat c).phase (s.seat c).reclaim
    leaves_as h = subst (λ p. MayLeave s.shape.locales p (s.seat c).reclaim) (sym (ap (λ (q : Seat). q.phase) own.same)) (leaves_to r.phase h)

    pub leaves_so : MayLeave s.shape.locales (s.seat c).phase (s.seat c).reclaim → Leaves m.shape.locales r.phase r.reclaim
    leaves_so h = leaves_from r.phase (subst (λ p. MayLeave s.shape.locales p (s.seat c).reclaim) (ap (λ (q : Seat). q.phase) own.same) h)
