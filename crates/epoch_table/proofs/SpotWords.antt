-- What a number that is written at a spot leaves of the table: the machine's words, the client's words, and the objects with their rows.
use Rattle.std.proofs.Common.{◌≡◌, ◌≢◌, ◌⊎◌, ◌<◌, ℕ, Bool, true, false, List, length, set, slice_index, Option, Some, None, refl, ap, sym, ◌∙◌, subst, inl, inr, ⊎_elim, arith}
use mathlib.Core.Path.{fun_ext}
use Rattle.std.proofs.lemmas.Bool.Decides.{eqb_tells}
use Rattle.std.proofs.lemmas.List.{get_or-set_same, get_or-set_other}
use Rattle.pgas_base.specs.declared.shapes.Shape.{Shape}
use Rattle.pgas_base.specs.declared.spots.Spot.{Spot}
use Rattle.pgas_base.specs.declared.spots.Spot.TheVariants.{Own as OwnSpot, Row as RowSpot}
use Rattle.pgas_base.specs.Pointers.{Pointer}
use Rattle.pool_core.specs.declared.headers.Header.{Header}
use Rattle.pool_core.specs.declared.headers.State.{State as HeaderState}
use Rattle.pool_core.specs.declared.headers.State.TheVariants.{Free, Own, Shown, Worn}
use Rattle.epoch_laws.specs.Places.{Place, place_of, with_number, with_place}
use Rattle.epoch_laws.specs.Words.{WordName}
use Rattle.epoch_laws.proofs.Updates.{number_here, number_there, place_here, place_there, same_place_tells}
use Rattle.epoch_table.specs.Layout.{Site, Named, InRow, OfClient, site_of, named_place, place, table_words, IsNamed, IsSite}
use Rattle.epoch_table.specs.Clients.{Thing, Standing, Live, Retired, thing, thing_of, with_row}
use Rattle.epoch_table.specs.Rule.{row_word}
use Rattle.epoch_table.proofs.Places.{one_site, row_within}
use Rattle.epoch_table.proofs.Writing.{in_row, row_else}

abbrev is_named : Site → Bool
is_named (Named name) = true
is_named (InRow p at) = false
is_named (OfClient word) = false

abbrev is_own : Site → Bool
is_own (Named name) = false
is_own (InRow p at) = false
is_own (OfClient word) = true

abbrev row_number : ℕ → Site → ℕ
row_number n (Named name) = n
row_number n (InRow p at) = at
row_number n (OfClient word) = n

abbrev row_of : Place → Site → Place
row_of q (Named name) = q
row_of q (InRow p at) = p
row_of q (OfClient word) = q

-- an object that stands so, with another number in its row
row_written : (h : Header) (tag : Option ℕ) (row : ℕ → ℕ) (at number : ℕ) → thing_of h tag (with_number row at number) ≡ with_row (thing_of h tag row) at number
row_written h tag row at number = by h.state
  where
    by : (st : HeaderState) → thing_of (record { count = h.count; state = st }) tag (with_number row at number) ≡ with_row (thing_of (record { count = h.count; state = st }) tag row) at number
    by Free = refl
    by Own = refl
    by Shown = refl
    by Worn = refl

-- an object that is shown is live, or retired where it is deferred
pub shown_thing : (tag : Option ℕ) (row : ℕ → ℕ) (q : Pointer) (h : Header) → h ≡ record { count = q.count; state = Shown }
    → (standing : Standing) × ((standing ≡ Live) ⊎ (standing ≡ Retired)) × (thing_of h tag row ≡ thing q standing row)
shown_thing None row q h is = (Live, inl refl, ap (λ x. thing_of x None row) is)
shown_thing (Some d) row q h is = (Retired, inr refl, ap (λ x. thing_of x (Some d) row) is)

spot_not_named : (spot : Spot) → is_named (site_of spot) ≡ false
spot_not_named (OwnSpot word) = refl
spot_not_named (RowSpot q at) = refl

module _ (shape : Shape) (table : List ℕ) (own : ℕ) (wide : length table ≡ table_words shape own) where
  -- the machine's words stay
  pub named_stay : (spot : Spot) → IsSite shape (site_of spot) → (number : ℕ) (name : WordName) → IsNamed shape name
      → slice_index (set table (place shape (site_of spot)) number) (named_place shape name) ≡ slice_index table (named_place shape name)
  named_stay spot is number name is_name =
      get_or-set_other table (place shape (site_of spot)) (named_place shape name) number 0
      (λ e. absurd (cc (spot_not_named spot, ap is_named (one_site shape (Named name) (site_of spot) is_name is e))))

  -- the client's words are those with the new number
  pub words_after : (word : ℕ) → word < own → (number : ℕ)
      → ◌≡◌ {A = ℕ → ℕ} (λ w. slice_index (set table (place shape (OfClient word)) number) (place shape (OfClient w))) (with_number (λ w. slice_index table (place shape (OfClient w))) word number)
  words_after word low number =
      let at = place shape (OfClient word) in
      let room : at < length table = omega (arith, low, wide) in
      fun_ext
      (λ w.
      ⊎_elim
      (λ h.
      ap (λ v. slice_index (set table at number) (place shape (OfClient v))) h.1
      ∙ (get_or-set_same table at number 0 room ∙ (sym (number_here (λ v. slice_index table (place shape (OfClient v))) word number) ∙ ap (with_number (λ v. slice_index table (place shape (OfClient v))) word number) (sym h.1))))
      (λ h.
      let apart = h.1 in
      get_or-set_other table at (place shape (OfClient w)) number 0 (λ e. apart (omega (arith, e))) ∙ sym (number_there (λ v. slice_index table (place shape (OfClient v))) word number w apart))
      (eqb_tells w word))

  module _ (q : Pointer) (at : ℕ) (is : IsSite shape (InRow (place_of q) at)) (number : ℕ) where
    abbrev here : ℕ
    here = place shape (InRow (place_of q) at)

    -- or they stay, where it is written in a row
    pub words_stay : (word : ℕ) → slice_index (set table here number) (place shape (OfClient word)) ≡ slice_index table (place shape (OfClient word))
    words_stay word =
        get_or-set_other table here (place shape (OfClient word)) number 0
        (λ e. absurd (cc (ap is_own (one_site shape (OfClient word) (InRow (place_of q) at) tt is e))))

    row_here : row_word shape (set table here number) (place_of q) at ≡ number
    row_here =
        let room : here < length table = (let low = row_within shape (place_of q) at is.0 is.1 in omega (arith, low, wide)) in
        rw (in_row shape (place_of q) at is.0 is.1) (get_or-set_same table here number 0 room)

    -- the row there is that with the new number
    row_after : ◌≡◌ {A = ℕ → ℕ} (row_word shape (set table here number) (place_of q)) (with_number (row_word shape table (place_of q)) at number)
    row_after =
        fun_ext
        (λ n.
        ⊎_elim
        (λ h.
        ap (row_word shape (set table here number) (place_of q)) h.1
        ∙ (row_here ∙ (sym (number_here (row_word shape table (place_of q)) at number) ∙ ap (with_number (row_word shape table (place_of q)) at number) (sym h.1))))
        (λ h.
        let apart = h.1 in
        row_else shape table (InRow (place_of q) at) is number (place_of q) n (λ e. apart (ap (row_number at) e)) ∙ sym (number_there (row_word shape table (place_of q)) at number n apart))
        (eqb_tells n at))

    -- and the other rows stay
    row_apart : (p : Place) → p ≢ place_of q → ◌≡◌ {A = ℕ → ℕ} (row_word shape (set table here number) p) (row_word shape table p)
    row_apart p apart = fun_ext (λ n. row_else shape table (InRow (place_of q) at) is number p n (λ e. apart (ap (row_of p) e)))

    -- so the objects are those with the one row
    pub things_after : (header : Place → Header) (tag : Place → Option ℕ)
        → ◌≡◌ {A = Place → Option Thing} (λ p. thing_of (header p) (tag p) (row_word shape (set table here number) p))
        (with_place (λ p. thing_of (header p) (tag p) (row_word shape table p)) (place_of q) (with_row (thing_of (header (place_of q)) (tag (place_of q)) (row_word shape table (place_of q))) at number))
    things_after header tag =
        let was : Place → Option Thing = λ p. thing_of (header p) (tag p) (row_word shape table p) in
        let then : Place → Option Thing = λ p. thing_of (header p) (tag p) (row_word shape (set table here number) p) in
        let new = with_row (was (place_of q)) at number in
        let one : then (place_of q) ≡ new =
        ap (thing_of (header (place_of q)) (tag (place_of q))) row_after ∙ row_written (header (place_of q)) (tag (place_of q)) (row_word shape table (place_of q)) at number in
        fun_ext
        (λ p.
        ⊎_elim
        (λ e. subst (λ r. then r ≡ with_place was (place_of q) new r) (sym e.1) (one ∙ sym (place_here was (place_of q) new)))
        (λ e. let ne = e.1 in ap (thing_of (header p) (tag p)) (row_apart p ne) ∙ sym (place_there was (place_of q) new p ne))
        (same_place_tells p (place_of q)))
