-- The laws that a row of cells meets as the client of a manager.
use Rattle.std.proofs.Common.{◌≡◌, ◌⊎◌, ◌==◌, ℕ, zero, suc, ◌<◌, false, if◌then◌else◌, List, [], ◌∷◌, ◌++◌, length, get_or, slice_index, slice_set, refl, ap, sym, ◌∙◌, subst, inl, inr, ⊎_elim, Option, Some, None, arith}
use Rattle.std.specs.Prelude.{replicate}
use Rattle.std.specs.List.{Contains}
use Rattle.std.proofs.lemmas.List.{length-replicate, length-set, get_or-set_same, get_or-set_other}
use Rattle.std.proofs.lemmas.List.Elements.{All-nil, All-contains}
use Rattle.std.proofs.lemmas.Bool.{false≢true}
use Rattle.pass_book.specs.declared.entries.Entry.{Entry}
use Rattle.pass_book.specs.Histories.{Leaves}
use Rattle.pass_book.proofs.Legal.{leaves-snoc}
use Rattle.pgas_base.specs.Pointers.{Pointer, word_of}
use Rattle.pgas_base.specs.declared.spots.Spot.TheVariants.{Own as OwnSpot, Row as RowSpot}
use Rattle.epoch_laws.specs.Places.{Place, place_of, with_number, with_place}
use Rattle.epoch_laws.proofs.Updates.{number_here, at_number, place_here, place_there, same_place_tells}
use Rattle.epoch_table.specs.Clients.{Thing, thing, with_row, Owned, Live, Looks, Puts, Switches, Raises, Trades, Steps, ObjectOpens, Opens, Links, KeptByTakes, KeptByShows, KeptByReturns, KeptByDeferrals, KeptByFrees, KeptByFills, KeptByHolds, KeptBySteps, KeptByUnpins}
use Rattle.epoch_manager.specs.declared.plain_cells.CellCall.{CellCall}
use Rattle.epoch_manager.specs.declared.plain_cells.CellCall.TheVariants.{Put, Look}
use Rattle.epoch_manager.specs.declared.cells.CellsView.{CellsView}
use Rattle.epoch_manager.specs.PlainCells.{CellsOpen, CellsStep}
use Rattle.epoch_manager.specs.Cells.{cells_terms, but, knows_after, Nowhere, CutBy, Names, AreApart}
use Rattle.epoch_manager.specs.PointerWords.{one_to_one}
use Rattle.epoch_manager.specs.Apart.{number_same, number_twice, lives, still_apart, apart_there, shown_apart, deferred_apart, emptied_apart, put_apart}

all_zero : (n i : ℕ) → let none : ℕ = 0 in get_or (replicate n none) i none ≡ none
all_zero zero i = refl
all_zero (suc n) zero = refl
all_zero (suc n) (suc i) = all_zero n i

pub object_opens : ObjectOpens cells_terms CellsOpen
object_opens n = ap (λ k. replicate k 0) (sym (length-replicate n 0))

pub opens : Opens cells_terms
opens n shape = record {
  left = replicate n 0;
  leaves = (object_opens n, refl);
  many = length-replicate n 0;
  stand = λ w low. all_zero n w;
  apart = record { at = λ p. Nowhere; linked = λ w low. inl refl; shown = λ c. All-nil _; cut = λ c. All-nil _ };
}

pub links : Links cells_terms
links n shape x rule = (
  (λ w low is. ⊎_elim inl (λ names. inr (names.pointer, names.row, names.named, names.live)) (rule.apart.linked w low)),
  (λ p m at row standing which here low is. absurd (false≢true is)),
)

-- what the pass knows stays the same
with_same : (n c : ℕ) (words : ℕ → ℕ) (views : ℕ → CellsView) (things : Place → Option Thing) → AreApart n words views things → AreApart n words (with_number views c (views c)) things
with_same n c words views things apart = subst (λ vs. AreApart n words vs things) (sym (number_same views c)) apart

pub takes : KeptByTakes cells_terms
takes n shape x c q row rule may none =
    let dead : lives (x.things (place_of q)) ≡ false = ap lives none in
    record {
      left = rule.left;
      leaves = rule.leaves;
      many = rule.many;
      stand = rule.stand;
      apart = with_same n c x.words x.views _ (apart_there n x.words x.views x.things rule.apart (place_of q) (thing q Owned row) dead);
    }

pub shows : KeptByShows cells_terms
shows n shape x c q row rule may own at =
    let dead : lives (x.things (place_of q)) ≡ false = ap lives at in
    record {
      left = rule.left;
      leaves = rule.leaves;
      many = rule.many;
      stand = rule.stand;
      apart = shown_apart n x.words x.views x.things rule.apart c q row may dead;
    }

pub returns : KeptByReturns cells_terms
returns n shape x c q row rule may own at =
    let dead : lives (x.things (place_of q)) ≡ false = ap lives at in
    record {
      left = rule.left;
      leaves = rule.leaves;
      many = rule.many;
      stand = rule.stand;
      apart = with_same n c x.words x.views _ (apart_there n x.words x.views x.things rule.apart (place_of q) None dead);
    }

pub deferrals : KeptByDeferrals cells_terms
deferrals n shape x c q rule may =
    let names : Names x.things rule.apart.at (CutBy c) (word_of q) = All-contains (Names x.things rule.apart.at (CutBy c)) (x.views c).cut (word_of q) (rule.apart.cut c) may.among in
    let same : names.pointer ≡ q = one_to_one names.pointer q names.is_pointer may.is_pointer (sym names.named) in (
      names.row,
      subst (λ (r : Pointer). x.things (place_of r) ≡ thing r Live names.row) same names.live,
      record {
        left = rule.left;
        leaves = rule.leaves;
        many = rule.many;
        stand = rule.stand;
        apart = deferred_apart n x.words x.views x.things rule.apart c q names.row may.is_pointer may.among;
      },
    )

pub frees : KeptByFrees cells_terms
frees n shape x c q row rule may at =
    let dead : lives (x.things (place_of q)) ≡ false = ap lives at in (
      tt,
      record {
        left = rule.left;
        leaves = rule.leaves;
        many = rule.many;
        stand = rule.stand;
        apart = with_same n c x.words x.views _ (apart_there n x.words x.views x.things rule.apart (place_of q) None dead);
      },
    )

pub fills : KeptByFills cells_terms
fills n shape x c q at value row rule may low own here =
    let dead : lives (x.things (place_of q)) ≡ false = ap lives here in
    record {
      left = rule.left;
      leaves = rule.leaves;
      many = rule.many;
      stand = rule.stand;
      apart = with_same n c x.words x.views _ (apart_there n x.words x.views x.things rule.apart (place_of q) (thing q Owned (with_number row at value)) dead);
    }

pub holds : KeptByHolds cells_terms CellsOpen CellsStep
holds n shape x c (OwnSpot w) found rule is at =
    let e : Entry CellCall ℕ = record { caller = c; call = Look w; reply = found } in
    let many = rule.many in
    let low = at.0 in
    let stands : slice_index rule.left w ≡ found = rule.stand w at.0 ∙ at.1 in
    let leaves : Leaves CellsOpen CellsStep (replicate n 0) (x.entries ++ e ∷ []) rule.left =
    leaves-snoc CellsOpen CellsStep (replicate n 0) x.entries rule.left rule.left e rule.leaves (omega arith, sym stands, refl) in
    (record { left = rule.left; leaves = leaves; many = rule.many; stand = rule.stand; apart = with_same n c x.words x.views x.things rule.apart }, λ legal. (rule.left, leaves))
holds n shape x c (RowSpot q k) found rule is at = absurd (false≢true is)

-- the objects are apart after a switch of a cell
switched : (n : ℕ) (words : ℕ → ℕ) (views : ℕ → CellsView) (things : Place → Option Thing) (c w value found : ℕ) → AreApart n words views things → w < n → words w ≡ found → (value ≡ 0) ⊎ Contains (views c).shown value
    → AreApart n (with_number words w value) (with_number views c (knows_after (views c) (Steps (OwnSpot w) (Switches value)) found)) things
switched n words views things c w value found apart low stands may =
    let cut_by : ℕ → CellsView = λ word. record (views c) { cut = if word == 0 then (views c).cut else (views c).cut ++ word ∷ [] } in
    let middle : CellsView = cut_by (words w) in
    let here : with_number views c middle c ≡ middle = number_here views c middle in
    let may' : (value ≡ 0) ⊎ Contains (with_number views c middle c).shown value = subst (λ (v : CellsView). (value ≡ 0) ⊎ Contains v.shown value) (sym here) may in
    let first = emptied_apart n words views things apart c w low in
    let after = put_apart n (with_number words w 0) (with_number views c middle) things first c w value low (number_here words w 0) may' in
    let shown_by : CellsView → CellsView = λ v. record v { shown = but value v.shown } in
    let views_are : with_number (with_number views c middle) c (shown_by (with_number views c middle c)) ≡ with_number views c (shown_by (cut_by found)) =
    ap (λ (v : CellsView). with_number (with_number views c middle) c (shown_by v)) here ∙ (number_twice views c middle (shown_by middle) ∙ ap (λ word. with_number views c (shown_by (cut_by word))) stands) in
    subst (λ (vs : ℕ → CellsView). AreApart n (with_number words w value) vs things) views_are
    (subst (λ (ws : ℕ → ℕ). AreApart n ws (with_number (with_number views c middle) c (shown_by (with_number views c middle c))) things) (number_twice words w 0 value) after)

-- the cells as plain cells after a switch
set_so : (n : ℕ) (left : List ℕ) (words : ℕ → ℕ) (w value : ℕ) → length left ≡ n → w < n → ((u : ℕ) → u < n → slice_index left u ≡ words u) → (u : ℕ) → u < n → slice_index (slice_set left w value) u ≡ with_number words w value u
set_so n left words w value many low stand =
    at_number (λ u (word : ℕ). u < n → slice_index (slice_set left w value) u ≡ word) words w value (λ below. get_or-set_same left w value 0 (omega arith))
    (λ u ne below. get_or-set_other left w u value 0 ne ∙ stand u below)

-- a row that is looked at keeps its objects
row_so : (n c k found : ℕ) (words : ℕ → ℕ) (views : ℕ → CellsView) (things : Place → Option Thing) (p : Place) → AreApart n words views things → AreApart n words views (with_place things p (with_row (things p) k found))
row_so n c k found words views things p apart =
    let t : Option Thing = with_row (things p) k found in
    still_apart n words views things apart (with_place things p t) (λ r m row live.
    ⊎_elim
    (λ same.
    let here : with_place things p t r ≡ t = ap (with_place things p t) same.1 ∙ place_here things p t in
    let lives_there : things p ≡ Some (record { count = m; standing = Live; row = row }) = ap things (sym same.1) ∙ live in
    (with_number row k found, here ∙ ap (λ (o : Option Thing). with_row o k found) lives_there))
    (λ other. (row, place_there things p t r other.1 ∙ live))
    (same_place_tells r p))

pub steps : KeptBySteps cells_terms CellsOpen CellsStep
steps n shape x c (OwnSpot w) Looks found rule may at = absurd may
steps n shape x c (OwnSpot w) (Puts value) found rule may at = absurd may
steps n shape x c (OwnSpot w) (Switches value) found rule may at =
    let e : Entry CellCall ℕ = record { caller = c; call = Put w value; reply = found } in
    let many = rule.many in
    let low = at.0 in
    let stands : slice_index rule.left w ≡ found = rule.stand w at.0 ∙ at.1 in
    let left : List ℕ = slice_set rule.left w value in
    let leaves : Leaves CellsOpen CellsStep (replicate n 0) (x.entries ++ e ∷ []) left =
    leaves-snoc CellsOpen CellsStep (replicate n 0) x.entries rule.left left e rule.leaves (omega arith, sym stands, refl) in (
      record {
        left = left;
        leaves = leaves;
        many = length-set rule.left w value ∙ rule.many;
        stand = set_so n rule.left x.words w value rule.many at.0 rule.stand;
        apart = switched n x.words x.views x.things c w value found rule.apart at.0 at.1 may;
      },
      λ legal. (left, leaves),
    )
steps n shape x c (OwnSpot w) (Raises by) found rule may at = absurd may
steps n shape x c (OwnSpot w) (Trades old new) found rule may at = absurd may
steps n shape x c (RowSpot q k) Looks found rule may at = (
  record {
    left = rule.left;
    leaves = rule.leaves;
    many = rule.many;
    stand = rule.stand;
    apart = with_same n c x.words x.views _ (row_so n c k found x.words x.views x.things (place_of q) rule.apart);
  },
  λ legal. legal,
)
steps n shape x c (RowSpot q k) (Puts value) found rule may at = absurd may
steps n shape x c (RowSpot q k) (Switches value) found rule may at = absurd may
steps n shape x c (RowSpot q k) (Raises by) found rule may at = absurd may
steps n shape x c (RowSpot q k) (Trades old new) found rule may at = absurd may

pub unpins : KeptByUnpins cells_terms
unpins n shape x c rule = record {
  left = rule.left;
  leaves = rule.leaves;
  many = rule.many;
  stand = rule.stand;
  apart = with_same n c x.words x.views x.things rule.apart;
}
