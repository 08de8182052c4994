use Rattle.std.proofs.Common.{◌≡◌, ◌==◌, ℕ, true, false, ◌∷◌, None, refl, sym, subst, eq-eqb}
use Rattle.epoch_laws.specs.Places.{Place, place_of, with_number, with_place}
use Rattle.epoch_laws.specs.States.{IsPlace}
use Rattle.epoch_laws.specs.ReclaimSteps.{release, last_count}
use Rattle.epoch_core.specs.Objects.{object_place}
use Rattle.epoch_core.specs.Shown.{IsShowing}
use Rattle.epoch_core.proofs.SeatStores.{same_shape}
use Rattle.pool_core.specs.declared.headers.State.TheVariants.{Free, Worn}
use Rattle.epoch_laws.specs.Places.{is_among, without}
use Rattle.epoch_core.proofs.Decided.{eqb-no, is_true}
use Rattle.epoch_core.proofs.Counts.{last_of, next_of}
use Rattle.epoch_core.proofs.machine.Machine.release.Goals as goal

pub returns-in-None : goal.returns-in-None
unfolding release
returns-in-None c s sh =
    let needs = c.in_ok-release_needs.ensures.tells s sh in
    let place = c.in_ok-release_needs.ensures.place in
    let p = place_of c.args.ptr in
    let at_is = c.object_of-at.ensures.value in
    let at_inside = subst (IsPlace c.args.self.now.shape) (sym at_is) place in
    let untagged = c.put_tag.ensures.shown s sh at_inside in
    let at_inside_2 = same_shape _ _ _ _ sh untagged refl (λ d. IsPlace d (object_place c.object_of-at.result)) at_inside in
    let has = subst (λ x. is_among x ((s.seat c.args.seat).reclaim.walked) ≡ true) (sym at_is) (is_true needs.1.1.1.1.0) in
    let last : c.args.ptr.count ≡ last_count = last_of c.args.ptr.count c.count.result c.count.type_inv c.count.ensures c.in-None.ensures in
    let on : (c.args.ptr.count == last_count) ≡ true = eq-eqb _ _ last in
    let stored = c.put_header.ensures.shown _ untagged at_inside_2 in
    let moved = c.walked_to_none.ensures.shown _ stored has in
    let P : Place → ℕ → Type 0 = λ x n. IsShowing c.walked_to_none.new.self (record s { words = record s.words { header = with_place s.words.header x (record { count = n; state = Worn }) }; seat = with_number s.seat c.args.seat (record (s.seat c.args.seat) { reclaim = record (s.seat c.args.seat).reclaim { walked = without x (s.seat c.args.seat).reclaim.walked } }); tag = with_place s.tag x None }) in
    rw on (needs, refl, subst (λ n. P p n) c.count-in-None.ensures (subst (λ x. P x c.count-in-None.result) at_is moved))

pub returns-in-Some : goal.returns-in-Some
unfolding release
returns-in-Some c s sh =
    let needs = c.in_ok-release_needs.ensures.tells s sh in
    let place = c.in_ok-release_needs.ensures.place in
    let p = place_of c.args.ptr in
    let at_is = c.object_of-at.ensures.value in
    let at_inside = subst (IsPlace c.args.self.now.shape) (sym at_is) place in
    let untagged = c.put_tag.ensures.shown s sh at_inside in
    let at_inside_2 = same_shape _ _ _ _ sh untagged refl (λ d. IsPlace d (object_place c.object_of-at.result)) at_inside in
    let has = subst (λ x. is_among x ((s.seat c.args.seat).reclaim.walked) ≡ true) (sym at_is) (is_true needs.1.1.1.1.0) in
    let next = next_of c.args.ptr.count c.count.result c.in-Some.count c.count.ensures c.in-Some.ensures in
    let off : (c.args.ptr.count == last_count) ≡ false = eqb-no _ _ (λ e. next.1 e) in
    let stored = c.put_header-in-Some.ensures.shown _ untagged at_inside_2 in
    let moved = c.walked_to_hand.ensures.shown _ stored has in
    let P : Place → ℕ → Type 0 = λ x n. IsShowing c.walked_to_hand.new.self (record s { words = record s.words { header = with_place s.words.header x (record { count = n; state = Free }) }; seat = with_number s.seat c.args.seat (record (s.seat c.args.seat) { reclaim = record (s.seat c.args.seat).reclaim { walked = without x (s.seat c.args.seat).reclaim.walked }; hand = x ∷ (s.seat c.args.seat).hand }); tag = with_place s.tag x None }) in
    rw off (needs, refl, subst (λ n. P p n) next.0 (subst (λ x. P x c.in-Some.count) at_is moved))
