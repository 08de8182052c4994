use Rattle.std.proofs.Common.{◌≡◌, ℕ, ◌+◌, false, get_or, length, vec_len, vec_capacity, ap, sym, ◌∙◌, subst, arith, Some, None}
use Rattle.std.specs.Prelude.{IsPermutation, slice_set}
use Rattle.std.specs.Slots.{slots_filled, slots_items}
use Rattle.std.proofs.lemmas.List.{get_or-set_other}
use mathlib.Core.Option.{some}
use mathlib.Core.Logic.{dite}
use native.Mathlib.Decide.{ℕ_discrete}
use lib.ListN.{get_elem?}
use Rattle.shared_bag.specs.Counted.{items_of}
use Rattle.shared_bag.specs.Closed.{stored}
use Rattle.shared_bag.proofs.Pours.{more_read, next_fits, gone_here, nothing_more, segments_before}
use Rattle.shared_bag.proofs.closing.read_segments.Goals as goal
use Rattle.shared_bag.proofs.closing.read_segments.Goals.{in-Some, in_default}

pub pour-requires : goal.pour-requires
pour-requires c =
    let l = c.loop-slot.invariant in
    let i = c.loop-slot.slot in
    let slots = slots_items c.args.closed.slots in
    let there : get_elem? slots i ≡ some c.take.result = subst (λ xs. get_elem? xs i ≡ some c.take.result) l.same c.take.ensures.value in
    let fits = next_fits slots i c.args.segments c.take.result (Some c.in-Some.moved) there c.in-Some.ensures (omega (arith, c.loop-slot-test.true)) in
    record { room = omega (arith, fits, l.count, l.room, c.requires.room.2) }

pub loop-slot-preserved : goal.loop-slot-preserved
loop-slot-preserved c =
    let l = c.loop-slot.invariant in
    let i = c.loop-slot.slot in
    let slots = slots_items c.args.closed.slots in
    let filled = slots_filled c.loop-slot.closed.slots in
    let others = c.take.ensures.others in
    let there : get_elem? slots i ≡ some c.take.result = subst (λ xs. get_elem? xs i ≡ some c.take.result) l.same c.take.ensures.value in
    let now : ℕ = segments_before (i + 1) in
    let read : IsPermutation (items_of (stored slots) now) c.match-of_segment.items.items × (vec_len c.match-of_segment.items ≡ length (items_of (stored slots) now)) × (vec_capacity c.match-of_segment.items ≡ vec_capacity c.args.items) =
    elim c.match-of_segment.branch [
      | in-Some w ↦
          let poured = w.pour.ensures in
          let both = more_read slots i c.take.result (Some w.in-Some.moved) c.loop-slot.items.items w.pour.new.items.items (vec_len c.loop-slot.items) (vec_len w.pour.new.items) there w.in-Some.ensures l.so_far l.count poured.items poured.count.0 in
          subst (λ v. IsPermutation (items_of (stored slots) now) v.items × (vec_len v ≡ length (items_of (stored slots) now)) × (vec_capacity v ≡ vec_capacity c.args.items)) (sym w.items-is) (both.0, both.1, poured.count.1 ∙ l.room)
      | in_default w ↦
          let both = more_read slots i c.take.result None c.loop-slot.items.items c.loop-slot.items.items (vec_len c.loop-slot.items) (vec_len c.loop-slot.items) there w.in_default.ensures l.so_far l.count (nothing_more c.loop-slot.items.items) (omega arith) in
          subst (λ v. IsPermutation (items_of (stored slots) now) v.items × (vec_len v ≡ length (items_of (stored slots) now)) × (vec_capacity v ≡ vec_capacity c.args.items)) (sym w.items-is) (both.0, both.1, l.room)
    ] in
    record {
      full = λ k least within. ap (λ fs. get_or fs k false) others.1 ∙ (get_or-set_other filled i k false false (λ same. omega arith) ∙ l.full k (omega arith) within);
      gone = λ k less. ap (λ fs. get_or fs k false) others.1 ∙
          dite (ℕ_discrete k i)
          (λ here. ap (λ j. get_or (slice_set filled i false) j false) here ∙ gone_here filled i)
          (λ away. get_or-set_other filled i k false false (λ same. away (omega arith)) ∙ l.gone k (omega arith));
      long = others.2 ∙ l.long;
      same = others.0 ∙ l.same;
      so_far = read.0;
      count = read.1;
      room = read.2;
    }
