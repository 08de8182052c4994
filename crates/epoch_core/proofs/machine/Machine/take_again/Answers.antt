use Rattle.std.proofs.Common.{◌≡◌, ◌≤◌, ◌+◌, sym, ◌∙◌, subst, refl, arith, add-one, zero-add}
use Rattle.epoch_laws.specs.Places.{place_of}
use Rattle.epoch_core.specs.Ends.{hand_but, path}
use Rattle.epoch_core.specs.Objects.{object_place}
use Rattle.epoch_core.specs.Shown.{IsShowing}
use Rattle.epoch_core.proofs.HandStores.{hand_whole}
use Rattle.epoch_core.proofs.SeatStores.{low_read}
use Rattle.epoch_core.proofs.WayLemmas.{follow}
use Rattle.epoch_core.proofs.WayLoops.{TakesBack, back_step}
use Rattle.epoch_core.proofs.machine.Machine.take_again.Goals as goal

pub loop-met-init : goal.loop-met-init
loop-met-init c = record { seats = refl; back = λ before s shb sh way. (c.args.count, zero-add c.args.count, c.object_of-at.ensures.value, sh, way) }

pub none_to_hand-requires : goal.none_to_hand-requires
none_to_hand-requires c = omega (arith, c.loop-met.invariant.seats, c.requires)

pub loop-met-preserved : goal.loop-met-preserved
loop-met-preserved c =
    let i = c.loop-met._met in
    subst (λ n. TakesBack c.args.self.now c.none_to_hand.new.self c.args.seat (place_of c.args.top) c.args.count n (object_place c.object_in-at.result)) (sym (add-one i)) (record {
      seats = c.none_to_hand.ensures.seats ∙ c.loop-met.invariant.seats;
      back = λ before s shb sh way.
          let w = c.loop-met.invariant.back before s shb sh way in
          let low = low_read _ _ w.3 c.args.seat (rw c.loop-met.invariant.seats c.requires) in
          back_step before c.loop-met.self c.none_to_hand.new.self s c.args.seat (place_of c.args.top) c.args.count i (object_place c.loop-met.at) (object_place c.object_in-at.result) c.next_of-word.result shb low w.0 w.1 c.loop-met-test.true w.2 w.3 w.4
          c.none_to_hand.ensures.shown c.next_of-word.ensures c.object_in-at.ensures;
    })

pub returns-clause-shown : goal.returns-clause-shown
returns-clause-shown c before s shb sh way =
    let w = c.loop-met.invariant.back before s shb sh way in
    let past : c.args.count ≤ c.loop-met._met = c.loop-met-test.false in
    let sum : c.loop-met._met + w.0 ≡ c.args.count = w.1 in
    let none : w.0 ≡ 0 = omega arith in
    hand_whole c.loop-met.self s c.args.seat (subst (λ k. IsShowing c.loop-met.self (hand_but s c.args.seat (path s.words (follow s.words (place_of c.args.top) c.loop-met._met) k))) none w.3)

pub returns-clause-seats : goal.returns-clause-seats
returns-clause-seats c = c.loop-met.invariant.seats
