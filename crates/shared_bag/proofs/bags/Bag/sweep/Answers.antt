use Rattle.std.proofs.Common.{◌≡◌, ◌≢◌, suc, ◌+◌, ◌<◌, ap, ap₂, sym, ◌∙◌, subst, arith}
use Rattle.shared_bag.specs.declared.visits.TakeVisit.TheVariants.{Found, Held, Empty}
use Rattle.shared_bag.specs.Shapes.{IsShape, all_segments, tried}
use Rattle.shared_bag.specs.Turns.{IsKeeping, TakesAt}
use Rattle.shared_bag.proofs.Orders.{some_segments}
use Rattle.shared_bag.proofs.SoFar.{SweepsSoFar, sweeps_away, sweeps_own, sweeps_held, sweeps_empty, sweeps_found, sweeps_all}
use Rattle.shared_bag.proofs.bags.Bag.sweep.Goals as goal
use Rattle.shared_bag.proofs.bags.Bag.sweep.Goals.{in-Held, in-Empty}

pub take_at-requires-clause-away : goal.take_at-requires-clause-away
take_at-requires-clause-away g c =
    let plan = c.args.self.now.table.table.shared.key in
    let v = c.args.seat.now.seat.me.0 in
    let shape = c.args.self.now.planned in
    let at : c.tried-segment.result ≡ tried plan.shape v.number c.loop-place.place = c.tried-segment.ensures.segment ∙ ap₂ (λ s n. tried s n c.loop-place.place) (sym shape) c.caller-caller.ensures in
    let all : c.all_segments-place-end.result ≡ all_segments plan.shape = c.all_segments-place-end.ensures.count ∙ ap all_segments (sym shape) in
    let less : c.loop-place.place < all_segments plan.shape = subst (λ k. c.loop-place.place < k) all c.loop-place-test.true in
    sweeps_away g.K.Keeps.keeps plan c.loop-place.place v c.loop-place.seat.seat.me.0 v c.loop-place.kept c.loop-place.kept c.loop-place.invariant.so_far c.tried-segment.result (subst IsShape (sym shape) c.args.self.now.shaped) less at

pub take_at-requires-clause-own : goal.take_at-requires-clause-own
take_at-requires-clause-own g c =
    let plan = c.args.self.now.table.table.shared.key in
    let v = c.args.seat.now.seat.me.0 in
    let shape = c.args.self.now.planned in
    let at : c.tried-segment.result ≡ tried plan.shape v.number c.loop-place.place = c.tried-segment.ensures.segment ∙ ap₂ (λ s n. tried s n c.loop-place.place) (sym shape) c.caller-caller.ensures in
    sweeps_own g.K.Keeps.keeps plan c.loop-place.place v c.loop-place.seat.seat.me.0 v c.loop-place.kept c.loop-place.kept c.loop-place.invariant.so_far c.tried-segment.result (subst IsShape (sym shape) c.args.self.now.shaped) at

pub returns-in-Found-clause-sweeps : goal.returns-in-Found-clause-sweeps
returns-in-Found-clause-sweeps g c =
    let keeps = g.K.Keeps.keeps in
    let plan = c.args.self.now.table.table.shared.key in
    let v = c.args.seat.now.seat.me.0 in
    let m = c.loop-place.seat.seat.me.0 in
    let w = c.take_at.new.seat.seat.me.0 in
    let shape = c.args.self.now.planned in
    let at : c.tried-segment.result ≡ tried plan.shape v.number c.loop-place.place = c.tried-segment.ensures.segment ∙ ap₂ (λ s n. tried s n c.loop-place.place) (sym shape) c.caller-caller.ensures in
    let all : c.all_segments-place-end.result ≡ all_segments plan.shape = c.all_segments-place-end.ensures.count ∙ ap all_segments (sym shape) in
    let less : c.loop-place.place < all_segments plan.shape = subst (λ k. c.loop-place.place < k) all c.loop-place-test.true in
    sweeps_found keeps plan c.loop-place.place v m w c.loop-place.kept c.take_at.new.kept c.loop-place.invariant.so_far c.in-Found.item less
    (subst (λ k. TakesAt keeps plan k c.loop-place.kept c.take_at.new.kept m w (Found c.in-Found.item)) at c.in-Found.ensures.takes)

pub loop-place-preserved : goal.loop-place-preserved
loop-place-preserved g c =
    let keeps = g.K.Keeps.keeps in
    let plan = c.args.self.now.table.table.shared.key in
    let v = c.args.seat.now.seat.me.0 in
    let m = c.loop-place.seat.seat.me.0 in
    let kept = c.loop-place.kept in
    let kept' = c.take_at.new.kept in
    let w' = c.take_at.new.seat.seat.me.0 in
    let n = c.loop-place.place in
    let at : c.tried-segment.result ≡ tried plan.shape v.number n = c.tried-segment.ensures.segment ∙ ap₂ (λ s c. tried s c n) (sym c.args.self.now.planned) c.caller-caller.ensures in
    let next : suc n ≡ n + 1 = omega arith in
    let so_far : SweepsSoFar keeps plan v w' (n + 1) kept' =
    subst (λ k. SweepsSoFar keeps plan v w' k kept') next
    (elim c.match-take_at.branch [
      | in-Held w ↦ sweeps_held keeps plan n v m w' kept kept' c.loop-place.invariant.so_far (subst (λ k. TakesAt keeps plan k kept kept' m w' Held) at w.in-Held.ensures.takes)
      | in-Empty w ↦ sweeps_empty keeps plan n v m w' kept kept' c.loop-place.invariant.so_far (subst (λ k. TakesAt keeps plan k kept kept' m w' Empty) at w.in-Empty.ensures.takes)
    ]) in
    let keeping : IsKeeping plan.shape kept' c.take_at.new.seat.seat.me =
    elim c.match-take_at.branch [ in-Held w ↦ w.in-Held.ensures.keeps | in-Empty w ↦ w.in-Empty.ensures.keeps ] in
    record { seat = c.take_at.ensures.seat; keeping = keeping; so_far = so_far }

pub returns-clause-sweeps : goal.returns-clause-sweeps
returns-clause-sweeps g c =
    let plan = c.args.self.now.table.table.shared.key in
    let shape = c.args.self.now.planned in
    let shaped : IsShape plan.shape = subst IsShape (sym shape) c.args.self.now.shaped in
    let all : c.all_segments-place-end.result ≡ all_segments plan.shape = c.all_segments-place-end.ensures.count ∙ ap all_segments (sym shape) in
    let end : c.loop-place.place ≡ c.all_segments-place-end.result = omega (arith, c.loop-place-test.false, c.loop-place.auto) in
    let some : c.loop-place.place ≢ 0 = λ none. some_segments plan.shape shaped (sym (end ∙ all) ∙ none) in
    sweeps_all g.K.Keeps.keeps plan c.loop-place.place c.args.seat.now.seat.me.0 c.loop-place.seat.seat.me.0 c.loop-place.kept (end ∙ all) some c.loop-place.invariant.so_far
