use Rattle.std.proofs.Common.{◌≡◌, ◌≢◌, suc, ◌+◌, ◌<◌, true, ap, ap₂, sym, ◌∙◌, subst, arith}
use Rattle.shared_bag.specs.declared.visits.AddVisit.TheVariants.{Done, Held, Full, NoMemory}
use Rattle.shared_bag.specs.Shapes.{IsShape, tried}
use Rattle.shared_bag.specs.Turns.{AddsAt}
use Rattle.shared_bag.proofs.SoFar.{AddsSoFar, adds_own, adds_held, adds_full, adds_done, adds_no_memory, adds_nowhere}
use Rattle.shared_bag.proofs.bags.Bag.add_once.Goals as goal
use Rattle.shared_bag.proofs.bags.Bag.add_once.Goals.{in-Held, in-Full}

pub add_at-requires-clause-own : goal.add_at-requires-clause-own
add_at-requires-clause-own g c =
    let plan = c.args.self.now.table.table.shared.key in
    let v = c.args.seat.now.seat.me.0 in
    let shape = c.args.self.now.planned in
    let at : c.tried-segment.result ≡ tried plan.shape v.number c.loop-place.place = c.tried-segment.ensures.segment ∙ ap₂ (λ s n. tried s n c.loop-place.place) (sym shape) c.caller-caller.ensures in
    let less : c.loop-place.place < plan.shape.segments = omega (arith, c.loop-place-test.true, ap (λ s. s.segments) shape) in
    adds_own g.K.Keeps.keeps plan c.args.item c.loop-place.place _ v c.loop-place.seat.seat.me.0 v c.loop-place.invariant.so_far c.tried-segment.result (subst IsShape (sym shape) c.args.self.now.shaped) less at

pub returns-in-Done-clause-tries : goal.returns-in-Done-clause-tries
returns-in-Done-clause-tries g c =
    let keeps = g.K.Keeps.keeps in
    let plan = c.args.self.now.table.table.shared.key in
    let v = c.args.seat.now.seat.me.0 in
    let m = c.loop-place.seat.seat.me.0 in
    let w = c.add_at.new.seat.seat.me.0 in
    let shape = c.args.self.now.planned in
    let at : c.tried-segment.result ≡ tried plan.shape v.number c.loop-place.place = c.tried-segment.ensures.segment ∙ ap₂ (λ s n. tried s n c.loop-place.place) (sym shape) c.caller-caller.ensures in
    let less : c.loop-place.place < plan.shape.segments = omega (arith, c.loop-place-test.true, ap (λ s. s.segments) shape) in
    adds_done keeps plan c.args.item c.loop-place.place _ v m w c.loop-place.invariant.so_far less (subst (λ k. AddsAt keeps plan c.args.item k m w Done) at c.in-Done.ensures.adds)

pub returns-in-NoMemory-clause-tries : goal.returns-in-NoMemory-clause-tries
returns-in-NoMemory-clause-tries g c =
    let keeps = g.K.Keeps.keeps in
    let plan = c.args.self.now.table.table.shared.key in
    let v = c.args.seat.now.seat.me.0 in
    let m = c.loop-place.seat.seat.me.0 in
    let w = c.add_at.new.seat.seat.me.0 in
    let shape = c.args.self.now.planned in
    let at : c.tried-segment.result ≡ tried plan.shape v.number c.loop-place.place = c.tried-segment.ensures.segment ∙ ap₂ (λ s n. tried s n c.loop-place.place) (sym shape) c.caller-caller.ensures in
    let less : c.loop-place.place < plan.shape.segments = omega (arith, c.loop-place-test.true, ap (λ s. s.segments) shape) in
    adds_no_memory keeps plan c.args.item c.loop-place.place _ v m w c.loop-place.invariant.so_far less (subst (λ k. AddsAt keeps plan c.args.item k m w NoMemory) at c.in-NoMemory.ensures.adds)

pub loop-place-preserved : goal.loop-place-preserved
loop-place-preserved g c =
    let keeps = g.K.Keeps.keeps in
    let plan = c.args.self.now.table.table.shared.key in
    let v = c.args.seat.now.seat.me.0 in
    let m = c.loop-place.seat.seat.me.0 in
    let w' = c.add_at.new.seat.seat.me.0 in
    let item = c.args.item in
    let n = c.loop-place.place in
    let at : c.tried-segment.result ≡ tried plan.shape v.number n = c.tried-segment.ensures.segment ∙ ap₂ (λ s c. tried s c n) (sym c.args.self.now.planned) c.caller-caller.ensures in
    let next : suc n ≡ n + 1 = omega arith in
    let so_far : AddsSoFar keeps plan v w' (n + 1) c.match-add_at.some_held =
    elim c.match-add_at.branch [
      | in-Held w ↦ subst (λ b. AddsSoFar keeps plan v w' (n + 1) b) (sym w.some_held-is)
          (subst (λ k. AddsSoFar keeps plan v w' k true) next (adds_held keeps plan item n c.loop-place.some_held v m w' c.loop-place.invariant.so_far (subst (λ k. AddsAt keeps plan item k m w' Held) at w.in-Held.ensures.adds)))
      | in-Full w ↦ subst (λ b. AddsSoFar keeps plan v w' (n + 1) b) (sym w.some_held-is)
          (subst (λ k. AddsSoFar keeps plan v w' k c.loop-place.some_held) next (adds_full keeps plan item n c.loop-place.some_held v m w' c.loop-place.invariant.so_far (subst (λ k. AddsAt keeps plan item k m w' Full) at w.in-Full.ensures.adds)))
    ] in
    record { seat = c.add_at.ensures.seat; rests = c.add_at.ensures.rests; so_far = so_far }

pub returns-clause-tries : goal.returns-clause-tries
returns-clause-tries g c =
    let plan = c.args.self.now.table.table.shared.key in
    let shape = c.args.self.now.planned in
    let shaped : IsShape plan.shape = subst IsShape (sym shape) c.args.self.now.shaped in
    let all : c.loop-place.place ≡ plan.shape.segments = omega (arith, c.loop-place-test.false, c.loop-place.auto, ap (λ s. s.segments) shape) in
    let some : c.loop-place.place ≢ 0 = (let least = shaped.segments.0 in omega arith) in
    adds_nowhere g.K.Keeps.keeps plan c.args.item c.loop-place.place c.loop-place.some_held c.args.seat.now.seat.me.0 c.loop-place.seat.seat.me.0 all some c.loop-place.invariant.so_far shaped c.if-some_held.false
