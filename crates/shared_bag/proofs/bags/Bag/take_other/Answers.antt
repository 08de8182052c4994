use Rattle.std.proofs.Common.{◌∷◌, None, Option, ap, sym, ◌∙◌, subst}
use Rattle.shared_bag.specs.Layout.{slot_place}
use Rattle.shared_bag.specs.declared.visits.Kept.{Kept}
use Rattle.shared_bag.specs.declared.visits.TakeVisit.TheVariants.{Empty}
use Rattle.shared_bag.specs.Kinds.{BagMe, holding}
use Rattle.shared_bag.specs.Turns.{IsHolding, IsKeeping, LeavesFound, TakesAt, held_of, slots_of}
use Rattle.shared_bag.proofs.VisitSteps.{takes_item, takes_nothing, still_keeping, got_holds, same_slots, same_within}
use Rattle.shared_bag.proofs.bags.Bag.take_other.Goals as goal

pub take_or_steal-requires-clause-holds : goal.take_or_steal-requires-clause-holds
take_or_steal-requires-clause-holds g c = (c.args.segment, _, c.in-Some.ensures.some.holds (held_of c.args.kept.now) (slots_of c.args.kept.now) c.requires.keeping.0.0)

pub give_back-requires-clause-holds : goal.give_back-requires-clause-holds
give_back-requires-clause-holds g c =
    let none = c.in_default-take_or_steal.ensures.none in
    let held = held_of c.args.kept.now in
    let slots = slots_of c.args.kept.now in (
      held,
      slots,
      subst (λ (m : BagMe g.row.K.Denot). IsHolding m (holding c.args.segment c.take_or_steal.new.moved.items ∷ held) ((slot_place c.args.segment, None) ∷ slots)) (ap (λ s. s.seat.me) (sym none.0))
          (got_holds g.K.Keeps.keeps c.args.self.now.table.table.shared.key c.args.segment c.in-Some.moved c.args.seat.now.seat.me c.get.new.seat.seat.me c.in-Some.ensures.some _ held slots (ap (λ a. a.items) none.1) c.requires.keeping.0.0),
    )

pub returns-in_default-take_or_steal-clause-keeps : goal.returns-in_default-take_or_steal-clause-keeps
returns-in_default-take_or_steal-clause-keeps g c =
    let none = c.in_default-take_or_steal.ensures.none in
    let keeps = g.K.Keeps.keeps in
    let plan = c.args.self.now.table.table.shared.key in
    subst (λ (k : Option Kept). IsKeeping plan.shape k c.give_back.new.seat.seat.me) (sym none.2)
    (still_keeping keeps plan c.args.segment c.in-Some.moved c.args.seat.now.seat.me c.get.new.seat.seat.me c.in-Some.ensures.some c.args.kept.now c.take_or_steal.new.moved.items c.give_back.new.seat.seat.me (ap (λ a. a.items) none.1)
    (subst (λ (m : BagMe g.row.K.Denot). LeavesFound keeps plan c.args.segment c.take_or_steal.new.moved.items m c.give_back.new.seat.seat.me) (ap (λ s. s.seat.me) none.0) c.give_back.ensures.leaves) c.requires.keeping)

pub returns-in_default-take_or_steal-clause-takes : goal.returns-in_default-take_or_steal-clause-takes
returns-in_default-take_or_steal-clause-takes g c =
    let none = c.in_default-take_or_steal.ensures.none in
    let keeps = g.K.Keeps.keeps in
    let plan = c.args.self.now.table.table.shared.key in
    subst (λ (k : Option Kept). TakesAt keeps plan c.args.segment c.args.kept.now k c.args.seat.now.seat.me.0 c.give_back.new.seat.seat.me.0 Empty) (sym none.2)
    (takes_nothing keeps plan c.args.segment c.in-Some.moved c.args.seat.now.seat.me c.get.new.seat.seat.me c.in-Some.ensures.some c.take_or_steal.new.moved.items c.give_back.new.seat.seat.me
    (subst (λ (m : BagMe g.row.K.Denot). LeavesFound keeps plan c.args.segment c.take_or_steal.new.moved.items m c.give_back.new.seat.seat.me) (ap (λ s. s.seat.me) none.0) c.give_back.ensures.leaves) c.args.kept.now
    (ap (λ a. a.items) none.1 ∙ none.3))

pub hand_back-requires-clause-holds : goal.hand_back-requires-clause-holds
hand_back-requires-clause-holds g c =
    let held = held_of c.args.kept.now in
    let slots = slots_of c.args.kept.now in
    (held_of c.take_or_steal.new.kept, slots, c.in-Some-take_or_steal.ensures.some.holds c.args.segment _ (c.in-Some.ensures.some.holds held slots c.requires.keeping.0.0))

pub returns-clause-keeps : goal.returns-clause-keeps
returns-clause-keeps g c =
    let held = held_of c.args.kept.now in
    let slots = slots_of c.args.kept.now in
    let kept = c.take_or_steal.new.kept in
    let same = c.in-Some-take_or_steal.ensures.same in
    let holds = c.hand_back.ensures.leaves.holds (held_of kept) slots (c.in-Some-take_or_steal.ensures.some.holds c.args.segment _ (c.in-Some.ensures.some.holds held slots c.requires.keeping.0.0)) in
    (subst (IsHolding c.hand_back.new.seat.seat.me (held_of kept)) (sym (same_slots c.args.kept.now kept same)) holds, same_within c.args.self.now.table.table.shared.key.shape c.args.kept.now kept same c.requires.keeping.0.1)

pub returns-clause-takes : goal.returns-clause-takes
returns-clause-takes g c =
    takes_item g.K.Keeps.keeps c.args.self.now.table.table.shared.key c.args.segment c.in-Some.moved c.args.seat.now.seat.me c.get.new.seat.seat.me c.in-Some.ensures.some c.in-Some-take_or_steal.item _ _ _ c.args.kept.now c.take_or_steal.new.kept
    c.take_or_steal.new.seat.seat.me c.hand_back.new.seat.seat.me c.in-Some-take_or_steal.ensures.some c.hand_back.ensures.leaves
