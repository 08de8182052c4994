use Rattle.std.proofs.Common.{[], ◌∷◌, None, Option, Some, refl, ap, sym, ◌∙◌, subst}
use Rattle.shared_bag.specs.Layout.{slot_place}
use Rattle.shared_bag.specs.declared.visits.Kept.{Kept}
use Rattle.shared_bag.specs.Kinds.{BagMe, holding}
use Rattle.shared_bag.specs.Turns.{IsHolding, LeavesFound, IsKeeping, held_of, slots_of}
use Rattle.shared_bag.proofs.VisitSteps.{takes_item, takes_nothing, still_keeping, now_keeping, got_holds, none_is}
use Rattle.shared_bag.proofs.bags.Bag.take_own.Goals as goal

pub take_newest-requires-clause-holds : goal.take_newest-requires-clause-holds
take_newest-requires-clause-holds g c = (c.args.segment, held_of c.args.kept.now, _, c.in-Some.ensures.some.holds (held_of c.args.kept.now) (slots_of c.args.kept.now) c.requires.keeping.0.0)

pub hand_back-requires-clause-holds : goal.hand_back-requires-clause-holds
hand_back-requires-clause-holds g c =
    let held = held_of c.args.kept.now in
    let slots = slots_of c.args.kept.now in
    (held, slots, (c.in-Some-take_newest.ensures.some held).holds c.args.segment _ (c.in-Some.ensures.some.holds held slots c.requires.keeping.0.0))

pub returns-in-Some-take_newest-clause-keeps : goal.returns-in-Some-take_newest-clause-keeps
returns-in-Some-take_newest-clause-keeps g c =
    let held = held_of c.args.kept.now in
    let slots = slots_of c.args.kept.now in
    (c.hand_back.ensures.leaves.holds held slots ((c.in-Some-take_newest.ensures.some held).holds c.args.segment _ (c.in-Some.ensures.some.holds held slots c.requires.keeping.0.0)), c.requires.keeping.0.1)

pub returns-in-Some-take_newest-clause-takes : goal.returns-in-Some-take_newest-clause-takes
returns-in-Some-take_newest-clause-takes g c =
    takes_item g.K.Keeps.keeps c.args.self.now.table.table.shared.key c.args.segment c.in-Some.moved c.args.seat.now.seat.me c.get.new.seat.seat.me c.in-Some.ensures.some c.in-Some-take_newest.item _ _ _ c.args.kept.now c.args.kept.now
    c.take_newest.new.seat.seat.me c.hand_back.new.seat.seat.me (c.in-Some-take_newest.ensures.some []) c.hand_back.ensures.leaves

pub give_back-requires-clause-holds : goal.give_back-requires-clause-holds
give_back-requires-clause-holds g c =
    let none = c.in_default-take_newest.ensures.none in
    let held = held_of c.args.kept.now in
    let slots = slots_of c.args.kept.now in (
      held,
      slots,
      subst (λ (m : BagMe g.row.K.Denot). IsHolding m (holding c.args.segment c.take_newest.new.moved.items ∷ held) ((slot_place c.args.segment, None) ∷ slots)) (ap (λ s. s.seat.me) (sym none.0))
          (got_holds g.K.Keeps.keeps c.args.self.now.table.table.shared.key c.args.segment c.in-Some.moved c.args.seat.now.seat.me c.get.new.seat.seat.me c.in-Some.ensures.some _ held slots (ap (λ a. a.items) none.1) c.requires.keeping.0.0),
    )

pub returns-then-is_some-clause-keeps : goal.returns-then-is_some-clause-keeps
returns-then-is_some-clause-keeps g c =
    let none = c.in_default-take_newest.ensures.none in
    let keeps = g.K.Keeps.keeps in
    let plan = c.args.self.now.table.table.shared.key in
    still_keeping keeps plan c.args.segment c.in-Some.moved c.args.seat.now.seat.me c.get.new.seat.seat.me c.in-Some.ensures.some c.args.kept.now c.take_newest.new.moved.items c.give_back.new.seat.seat.me (ap (λ a. a.items) none.1)
    (subst (λ (m : BagMe g.row.K.Denot). LeavesFound keeps plan c.args.segment c.take_newest.new.moved.items m c.give_back.new.seat.seat.me) (ap (λ s. s.seat.me) none.0) c.give_back.ensures.leaves) c.requires.keeping

pub returns-then-is_some-clause-takes : goal.returns-then-is_some-clause-takes
returns-then-is_some-clause-takes g c =
    let none = c.in_default-take_newest.ensures.none in
    let keeps = g.K.Keeps.keeps in
    let plan = c.args.self.now.table.table.shared.key in
    takes_nothing keeps plan c.args.segment c.in-Some.moved c.args.seat.now.seat.me c.get.new.seat.seat.me c.in-Some.ensures.some c.take_newest.new.moved.items c.give_back.new.seat.seat.me
    (subst (λ (m : BagMe g.row.K.Denot). LeavesFound keeps plan c.args.segment c.take_newest.new.moved.items m c.give_back.new.seat.seat.me) (ap (λ s. s.seat.me) none.0) c.give_back.ensures.leaves) c.args.kept.now
    (ap (λ a. a.items) none.1 ∙ none.2)

pub returns-else-is_some-clause-keeps : goal.returns-else-is_some-clause-keeps
returns-else-is_some-clause-keeps g c =
    let none = c.in_default-take_newest.ensures.none in
    let keeps = g.K.Keeps.keeps in
    let plan = c.args.self.now.table.table.shared.key in
    let items = ap (λ a. a.items) none.1 in
    let own : Kept = record { segment = c.args.segment; moved = c.take_newest.new.moved } in
    let rests : IsHolding c.args.seat.now.seat.me [] [] = subst (λ (k : Option Kept). IsHolding c.args.seat.now.seat.me (held_of k) (slots_of k)) (none_is c.args.kept.now (sym c.is_some.ensures ∙ c.if-is_some.false)) c.requires.keeping.0.0 in
    subst (λ (m : BagMe g.row.K.Denot). IsKeeping plan.shape (Some own) m) (ap (λ s. s.seat.me) (sym none.0))
    (now_keeping keeps plan c.args.segment c.in-Some.moved c.args.seat.now.seat.me c.get.new.seat.seat.me c.in-Some.ensures.some c.take_newest.new.moved.items own items refl refl (items ∙ none.2) c.requires.segment c.requires.own rests)
