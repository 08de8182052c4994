use Rattle.std.proofs.Common.{◌≡◌, ◌<◌, [], ◌∷◌, ◌++◌, None, length, ap, sym, ◌∙◌, subst, arith}
use Rattle.shared_bag.specs.Layout.{slot_place}
use Rattle.shared_bag.specs.Shapes.{IsOwn}
use Rattle.shared_bag.specs.Kinds.{holding}
use Rattle.shared_bag.specs.Turns.{IsHolding}
use Rattle.shared_bag.proofs.TurnSteps.{held_some}
use Rattle.shared_bag.proofs.VisitSteps.{rest_holds, put_holds, got_holds, adds_full, adds_no_memory, adds_done}
use Rattle.shared_bag.proofs.bags.Bag.add_at.Goals as goal

pub returns-in_default-clause-rests : goal.returns-in_default-clause-rests
returns-in_default-clause-rests g c = let is = c.in_default.ensures.none.holds [] [] (rest_holds c.args.seat.now.seat.me c.requires.rests) in (is.0, is.1)

pub give_back-requires-clause-holds : goal.give_back-requires-clause-holds
give_back-requires-clause-holds g c = ([], [], c.in-Some.ensures.some.holds [] [] (rest_holds c.args.seat.now.seat.me c.requires.rests))

pub returns-then-len-self-clause-rests : goal.returns-then-len-self-clause-rests
returns-then-len-self-clause-rests g c =
    let is = c.give_back.ensures.leaves.holds [] [] (c.in-Some.ensures.some.holds [] [] (rest_holds c.args.seat.now.seat.me c.requires.rests)) in (is.0, is.1)

pub returns-then-len-self-clause-adds : goal.returns-then-len-self-clause-adds
returns-then-len-self-clause-adds g c =
    adds_full g.K.Keeps.keeps c.args.self.now.table.table.shared.key c.args.segment c.in-Some.moved c.args.seat.now.seat.me c.get.new.seat.seat.me c.in-Some.ensures.some _ c.give_back.new.seat.seat.me c.give_back.ensures.leaves c.args.item
    (sym c.len.ensures.count ∙ (c.if-len-self.true ∙ sym (ap (λ s. s.room) c.args.self.now.planned)))

pub give_back-requires-in-Err-clause-holds : goal.give_back-requires-in-Err-clause-holds
give_back-requires-in-Err-clause-holds g c = (
  [],
  [],
  got_holds g.K.Keeps.keeps c.args.self.now.table.table.shared.key c.args.segment c.in-Some.moved c.args.seat.now.seat.me c.get.new.seat.seat.me c.in-Some.ensures.some c.reserve.new.self.items [] [] c.reserve.ensures.items
      (rest_holds c.args.seat.now.seat.me c.requires.rests),
)

pub returns-in-Err-clause-rests : goal.returns-in-Err-clause-rests
returns-in-Err-clause-rests g c =
    let is = c.give_back-in-Err.ensures.leaves.holds [] []
    (got_holds g.K.Keeps.keeps c.args.self.now.table.table.shared.key c.args.segment c.in-Some.moved c.args.seat.now.seat.me c.get.new.seat.seat.me c.in-Some.ensures.some c.reserve.new.self.items [] [] c.reserve.ensures.items
    (rest_holds c.args.seat.now.seat.me c.requires.rests)) in
    (is.0, is.1)

pub returns-in-Err-clause-adds : goal.returns-in-Err-clause-adds
returns-in-Err-clause-adds g c =
    let plan = c.args.self.now.table.table.shared.key in
    let got = c.in-Some.ensures.some in
    let room : plan.shape.room ≡ c.args.self.now.shape.room = ap (λ s. s.room) c.args.self.now.planned in
    let less : length c.reserve.new.self.items < plan.shape.room = omega (arith, c.len.ensures.count, c.if-len-self.false, room, got.short, ap length c.reserve.ensures.items) in
    adds_no_memory g.K.Keeps.keeps plan c.args.segment c.in-Some.moved c.args.seat.now.seat.me c.get.new.seat.seat.me got _ c.give_back-in-Err.new.seat.seat.me c.give_back-in-Err.ensures.leaves c.args.item c.reserve.ensures.items less c.requires.own

pub count_put-requires-clause-held : goal.count_put-requires-clause-held
count_put-requires-clause-held g c =
    let plan = c.args.self.now.table.table.shared.key in
    let got = c.in-Some.ensures.some in
    let room : plan.shape.room ≡ c.args.self.now.shape.room = ap (λ s. s.room) c.args.self.now.planned in
    let less : length c.in-Some.moved.items < plan.shape.room = omega (arith, c.len.ensures.count, c.if-len-self.false, room, got.short) in
    (_, [], held_some c.get.new.seat.seat.me _ [] _ (got.holds [] [] (rest_holds c.args.seat.now.seat.me c.requires.rests)), less, subst (λ n. IsOwn plan.shape n c.args.segment) (sym got.goes.same.number) c.requires.own)

pub hand_back-requires-clause-holds : goal.hand_back-requires-clause-holds
hand_back-requires-clause-holds g c =
    let put = c.count_put.ensures.does in
    let items = c.push.ensures.items ∙ ap (λ l. l ++ c.args.item ∷ []) c.reserve.ensures.items in (
      [],
      [],
      subst (λ l. IsHolding c.count_put.new.seat.seat.me (holding c.args.segment l ∷ []) ((slot_place c.args.segment, None) ∷ [])) (sym items)
          (put_holds g.K.Keeps.keeps _ c.args.item put.0 c.args.segment c.in-Some.moved.items [] _ c.get.new.seat.seat.me _ put.1 (c.in-Some.ensures.some.holds [] [] (rest_holds c.args.seat.now.seat.me c.requires.rests))),
    )

pub returns-clause-rests : goal.returns-clause-rests
returns-clause-rests g c =
    let put = c.count_put.ensures.does in
    let items = c.push.ensures.items ∙ ap (λ l. l ++ c.args.item ∷ []) c.reserve.ensures.items in
    let is = c.hand_back.ensures.leaves.holds [] []
    (subst (λ l. IsHolding c.count_put.new.seat.seat.me (holding c.args.segment l ∷ []) ((slot_place c.args.segment, None) ∷ [])) (sym items)
    (put_holds g.K.Keeps.keeps _ c.args.item put.0 c.args.segment c.in-Some.moved.items [] _ c.get.new.seat.seat.me _ put.1 (c.in-Some.ensures.some.holds [] [] (rest_holds c.args.seat.now.seat.me c.requires.rests)))) in
    (is.0, is.1)

pub returns-clause-adds : goal.returns-clause-adds
returns-clause-adds g c =
    let plan = c.args.self.now.table.table.shared.key in
    let got = c.in-Some.ensures.some in
    let put = c.count_put.ensures.does in
    let room : plan.shape.room ≡ c.args.self.now.shape.room = ap (λ s. s.room) c.args.self.now.planned in
    let less : length c.in-Some.moved.items < plan.shape.room = omega (arith, c.len.ensures.count, c.if-len-self.false, room, got.short) in
    adds_done g.K.Keeps.keeps plan c.args.segment c.in-Some.moved c.args.seat.now.seat.me c.get.new.seat.seat.me got c.args.item put.0 _ c.count_put.new.seat.seat.me c.hand_back.new.seat.seat.me c.requires.own less put.1 c.hand_back.ensures.leaves
