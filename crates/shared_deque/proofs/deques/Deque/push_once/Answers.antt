use Rattle.std.proofs.Common.{◌≡◌, false, refl, ◌∙◌, ap, sym, inl, inr, arith}
use Rattle.shared_deque.specs.Aims.{is_turned_away}
use Rattle.shared_deque.specs.declared.sides.Aim.TheVariants.{Push}
use Rattle.shared_deque.proofs.WholeTries.{let_on, held, claimed, lost, won_ends, still}
use Rattle.shared_deque.proofs.deques.Deque.push_once.Goals as goal

pub returns-then-held-clause-tries : goal.returns-then-held-clause-tries
returns-then-held-clause-tries g c =
    let keeps = g.K.Keeps.keeps in
    let plan = c.args.self.now.table.table.shared.key in
    let aim = Push c.args.side c.args.item in
    let ends = c.look_at_ends-ends.result in
    let m0 = c.args.seat.now.seat.me in
    let m1 = c.look_at_ends-ends.new.seat.seat.me in
    let m2 = c.claim-turn.new.seat.seat.me in
    let stays : is_turned_away plan.capacity ends aim ≡ false = ap (λ n. is_turned_away n ends aim) c.args.self.now.planned ∙ (sym c.turns_away-away.ensures ∙ c.if-away.false) in
    let on = let_on keeps plan aim ends m0 m0 m1 stays c.look_at_ends-ends.ensures.does in
    let all = held keeps plan aim ends m0 m1 m2 c.claim-turn.result _ (omega (arith, c.if-held.true)) on.0 c.claim-turn.ensures.does in
    record { words = _; goes = all.0; cause = (ends, on.1, inl (refl, all.1)); not_alone = λ busy. all.2 }

pub returns-then-lost-clause-tries : goal.returns-then-lost-clause-tries
returns-then-lost-clause-tries g c =
    let keeps = g.K.Keeps.keeps in
    let plan = c.args.self.now.table.table.shared.key in
    let aim = Push c.args.side c.args.item in
    let ends = c.look_at_ends-ends.result in
    let m0 = c.args.seat.now.seat.me in
    let m1 = c.look_at_ends-ends.new.seat.seat.me in
    let m2 = c.claim-turn.new.seat.seat.me in
    let stays : is_turned_away plan.capacity ends aim ≡ false = ap (λ n. is_turned_away n ends aim) c.args.self.now.planned ∙ (sym c.turns_away-away.ensures ∙ c.if-away.false) in
    let on = let_on keeps plan aim ends m0 m0 m1 stays c.look_at_ends-ends.ensures.does in
    let mine = claimed keeps plan aim ends m0 m1 m2 c.claim-turn.result _ (omega (arith, c.if-held.false)) on.0 c.claim-turn.ensures.does in
    let m3 = c.exchange_ends-found.new.seat.seat.me in
    let all = lost keeps plan aim ends m0 m2 m3 0 c.exchange_ends-found.result _ (omega (arith, c.if-lost.true)) mine c.exchange_ends-found.ensures.does in
    let left = still keeps plan aim ends m0 m3 c.leave.new.seat.seat.me _ _ _ all.0 c.leave.ensures.does in
    record { words = _; goes = left; cause = (ends, on.1, inr (refl, omega (arith, c.if-lost.true))); not_alone = λ busy. all.1 }

pub returns-clause-tries : goal.returns-clause-tries
returns-clause-tries g c =
    let keeps = g.K.Keeps.keeps in
    let plan = c.args.self.now.table.table.shared.key in
    let aim = Push c.args.side c.args.item in
    let ends = c.look_at_ends-ends.result in
    let m0 = c.args.seat.now.seat.me in
    let m1 = c.look_at_ends-ends.new.seat.seat.me in
    let m2 = c.claim-turn.new.seat.seat.me in
    let stays : is_turned_away plan.capacity ends aim ≡ false = ap (λ n. is_turned_away n ends aim) c.args.self.now.planned ∙ (sym c.turns_away-away.ensures ∙ c.if-away.false) in
    let on = let_on keeps plan aim ends m0 m0 m1 stays c.look_at_ends-ends.ensures.does in
    let mine = claimed keeps plan aim ends m0 m1 m2 c.claim-turn.result _ (omega (arith, c.if-held.false)) on.0 c.claim-turn.ensures.does in
    let m3 = c.exchange_ends-found.new.seat.seat.me in
    let all = won_ends keeps plan aim ends m0 m2 m3 0 c.exchange_ends-found.result _ (omega (arith, c.if-lost.false)) mine c.exchange_ends-found.ensures.does in
    let fills = c.fill.ensures.fills in
    let stored = still keeps plan aim ends m0 m3 fills.0 _ _ _ all.0 fills.1 in
    let left = still keeps plan aim ends m0 fills.0 c.fill.new.seat.seat.me _ _ _ stored fills.2 in
    record { words = _; goes = left; cause = (ends, on.1, refl); not_alone = λ busy. absurd busy }
