use Rattle.std.proofs.Common.{[], ◌∷◌, ap, refl, arith, length, length-append}
use Rattle.epoch_manager.proofs.Closings.{bared}
use Rattle.epoch_manager.proofs.closing.bare.Goals as goal

pub push_reserved-requires : goal.push_reserved-requires
push_reserved-requires g c = let l = c.loop-pass.invariant in omega (arith, l.room, ap length c.in-Some.ensures.items, length-append c.pop.new.self.items (c.in-Some.pass ∷ []))

pub loop-pass-preserved : goal.loop-pass-preserved
loop-pass-preserved g c =
    let l = c.loop-pass.invariant in
    let push = c.push_reserved.ensures in
    record {
      from = bared (λ p. p.pass) _ _ _ _ _ c.in-Some.pass _ l.from c.in-Some.ensures.items push.items refl;
      room = omega (arith, l.room, push.len, push.capacity, ap length c.in-Some.ensures.items, length-append c.pop.new.self.items (c.in-Some.pass ∷ []));
    }
