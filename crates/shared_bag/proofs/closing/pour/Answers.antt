use Rattle.std.proofs.Common.{arith, ap, length, ◌∙◌, ◌∷◌, [], length-append}
use Rattle.shared_bag.proofs.Pours.{poured_one}
use Rattle.shared_bag.proofs.closing.pour.Goals as goal

pub loop-item-preserved : goal.loop-item-preserved
loop-item-preserved c =
    let l = c.loop-item.invariant in
    let last = c.in-Some.ensures.last in
    let push = c.push_reserved.ensures in
    record {
      so_far = poured_one _ c.loop-item.items.items c.push_reserved.new.self.items c.loop-item.moved.items c.pop.new.self.items c.in-Some.item l.so_far last push.items;
      count = omega (arith, l.count, push.len, ap length last, length-append c.pop.new.self.items (c.in-Some.item ∷ []));
      room = push.capacity ∙ l.room;
    }
