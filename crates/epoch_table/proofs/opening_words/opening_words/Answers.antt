use Rattle.std.proofs.Common.{◌≡◌, ap, arith, length, ℕ}
use Rattle.pass_table.proofs.Lists.{in_order_more, count_after}
use Rattle.epoch_table.specs.Layout.{opening_number, site_at, table_words}
use Rattle.epoch_table.proofs.Openings.{in_order_at, in_order_none}
use Rattle.epoch_table.proofs.opening_words.opening_words.Goals as goal

pub push_reserved-requires : goal.push_reserved-requires
push_reserved-requires c = let l = c.loop-at.invariant in omega (arith, l.filled, l.room, c.client_at.ensures.value, c.loop-at-test.true)

pub loop-at-preserved : goal.loop-at-preserved
loop-at-preserved c =
    let l = c.loop-at.invariant in
    let push = c.push_reserved.ensures in
    record {
      filled = omega (arith, push.len, l.filled);
      count = count_after _ _ _ _ push.items l.count;
      room = omega (arith, push.capacity, l.room);
      each = in_order_more (λ at word. word ≡ opening_number c.args.shape.now c.args.start.now (site_at c.args.shape.now at)) _ _ _ _ push.items l.count l.each c.opening_word.ensures;
    }

pub loop-at-init : goal.loop-at-init
loop-at-init c = let made = c.in_ok-words.ensures in record {
  filled = made.len;
  count = ap length made.items;
  room = omega (arith, made.capacity, c.client_at.ensures.value);
  each = in_order_none (λ at word. word ≡ opening_number c.args.shape.now c.args.start.now (site_at c.args.shape.now at)) _ made.items;
}

pub returns : goal.returns
returns c =
    let l = c.loop-at.invariant in
    let all : length c.loop-at.words.items ≡ table_words c.args.shape.now c.args.own = omega (arith, l.count, c.client_at.ensures.value, c.loop-at-test.false, c.loop-at.auto.at-end) in
    let P : ℕ → ℕ → Type 0 = λ at word. word ≡ opening_number c.args.shape.now c.args.start.now (site_at c.args.shape.now at) in
    (all, (λ at low. in_order_at P c.loop-at.words.items l.each at (omega (arith, all, low))))
