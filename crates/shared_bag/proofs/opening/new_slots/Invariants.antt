use Rattle.std.proofs.Common.{◌≡◌, [], vec_len, vec_capacity, Some}
use Rattle.std.specs.Prelude.{replicate}
use Rattle.shared_bag.proofs.opening.new_slots.Given as goal

abbrev pub invariant-loop : goal.invariant-loop
invariant-loop l = record {
  filled : vec_len l.slots ≡ l.counter;
  room : vec_capacity l.slots ≡ l.count;
  blank : l.slots.items ≡ replicate l.counter (Some (record { items = []; spare = 0 }));
}
