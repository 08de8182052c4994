use Rattle.std.proofs.Common.{◌≡◌, ◌≤◌, ◌+◌, ◌-◌, length, drop, map}
use Rattle.std.specs.String.{string_bytes}
use Rattle.pgas_top.specs.Options.{options_of}
use Rattle.pgas_top.proofs.options.count_options.Given as goal

-- with the options of the words that are left the count is that of all
abbrev pub invariant-loop-at : goal.invariant-loop-at
invariant-loop-at l = record {
  within : l.at ≤ length l.words;
  few : l.count ≤ l.at;
  all : l.count + length (options_of (drop l.at (map string_bytes l.words))) ≡ length (options_of (map string_bytes l.words));
}

abbrev pub decreases-loop-at : goal.decreases-loop-at
decreases-loop-at l = length l.words - l.at
