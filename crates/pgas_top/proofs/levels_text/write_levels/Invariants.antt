use Rattle.std.proofs.Common.{◌≡◌, ◌+◌, ◌≤◌, ◌++◌, length, drop, max}
use Rattle.std.specs.List.{flat_map}
use Rattle.pgas_top.specs.LevelsText.{depth_of, line, reached_from}
use Rattle.pgas_top.proofs.levels_text.write_levels.Given as goal

-- what was made so far, and what the numbers that are left make, are the whole
abbrev pub invariant-loop-vertex : goal.invariant-loop-vertex
invariant-loop-vertex l =
    let left = reached_from l.vertex (drop l.vertex l.levels) in
    let all = reached_from 0 l.levels in
    record {
      text : l.text.items ++ flat_map line left ≡ flat_map line all;
      count : l.reached + length left ≡ length all;
      depth : max l.depth (depth_of left) ≡ depth_of all;
      few : l.reached ≤ l.vertex;
    }
