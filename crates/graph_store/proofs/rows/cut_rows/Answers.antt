use Rattle.std.proofs.Common.{arith, rules, ◌≡◌, ◌∙◌, ◌≤◌, ◌+◌, ◌-◌, ◌++◌, ◌∷◌, [], ℕ, length, take, drop, ap, sym, subst, length-append}
use Rattle.graph_store.specs.Pairs.{HasPair}
use Rattle.graph_store.specs.Rows.{AreRowsAlong, AreStarts, distinct_targets, rows_of}
use Rattle.graph_store.proofs.Cuts.{AreStarts-push, rows_of-push}
use Rattle.graph_store.proofs.RowsAlong.{AreRowsAlong-push, row_rises, row_targets}
use Rattle.graph_store.proofs.Starts.{BeginsRow-le}
use Rattle.graph_store.proofs.rows.cut_rows.Goals as goal

pub slice_bounds-push_targets-count : goal.slice_bounds-push_targets-count
slice_bounds-push_targets-count c =
    BeginsRow-le c.args.pairs.now c.loop-vertex.vertex c.loop-vertex.place c.row_end-next.result c.loop-vertex.invariant.place c.row_end-next.ensures

pub slice_bounds-push_targets-start : goal.slice_bounds-push_targets-start
slice_bounds-push_targets-start c =
    let ordered = BeginsRow-le c.args.pairs.now c.loop-vertex.vertex c.loop-vertex.place c.row_end-next.result c.loop-vertex.invariant.place c.row_end-next.ensures in
    let within : c.row_end-next.result ≤ length c.args.pairs.now = c.row_end-next.ensures.within in
    search rules

pub loop-vertex-preserved : goal.loop-vertex-preserved
loop-vertex-preserved c =
    let pairs = c.args.pairs.now in
    let vertex = c.loop-vertex.vertex in
    let old = c.loop-vertex.targets.items in
    let starts = c.loop-vertex.starts.items in
    let row = distinct_targets (take (c.row_end-next.result - c.loop-vertex.place) (drop c.loop-vertex.place pairs)) in
    let at = c.loop-vertex.invariant.place in
    let next = c.row_end-next.ensures in
    let added : c.push_targets.new.targets.items ≡ old ++ row = c.in_ok-push_targets.ensures in
    let end : c.in-Ok.start ≡ length old + length row = omega (arith, c.in-Ok.ensures, c.len.ensures, ap length added, length-append old row) in
    let cut : rows_of (old ++ row) (starts ++ c.in-Ok.start ∷ []) ≡ rows_of old starts ++ row ∷ [] = rows_of-push old row starts c.in-Ok.start c.loop-vertex.invariant.starts end in
    record {
      place = next;
      starts = rw (added, c.in_ok-push-2.ensures.items) (subst (AreStarts (starts ++ c.in-Ok.start ∷ [])) (end ∙ sym (length-append old row)) (AreStarts-push starts (length old) c.in-Ok.start c.loop-vertex.invariant.starts (omega arith)));
      rows = rw (added, c.in_ok-push-2.ensures.items) (subst (AreRowsAlong (HasPair pairs) c.args.first (vertex + 1)) (sym cut)
          (AreRowsAlong-push (rows_of old starts) row c.loop-vertex.invariant.rows (row_rises pairs vertex c.loop-vertex.place c.row_end-next.result at next c.requires.sorted) (row_targets pairs vertex c.loop-vertex.place c.row_end-next.result at next)));
    }

pub returns : goal.returns
returns c =
    let is : c.loop-vertex.vertex ≡ c.args.end = omega (arith, c.requires.ordered) in
    subst (λ (v : ℕ). AreRowsAlong (HasPair c.args.pairs.now) c.args.first v (rows_of c.loop-vertex.targets.items c.loop-vertex.starts.items)) is c.loop-vertex.invariant.rows
