use Rattle.std.proofs.Common.{arith, rules, ◌∙◌, ◌+◌, ◌-◌, ◌<◌, ◌≤◌, List, ℕ, length, take, drop, ap, sym}
use Rattle.graph_store.specs.Rows.{row_of}
use Rattle.graph_store.proofs.Cuts.{length-rows_of, row_read}
use Rattle.graph_store.proofs.rows.Rows.row.Goals as goal

pub index-begin-requires : goal.index-begin-requires
index-begin-requires c =
    let rows = c.self.inside in
    omega (arith, c.requires, ap length c.self.view_is, length-rows_of rows.targets.items rows.starts.items _ c.self.invariant)

pub overflow_add-place : goal.overflow_add-place
overflow_add-place c =
    let rows = c.self.inside in
    let count = length-rows_of rows.targets.items rows.starts.items _ c.self.invariant in
    let same = ap length c.self.view_is in
    let within : c.args.place + 1 < length rows.starts.items = omega (arith, c.requires) in
    search rules

pub index-end-requires : goal.index-end-requires
index-end-requires c =
    let rows = c.self.inside in
    omega (arith, c.requires, ap length c.self.view_is, length-rows_of rows.targets.items rows.starts.items _ c.self.invariant)

pub slice_bounds-result-count : goal.slice_bounds-result-count
slice_bounds-result-count c =
    let rows = c.self.inside in
    let count = length-rows_of rows.targets.items rows.starts.items _ c.self.invariant in
    let same = ap length c.self.view_is in
    let read = row_read rows.targets.items rows.starts.items c.args.place _ _ c.self.invariant (omega (arith, c.requires)) c.index-begin.ensures c.index-end.ensures in
    read.ordered

pub slice_bounds-result-start : goal.slice_bounds-result-start
slice_bounds-result-start c =
    let rows = c.self.inside in
    let count = length-rows_of rows.targets.items rows.starts.items _ c.self.invariant in
    let same = ap length c.self.view_is in
    let read = row_read rows.targets.items rows.starts.items c.args.place _ _ c.self.invariant (omega (arith, c.requires)) c.index-begin.ensures c.index-end.ensures in
    let ordered : c.index-begin.result.now ≤ c.index-end.result.now = read.ordered in
    let inside : c.index-end.result.now ≤ length rows.targets.items = read.within in
    let long = ap length c.deref.ensures.value in
    search rules

pub slice_bounds-result-end : goal.slice_bounds-result-end
slice_bounds-result-end c =
    let rows = c.self.inside in
    let count = length-rows_of rows.targets.items rows.starts.items _ c.self.invariant in
    let same = ap length c.self.view_is in
    let read = row_read rows.targets.items rows.starts.items c.args.place _ _ c.self.invariant (omega (arith, c.requires)) c.index-begin.ensures c.index-end.ensures in
    let ordered : c.index-begin.result.now ≤ c.index-end.result.now = read.ordered in
    let inside : c.index-end.result.now ≤ length rows.targets.items = read.within in
    let long = ap length c.deref.ensures.value in
    search rules

pub returns : goal.returns
returns c =
    let rows = c.self.inside in
    let count = length-rows_of rows.targets.items rows.starts.items _ c.self.invariant in
    let same = ap length c.self.view_is in
    let read = row_read rows.targets.items rows.starts.items c.args.place _ _ c.self.invariant (omega (arith, c.requires)) c.index-begin.ensures c.index-end.ensures in
    ap (λ (l : List ℕ). take (c.index-end.result.now - c.index-begin.result.now) (drop c.index-begin.result.now l)) c.deref.ensures.value
    ∙ (sym read.row ∙ ap (λ (l : List (List ℕ)). row_of l c.args.place) c.self.view_is)
