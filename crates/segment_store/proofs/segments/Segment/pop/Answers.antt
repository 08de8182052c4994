use Rattle.std.proofs.Common.{◌≡◌, ◌+◌, ◌-◌, ◌*◌, ◌<◌, ℕ, [], length, slice_range, ap, sym, ◌∙◌, ◌∷◌, ◌++◌, arith}
use Rattle.segment_store.specs.declared.blocks.TheConstants.{PLACES}
use Rattle.segment_store.specs.Contents.{Contents}
use Rattle.segment_store.specs.Blocks.{joined}
use Rattle.segment_store.proofs.Halves.{length-held}
use Rattle.segment_store.proofs.Joined.{length-joined, index-joined_at}
use Rattle.segment_store.proofs.Ranges.{slice_range-more}
use Rattle.segment_store.proofs.segments.Segment.pop.Goals as goal

pub returns-clause-empty : goal.returns-clause-empty
returns-clause-empty c =
    let count : length c.args.self.now.items ≡ c.self.inside.end - c.self.inside.start = ap (λ (v : Contents). length v.items) (sym c.self.view_is) ∙ length-held _ _ _ c.self.invariant in
    (λ h. absurd (cc), λ h. absurd (omega (arith, ap length h)))

pub returns-clause-last : goal.returns-clause-last
returns-clause-last c =
    let s = c.self.inside in
    let inside : s.end - 1 < PLACES * length s.blocks.items = omega arith in
    let places : length (joined s.blocks.items) ≡ PLACES * length s.blocks.items = length-joined s.blocks.items c.self.invariant.whole in
    let place : s.end - 1 + 1 ≡ s.end = omega arith in
    ap (λ (v : Contents). v.items) (sym c.self.view_is)
    ∙ ap (λ (e : ℕ). slice_range (joined s.blocks.items) s.start e) (sym place)
    ∙ slice_range-more (joined s.blocks.items) s.start (s.end - 1) 0 (omega arith) (omega arith)
    ∙ ap (λ (x : ℕ). slice_range (joined s.blocks.items) s.start (s.end - 1) ++ x ∷ []) (sym (index-joined_at s.blocks.items (s.end - 1) _ _ c.self.invariant.whole inside c.index.ensures c.deref.ensures 0))
