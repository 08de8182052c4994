use Rattle.std.proofs.Common.{◌≡◌, ℕ, ◌+◌, ◌-◌, ◌*◌, ◌<◌, [], ◌∷◌, ◌++◌, List, length, slice_range, vec_len, ap, sym, ◌∙◌, arith}
use Rattle.std.proofs.lemmas.List.{length-set}
use Rattle.segment_store.specs.declared.blocks.TheConstants.{PLACES}
use Rattle.segment_store.specs.Blocks.{joined}
use Rattle.segment_store.specs.Contents.{Contents}
use Rattle.segment_store.proofs.Halves.{length-held}
use Rattle.segment_store.proofs.Joined.{length-joined, joined-set_at, AreWhole-set_at}
use Rattle.segment_store.proofs.Ranges.{slice_range-set}
use Rattle.segment_store.proofs.segments.Segment.push.Goals as goal

pub invariant_of-self : goal.invariant_of-self
invariant_of-self c =
    let s = c.self.inside in
    let spare : PLACES * vec_len s.blocks - s.end ≡ c.args.self.now.spare = ap (λ (v : Contents). v.spare) c.self.view_is in
    let inside : s.end < PLACES * length s.blocks.items = omega arith in
    let count : length c.args.self.now.items ≡ s.end - s.start = ap (λ (v : Contents). length v.items) (sym c.self.view_is) ∙ length-held _ _ _ c.self.invariant in
    record {
      whole = AreWhole-set_at s.blocks.items s.end _ _ c.self.invariant.whole inside c.index_mut.ensures.value c.deref_mut.ensures.value c.args.item;
      first = c.self.invariant.first;
      ordered = omega arith;
      inside = rw length-set (omega arith);
      count = omega arith;
    }

pub returns-clause-items : goal.returns-clause-items
returns-clause-items c =
    let s = c.self.inside in
    let spare : PLACES * vec_len s.blocks - s.end ≡ c.args.self.now.spare = ap (λ (v : Contents). v.spare) c.self.view_is in
    let inside : s.end < PLACES * length s.blocks.items = omega arith in
    let places : length (joined s.blocks.items) ≡ PLACES * length s.blocks.items = length-joined s.blocks.items c.self.invariant.whole in
    ap (λ (l : List ℕ). slice_range l s.start (s.end + 1)) (joined-set_at s.blocks.items s.end _ _ c.self.invariant.whole inside c.index_mut.ensures.value c.deref_mut.ensures.value c.args.item)
    ∙ slice_range-set (joined s.blocks.items) s.start s.end c.args.item (omega arith) (omega arith)
    ∙ ap (λ (v : Contents). v.items ++ c.args.item ∷ []) c.self.view_is
