use Rattle.std.proofs.Common.{ℕ, IfSome, Option, Some, None, sym, ◌∙◌, inl}
use Rattle.segment_store.specs.Steals.{Steals}
use Rattle.segment_store.proofs.Steals.{half_taken}
use Rattle.segment_store.proofs.segments.Segment.steal_half.Goals as goal

told : (taken : Option ℕ) (P Q : ℕ → Type 0) → ((item : ℕ) → P item → Q item) → IfSome taken P → IfSome taken Q
told None P Q f h = tt
told (Some item) P Q f h = f item h

pub returns-clause-some : goal.returns-clause-some
returns-clause-some c =
    told c.pop-2.result _ (λ item. Steals c.args.other.now.items c.pop-2.new.self.items c.split_half.new.self.items item)
    (λ item is. inl (half_taken _ _ _ item (sym c.in-Ok.ensures.front ∙ is) c.in-Ok.ensures.rest)) c.pop-2.ensures.last
