use Rattle.std.proofs.Common.{◌≡◌, ◌<◌, ◌≤◌, length, ap, sym, subst, slice_index, ◌∙◌, arith}
use Rattle.std.proofs.lemmas.Grind.{get_or_default_zero}
use Rattle.limbo_core.specs.Chains.{Linked, IsChain, IsOutside}
use Rattle.limbo_core.proofs.Walks.{AreChained-pushed, IsChain-pushed, IsChain-pushed_other, IsOutside-pushed, only_here-pushed}
use Rattle.limbo_core.proofs.chains.Chains.swap_in.Goals as goal

pub invariant_of-self : goal.invariant_of-self
invariant_of-self c =
    let s : Linked = record { heads = c.self.inside.heads.items; next = c.self.inside.next.items; pending = c.self.inside.pending.items } in
    let at : c.args.head < length c.self.inside.heads.items = omega (arith, ap (λ (v : Linked). length v.heads) c.self.view_is) in
    let inside : c.args.place ≤ length c.self.inside.next.items = omega (arith, ap (λ (v : Linked). length v.next) c.self.view_is) in
    let is : c.index-old.result.now ≡ slice_index c.self.inside.heads.items c.args.head = c.index-old.ensures ∙ get_or_default_zero _ _ _ at in
    let P : Linked → Type 0 = λ v. IsOutside v c.args.place in
    AreChained-pushed s c.args.head c.args.place c.index-old.result.now c.requires.some_place inside at is (subst P (sym c.self.view_is) c.requires.outside) c.self.invariant

pub returns-clause-pushed : goal.returns-clause-pushed
returns-clause-pushed c chain leads =
    let s : Linked = record { heads = c.self.inside.heads.items; next = c.self.inside.next.items; pending = c.self.inside.pending.items } in
    let at : c.args.head < length c.self.inside.heads.items = omega (arith, ap (λ (v : Linked). length v.heads) c.self.view_is) in
    let inside : c.args.place ≤ length c.self.inside.next.items = omega (arith, ap (λ (v : Linked). length v.next) c.self.view_is) in
    let is : c.index-old.result.now ≡ slice_index c.self.inside.heads.items c.args.head = c.index-old.ensures ∙ get_or_default_zero _ _ _ at in
    let P : Linked → Type 0 = λ v. IsOutside v c.args.place in
    let Q : Linked → Type 0 = λ v. IsChain v c.args.head chain in
    IsChain-pushed s c.args.head c.args.place c.index-old.result.now c.requires.some_place inside at is (subst P (sym c.self.view_is) c.requires.outside) chain (subst Q (sym c.self.view_is) leads)

pub returns-clause-others : goal.returns-clause-others
returns-clause-others c other chain apart leads =
    let s : Linked = record { heads = c.self.inside.heads.items; next = c.self.inside.next.items; pending = c.self.inside.pending.items } in
    let at : c.args.head < length c.self.inside.heads.items = omega (arith, ap (λ (v : Linked). length v.heads) c.self.view_is) in
    let inside : c.args.place ≤ length c.self.inside.next.items = omega (arith, ap (λ (v : Linked). length v.next) c.self.view_is) in
    let is : c.index-old.result.now ≡ slice_index c.self.inside.heads.items c.args.head = c.index-old.ensures ∙ get_or_default_zero _ _ _ at in
    let P : Linked → Type 0 = λ v. IsOutside v c.args.place in
    let Q : Linked → Type 0 = λ v. IsChain v other chain in
    IsChain-pushed_other s c.args.head c.args.place c.index-old.result.now c.requires.some_place inside at is (subst P (sym c.self.view_is) c.requires.outside) other chain apart (subst Q (sym c.self.view_is) leads)

pub returns-clause-outside : goal.returns-clause-outside
returns-clause-outside c other apart out =
    let s : Linked = record { heads = c.self.inside.heads.items; next = c.self.inside.next.items; pending = c.self.inside.pending.items } in
    let at : c.args.head < length c.self.inside.heads.items = omega (arith, ap (λ (v : Linked). length v.heads) c.self.view_is) in
    let inside : c.args.place ≤ length c.self.inside.next.items = omega (arith, ap (λ (v : Linked). length v.next) c.self.view_is) in
    let is : c.index-old.result.now ≡ slice_index c.self.inside.heads.items c.args.head = c.index-old.ensures ∙ get_or_default_zero _ _ _ at in
    let P : Linked → Type 0 = λ v. IsOutside v c.args.place in
    let Q : Linked → Type 0 = λ v. IsOutside v other in
    IsOutside-pushed s c.args.head c.args.place c.index-old.result.now c.requires.some_place inside at is (subst P (sym c.self.view_is) c.requires.outside) c.self.invariant other apart (subst Q (sym c.self.view_is) out)

pub returns-clause-only_here : goal.returns-clause-only_here
returns-clause-only_here c =
    let s : Linked = record { heads = c.self.inside.heads.items; next = c.self.inside.next.items; pending = c.self.inside.pending.items } in
    let at : c.args.head < length c.self.inside.heads.items = omega (arith, ap (λ (v : Linked). length v.heads) c.self.view_is) in
    let inside : c.args.place ≤ length c.self.inside.next.items = omega (arith, ap (λ (v : Linked). length v.next) c.self.view_is) in
    let is : c.index-old.result.now ≡ slice_index c.self.inside.heads.items c.args.head = c.index-old.ensures ∙ get_or_default_zero _ _ _ at in
    let P : Linked → Type 0 = λ v. IsOutside v c.args.place in
    only_here-pushed s c.args.head c.args.place c.index-old.result.now c.requires.some_place inside at is (subst P (sym c.self.view_is) c.requires.outside) c.self.invariant
