use Rattle.std.proofs.Common.{◌≡◌, ◌≤◌, ◌-◌, length, min, sym, ap, ◌∙◌, arith}
use Rattle.shared_io.proofs.Pieces.{front_read, none_left}
use Rattle.shared_io.proofs.sources.SureSourceSource.read.Goals as goal

pub returns-clause-bytes : goal.returns-clause-bytes
returns-clause-bytes c =
    let bytes = c.self.inside.bytes.items in
    let at = c.self.inside.at in
    let count = c.min-count.result in
    let len = sym c.deref.ensures.len ∙ ap length c.deref.ensures.value in
    let within : at ≤ length bytes = omega (arith, c.self.invariant, len) in
    let here = rw c.deref.ensures.value at c.copy_from_slice.ensures.after in
    let is : count ≡ min (length c.args.into.now) (length bytes - at) = c.min-count.ensures ∙ ap (λ n. min (length c.args.into.now) (n - at)) (c.len.ensures ∙ len) in (
      sym c.self.view_is ∙ front_read bytes c.args.into.now _ at count within is here,
      none_left bytes c.args.into.now _ at count within is here,
    )
