use Rattle.std.proofs.Common.{◌<◌, if◌then◌else◌, ap, refl, sym, ◌∙◌, subst}
use Rattle.epoch_laws.specs.Words.{global_election, local_election}
use Rattle.epoch_table.specs.Layout.{named_place}
use Rattle.epoch_table.specs.Deeds.{Stores}
use Rattle.epoch_table.specs.Kinds.{StoresAt}
use Rattle.epoch_table.proofs.words.Words.leave_local.Goals as goal

pub store-requires-clause-at : goal.store-requires-clause-at
store-requires-clause-at g c =
    let shape = c.args.self.now.shape in
    let l = c.requires.locale in
    let seat = c.args.seat.now.seat.me.0.part.seat in
    subst (λ b. StoresAt shape (if b then Stores global_election 0 else Stores (local_election seat.token.locale) 0) c.election_at.result 0) (sym c.requires.won)
    (subst (λ n. n < shape.locales) l.0 l.1, c.election_at.ensures shape ∙ ap (λ n. named_place shape (local_election n)) l.0, refl)
