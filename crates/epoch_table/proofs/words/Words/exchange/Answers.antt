use Rattle.std.proofs.Common.{◌==◌, ◌<◌, sym, subst}
use prog.Atomic.{either}
use Rattle.epoch_table.specs.Deeds.{deed}
use Rattle.epoch_table.specs.Kinds.{ExchangesAt, Permitted}
use Rattle.epoch_table.specs.Events.{PastOpens, PastSteps}
use Rattle.epoch_table.specs.Rule.{manager_terms}
use Rattle.epoch_table.specs.Kinds.{TellsKind}
use Rattle.pass_table.specs.Steps.{Steps}
use Rattle.epoch_table.proofs.Permitted.{lawful_of, may_exchange, exchanges_within, makes_of}
use Rattle.epoch_table.proofs.words.Words.exchange.Goals as goal

pub compare_exchange-requires-clause-word : goal.compare_exchange-requires-clause-word
compare_exchange-requires-clause-word g c =
    let at = c.requires.at in subst (λ n. c.args.word < n) (sym c.args.self.now.wide) (exchanges_within c.args.self.now.shape c.args.self.now.table.table.shared.key.own c.args.word _ _ _ at)

pub compare_exchange-requires-clause-permits : goal.compare_exchange-requires-clause-permits
compare_exchange-requires-clause-permits g c =
    let plan = c.args.self.now.table.table.shared.key in
    let me = c.args.seat.now.seat.me in
    let at : ExchangesAt plan.shape (deed me.0.part.seat c.args.kind) c.args.word c.args.old c.args.new = subst (λ s. ExchangesAt s (deed me.0.part.seat c.args.kind) c.args.word c.args.old c.args.new) (sym c.args.self.now.planned) c.requires.at in
    subst (λ k. Permitted g.C.Client.terms g.C.Object.Object.opens g.C.Object.Object.step plan c.args.self.now.table.table.shared.table_id.slots k me c.args.word (λ n. either (n == c.args.old) c.args.new n) (λ n. n)) (sym c.requires.kind)
    (may_exchange g.C.Client.terms g.C.Object.Object.opens g.C.Object.Object.step (lawful_of g.met.C.Client.kept_by_takes g.met.C.Client.kept_by_shows g.met.C.Client.kept_by_returns g.met.C.Client.kept_by_deferrals g.met.C.Client.kept_by_frees g.met.C.Client.kept_by_unpins) plan _ c.args.kind me c.requires.may c.args.word c.args.old c.args.new at)

pub returns-clause-makes : goal.returns-clause-makes
returns-clause-makes g c =
    let m = c.args.seat.now.seat.me in
    let plan = c.args.self.now.table.table.shared.key in
    let n = c.compare_exchange.new.seat.seat.me in
    makes_of g.C.Client.terms g.C.Object.Object.opens g.C.Object.Object.step plan c.args.kind m c.compare_exchange.result n
    (subst (λ k. Steps (manager_terms g.C.Client.terms) (PastOpens g.C.Object.Object.opens) (PastSteps g.C.Object.Object.step) plan (λ found e. TellsKind g.C.Client.terms plan m.0.number k m.0.part m.1 found e) m c.compare_exchange.result n) c.requires.kind c.compare_exchange.ensures.steps)
