use Rattle.std.proofs.Common.{◌≡◌, ◌∙◌, sym}
use Rattle.std.proofs.lemmas.List.Elements.{All-map, All-same}
use Rattle.std.specs.Slots.{slots_items}
use Rattle.pass_table.specs.Passes.{pass_opening as table_opening, opening_of as table_opening_of}
use Rattle.epoch_manager.proofs.Closings.{closes_manager}
use Rattle.epoch_manager.proofs.managers.Manager.close.Goals as goal

pub close-client-requires-clause-opening : goal.close-client-requires-clause-opening
close-client-requires-clause-opening g c =
    let d = c.args.self.words.table in
    All-same (λ q. table_opening q ≡ table_opening_of d) _ _ c.bare.ensures (All-map (λ q. table_opening q ≡ table_opening_of d) (λ p. p.pass) c.args.passes.items c.requires.opening)

pub returns-clause-ok : goal.returns-clause-ok
returns-clause-ok g c =
    let m = c.args.self in
    let closed = c.close-client.result.1 in
    closes_manager g.C.Client.terms g.C.Object.Object.opens g.C.Object.Object.step m c.bare.result.items c.args.passes.items (slots_items closed.words) (slots_items closed.slots) c.bare.ensures c.close-client.ensures.closes
    m.shape m.own c.close-client.result.0 c.read_words-words.result.items c.read_rows-rows.result.items m.planned m.owns (c.close-client.ensures.client ∙ sym m.words.of_client) c.read_words-words.ensures.count c.read_words-words.ensures.each
    c.read_rows-rows.ensures.count c.read_rows-rows.ensures.each
