use Rattle.std.proofs.Common.{◌≡◌, ◌<◌, arith, length, map, refl, slice_index, subst, sym, ℕ, List}
use mathlib.Core.Option.{some}
use Rattle.epoch_table.specs.Layout.{opening_number, site_at, table_words}
use Rattle.epoch_table.proofs.Openings.{opens_with}
use Rattle.epoch_table.proofs.words.Words.open.Goals as goal

pub open-requires-clause-opens : goal.open-requires-clause-opens
open-requires-clause-opens g c = (refl, g.met.C.Client.object_opens c.args.client)

pub open-requires-clause-rule : goal.open-requires-clause-rule
open-requires-clause-rule g c =
    let made = c.in_ok-words.ensures in
    let same = c.as_slice.ensures.value in
    let shape = c.args.shape in
    let own = c.words-own.result in
    opens_with g.C.Client.terms (record { shape = shape; start = c.args.start; callers = c.args.callers; client = c.args.client; own = own }) c.as_slice.result.now
    (subst (λ (l : List ℕ). length l ≡ table_words shape own) (sym same) made.0)
    (subst (λ (l : List ℕ). (at : ℕ) → at < table_words shape own → slice_index l at ≡ opening_number shape c.args.start (site_at shape at)) (sym same) made.1)
    g.met.C.Client.opens c.requires.shape c.requires.start (omega arith) c.words-own.ensures.count (map (λ x. some x) c.new.result.items)
