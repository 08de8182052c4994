use Rattle.std.proofs.Common.{◌≡◌, ◌+◌, ◌-◌, ◌*◌, ◌^◌, ◌<◌, sym, subst}
use Rattle.pgas_base.specs.declared.shapes.Shape.{Shape}
use Rattle.epoch_laws.specs.Places.{Place}
use Rattle.epoch_laws.specs.States.{IsPlace}
use Rattle.epoch_table.specs.Layout.{object_place}
use Rattle.epoch_table.proofs.Strides.{place_by_parts, place_is_low}
use Rattle.epoch_table.proofs.layout.Layout.header_at.Goals as goal

pub returns-clause-value : goal.returns-clause-value
returns-clause-value c =
    let l = c.self.inside in
    let p : Place = record { locale = c.args.locale; index = c.args.index } in
    let found = place_by_parts l.shape l.tokens l.objects l.client l.object_words l.locale_words c.self.invariant p in
    subst (λ (s : Shape). l.objects + p.locale * l.locale_words + (p.index - 1) * l.object_words ≡ object_place s p) c.self.view_is found

pub returns-clause-most : goal.returns-clause-most
returns-clause-most c =
    let l = c.self.inside in
    let p : Place = record { locale = c.args.locale; index = c.args.index } in
    let inside = subst (λ (s : Shape). IsPlace s p) (sym c.self.view_is) c.requires.place in
    let low = place_is_low l.shape l.tokens l.objects l.client l.object_words l.locale_words c.self.invariant p inside in
    subst (λ (s : Shape). l.objects + p.locale * l.locale_words + (p.index - 1) * l.object_words + s.width + 1 < 2 ^ 32) c.self.view_is low
