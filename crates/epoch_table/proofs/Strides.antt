-- Places of objects by products that were worked out once.
use Rattle.std.proofs.Common.{◌≡◌, ◌+◌, ◌-◌, ◌*◌, ◌^◌, ◌<◌, ℕ, ap, ◌∙◌, arith}
use Rattle.pgas_base.specs.declared.shapes.Shape.{Shape}
use Rattle.epoch_laws.specs.Places.{Place}
use Rattle.epoch_laws.specs.States.{IsPlace}
use Rattle.epoch_table.specs.Layout.{IsLaidOut, objects_place, object_place}
use Rattle.epoch_table.proofs.Places.{object_within}

by_parts : (base l n i row : ℕ) → base + l * (n * row) + i * row ≡ base + (l * n + i) * row
by_parts base l n i row = grind arith

module _ (s : Shape) (tokens objects client object_words locale_words : ℕ) (is : IsLaidOut s tokens objects client object_words locale_words) (p : Place) where
  -- the place of an object
  pub place_by_parts : objects + p.locale * locale_words + (p.index - 1) * object_words ≡ object_place s p
  place_by_parts =
      ap (λ x. x + p.locale * locale_words + (p.index - 1) * object_words) is.objects_begin
      ∙ (ap (λ x. objects_place s + p.locale * x + (p.index - 1) * object_words) is.of_locale
      ∙ (ap (λ x. objects_place s + p.locale * (s.objects * (s.width + 2)) + (p.index - 1) * x) is.of_object
      ∙ by_parts (objects_place s) p.locale s.objects (p.index - 1) (s.width + 2)))

  -- the whole object stands low enough
  pub place_is_low : IsPlace s p → objects + p.locale * locale_words + (p.index - 1) * object_words + s.width + 1 < 2 ^ 32
  place_is_low inside =
      let within = object_within s p (s.width + 1) inside (omega arith) in
      omega (arith, within, place_by_parts, is.low, is.client_begins)
