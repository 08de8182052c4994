-- No two words of a manager stand at one place.
use Rattle.std.proofs.Common.{◌≡◌, ◌<◌, ◌+◌, ◌-◌, ◌*◌, ◌/◌, ◌%◌, ℕ, refl, ap, ap₂, sym, ◌∙◌, arith}
use Rattle.std.proofs.lemmas.Bool.{lt-ltb, le-ltb}
use Rattle.std.proofs.lemmas.Nat.{div-mul-add, mod-mul-add, mul-add-lt}
use Rattle.pgas_base.specs.declared.shapes.Shape.{Shape}
use Rattle.epoch_laws.specs.declared.tokens.Token.{Token}
use Rattle.epoch_laws.specs.Places.{Place}
use Rattle.epoch_laws.specs.States.{IsPlace}
use Rattle.epoch_laws.specs.Timing.{IsToken}
use Rattle.epoch_laws.specs.Words.{WordName, global_epoch, global_election, local_epoch, local_election, list, free_stack, home_chain, token, header_of, next_of}
use Rattle.epoch_table.specs.Layout.{Site, Named, InRow, OfClient, tokens_place, objects_place, client_place, object_place, named_place, place, IsNamed, IsSite, locale_site, object_site, object_at, token_in, site_at}

module _ (shape : Shape) where
  locale_found : (l r : ℕ) → l < shape.locales → r < 40 → site_at shape (16 + l * 40 + r) ≡ locale_site l r
  unfolding site_at
  locale_found l r low small =
      let less : 16 + l * 40 + r < tokens_place shape = omega (arith, mul-add-lt l 40 r shape.locales low small) in
      let off : 16 + l * 40 + r - 16 ≡ l * 40 + r = omega arith in
      rw (le-ltb (16 + l * 40 + r) 16 (omega arith), lt-ltb (16 + l * 40 + r) (tokens_place shape) less)
      (ap₂ locale_site (ap (λ x. x / 40) off ∙ div-mul-add l 40 r small) (ap (λ x. x % 40) off ∙ mod-mul-add l 40 r small))

  token_found : (t : Token) → IsToken shape.locales shape.tokens t → site_at shape (tokens_place shape + (t.locale * shape.tokens + t.number) * 8) ≡ Named (token t)
  unfolding site_at token_in
  token_found t is =
      let i = t.locale * shape.tokens + t.number in
      let n = tokens_place shape + i * 8 in
      let low : i < shape.locales * shape.tokens = omega (arith, mul-add-lt t.locale shape.tokens t.number shape.locales is.locale is.number) in
      let less : n < objects_place shape = omega (arith, mul-add-lt i 8 0 (shape.locales * shape.tokens) low (omega arith)) in
      let off : n - tokens_place shape ≡ i * 8 + 0 = omega arith in
      let number : (n - tokens_place shape) / 8 ≡ i = ap (λ x. x / 8) off ∙ div-mul-add i 8 0 (omega arith) in
      rw (le-ltb n 16 (omega arith), le-ltb n (tokens_place shape) (omega arith), lt-ltb n (objects_place shape) less)
      (ap (λ x. Named (token (record { locale = x / shape.tokens; number = x % shape.tokens }))) number
      ∙ λ k. Named (token (record { locale = div-mul-add t.locale shape.tokens t.number is.number k; number = mod-mul-add t.locale shape.tokens t.number is.number k })))

  object_found : (p : Place) (r : ℕ) → IsPlace shape p → r < shape.width + 2 → site_at shape (object_place shape p + r) ≡ object_site p r
  unfolding site_at object_at
  object_found p r is small =
      let i = p.locale * shape.objects + (p.index - 1) in
      let w = shape.width + 2 in
      let n = object_place shape p + r in
      let index : p.index - 1 < shape.objects = (let a = is.some_object in let b = is.index in omega (arith, a, b)) in
      let low : i < shape.locales * shape.objects = omega (arith, mul-add-lt p.locale shape.objects (p.index - 1) shape.locales is.locale index) in
      let within : i * w + r < shape.locales * shape.objects * w = omega (arith, mul-add-lt i w r (shape.locales * shape.objects) low small) in
      let less : n < client_place shape = omega (arith, within) in
      let off : n - objects_place shape ≡ i * w + r = omega arith in
      let back : p.index - 1 + 1 ≡ p.index = (let a = is.some_object in omega (arith, a)) in
      let at : Place = record { locale = i / shape.objects; index = i % shape.objects + 1 } in
      let same : at ≡ p = λ k. record { locale = div-mul-add p.locale shape.objects (p.index - 1) index k; index = (ap (λ x. x + 1) (mod-mul-add p.locale shape.objects (p.index - 1) index) ∙ back) k } in
      rw (le-ltb n 16 (omega arith), le-ltb n (tokens_place shape) (omega arith), le-ltb n (objects_place shape) (omega arith), lt-ltb n (client_place shape) less)
      (ap₂ object_site (ap (λ x. object_at shape (x / w)) off ∙ ap (object_at shape) (div-mul-add i w r small) ∙ same) (ap (λ x. x % w) off ∙ mod-mul-add i w r small))

  pub object_within : (p : Place) (r : ℕ) → IsPlace shape p → r < shape.width + 2 → object_place shape p + r < client_place shape
  object_within p r is small =
      let i = p.locale * shape.objects + (p.index - 1) in
      let index : p.index - 1 < shape.objects = (let a = is.some_object in let b = is.index in omega (arith, a, b)) in
      let low : i < shape.locales * shape.objects = omega (arith, mul-add-lt p.locale shape.objects (p.index - 1) shape.locales is.locale index) in
      omega (arith, mul-add-lt i (shape.width + 2) r (shape.locales * shape.objects) low small)

  -- a word of a row stands below the client's
  pub row_within : (p : Place) (at : ℕ) → IsPlace shape p → at < shape.width → place shape (InRow p at) < client_place shape
  row_within p at is low = omega (arith, object_within p (2 + at) is (omega (arith, low)))

  client_found : (word : ℕ) → site_at shape (client_place shape + word * 8) ≡ OfClient word
  unfolding site_at
  client_found word =
      let n = client_place shape + word * 8 in
      let off : n - client_place shape ≡ word * 8 + 0 = omega arith in
      rw (le-ltb n 16 (omega arith), le-ltb n (tokens_place shape) (omega arith), le-ltb n (objects_place shape) (omega arith), le-ltb n (client_place shape) (omega arith))
      (ap (λ x. OfClient (x / 8)) off ∙ ap OfClient (div-mul-add word 8 0 (omega arith)))

  named_found : (name : WordName) → IsNamed shape name → site_at shape (named_place shape name) ≡ Named name
  unfolding site_at locale_site object_site
  named_found global_epoch is = refl
  named_found global_election is = refl
  named_found (local_epoch l) is = let e : named_place shape (local_epoch l) ≡ 16 + l * 40 + 0 = omega arith in ap (site_at shape) e ∙ locale_found l 0 is (omega arith)
  named_found (local_election l) is = locale_found l 8 is (omega arith)
  named_found (list l m) is =
      let small : m < 4 = is.1 in
      let off : 16 + m - 16 ≡ m = omega arith in
      let e : named_place shape (list l m) ≡ 16 + l * 40 + (16 + m) = omega arith in
      ap (site_at shape) e ∙ (locale_found l (16 + m) is.0 (omega (arith, small))
      ∙ rw (le-ltb (16 + m) 8 (omega arith), le-ltb (16 + m) 16 (omega arith), lt-ltb (16 + m) 24 (omega (arith, small)), off) refl)
  named_found (free_stack l) is = locale_found l 24 is (omega arith)
  named_found (home_chain l) is = locale_found l 32 is (omega arith)
  named_found (token t) is = token_found t is
  named_found (header_of p) is = let e : named_place shape (header_of p) ≡ object_place shape p + 0 = omega arith in ap (site_at shape) e ∙ object_found p 0 is (omega arith)
  named_found (next_of p) is = object_found p 1 is (omega arith)

  pub site_found : (site : Site) → IsSite shape site → site_at shape (place shape site) ≡ site
  unfolding object_site
  site_found (Named name) is = named_found name is
  site_found (InRow p at) is =
      let small : at < shape.width = is.1 in
      let off : 2 + at - 2 ≡ at = omega arith in
      let e : place shape (InRow p at) ≡ object_place shape p + (2 + at) = omega arith in
      ap (site_at shape) e ∙ (object_found p (2 + at) is.0 (omega (arith, small))
      ∙ rw (le-ltb (2 + at) 1 (omega arith), le-ltb (2 + at) 2 (omega arith), off) refl)
  site_found (OfClient word) is = client_found word

  -- of two words at one place each is the other
  pub one_site : (a b : Site) → IsSite shape a → IsSite shape b → place shape a ≡ place shape b → a ≡ b
  one_site a b is_a is_b same = sym (site_found a is_a) ∙ (ap (site_at shape) same ∙ site_found b is_b)

  -- each word stands in the table
  pub named_within : (name : WordName) → IsNamed shape name → named_place shape name < client_place shape
  named_within global_epoch is = omega arith
  named_within global_election is = omega arith
  named_within (local_epoch l) is = omega (arith, mul-add-lt l 40 0 shape.locales is (omega arith))
  named_within (local_election l) is = omega (arith, mul-add-lt l 40 8 shape.locales is (omega arith))
  named_within (list l m) is = let small : m < 4 = is.1 in omega (arith, small, mul-add-lt l 40 (16 + m) shape.locales is.0 (omega (arith, small)))
  named_within (free_stack l) is = omega (arith, mul-add-lt l 40 24 shape.locales is (omega arith))
  named_within (home_chain l) is = omega (arith, mul-add-lt l 40 32 shape.locales is (omega arith))
  named_within (token t) is =
      let low : t.locale * shape.tokens + t.number < shape.locales * shape.tokens = omega (arith, mul-add-lt t.locale shape.tokens t.number shape.locales is.locale is.number) in
      omega (arith, mul-add-lt (t.locale * shape.tokens + t.number) 8 0 (shape.locales * shape.tokens) low (omega arith))
  named_within (header_of p) is = omega (arith, object_within p 0 is (omega arith))
  named_within (next_of p) is = object_within p 1 is (omega arith)
