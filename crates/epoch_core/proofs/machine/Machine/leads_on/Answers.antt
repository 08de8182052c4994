use Rattle.std.proofs.Common.{◌≡◌, ◌==◌, ◌%◌, false, ap, sym, ◌∙◌, subst, inl, inr}
use Rattle.std.proofs.lemmas.Bool.{cases_Bool}
use Rattle.pool_core.specs.declared.headers.Header.{Header}
use Rattle.epoch_laws.specs.Places.{Place, is_among, place_in}
use Rattle.epoch_laws.specs.States.{IsPlace}
use Rattle.epoch_core.specs.declared.marks.Role.TheVariants.{Hand}
use Rattle.epoch_core.proofs.SeatStores.{low_read}
use Rattle.epoch_core.proofs.WayLemmas.{leads_not, leads_test}
use Rattle.epoch_core.proofs.machine.Machine.leads_on.Goals as goal

pub returns-then-not-is_inside : goal.returns-then-not-is_inside
returns-then-not-is_inside c s sh =
    let low = low_read _ s sh c.args.seat c.requires in
    let off : is_among (place_in c.args.word) (s.seat c.args.seat).hand ≡ false = elim (cases_Bool (is_among (place_in c.args.word) (s.seat c.args.seat).hand)) [
      | inl on ↦
          let place = sh.marks.inside Hand c.args.seat (place_in c.args.word) low on in
          let inside = c.is_inside.ensures.1 (subst (IsPlace c.args.self.now.shape) (sym c.object_in-at.ensures) place) in
          absurd (cc (inside, c.if-not-is_inside.true))
      | inr off ↦ off
    ] in
    sym (leads_not s.words c.args.locale (s.seat c.args.seat).hand c.args.word off)

pub returns-then-at-locale : goal.returns-then-at-locale
returns-then-at-locale c s sh =
    let low = low_read _ s sh c.args.seat c.requires in
    let place = c.is_inside.ensures.0 c.if-not-is_inside.false in
    let has = ap (λ p. is_among p (s.seat c.args.seat).hand) (sym c.object_in-at.ensures) ∙ sym (c.is_kept.ensures s sh low place) ∙ c.if-not-is_kept.false in
    let locale = ap (λ (p : Place). p.locale) (sym c.object_in-at.ensures) ∙ c.if-at-locale.true in
    let count = c.from.ensures ∙ ap (λ (d : Header). d.count) (c.header_at.ensures s sh place) ∙ ap (λ p. (s.words.header p).count) c.object_in-at.ensures in
    ap (λ n. n == c.args.word % 4294967296) count ∙ leads_test s.words c.args.locale (s.seat c.args.seat).hand c.args.word has locale
