use Rattle.std.proofs.Common.{◌≡◌, suc, ap, sym, ◌∙◌, subst, refl, arith, add-one}
use Rattle.epoch_laws.specs.Chains.{Reaches, leads_into, led_in}
use Rattle.epoch_laws.specs.Places.{place_of}
use Rattle.epoch_core.specs.Ends.{IsWay, ends_at, hand_but, path}
use Rattle.epoch_core.specs.Objects.{object_place}
use Rattle.epoch_core.specs.Shown.{IsShowing}
use Rattle.epoch_core.proofs.HandStores.{hand_all}
use Rattle.epoch_core.proofs.SeatStores.{counts_read, low_read}
use Rattle.epoch_core.proofs.WayLemmas.{walks-begin}
use Rattle.epoch_core.proofs.WayLoops.{GoesOn, breaks_off, ends_badly, ends_well, goes_on, is_way, less, never_through, next_at, sh_after}
use Rattle.epoch_core.proofs.machine.Machine.let_go.Goals as goal

pub loop-met-init : goal.loop-met-init
loop-met-init c = record {
  seats = refl;
  on = λ s sh has.
      let low = low_read _ s sh c.args.seat c.requires in
      let counts = counts_read _ s sh c.args.seat c.index.result.now low c.index.ensures in
      (walks-begin s.words (s.seat c.args.seat).hand c.args.top.locale (ends_at c.args.end) (place_of c.args.tail) (place_of c.args.top) _ refl has, hand_all _ s c.args.seat sh, c.object_of-at.ensures.value, omega (arith, counts.0));
}

pub returns-then-passes-clause-tells : goal.returns-then-passes-clause-tells
returns-then-passes-clause-tells c s sh has =
    let i = c.loop-met.met in
    let low = low_read _ s sh c.args.seat c.requires in
    let on = sym c.is_same-at_tail.ensures ∙ c.if-at_tail.true in
    let good = sym c.passes.ensures ∙ c.if-passes.true in
    subst (λ n. (led_in s.words (s.seat c.args.seat).hand (ends_at c.args.end) (place_of c.args.top) (place_of c.args.tail) ≡ Reaches (path s.words (place_of c.args.top) n)) × IsWay s.words (s.seat c.args.seat).hand (place_of c.args.top) n × IsShowing c.hand_to_none.new.self (hand_but s c.args.seat (path s.words (place_of c.args.top) n))) (sym (add-one i))
    (ends_well c.args.self.now c.loop-met.self c.hand_to_none.new.self s c.args.seat c.index.result.now.hand c.args.top c.args.tail c.args.end i (object_place c.loop-met.at) (object_place c.object_of-last.result) c.next_of-word.result sh has c.loop-met.invariant c.hand_to_none.ensures.shown c.hand_to_none.ensures.fewer c.next_of-word.ensures low c.object_of-last.ensures.value on good, is_way c.args.self.now c.loop-met.self c.hand_to_none.new.self s c.args.seat c.index.result.now.hand c.args.top c.args.tail c.args.end i (object_place c.loop-met.at) (object_place c.object_of-last.result) c.next_of-word.result sh has c.loop-met.invariant c.hand_to_none.ensures.shown c.hand_to_none.ensures.fewer c.next_of-word.ensures low c.object_of-last.ensures.value, sh_after c.args.self.now c.loop-met.self c.hand_to_none.new.self s c.args.seat c.index.result.now.hand c.args.top c.args.tail c.args.end i (object_place c.loop-met.at) (object_place c.object_of-last.result) c.next_of-word.result sh has c.loop-met.invariant c.hand_to_none.ensures.shown c.hand_to_none.ensures.fewer c.next_of-word.ensures low c.object_of-last.ensures.value)

pub returns-then-at_tail-clause-tells : goal.returns-then-at_tail-clause-tells
returns-then-at_tail-clause-tells c s sh has =
    let i = c.loop-met.met in
    let low = low_read _ s sh c.args.seat c.requires in
    let on = sym c.is_same-at_tail.ensures ∙ c.if-at_tail.true in
    let bad = sym c.passes.ensures ∙ c.if-passes.false in
    let sh_now = subst (λ n. IsShowing c.hand_to_none.new.self (hand_but s c.args.seat (path s.words (place_of c.args.top) n))) (sym (add-one i)) (sh_after c.args.self.now c.loop-met.self c.hand_to_none.new.self s c.args.seat c.index.result.now.hand c.args.top c.args.tail c.args.end i (object_place c.loop-met.at) (object_place c.object_of-last.result) c.next_of-word.result sh has c.loop-met.invariant c.hand_to_none.ensures.shown c.hand_to_none.ensures.fewer c.next_of-word.ensures low c.object_of-last.ensures.value) in
    let way_now = subst (λ n. IsWay s.words (s.seat c.args.seat).hand (place_of c.args.top) n) (sym (add-one i)) (is_way c.args.self.now c.loop-met.self c.hand_to_none.new.self s c.args.seat c.index.result.now.hand c.args.top c.args.tail c.args.end i (object_place c.loop-met.at) (object_place c.object_of-last.result) c.next_of-word.result sh has c.loop-met.invariant c.hand_to_none.ensures.shown c.hand_to_none.ensures.fewer c.next_of-word.ensures low c.object_of-last.ensures.value) in
    (ends_badly c.args.self.now c.loop-met.self c.hand_to_none.new.self s c.args.seat c.index.result.now.hand c.args.top c.args.tail c.args.end i (object_place c.loop-met.at) (object_place c.object_of-last.result) c.next_of-word.result sh has c.loop-met.invariant c.hand_to_none.ensures.shown c.hand_to_none.ensures.fewer c.next_of-word.ensures low c.object_of-last.ensures.value on bad, refl, c.take_again.ensures.shown c.args.self.now s sh sh_now way_now)

pub returns-then-not-leads_on-clause-tells : goal.returns-then-not-leads_on-clause-tells
returns-then-not-leads_on-clause-tells c s sh has =
    let i = c.loop-met.met in
    let low = low_read _ s sh c.args.seat c.requires in
    let off = sym c.is_same-at_tail.ensures ∙ c.if-at_tail.false in
    let sh_one = sh_after c.args.self.now c.loop-met.self c.hand_to_none.new.self s c.args.seat c.index.result.now.hand c.args.top c.args.tail c.args.end i (object_place c.loop-met.at) (object_place c.object_of-last.result) c.next_of-word.result sh has c.loop-met.invariant c.hand_to_none.ensures.shown c.hand_to_none.ensures.fewer c.next_of-word.ensures low c.object_of-last.ensures.value in
    let locale_is = ap (λ p. p.locale) c.object_of-at.ensures.value in
    let bad = ap (λ l. leads_into s.words l (((hand_but s c.args.seat (path s.words (place_of c.args.top) (suc i))).seat c.args.seat).hand) c.next_of-word.result) (sym locale_is) ∙ sym (c.leads_on.ensures _ sh_one) ∙ c.if-not-leads_on.true in
    let sh_now = subst (λ n. IsShowing c.hand_to_none.new.self (hand_but s c.args.seat (path s.words (place_of c.args.top) n))) (sym (add-one i)) sh_one in
    let way_now = subst (λ n. IsWay s.words (s.seat c.args.seat).hand (place_of c.args.top) n) (sym (add-one i)) (is_way c.args.self.now c.loop-met.self c.hand_to_none.new.self s c.args.seat c.index.result.now.hand c.args.top c.args.tail c.args.end i (object_place c.loop-met.at) (object_place c.object_of-last.result) c.next_of-word.result sh has c.loop-met.invariant c.hand_to_none.ensures.shown c.hand_to_none.ensures.fewer c.next_of-word.ensures low c.object_of-last.ensures.value) in
    (breaks_off c.args.self.now c.loop-met.self c.hand_to_none.new.self s c.args.seat c.index.result.now.hand c.args.top c.args.tail c.args.end i (object_place c.loop-met.at) (object_place c.object_of-last.result) c.next_of-word.result sh has c.loop-met.invariant c.hand_to_none.ensures.shown c.hand_to_none.ensures.fewer c.next_of-word.ensures low c.object_of-last.ensures.value off bad, refl, c.take_again-then-not-leads_on.ensures.shown c.args.self.now s sh sh_now way_now)

pub loop-met-preserved : goal.loop-met-preserved
loop-met-preserved c =
    let i = c.loop-met.met in
    subst (λ n. GoesOn c.args.self.now c.hand_to_none.new.self c.args.seat c.index.result.now.hand c.args.top c.args.tail c.args.end n (object_place c.object_in-at.result)) (sym (add-one i)) (record {
      seats = c.hand_to_none.ensures.seats ∙ c.loop-met.invariant.seats;
      on = λ s sh has.
          let low = low_read _ s sh c.args.seat c.requires in
          let off = sym c.is_same-at_tail.ensures ∙ c.if-at_tail.false in
          let sh_one = sh_after c.args.self.now c.loop-met.self c.hand_to_none.new.self s c.args.seat c.index.result.now.hand c.args.top c.args.tail c.args.end i (object_place c.loop-met.at) (object_place c.object_of-last.result) c.next_of-word.result sh has c.loop-met.invariant c.hand_to_none.ensures.shown c.hand_to_none.ensures.fewer c.next_of-word.ensures low c.object_of-last.ensures.value in
          let locale_is = ap (λ p. p.locale) c.object_of-at.ensures.value in
          let good = ap (λ l. leads_into s.words l (((hand_but s c.args.seat (path s.words (place_of c.args.top) (suc i))).seat c.args.seat).hand) c.next_of-word.result) (sym locale_is) ∙ sym (c.leads_on.ensures _ sh_one) ∙ c.if-not-leads_on.false in
          (goes_on c.args.self.now c.loop-met.self c.hand_to_none.new.self s c.args.seat c.index.result.now.hand c.args.top c.args.tail c.args.end i (object_place c.loop-met.at) (object_place c.object_of-last.result) c.next_of-word.result sh has c.loop-met.invariant c.hand_to_none.ensures.shown c.hand_to_none.ensures.fewer c.next_of-word.ensures low c.object_of-last.ensures.value off good, sh_one, next_at c.args.self.now c.loop-met.self c.hand_to_none.new.self s c.args.seat c.index.result.now.hand c.args.top c.args.tail c.args.end i (object_place c.loop-met.at) (object_place c.object_of-last.result) c.next_of-word.result sh has c.loop-met.invariant c.hand_to_none.ensures.shown c.hand_to_none.ensures.fewer c.next_of-word.ensures low c.object_of-last.ensures.value (object_place c.object_in-at.result) c.object_in-at.ensures, less c.args.self.now c.loop-met.self c.hand_to_none.new.self s c.args.seat c.index.result.now.hand c.args.top c.args.tail c.args.end i (object_place c.loop-met.at) (object_place c.object_of-last.result) c.next_of-word.result sh has c.loop-met.invariant c.hand_to_none.ensures.shown c.hand_to_none.ensures.fewer c.next_of-word.ensures low c.object_of-last.ensures.value);
    })

pub returns-clause-tells : goal.returns-clause-tells
returns-clause-tells c s sh has =
    let low = low_read _ s sh c.args.seat c.requires in
    absurd (never_through c.args.self.now c.loop-met.self s c.args.seat c.index.result.now.hand c.args.top c.args.tail c.args.end c.loop-met.met (object_place c.loop-met.at) sh has low c.loop-met.invariant c.loop-met-test.false)
