use Rattle.std.proofs.Common.{refl, sym, subst}
use Rattle.epoch_laws.specs.Places.{Place, with_place}
use Rattle.epoch_laws.specs.States.{IsPlace}
use Rattle.epoch_laws.specs.StackSteps.{hand_link}
use Rattle.epoch_core.specs.Shown.{IsShowing}
use Rattle.epoch_core.proofs.machine.Machine.hand_link.Goals as goal

pub returns : goal.returns
unfolding hand_link
returns c s sh =
    let needs = c.in_ok-hand_link_needs.ensures.tells s sh in
    let inside = c.in_ok-hand_link_needs.ensures.place in
    let at_is = c.object_of.ensures.value in
    let P : Place → Type 0 = λ p. IsShowing c.put_next.new.self (record s { words = record s.words { next = with_place s.words.next p c.args.next } }) in
    (needs, refl, subst P at_is (c.put_next.ensures.shown s sh (subst (IsPlace c.args.self.now.shape) (sym at_is) inside)))
