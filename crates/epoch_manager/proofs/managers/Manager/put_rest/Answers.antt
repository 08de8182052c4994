use Rattle.std.proofs.Common.{◌<◌, ◌∙◌, ap, refl, sym, subst, arith, None}
use Rattle.epoch_laws.specs.declared.steps.Kind.TheVariants.{StackLook}
use Rattle.epoch_laws.specs.Places.{place_of}
use Rattle.epoch_laws.specs.Seats.{is_reclaiming}
use Rattle.epoch_laws.specs.States.{IsPlace}
use Rattle.epoch_table.specs.Kinds.{Makes}
use Rattle.pass_table.specs.Passes.{me_of}
use Rattle.epoch_manager.specs.Managers.{plan_of}
use Rattle.epoch_manager.specs.TakeSeats.{HasOne}
use Rattle.epoch_manager.proofs.HandHomes.{home_place}
use Rattle.epoch_manager.proofs.StackPuts.{pa_below, pa_holds, p_spent, pa_may_link, pb_stack, pb_may_put, p_won, p_lost}
use Rattle.epoch_manager.proofs.StackTakes.{may_look}
use Rattle.epoch_manager.proofs.Takes.{reads_none, number_still}
use Rattle.epoch_manager.proofs.managers.Manager.put_rest.Goals as goal

pub loop-init : goal.loop-init
loop-init g c =
    let K = g.C.Client.terms in
    let o = g.C.Object.Object.opens in
    let s = g.C.Object.Object.step in
    let p = plan_of c.args.self.now in
    let first = c.args.first in
    let top = c.args.top in
    let tail = c.args.tail in
    let l = first.locale in
    let m = me_of c.args.seat.now in
    record { seat = c.requires.seat; reads = (None, reads_none K o s p l m); holds = c.requires.chain }

pub stack_look-requires-clause-seat : goal.stack_look-requires-clause-seat
stack_look-requires-clause-seat g c =
    let K = g.C.Client.terms in
    let o = g.C.Object.Object.opens in
    let s = g.C.Object.Object.step in
    let p = plan_of c.args.self.now in
    let first = c.args.first in
    let top = c.args.top in
    let tail = c.args.tail in
    let l = first.locale in
    let m = me_of c.args.seat.now in
    c.loop.invariant.seat

pub stack_look-requires-clause-may : goal.stack_look-requires-clause-may
stack_look-requires-clause-may g c =
    let K = g.C.Client.terms in
    let o = g.C.Object.Object.opens in
    let s = g.C.Object.Object.step in
    let p = plan_of c.args.self.now in
    let first = c.args.first in
    let top = c.args.top in
    let tail = c.args.tail in
    let l = first.locale in
    let m = me_of c.args.seat.now in
    let k = me_of c.loop.seat in
    let sofar = c.loop.invariant.reads in
    let holds = c.loop.invariant.holds in
    let under = sofar.1.under in
    let low = c.requires.below in
    let number = number_still K o s p m k sofar.1.looks under in
    let same = c.locale.ensures.value in
    may_look K o s p k c.locale.result (omega (arith, low, number)) (ap is_reclaiming under.same.phase ∙ c.requires.phase) (omega (arith, same, c.requires.locale))

pub hand_home-requires-clause-chain : goal.hand_home-requires-clause-chain
hand_home-requires-clause-chain g c =
    let K = g.C.Client.terms in
    let o = g.C.Object.Object.opens in
    let s = g.C.Object.Object.step in
    let p = plan_of c.args.self.now in
    let first = c.args.first in
    let top = c.args.top in
    let tail = c.args.tail in
    let l = first.locale in
    let m = me_of c.args.seat.now in
    let k = me_of c.loop.seat in
    let sofar = c.loop.invariant.reads in
    let holds = c.loop.invariant.holds in
    let a = me_of c.stack_look.new.seat in
    let hw = c.stack_look.result in
    let looks = subst (λ i. Makes K o s p (StackLook i) k hw a) c.locale.ensures.value c.stack_look.ensures.makes in
    let head = c.of_free_word-head in
    let count = head.result.count in
    let index = head.result.index in
    pa_holds K o s p m k a a a first top tail l count index hw 0 0 0 sofar.0 sofar.1 holds refl c.requires.below c.requires.phase head.ensures.count head.ensures.index looks

pub returns-then-head-eq-LAST_COUNT-clause-gets : goal.returns-then-head-eq-LAST_COUNT-clause-gets
returns-then-head-eq-LAST_COUNT-clause-gets g c =
    let K = g.C.Client.terms in
    let o = g.C.Object.Object.opens in
    let s = g.C.Object.Object.step in
    let p = plan_of c.args.self.now in
    let first = c.args.first in
    let top = c.args.top in
    let tail = c.args.tail in
    let l = first.locale in
    let m = me_of c.args.seat.now in
    let k = me_of c.loop.seat in
    let sofar = c.loop.invariant.reads in
    let holds = c.loop.invariant.holds in
    let a = me_of c.stack_look.new.seat in
    let hw = c.stack_look.result in
    let looks = subst (λ i. Makes K o s p (StackLook i) k hw a) c.locale.ensures.value c.stack_look.ensures.makes in
    let head = c.of_free_word-head in
    let count = head.result.count in
    let index = head.result.index in
    p_spent K o s p m k a a a first top tail l count index hw 0 0 0 sofar.0 sofar.1 holds refl c.requires.below c.requires.phase head.ensures.count head.ensures.index looks (me_of c.hand_home.new.seat) c.if-head-eq-LAST_COUNT.true c.hand_home.ensures.home

pub hand_link-requires-clause-place : goal.hand_link-requires-clause-place
hand_link-requires-clause-place g c =
    let K = g.C.Client.terms in
    let o = g.C.Object.Object.opens in
    let s = g.C.Object.Object.step in
    let p = plan_of c.args.self.now in
    let first = c.args.first in
    let top = c.args.top in
    let tail = c.args.tail in
    let l = first.locale in
    let m = me_of c.args.seat.now in
    let k = me_of c.loop.seat in
    let sofar = c.loop.invariant.reads in
    let holds = c.loop.invariant.holds in
    let a = me_of c.stack_look.new.seat in
    let hw = c.stack_look.result in
    let looks = subst (λ i. Makes K o s p (StackLook i) k hw a) c.locale.ensures.value c.stack_look.ensures.makes in
    let head = c.of_free_word-head in
    let count = head.result.count in
    let index = head.result.index in
    let low = pa_below K o s p m k a a a first top tail l count index hw 0 0 0 sofar.0 sofar.1 holds refl c.requires.below c.requires.phase head.ensures.count head.ensures.index looks in
    subst (λ h. IsPlace h (place_of tail)) c.args.self.now.words.planned (home_place K o s p a first tail (pa_holds K o s p m k a a a first top tail l count index hw 0 0 0 sofar.0 sofar.1 holds refl c.requires.below c.requires.phase head.ensures.count head.ensures.index looks) low)

pub hand_link-requires-clause-may : goal.hand_link-requires-clause-may
hand_link-requires-clause-may g c =
    let K = g.C.Client.terms in
    let o = g.C.Object.Object.opens in
    let s = g.C.Object.Object.step in
    let p = plan_of c.args.self.now in
    let first = c.args.first in
    let top = c.args.top in
    let tail = c.args.tail in
    let l = first.locale in
    let m = me_of c.args.seat.now in
    let k = me_of c.loop.seat in
    let sofar = c.loop.invariant.reads in
    let holds = c.loop.invariant.holds in
    let a = me_of c.stack_look.new.seat in
    let hw = c.stack_look.result in
    let looks = subst (λ i. Makes K o s p (StackLook i) k hw a) c.locale.ensures.value c.stack_look.ensures.makes in
    let head = c.of_free_word-head in
    let count = head.result.count in
    let index = head.result.index in
    pa_may_link K o s p m k a a a first top tail l count index hw c.link_to-below.result 0 c.link_to-below.result sofar.0 sofar.1 holds refl c.requires.below c.requires.phase head.ensures.count head.ensures.index looks

pub stack_put-found-requires-clause-locale : goal.stack_put-found-requires-clause-locale
stack_put-found-requires-clause-locale g c =
    let K = g.C.Client.terms in
    let o = g.C.Object.Object.opens in
    let s = g.C.Object.Object.step in
    let p = plan_of c.args.self.now in
    let first = c.args.first in
    let top = c.args.top in
    let tail = c.args.tail in
    let l = first.locale in
    let m = me_of c.args.seat.now in
    let k = me_of c.loop.seat in
    let sofar = c.loop.invariant.reads in
    let holds = c.loop.invariant.holds in
    let a = me_of c.stack_look.new.seat in
    let hw = c.stack_look.result in
    let looks = subst (λ i. Makes K o s p (StackLook i) k hw a) c.locale.ensures.value c.stack_look.ensures.makes in
    let head = c.of_free_word-head in
    let count = head.result.count in
    let index = head.result.index in
    let b = me_of c.hand_link.new.seat in
    let link = c.link_to-below.result in
    let links = c.hand_link.ensures.makes in
    let stack = pb_stack K o s p m k a b b first top tail l count index hw link 0 link sofar.0 sofar.1 holds refl c.requires.below c.requires.phase head.ensures.count head.ensures.index looks links in
    let same = c.locale-in-loop.ensures.value in
    (same ∙ sym (ap (λ x. x.locale) stack), subst (λ i. i < c.args.self.now.words.shape.locales) (sym same) (subst (λ h. l < h.locales) c.args.self.now.words.planned c.requires.locale))

pub stack_put-found-requires-clause-head : goal.stack_put-found-requires-clause-head
stack_put-found-requires-clause-head g c =
    let K = g.C.Client.terms in
    let o = g.C.Object.Object.opens in
    let s = g.C.Object.Object.step in
    let p = plan_of c.args.self.now in
    let first = c.args.first in
    let top = c.args.top in
    let tail = c.args.tail in
    let l = first.locale in
    let m = me_of c.args.seat.now in
    let k = me_of c.loop.seat in
    let sofar = c.loop.invariant.reads in
    let holds = c.loop.invariant.holds in
    let a = me_of c.stack_look.new.seat in
    let hw = c.stack_look.result in
    let looks = subst (λ i. Makes K o s p (StackLook i) k hw a) c.locale.ensures.value c.stack_look.ensures.makes in
    let head = c.of_free_word-head in
    let count = head.result.count in
    let index = head.result.index in
    let b = me_of c.hand_link.new.seat in
    let link = c.link_to-below.result in
    let links = c.hand_link.ensures.makes in
    let stack = pb_stack K o s p m k a b b first top tail l count index hw link 0 link sofar.0 sofar.1 holds refl c.requires.below c.requires.phase head.ensures.count head.ensures.index looks links in
    sym (ap (λ x. x.head) stack)

pub stack_put-found-requires-clause-may : goal.stack_put-found-requires-clause-may
stack_put-found-requires-clause-may g c =
    let K = g.C.Client.terms in
    let o = g.C.Object.Object.opens in
    let s = g.C.Object.Object.step in
    let p = plan_of c.args.self.now in
    let first = c.args.first in
    let top = c.args.top in
    let tail = c.args.tail in
    let l = first.locale in
    let m = me_of c.args.seat.now in
    let k = me_of c.loop.seat in
    let sofar = c.loop.invariant.reads in
    let holds = c.loop.invariant.holds in
    let a = me_of c.stack_look.new.seat in
    let hw = c.stack_look.result in
    let looks = subst (λ i. Makes K o s p (StackLook i) k hw a) c.locale.ensures.value c.stack_look.ensures.makes in
    let head = c.of_free_word-head in
    let count = head.result.count in
    let index = head.result.index in
    let b = me_of c.hand_link.new.seat in
    let link = c.link_to-below.result in
    let links = c.hand_link.ensures.makes in
    let most = head.ensures.count_bound in
    let ne = c.if-head-eq-LAST_COUNT.false in
    pb_may_put K o s p m k a b b first top tail l count index hw link 0 link sofar.0 sofar.1 holds refl c.requires.below c.requires.phase head.ensures.count head.ensures.index looks links c.link_to-below.ensures (omega (arith, most, ne))

pub returns-then-found-free_word-clause-gets : goal.returns-then-found-free_word-clause-gets
returns-then-found-free_word-clause-gets g c =
    let K = g.C.Client.terms in
    let o = g.C.Object.Object.opens in
    let s = g.C.Object.Object.step in
    let p = plan_of c.args.self.now in
    let first = c.args.first in
    let top = c.args.top in
    let tail = c.args.tail in
    let l = first.locale in
    let m = me_of c.args.seat.now in
    let k = me_of c.loop.seat in
    let sofar = c.loop.invariant.reads in
    let holds = c.loop.invariant.holds in
    let a = me_of c.stack_look.new.seat in
    let hw = c.stack_look.result in
    let looks = subst (λ i. Makes K o s p (StackLook i) k hw a) c.locale.ensures.value c.stack_look.ensures.makes in
    let head = c.of_free_word-head in
    let count = head.result.count in
    let index = head.result.index in
    let b = me_of c.hand_link.new.seat in
    let link = c.link_to-below.result in
    let links = c.hand_link.ensures.makes in
    let d = me_of c.stack_put-found.new.seat in
    let found = c.stack_put-found.result in
    let won = p_won K o s p m k a b d first top tail l count index hw link found link sofar.0 sofar.1 holds refl c.requires.below c.requires.phase head.ensures.count head.ensures.index looks links c.link_to-below.ensures c.stack_put-found.ensures.makes (c.if-found-free_word.true ∙ c.free_word.ensures.value) head.ensures.index_bound c.if-head-eq-LAST_COUNT.false in
    (won.0, (won.1.0, subst (λ i. HasOne p.shape (me_of c.stack_put-found.new.seat).0.part (record { locale = l; index = i })) (sym c.index.ensures.value) won.1.1, won.1.2))

pub loop-preserved : goal.loop-preserved
loop-preserved g c =
    let K = g.C.Client.terms in
    let o = g.C.Object.Object.opens in
    let s = g.C.Object.Object.step in
    let p = plan_of c.args.self.now in
    let first = c.args.first in
    let top = c.args.top in
    let tail = c.args.tail in
    let l = first.locale in
    let m = me_of c.args.seat.now in
    let k = me_of c.loop.seat in
    let sofar = c.loop.invariant.reads in
    let holds = c.loop.invariant.holds in
    let a = me_of c.stack_look.new.seat in
    let hw = c.stack_look.result in
    let looks = subst (λ i. Makes K o s p (StackLook i) k hw a) c.locale.ensures.value c.stack_look.ensures.makes in
    let head = c.of_free_word-head in
    let count = head.result.count in
    let index = head.result.index in
    let b = me_of c.hand_link.new.seat in
    let link = c.link_to-below.result in
    let links = c.hand_link.ensures.makes in
    let d = me_of c.stack_put-found.new.seat in
    let found = c.stack_put-found.result in
    let lost = p_lost K o s p m k a b d first top tail l count index hw link found link sofar.0 sofar.1 holds refl c.requires.below c.requires.phase head.ensures.count head.ensures.index looks links c.link_to-below.ensures c.stack_put-found.ensures.makes (λ e. c.if-found-free_word.false (e ∙ sym c.free_word.ensures.value)) in
    record { seat = c.stack_put-found.ensures.seat; reads = (lost.0, lost.1); holds = lost.2 }
