use Rattle.std.proofs.Common.{◌∙◌, ap, sym, subst, arith, ◌<◌, None, Some, refl}
use Rattle.epoch_laws.specs.Places.{index_in}
use Rattle.epoch_laws.specs.Seats.{is_reclaiming}
use Rattle.epoch_laws.specs.StackSteps.{looked_top}
use Rattle.pass_table.specs.Passes.{me_of}
use Rattle.epoch_manager.specs.Managers.{plan_of}
use Rattle.epoch_manager.proofs.Takes.{reads_none, number_still}
use Rattle.epoch_manager.proofs.StackTakes.{may_look, may_next, may_pop, a_reads, a_empty, a_spent, a_unspent, a_stack, b_reads, b_stack, b_empty, d_won, d_lost}
use Rattle.epoch_manager.proofs.managers.Manager.pop.Goals as goal

pub loop-init : goal.loop-init
loop-init g c =
    let K = g.C.Client.terms in
    let o = g.C.Object.Object.opens in
    let s = g.C.Object.Object.step in
    let p = plan_of c.args.self.now in
    let l = c.args.locale in
    let m = me_of c.args.seat.now in
    record { seat = c.requires.seat; reads = (None, reads_none K o s p l m); empty = c.requires.empty }

pub stack_look-requires-clause-may : goal.stack_look-requires-clause-may
stack_look-requires-clause-may g c =
    let K = g.C.Client.terms in
    let o = g.C.Object.Object.opens in
    let s = g.C.Object.Object.step in
    let p = plan_of c.args.self.now in
    let l = c.args.locale in
    let m = me_of c.args.seat.now in
    let k = me_of c.loop.seat in
    let sofar = c.loop.invariant.reads in
    let empty = c.loop.invariant.empty in
    let under = sofar.1.under in
    let low = c.requires.below in
    let number = number_still K o s p m k sofar.1.looks under in
    may_look K o s p k l (omega arith) (ap is_reclaiming under.same.phase ∙ c.requires.phase) c.requires.locale

pub returns-then-head-eq-LAST_COUNT-clause-gets : goal.returns-then-head-eq-LAST_COUNT-clause-gets
returns-then-head-eq-LAST_COUNT-clause-gets g c =
    let K = g.C.Client.terms in
    let o = g.C.Object.Object.opens in
    let s = g.C.Object.Object.step in
    let p = plan_of c.args.self.now in
    let l = c.args.locale in
    let m = me_of c.args.seat.now in
    let k = me_of c.loop.seat in
    let sofar = c.loop.invariant.reads in
    let empty = c.loop.invariant.empty in
    let a = me_of c.stack_look.new.seat in
    let looks = c.stack_look.ensures.makes in
    let head = c.of_free_word-head in
    let count = head.result.count in
    let index = head.result.index in
    let spent = a_spent K o s p l count index m k a a a sofar.0 sofar.1 empty c.requires.locale c.stack_look.result 0 0 head.ensures.count head.ensures.index looks c.if-head-eq-LAST_COUNT.true in
    (Some c.stack_look.result, refl, (a_reads K o s p l count index m k a a a sofar.0 sofar.1 empty c.requires.locale c.stack_look.result 0 0 head.ensures.count head.ensures.index looks, a_empty K o s p l count index m k a a a sofar.0 sofar.1 empty c.requires.locale c.stack_look.result 0 0 head.ensures.count head.ensures.index looks, spent.0, spent.1))

pub returns-then-head-eq0-clause-gets : goal.returns-then-head-eq0-clause-gets
returns-then-head-eq0-clause-gets g c =
    let K = g.C.Client.terms in
    let o = g.C.Object.Object.opens in
    let s = g.C.Object.Object.step in
    let p = plan_of c.args.self.now in
    let l = c.args.locale in
    let m = me_of c.args.seat.now in
    let k = me_of c.loop.seat in
    let sofar = c.loop.invariant.reads in
    let empty = c.loop.invariant.empty in
    let a = me_of c.stack_look.new.seat in
    let looks = c.stack_look.ensures.makes in
    let head = c.of_free_word-head in
    let count = head.result.count in
    let index = head.result.index in
    (Some c.stack_look.result, refl, (a_reads K o s p l count index m k a a a sofar.0 sofar.1 empty c.requires.locale c.stack_look.result 0 0 head.ensures.count head.ensures.index looks, a_empty K o s p l count index m k a a a sofar.0 sofar.1 empty c.requires.locale c.stack_look.result 0 0 head.ensures.count head.ensures.index looks, a_unspent K o s p l count index m k a a a sofar.0 sofar.1 empty c.requires.locale c.stack_look.result 0 0 head.ensures.count head.ensures.index looks c.if-head-eq-LAST_COUNT.false))

pub stack_next-next-requires-clause-top : goal.stack_next-next-requires-clause-top
stack_next-next-requires-clause-top g c =
    let K = g.C.Client.terms in
    let o = g.C.Object.Object.opens in
    let s = g.C.Object.Object.step in
    let p = plan_of c.args.self.now in
    let l = c.args.locale in
    let m = me_of c.args.seat.now in
    let k = me_of c.loop.seat in
    let sofar = c.loop.invariant.reads in
    let empty = c.loop.invariant.empty in
    let a = me_of c.stack_look.new.seat in
    let looks = c.stack_look.ensures.makes in
    let head = c.of_free_word-head in
    let count = head.result.count in
    let index = head.result.index in
    ap looked_top (a_stack K o s p l count index m k a a a sofar.0 sofar.1 empty c.requires.locale c.stack_look.result 0 0 head.ensures.count head.ensures.index looks) ∙ ap (λ i. record { locale = l; index = i }) (sym head.ensures.index)

pub stack_next-next-requires-clause-may : goal.stack_next-next-requires-clause-may
stack_next-next-requires-clause-may g c =
    let K = g.C.Client.terms in
    let o = g.C.Object.Object.opens in
    let s = g.C.Object.Object.step in
    let p = plan_of c.args.self.now in
    let l = c.args.locale in
    let m = me_of c.args.seat.now in
    let k = me_of c.loop.seat in
    let sofar = c.loop.invariant.reads in
    let empty = c.loop.invariant.empty in
    let a = me_of c.stack_look.new.seat in
    let looks = c.stack_look.ensures.makes in
    let head = c.of_free_word-head in
    let count = head.result.count in
    let index = head.result.index in
    let r = a_reads K o s p l count index m k a a a sofar.0 sofar.1 empty c.requires.locale c.stack_look.result 0 0 head.ensures.count head.ensures.index looks in
    let stack = a_stack K o s p l count index m k a a a sofar.0 sofar.1 empty c.requires.locale c.stack_look.result 0 0 head.ensures.count head.ensures.index looks in
    let low = c.requires.below in
    let number = number_still K o s p m a r.looks r.under in
    may_next K o s p a (omega arith) (ap is_reclaiming r.under.same.phase ∙ c.requires.phase) (λ e. absurd (cc (e, ap (λ x. x.phase) stack))) (λ e. c.if-head-eq0.false (head.ensures.index ∙ (sym (ap (λ x. x.head.index) stack) ∙ e)))

pub stack_pop-found-requires-clause-locale : goal.stack_pop-found-requires-clause-locale
stack_pop-found-requires-clause-locale g c =
    let K = g.C.Client.terms in
    let o = g.C.Object.Object.opens in
    let s = g.C.Object.Object.step in
    let p = plan_of c.args.self.now in
    let l = c.args.locale in
    let m = me_of c.args.seat.now in
    let k = me_of c.loop.seat in
    let sofar = c.loop.invariant.reads in
    let empty = c.loop.invariant.empty in
    let a = me_of c.stack_look.new.seat in
    let looks = c.stack_look.ensures.makes in
    let head = c.of_free_word-head in
    let count = head.result.count in
    let index = head.result.index in
    let b = me_of c.stack_next-next.new.seat in
    let reads = c.stack_next-next.ensures.makes in
    let stack = b_stack K o s p l count index m k a b b sofar.0 sofar.1 empty c.requires.locale c.stack_look.result 0 c.stack_next-next.result head.ensures.count head.ensures.index looks c.if-head-eq0.false reads in
    (sym (ap (λ x. x.locale) stack), subst (λ h. l < h.locales) c.args.self.now.words.planned c.requires.locale)

pub stack_pop-found-requires-clause-head : goal.stack_pop-found-requires-clause-head
stack_pop-found-requires-clause-head g c =
    let K = g.C.Client.terms in
    let o = g.C.Object.Object.opens in
    let s = g.C.Object.Object.step in
    let p = plan_of c.args.self.now in
    let l = c.args.locale in
    let m = me_of c.args.seat.now in
    let k = me_of c.loop.seat in
    let sofar = c.loop.invariant.reads in
    let empty = c.loop.invariant.empty in
    let a = me_of c.stack_look.new.seat in
    let looks = c.stack_look.ensures.makes in
    let head = c.of_free_word-head in
    let count = head.result.count in
    let index = head.result.index in
    let b = me_of c.stack_next-next.new.seat in
    let reads = c.stack_next-next.ensures.makes in
    let stack = b_stack K o s p l count index m k a b b sofar.0 sofar.1 empty c.requires.locale c.stack_look.result 0 c.stack_next-next.result head.ensures.count head.ensures.index looks c.if-head-eq0.false reads in
    sym (ap (λ x. x.head) stack)

pub stack_pop-found-requires-clause-below : goal.stack_pop-found-requires-clause-below
stack_pop-found-requires-clause-below g c =
    let K = g.C.Client.terms in
    let o = g.C.Object.Object.opens in
    let s = g.C.Object.Object.step in
    let p = plan_of c.args.self.now in
    let l = c.args.locale in
    let m = me_of c.args.seat.now in
    let k = me_of c.loop.seat in
    let sofar = c.loop.invariant.reads in
    let empty = c.loop.invariant.empty in
    let a = me_of c.stack_look.new.seat in
    let looks = c.stack_look.ensures.makes in
    let head = c.of_free_word-head in
    let count = head.result.count in
    let index = head.result.index in
    let b = me_of c.stack_next-next.new.seat in
    let reads = c.stack_next-next.ensures.makes in
    let stack = b_stack K o s p l count index m k a b b sofar.0 sofar.1 empty c.requires.locale c.stack_look.result 0 c.stack_next-next.result head.ensures.count head.ensures.index looks c.if-head-eq0.false reads in
    (c.index_of.ensures.value ∙ sym (ap (λ x. index_in x.next) stack), c.index_of.ensures.bound)

pub stack_pop-found-requires-clause-may : goal.stack_pop-found-requires-clause-may
stack_pop-found-requires-clause-may g c =
    let K = g.C.Client.terms in
    let o = g.C.Object.Object.opens in
    let s = g.C.Object.Object.step in
    let p = plan_of c.args.self.now in
    let l = c.args.locale in
    let m = me_of c.args.seat.now in
    let k = me_of c.loop.seat in
    let sofar = c.loop.invariant.reads in
    let empty = c.loop.invariant.empty in
    let a = me_of c.stack_look.new.seat in
    let looks = c.stack_look.ensures.makes in
    let head = c.of_free_word-head in
    let count = head.result.count in
    let index = head.result.index in
    let b = me_of c.stack_next-next.new.seat in
    let reads = c.stack_next-next.ensures.makes in
    let stack = b_stack K o s p l count index m k a b b sofar.0 sofar.1 empty c.requires.locale c.stack_look.result 0 c.stack_next-next.result head.ensures.count head.ensures.index looks c.if-head-eq0.false reads in
    let r = b_reads K o s p l count index m k a b b sofar.0 sofar.1 empty c.requires.locale c.stack_look.result 0 c.stack_next-next.result head.ensures.count head.ensures.index looks c.if-head-eq0.false reads in
    let e = b_empty K o s p l count index m k a b b sofar.0 sofar.1 empty c.requires.locale c.stack_look.result 0 c.stack_next-next.result head.ensures.count head.ensures.index looks c.if-head-eq0.false reads in
    let low = c.requires.below in
    let number = number_still K o s p m b r.looks r.under in
    let most = head.ensures.count_bound in
    let ne = c.if-head-eq-LAST_COUNT.false in
    let same = ap (λ x. x.head.count) stack in
    may_pop K o s p b (omega (arith, low, number)) (ap is_reclaiming r.under.same.phase ∙ c.requires.phase) (ap (λ x. x.phase) stack) (omega (arith, most, ne, same)) e.won

pub returns-then-found-free_word-clause-gets : goal.returns-then-found-free_word-clause-gets
returns-then-found-free_word-clause-gets g c =
    let K = g.C.Client.terms in
    let o = g.C.Object.Object.opens in
    let s = g.C.Object.Object.step in
    let p = plan_of c.args.self.now in
    let l = c.args.locale in
    let m = me_of c.args.seat.now in
    let k = me_of c.loop.seat in
    let sofar = c.loop.invariant.reads in
    let empty = c.loop.invariant.empty in
    let a = me_of c.stack_look.new.seat in
    let looks = c.stack_look.ensures.makes in
    let head = c.of_free_word-head in
    let count = head.result.count in
    let index = head.result.index in
    let b = me_of c.stack_next-next.new.seat in
    let reads = c.stack_next-next.ensures.makes in
    let d = me_of c.stack_pop-found.new.seat in
    d_won K o s p l count index m k a b d sofar.0 sofar.1 empty c.requires.locale c.stack_look.result c.stack_pop-found.result c.stack_next-next.result head.ensures.count head.ensures.index looks c.if-head-eq0.false reads c.stack_pop-found.ensures.makes (c.if-found-free_word.true ∙ c.free_word.ensures.value) head.ensures.index_bound c.if-head-eq-LAST_COUNT.false

pub loop-preserved : goal.loop-preserved
loop-preserved g c =
    let K = g.C.Client.terms in
    let o = g.C.Object.Object.opens in
    let s = g.C.Object.Object.step in
    let p = plan_of c.args.self.now in
    let l = c.args.locale in
    let m = me_of c.args.seat.now in
    let k = me_of c.loop.seat in
    let sofar = c.loop.invariant.reads in
    let empty = c.loop.invariant.empty in
    let a = me_of c.stack_look.new.seat in
    let looks = c.stack_look.ensures.makes in
    let head = c.of_free_word-head in
    let count = head.result.count in
    let index = head.result.index in
    let b = me_of c.stack_next-next.new.seat in
    let reads = c.stack_next-next.ensures.makes in
    let d = me_of c.stack_pop-found.new.seat in
    let lost = d_lost K o s p l count index m k a b d sofar.0 sofar.1 empty c.requires.locale c.stack_look.result c.stack_pop-found.result c.stack_next-next.result head.ensures.count head.ensures.index looks c.if-head-eq0.false reads c.stack_pop-found.ensures.makes (λ e. c.if-found-free_word.false (e ∙ sym c.free_word.ensures.value)) in
    record { seat = c.stack_pop-found.ensures.seat; reads = (lost.0, lost.1); empty = lost.2 }
