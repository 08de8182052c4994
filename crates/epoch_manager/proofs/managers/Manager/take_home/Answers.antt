use Rattle.std.proofs.Common.{◌≤◌, ◌∙◌, ap, refl, sym, subst, ⊎_elim, arith, [], None}
use Rattle.epoch_laws.specs.Seats.{is_reclaiming}
use Rattle.pass_table.specs.Passes.{me_of}
use Rattle.epoch_manager.specs.Managers.{plan_of}
use Rattle.epoch_manager.specs.TakeSeats.{IsChained, Reads}
use Rattle.epoch_manager.proofs.HomeTakes.{may_take_home, n_reads, n_chain, leads, none_came, first_inside, first_local, k_reads, k_chained, one_came, rest_came, next_came}
use Rattle.epoch_manager.proofs.HomeWalks.{ends_chain}
use Rattle.epoch_manager.proofs.Takes.{number_still, reads_then}
use Rattle.epoch_manager.proofs.managers.Manager.take_home.Goals as goal

pub home_take-chain-requires-clause-may : goal.home_take-chain-requires-clause-may
home_take-chain-requires-clause-may g c =
    let K = g.C.Client.terms in
    let o = g.C.Object.Object.opens in
    let s = g.C.Object.Object.step in
    let p = plan_of c.args.self.now in
    let l = c.args.locale in
    let m = me_of c.args.seat.now in
    let empty = c.requires.empty in
    may_take_home K o s p m l c.requires.below c.requires.phase c.requires.locale empty

pub returns-in_default-clause-gets : goal.returns-in_default-clause-gets
returns-in_default-clause-gets g c =
    let K = g.C.Client.terms in
    let o = g.C.Object.Object.opens in
    let s = g.C.Object.Object.step in
    let p = plan_of c.args.self.now in
    let l = c.args.locale in
    let m = me_of c.args.seat.now in
    let empty = c.requires.empty in
    let n = me_of c.home_take-chain.new.seat in
    let found = c.home_take-chain.result in
    let takes = c.home_take-chain.ensures.makes in
    let most : p.shape.locales ≤ 16 = subst (λ h. h.locales ≤ 16) (sym c.args.self.now.words.planned) c.args.self.now.words.shaped.0.1 in
    none_came K o s p m n l found empty takes (⊎_elim (λ h. absurd (h (c.in_default.ensures.none.0 refl))) (λ e. e) (ends_chain p.shape found most (leads K o s p m n l found empty takes)))

pub walk-next-requires-clause-phase : goal.walk-next-requires-clause-phase
walk-next-requires-clause-phase g c =
    let K = g.C.Client.terms in
    let o = g.C.Object.Object.opens in
    let s = g.C.Object.Object.step in
    let p = plan_of c.args.self.now in
    let l = c.args.locale in
    let m = me_of c.args.seat.now in
    let empty = c.requires.empty in
    let n = me_of c.home_take-chain.new.seat in
    let found = c.home_take-chain.result in
    let takes = c.home_take-chain.ensures.makes in
    let reads = n_reads K o s p m n l found empty takes in
    ap is_reclaiming reads.under.same.phase ∙ c.requires.phase

pub walk-next-requires-clause-place : goal.walk-next-requires-clause-place
walk-next-requires-clause-place g c =
    let K = g.C.Client.terms in
    let o = g.C.Object.Object.opens in
    let s = g.C.Object.Object.step in
    let p = plan_of c.args.self.now in
    let l = c.args.locale in
    let m = me_of c.args.seat.now in
    let empty = c.requires.empty in
    let n = me_of c.home_take-chain.new.seat in
    let found = c.home_take-chain.result in
    let takes = c.home_take-chain.ensures.makes in
    let first = c.in-Some.first in
    let is = c.in-Some.ensures.pointer in
    let same = c.in-Some.ensures.some in
    first_inside K o s p m n l found empty takes first is same

pub walk-next-requires-clause-chain : goal.walk-next-requires-clause-chain
walk-next-requires-clause-chain g c =
    let K = g.C.Client.terms in
    let o = g.C.Object.Object.opens in
    let s = g.C.Object.Object.step in
    let p = plan_of c.args.self.now in
    let l = c.args.locale in
    let m = me_of c.args.seat.now in
    let empty = c.requires.empty in
    let n = me_of c.home_take-chain.new.seat in
    let found = c.home_take-chain.result in
    let takes = c.home_take-chain.ensures.makes in
    let first = c.in-Some.first in
    let is = c.in-Some.ensures.pointer in
    let same = c.in-Some.ensures.some in
    n_chain K o s p m n l found empty takes ∙ sym same

pub returns-in_default-of_word-clause-gets : goal.returns-in_default-of_word-clause-gets
returns-in_default-of_word-clause-gets g c =
    let K = g.C.Client.terms in
    let o = g.C.Object.Object.opens in
    let s = g.C.Object.Object.step in
    let p = plan_of c.args.self.now in
    let l = c.args.locale in
    let m = me_of c.args.seat.now in
    let empty = c.requires.empty in
    let n = me_of c.home_take-chain.new.seat in
    let found = c.home_take-chain.result in
    let takes = c.home_take-chain.ensures.makes in
    let most : p.shape.locales ≤ 16 = subst (λ h. h.locales ≤ 16) (sym c.args.self.now.words.planned) c.args.self.now.words.shaped.0.1 in
    let first = c.in-Some.first in
    let is = c.in-Some.ensures.pointer in
    let same = c.in-Some.ensures.some in
    let k = me_of c.walk-next.new.seat in
    let word = c.walk-next.result in
    let walks = c.walk-next.ensures.walks in
    one_came K o s p m n l found empty takes first is same k word walks c.index.result c.index.ensures.value (⊎_elim (λ h. absurd (h (c.in_default-of_word.ensures.none.0 refl))) (λ e. e) (ends_chain p.shape word most walks.leads))

pub walk_rest-tail-requires-clause-below : goal.walk_rest-tail-requires-clause-below
walk_rest-tail-requires-clause-below g c =
    let K = g.C.Client.terms in
    let o = g.C.Object.Object.opens in
    let s = g.C.Object.Object.step in
    let p = plan_of c.args.self.now in
    let l = c.args.locale in
    let m = me_of c.args.seat.now in
    let empty = c.requires.empty in
    let n = me_of c.home_take-chain.new.seat in
    let found = c.home_take-chain.result in
    let takes = c.home_take-chain.ensures.makes in
    let first = c.in-Some.first in
    let is = c.in-Some.ensures.pointer in
    let same = c.in-Some.ensures.some in
    let k = me_of c.walk-next.new.seat in
    let word = c.walk-next.result in
    let walks = c.walk-next.ensures.walks in
    let reads = k_reads K o s p m n l found empty takes first is same k word walks in
    let low = c.requires.below in
    let number = number_still K o s p m k reads.looks reads.under in
    omega (arith, low, number)

pub walk_rest-tail-requires-clause-phase : goal.walk_rest-tail-requires-clause-phase
walk_rest-tail-requires-clause-phase g c =
    let K = g.C.Client.terms in
    let o = g.C.Object.Object.opens in
    let s = g.C.Object.Object.step in
    let p = plan_of c.args.self.now in
    let l = c.args.locale in
    let m = me_of c.args.seat.now in
    let empty = c.requires.empty in
    let n = me_of c.home_take-chain.new.seat in
    let found = c.home_take-chain.result in
    let takes = c.home_take-chain.ensures.makes in
    let first = c.in-Some.first in
    let is = c.in-Some.ensures.pointer in
    let same = c.in-Some.ensures.some in
    let k = me_of c.walk-next.new.seat in
    let word = c.walk-next.result in
    let walks = c.walk-next.ensures.walks in
    let reads = k_reads K o s p m n l found empty takes first is same k word walks in
    ap is_reclaiming reads.under.same.phase ∙ c.requires.phase

pub walk_rest-tail-requires-clause-place : goal.walk_rest-tail-requires-clause-place
walk_rest-tail-requires-clause-place g c =
    let K = g.C.Client.terms in
    let o = g.C.Object.Object.opens in
    let s = g.C.Object.Object.step in
    let p = plan_of c.args.self.now in
    let l = c.args.locale in
    let m = me_of c.args.seat.now in
    let empty = c.requires.empty in
    let n = me_of c.home_take-chain.new.seat in
    let found = c.home_take-chain.result in
    let takes = c.home_take-chain.ensures.makes in
    let first = c.in-Some.first in
    let is = c.in-Some.ensures.pointer in
    let same = c.in-Some.ensures.some in
    let k = me_of c.walk-next.new.seat in
    let word = c.walk-next.result in
    let walks = c.walk-next.ensures.walks in
    let top = c.in-Some-of_word.top in
    let is_top = c.in-Some-of_word.ensures.pointer in
    let same_top = c.in-Some-of_word.ensures.some in
    (next_came K o s p m n l found empty takes first is same k word walks top is_top same_top).0

pub walk_rest-tail-requires-clause-local : goal.walk_rest-tail-requires-clause-local
walk_rest-tail-requires-clause-local g c =
    let K = g.C.Client.terms in
    let o = g.C.Object.Object.opens in
    let s = g.C.Object.Object.step in
    let p = plan_of c.args.self.now in
    let l = c.args.locale in
    let m = me_of c.args.seat.now in
    let empty = c.requires.empty in
    let n = me_of c.home_take-chain.new.seat in
    let found = c.home_take-chain.result in
    let takes = c.home_take-chain.ensures.makes in
    let first = c.in-Some.first in
    let is = c.in-Some.ensures.pointer in
    let same = c.in-Some.ensures.some in
    let k = me_of c.walk-next.new.seat in
    let word = c.walk-next.result in
    let walks = c.walk-next.ensures.walks in
    let top = c.in-Some-of_word.top in
    let is_top = c.in-Some-of_word.ensures.pointer in
    let same_top = c.in-Some-of_word.ensures.some in
    (next_came K o s p m n l found empty takes first is same k word walks top is_top same_top).1

pub walk_rest-tail-requires-clause-chained : goal.walk_rest-tail-requires-clause-chained
walk_rest-tail-requires-clause-chained g c =
    let K = g.C.Client.terms in
    let o = g.C.Object.Object.opens in
    let s = g.C.Object.Object.step in
    let p = plan_of c.args.self.now in
    let l = c.args.locale in
    let m = me_of c.args.seat.now in
    let empty = c.requires.empty in
    let n = me_of c.home_take-chain.new.seat in
    let found = c.home_take-chain.result in
    let takes = c.home_take-chain.ensures.makes in
    let first = c.in-Some.first in
    let is = c.in-Some.ensures.pointer in
    let same = c.in-Some.ensures.some in
    let k = me_of c.walk-next.new.seat in
    let word = c.walk-next.result in
    let walks = c.walk-next.ensures.walks in
    let top = c.in-Some-of_word.top in
    let is_top = c.in-Some-of_word.ensures.pointer in
    let same_top = c.in-Some-of_word.ensures.some in
    subst (IsChained p.shape k.0.part first.locale first []) (sym same_top) (k_chained K o s p m n l found empty takes first is same k word walks)

pub put_rest-requires-clause-below : goal.put_rest-requires-clause-below
put_rest-requires-clause-below g c =
    let K = g.C.Client.terms in
    let o = g.C.Object.Object.opens in
    let s = g.C.Object.Object.step in
    let p = plan_of c.args.self.now in
    let l = c.args.locale in
    let m = me_of c.args.seat.now in
    let empty = c.requires.empty in
    let n = me_of c.home_take-chain.new.seat in
    let found = c.home_take-chain.result in
    let takes = c.home_take-chain.ensures.makes in
    let first = c.in-Some.first in
    let is = c.in-Some.ensures.pointer in
    let same = c.in-Some.ensures.some in
    let k = me_of c.walk-next.new.seat in
    let word = c.walk-next.result in
    let walks = c.walk-next.ensures.walks in
    let top = c.in-Some-of_word.top in
    let is_top = c.in-Some-of_word.ensures.pointer in
    let same_top = c.in-Some-of_word.ensures.some in
    let r = me_of c.walk_rest-tail.new.seat in
    let walked = c.walk_rest-tail.ensures.walks in
    let reads = reads_then K o s p l m k r _ _ (k_reads K o s p m n l found empty takes first is same k word walks) (subst (λ i. Reads K o s p i k r None) (first_local K o s p m n l found empty takes first is same) walked.reads) in
    let low = c.requires.below in
    let number = number_still K o s p m r reads.looks reads.under in
    omega (arith, low, number)

pub put_rest-requires-clause-phase : goal.put_rest-requires-clause-phase
put_rest-requires-clause-phase g c =
    let K = g.C.Client.terms in
    let o = g.C.Object.Object.opens in
    let s = g.C.Object.Object.step in
    let p = plan_of c.args.self.now in
    let l = c.args.locale in
    let m = me_of c.args.seat.now in
    let empty = c.requires.empty in
    let n = me_of c.home_take-chain.new.seat in
    let found = c.home_take-chain.result in
    let takes = c.home_take-chain.ensures.makes in
    let first = c.in-Some.first in
    let is = c.in-Some.ensures.pointer in
    let same = c.in-Some.ensures.some in
    let k = me_of c.walk-next.new.seat in
    let word = c.walk-next.result in
    let walks = c.walk-next.ensures.walks in
    let top = c.in-Some-of_word.top in
    let is_top = c.in-Some-of_word.ensures.pointer in
    let same_top = c.in-Some-of_word.ensures.some in
    let r = me_of c.walk_rest-tail.new.seat in
    let walked = c.walk_rest-tail.ensures.walks in
    let reads = reads_then K o s p l m k r _ _ (k_reads K o s p m n l found empty takes first is same k word walks) (subst (λ i. Reads K o s p i k r None) (first_local K o s p m n l found empty takes first is same) walked.reads) in
    ap is_reclaiming reads.under.same.phase ∙ c.requires.phase

pub returns-clause-gets : goal.returns-clause-gets
returns-clause-gets g c =
    let K = g.C.Client.terms in
    let o = g.C.Object.Object.opens in
    let s = g.C.Object.Object.step in
    let p = plan_of c.args.self.now in
    let l = c.args.locale in
    let m = me_of c.args.seat.now in
    let empty = c.requires.empty in
    let n = me_of c.home_take-chain.new.seat in
    let found = c.home_take-chain.result in
    let takes = c.home_take-chain.ensures.makes in
    let first = c.in-Some.first in
    let is = c.in-Some.ensures.pointer in
    let same = c.in-Some.ensures.some in
    let k = me_of c.walk-next.new.seat in
    let word = c.walk-next.result in
    let walks = c.walk-next.ensures.walks in
    let top = c.in-Some-of_word.top in
    let is_top = c.in-Some-of_word.ensures.pointer in
    let same_top = c.in-Some-of_word.ensures.some in
    let r = me_of c.walk_rest-tail.new.seat in
    let walked = c.walk_rest-tail.ensures.walks in
    rest_came K o s p m n l found empty takes first is same k word walks top c.walk_rest-tail.result r (me_of c.put_rest.new.seat) c.put_rest.result walked c.put_rest.ensures.gets
