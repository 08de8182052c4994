use Rattle.std.proofs.Common.{◌∙◌, ap, sym, subst}
use Rattle.pgas_base.specs.Shapes.{IsShape}
use Rattle.pass_table.specs.Passes.{me_of}
use Rattle.epoch_manager.specs.HeldNumbers.{joined_numbers}
use Rattle.epoch_manager.specs.Managers.{plan_of}
use Rattle.epoch_manager.proofs.PassClauses.{fits_plan}
use Rattle.epoch_manager.proofs.HoldClauses.{link_named, may_hold_so, hold_done, now_owned, now_held, now_among, now_numbered, gains_so, seen_so, holds_link, rests_held}
use Rattle.epoch_manager.proofs.PhaseFits.{placed_on}
use Rattle.epoch_manager.proofs.managers.Manager.hold.Goals as goal

pub hold-word-requires-clause-may : goal.hold-word-requires-clause-may
hold-word-requires-clause-may g c =
    let K = g.C.Client.terms in
    let o = g.C.Object.Object.opens in
    let s = g.C.Object.Object.step in
    let self = c.args.self.now in
    let p = plan_of self in
    let m = me_of c.args.pass.now.pass.seat in
    let phase = c.args.pass.now.phase in
    let fits = c.args.pass.now.fits p (ap (λ x. x.plan) c.requires.opening) in
    let t = c.requires.phase.0 in
    let is = c.requires.phase.1 in
    let shaped = subst IsShape (sym self.words.planned) self.words.shaped in
    may_hold_so K o s p shaped m m phase fits t is c.args.spot c.requires.reached c.requires.link c.requires.room

pub linked-found-requires : goal.linked-found-requires
linked-found-requires g c =
    let self = c.args.self.now in
    let p = plan_of self in
    let m = me_of c.args.pass.now.pass.seat in
    record { link = link_named p.shape (subst IsShape (sym self.words.planned) self.words.shaped) m.0.part.seat m.0.part.facts c.hold-word.result c.hold-word.ensures.holds.0 }

pub invariant_of-pass : goal.invariant_of-pass
invariant_of-pass g c =
    let K = g.C.Client.terms in
    let o = g.C.Object.Object.opens in
    let s = g.C.Object.Object.step in
    let self = c.args.self.now in
    let p = plan_of self in
    let m = me_of c.args.pass.now.pass.seat in
    let phase = c.args.pass.now.phase in
    let fits = c.args.pass.now.fits p (ap (λ x. x.plan) c.requires.opening) in
    let t = c.requires.phase.0 in
    let is = c.requires.phase.1 in
    let shaped = subst IsShape (sym self.words.planned) self.words.shaped in
    let n = me_of c.hold-word.new.seat in
    let holds = c.hold-word.ensures.holds in
    (rests_held K o s p shaped m n phase fits t is c.args.spot c.hold-word.result holds, (holds.2.2 ∙ c.args.pass.now.pass.empty_handed, tt))

pub invariant_of-pass-2 : goal.invariant_of-pass-2
invariant_of-pass-2 g c =
    let K = g.C.Client.terms in
    let o = g.C.Object.Object.opens in
    let s = g.C.Object.Object.step in
    let self = c.args.self.now in
    let p = plan_of self in
    let m = me_of c.args.pass.now.pass.seat in
    let phase = c.args.pass.now.phase in
    let fits = c.args.pass.now.fits p (ap (λ x. x.plan) c.requires.opening) in
    let t = c.requires.phase.0 in
    let is = c.requires.phase.1 in
    let shaped = subst IsShape (sym self.words.planned) self.words.shaped in
    let n = me_of c.hold-word.new.seat in
    let found = c.linked-found.ensures in
    let d = hold_done K o s p shaped m n phase fits t is c.args.spot c.hold-word.result c.linked-found.result found.some found.pointer found.none c.hold-word.ensures.holds in
    record {
      fits = fits_plan K o s p n.0 phase (ap (λ x. x.plan) c.hold-word.ensures.seat) d.fits;
      placed = placed_on p _ phase c.args.pass.now.place (ap (λ x. x.plan) c.hold-word.ensures.seat) (c.args.pass.now.placed p (ap (λ x. x.plan) c.requires.opening));
      holds = c.join.ensures ∙ (ap (λ l. joined_numbers c.linked-found.result l) c.args.pass.now.holds ∙ sym (now_numbered K o s p shaped m n phase fits t is c.args.spot c.hold-word.result c.linked-found.result found.some found.pointer found.none c.hold-word.ensures.holds));
    }

pub returns-clause-owned : goal.returns-clause-owned
returns-clause-owned g c =
    let K = g.C.Client.terms in
    let o = g.C.Object.Object.opens in
    let s = g.C.Object.Object.step in
    let self = c.args.self.now in
    let p = plan_of self in
    let m = me_of c.args.pass.now.pass.seat in
    let phase = c.args.pass.now.phase in
    let fits = c.args.pass.now.fits p (ap (λ x. x.plan) c.requires.opening) in
    let t = c.requires.phase.0 in
    let is = c.requires.phase.1 in
    let shaped = subst IsShape (sym self.words.planned) self.words.shaped in
    let n = me_of c.hold-word.new.seat in
    let found = c.linked-found.ensures in
    now_owned K o s p shaped m n phase fits t is c.args.spot c.hold-word.result c.linked-found.result found.some found.pointer found.none c.hold-word.ensures.holds

pub returns-clause-held : goal.returns-clause-held
returns-clause-held g c =
    let K = g.C.Client.terms in
    let o = g.C.Object.Object.opens in
    let s = g.C.Object.Object.step in
    let self = c.args.self.now in
    let p = plan_of self in
    let m = me_of c.args.pass.now.pass.seat in
    let phase = c.args.pass.now.phase in
    let fits = c.args.pass.now.fits p (ap (λ x. x.plan) c.requires.opening) in
    let t = c.requires.phase.0 in
    let is = c.requires.phase.1 in
    let shaped = subst IsShape (sym self.words.planned) self.words.shaped in
    let n = me_of c.hold-word.new.seat in
    let found = c.linked-found.ensures in
    now_held K o s p shaped m n phase fits t is c.args.spot c.hold-word.result c.linked-found.result found.some found.pointer found.none c.hold-word.ensures.holds

pub returns-clause-among : goal.returns-clause-among
returns-clause-among g c =
    let K = g.C.Client.terms in
    let o = g.C.Object.Object.opens in
    let s = g.C.Object.Object.step in
    let self = c.args.self.now in
    let p = plan_of self in
    let m = me_of c.args.pass.now.pass.seat in
    let phase = c.args.pass.now.phase in
    let fits = c.args.pass.now.fits p (ap (λ x. x.plan) c.requires.opening) in
    let t = c.requires.phase.0 in
    let is = c.requires.phase.1 in
    let shaped = subst IsShape (sym self.words.planned) self.words.shaped in
    let n = me_of c.hold-word.new.seat in
    let found = c.linked-found.ensures in
    now_among K o s p shaped m n phase fits t is c.args.spot c.hold-word.result c.linked-found.result found.some found.pointer found.none c.hold-word.ensures.holds

pub returns-clause-history : goal.returns-clause-history
returns-clause-history g c =
    let K = g.C.Client.terms in
    let o = g.C.Object.Object.opens in
    let s = g.C.Object.Object.step in
    let self = c.args.self.now in
    let p = plan_of self in
    let m = me_of c.args.pass.now.pass.seat in
    let phase = c.args.pass.now.phase in
    let fits = c.args.pass.now.fits p (ap (λ x. x.plan) c.requires.opening) in
    let t = c.requires.phase.0 in
    let is = c.requires.phase.1 in
    let shaped = subst IsShape (sym self.words.planned) self.words.shaped in
    let n = me_of c.hold-word.new.seat in
    let found = c.linked-found.ensures in
    let link = holds_link K o s p shaped m n phase fits t is c.args.spot c.hold-word.result c.linked-found.result found.some found.pointer found.none c.hold-word.ensures.holds in
    λ token so. record {
      gains = gains_so K o s p shaped m n phase fits t is c.args.spot c.hold-word.result c.linked-found.result found.some found.pointer found.none c.hold-word.ensures.holds token so;
      met = link.1.0;
      begins = link.1.1;
      seen = seen_so K o s p shaped m n phase fits t is c.args.spot c.hold-word.result c.linked-found.result found.some found.pointer found.none c.hold-word.ensures.holds token so;
      finds = link.1.3;
    }
