use Rattle.std.proofs.Common.{ℕ, ◌∙◌, sym, ap, subst, refl, inl}
use Rattle.epoch_laws.specs.declared.tokens.Token.{Token}
use Rattle.epoch_laws.specs.Timing.{IsToken}
use Rattle.pass_table.specs.Passes.{me_of}
use Rattle.epoch_table.specs.Layout.{token_place}
use Rattle.epoch_manager.specs.Managers.{plan_of, ListsItems, ReadsWords}
use Rattle.epoch_manager.proofs.PassClauses.{stands_idle, register_done, refused_done, taken_rests, done_listed, done_read, done_begins, done_fits, Changed}
use Rattle.epoch_manager.proofs.HoldClauses.{numbers_stay}
use Rattle.epoch_manager.proofs.PhaseFits.{fits_as, placed_at, placed_on}
use Rattle.epoch_manager.proofs.managers.Manager.register.Goals as goal
use Rattle.epoch_manager.specs.Tokens.{registered_items, RegisterCause}

abbrev token_at : ℕ → ℕ → Token
token_at locale number = record { locale = locale; number = number }

pub take_token-taken-requires-clause-below : goal.take_token-taken-requires-clause-below
take_token-taken-requires-clause-below g c =
    let K = g.C.Client.terms in
    let o = g.C.Object.Object.opens in
    let s = g.C.Object.Object.step in
    let p = plan_of c.args.self.now in
    let m = me_of c.args.pass.now.pass.seat in
    let phase = c.args.pass.now.phase in
    let fits = c.args.pass.now.fits p (ap (λ x. x.plan) c.requires.opening) in
    fits.below

pub take_token-taken-requires-clause-idle : goal.take_token-taken-requires-clause-idle
take_token-taken-requires-clause-idle g c =
    let K = g.C.Client.terms in
    let o = g.C.Object.Object.opens in
    let s = g.C.Object.Object.step in
    let p = plan_of c.args.self.now in
    let m = me_of c.args.pass.now.pass.seat in
    let phase = c.args.pass.now.phase in
    let fits = c.args.pass.now.fits p (ap (λ x. x.plan) c.requires.opening) in
    stands_idle m.0.part.seat phase c.requires.phase fits.stands

pub invariant_of-pass : goal.invariant_of-pass
invariant_of-pass g c =
    let K = g.C.Client.terms in
    let o = g.C.Object.Object.opens in
    let s = g.C.Object.Object.step in
    let p = plan_of c.args.self.now in
    let m = me_of c.args.pass.now.pass.seat in
    let phase = c.args.pass.now.phase in
    let fits = c.args.pass.now.fits p (ap (λ x. x.plan) c.requires.opening) in
    let n = me_of c.take_token-taken.new.seat in
    let idle = stands_idle m.0.part.seat phase c.requires.phase fits.stands in
    let r = taken_rests K o s p c.args.locale m n c.take_token-taken.result idle c.take_token-taken.ensures.takes in
    (r.0, (r.1 ∙ c.args.pass.now.pass.empty_handed, tt))

pub invariant_of-pass-in_default : goal.invariant_of-pass-in_default
invariant_of-pass-in_default g c =
    let K = g.C.Client.terms in
    let o = g.C.Object.Object.opens in
    let s = g.C.Object.Object.step in
    let p = plan_of c.args.self.now in
    let m = me_of c.args.pass.now.pass.seat in
    let phase = c.args.pass.now.phase in
    let fits = c.args.pass.now.fits p (ap (λ x. x.plan) c.requires.opening) in
    let n = me_of c.take_token-taken.new.seat in
    let idle = stands_idle m.0.part.seat phase c.requires.phase fits.stands in
    let takes = c.in_default.ensures.takes in
    let d = refused_done K o s p m n phase fits c.args.locale takes idle in
    record { fits = done_fits K o s p m n _ _ _ _ d (ap (λ x. x.plan) c.take_token-taken.ensures.seat); placed = placed_on p _ phase c.args.pass.now.place (ap (λ x. x.plan) c.take_token-taken.ensures.seat) (c.args.pass.now.placed p (ap (λ x. x.plan) c.requires.opening)); holds = numbers_stay _ m.0.part _ n.0.part c.args.pass.now.holds d.goes.1 refl }

pub returns-in_default-clause-history : goal.returns-in_default-clause-history
returns-in_default-clause-history g c =
    let K = g.C.Client.terms in
    let o = g.C.Object.Object.opens in
    let s = g.C.Object.Object.step in
    let p = plan_of c.args.self.now in
    let m = me_of c.args.pass.now.pass.seat in
    let phase = c.args.pass.now.phase in
    let fits = c.args.pass.now.fits p (ap (λ x. x.plan) c.requires.opening) in
    let n = me_of c.take_token-taken.new.seat in
    let idle = stands_idle m.0.part.seat phase c.requires.phase fits.stands in
    let takes = c.in_default.ensures.takes in
    let d = refused_done K o s p m n phase fits c.args.locale takes idle in
    subst (λ f. ListsItems K o s p (Changed K o s p m n takes.0) (registered_items m.0.number f)) (sym c.requires.phase) (done_listed K o s p m n _ _ _ _ d)

pub returns-in_default-clause-cause : goal.returns-in_default-clause-cause
returns-in_default-clause-cause g c =
    let K = g.C.Client.terms in
    let o = g.C.Object.Object.opens in
    let s = g.C.Object.Object.step in
    let p = plan_of c.args.self.now in
    let m = me_of c.args.pass.now.pass.seat in
    let phase = c.args.pass.now.phase in
    let fits = c.args.pass.now.fits p (ap (λ x. x.plan) c.requires.opening) in
    let n = me_of c.take_token-taken.new.seat in
    let idle = stands_idle m.0.part.seat phase c.requires.phase fits.stands in
    let takes = c.in_default.ensures.takes in
    let d = refused_done K o s p m n phase fits c.args.locale takes idle in
    subst (λ f. ReadsWords K o s p (Changed K o s p m n takes.0) (RegisterCause p.shape c.args.locale f)) (sym c.requires.phase) (done_read K o s p m n _ _ _ _ d _ takes.1)

pub returns-in_default-clause-grows : goal.returns-in_default-clause-grows
returns-in_default-clause-grows g c =
    let K = g.C.Client.terms in
    let o = g.C.Object.Object.opens in
    let s = g.C.Object.Object.step in
    let p = plan_of c.args.self.now in
    let m = me_of c.args.pass.now.pass.seat in
    let phase = c.args.pass.now.phase in
    let fits = c.args.pass.now.fits p (ap (λ x. x.plan) c.requires.opening) in
    let n = me_of c.take_token-taken.new.seat in
    let idle = stands_idle m.0.part.seat phase c.requires.phase fits.stands in
    let takes = c.in_default.ensures.takes in
    let d = refused_done K o s p m n phase fits c.args.locale takes idle in
    done_begins K o s p m n _ _ _ _ d

pub place_of_token-pass-requires : goal.place_of_token-pass-requires
place_of_token-pass-requires g c =
    let takes = c.in-Some.ensures.takes in
    subst (λ h. IsToken h.locales h.tokens (token_at c.args.locale c.in-Some.number)) c.args.self.now.words.planned (record { locale = c.requires.locale; number = takes.2 })

pub invariant_of-pass-2 : goal.invariant_of-pass-2
invariant_of-pass-2 g c =
    let K = g.C.Client.terms in
    let o = g.C.Object.Object.opens in
    let s = g.C.Object.Object.step in
    let p = plan_of c.args.self.now in
    let m = me_of c.args.pass.now.pass.seat in
    let phase = c.args.pass.now.phase in
    let fits = c.args.pass.now.fits p (ap (λ x. x.plan) c.requires.opening) in
    let n = me_of c.take_token-taken.new.seat in
    let idle = stands_idle m.0.part.seat phase c.requires.phase fits.stands in
    let takes = c.in-Some.ensures.takes in
    let d = register_done K o s p m n phase fits c.args.locale c.in-Some.number c.requires.phase takes c.requires.locale in
    record { fits = fits_as n.0 _ _ c.now_registered.ensures (done_fits K o s p m n _ _ _ _ d (ap (λ x. x.plan) c.take_token-taken.ensures.seat)); placed = placed_on p _ _ _ (ap (λ x. x.plan) c.take_token-taken.ensures.seat) (placed_at p.shape _ (token_at c.args.locale c.in-Some.number) _ (inl c.now_registered.ensures) (c.place_of_token-pass.ensures ∙ ap (λ h. token_place h (token_at c.args.locale c.in-Some.number)) (sym c.args.self.now.words.planned))); holds = numbers_stay _ m.0.part _ n.0.part c.args.pass.now.holds d.goes.1 refl }

pub returns-clause-history : goal.returns-clause-history
returns-clause-history g c =
    let K = g.C.Client.terms in
    let o = g.C.Object.Object.opens in
    let s = g.C.Object.Object.step in
    let p = plan_of c.args.self.now in
    let m = me_of c.args.pass.now.pass.seat in
    let phase = c.args.pass.now.phase in
    let fits = c.args.pass.now.fits p (ap (λ x. x.plan) c.requires.opening) in
    let n = me_of c.take_token-taken.new.seat in
    let idle = stands_idle m.0.part.seat phase c.requires.phase fits.stands in
    let takes = c.in-Some.ensures.takes in
    let d = register_done K o s p m n phase fits c.args.locale c.in-Some.number c.requires.phase takes c.requires.locale in
    subst (λ f. ListsItems K o s p (Changed K o s p m n takes.0) (registered_items m.0.number f)) (sym c.now_registered.ensures) (done_listed K o s p m n _ _ _ _ d)

pub returns-clause-cause : goal.returns-clause-cause
returns-clause-cause g c =
    let K = g.C.Client.terms in
    let o = g.C.Object.Object.opens in
    let s = g.C.Object.Object.step in
    let p = plan_of c.args.self.now in
    let m = me_of c.args.pass.now.pass.seat in
    let phase = c.args.pass.now.phase in
    let fits = c.args.pass.now.fits p (ap (λ x. x.plan) c.requires.opening) in
    let n = me_of c.take_token-taken.new.seat in
    let idle = stands_idle m.0.part.seat phase c.requires.phase fits.stands in
    let takes = c.in-Some.ensures.takes in
    let d = register_done K o s p m n phase fits c.args.locale c.in-Some.number c.requires.phase takes c.requires.locale in
    subst (λ f. ReadsWords K o s p (Changed K o s p m n takes.0) (RegisterCause p.shape c.args.locale f)) (sym c.now_registered.ensures) (done_read K o s p m n _ _ _ _ d _ takes.1)

pub returns-clause-grows : goal.returns-clause-grows
returns-clause-grows g c =
    let K = g.C.Client.terms in
    let o = g.C.Object.Object.opens in
    let s = g.C.Object.Object.step in
    let p = plan_of c.args.self.now in
    let m = me_of c.args.pass.now.pass.seat in
    let phase = c.args.pass.now.phase in
    let fits = c.args.pass.now.fits p (ap (λ x. x.plan) c.requires.opening) in
    let n = me_of c.take_token-taken.new.seat in
    let idle = stands_idle m.0.part.seat phase c.requires.phase fits.stands in
    let takes = c.in-Some.ensures.takes in
    let d = register_done K o s p m n phase fits c.args.locale c.in-Some.number c.requires.phase takes c.requires.locale in
    done_begins K o s p m n _ _ _ _ d
