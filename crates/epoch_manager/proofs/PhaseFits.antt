-- A pass fits its plan by its phase, whichever way that is written, and knows where the word of its token stands.
use Rattle.std.proofs.Common.{◌≡◌, ◌⊎◌, ◌==◌, ℕ, true, Option, Some, sym, ◌∙◌, subst, ⊎_elim, arith, eq-eqb}
use Rattle.std.specs.Option.{ForSome}
use Rattle.pgas_base.specs.declared.shapes.Shape.{Shape}
use Rattle.epoch_laws.specs.declared.tokens.Token.{Token}
use Rattle.epoch_laws.specs.Words.{WordName}
use Rattle.pass_table.specs.declared.views.View.{View}
use Rattle.epoch_table.specs.declared.events.Happens.{Happens}
use Rattle.epoch_table.specs.declared.parts.Plan.{Plan}
use Rattle.epoch_table.specs.declared.parts.Part.{Part}
use Rattle.epoch_table.specs.Layout.{token_place}
use Rattle.epoch_manager.specs.declared.phases.Phase.{Phase}
use Rattle.epoch_manager.specs.declared.phases.Phase.TheVariants.{Registered, Pinned}
use Rattle.epoch_manager.specs.Fits.{PassFits, is_placed}

pub fits_as : {C View' Call Reply : Type 0} (v : View (Happens Call Reply) (Unit {0}) (Plan C) (Part View') WordName) (phase new : Phase) → phase ≡ new → ForSome v.plan (λ (p : Plan C). PassFits p v new) → ForSome v.plan (λ (p : Plan C). PassFits p v phase)
fits_as {C = C} v phase new is fits = subst (λ (f : Phase). ForSome v.plan (λ (p : Plan C). PassFits p v f)) (sym is) fits

plan_so : {C : Type 0} (x y : Plan C) → Some x ≡ Some y → x ≡ y
plan_so x y e = cc

same_place : (a b : ℕ) → (a == b) ≡ true → a ≡ b
same_place a b is = grind arith

-- the place of a caller's token, and that it is known
pub place_known : (shape : Shape) (phase : Phase) (t : Token) (at : ℕ) → (phase ≡ Registered t) ⊎ (phase ≡ Pinned t) → is_placed shape phase at ≡ true → at ≡ token_place shape t
place_known shape phase t at one is =
    let same : (at == token_place shape t) ≡ true = ⊎_elim (λ e. subst (λ (f : Phase). is_placed shape f at ≡ true) e is) (λ e. subst (λ (f : Phase). is_placed shape f at ≡ true) e is) one in
    same_place at _ same

pub placed_at : (shape : Shape) (phase : Phase) (t : Token) (at : ℕ) → (phase ≡ Registered t) ⊎ (phase ≡ Pinned t) → at ≡ token_place shape t → is_placed shape phase at ≡ true
placed_at shape phase t at one is =
    let same : (at == token_place shape t) ≡ true = eq-eqb at _ is in
    ⊎_elim (λ e. subst (λ (f : Phase). is_placed shape f at ≡ true) (sym e) same) (λ e. subst (λ (f : Phase). is_placed shape f at ≡ true) (sym e) same) one

-- it is known of the plan that a pass has
pub placed_on : {C : Type 0} (plan : Plan C) (known : Option (Plan C)) (phase : Phase) (at : ℕ) → known ≡ Some plan → is_placed plan.shape phase at ≡ true → ForSome known (λ (p : Plan C). is_placed p.shape phase at ≡ true)
placed_on {C = C} plan known phase at has is p so = subst (λ (q : Plan C). is_placed q.shape phase at ≡ true) (plan_so plan p (sym has ∙ so)) is

pub placed_same : {C : Type 0} (old new : Option (Plan C)) (phase : Phase) (at : ℕ) → new ≡ old → ForSome old (λ (p : Plan C). is_placed p.shape phase at ≡ true) → ForSome new (λ (p : Plan C). is_placed p.shape phase at ≡ true)
placed_same {C = C} old new phase at same is = subst (λ (o : Option (Plan C)). ForSome o (λ (p : Plan C). is_placed p.shape phase at ≡ true)) (sym same) is
