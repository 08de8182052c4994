-- An object that is owned or shown is one of the shape: only of those do steps change the header.
use Rattle.std.proofs.Common.{◌≡◌, ◌==◌, ◌+◌, ℕ, Bool, true, false, List, [], ◌∷◌, Option, Some, refl, sym, subst, ⊎_elim}
use Rattle.std.proofs.lemmas.Bool.{cases_Bool, false≢true}
use Rattle.pgas_base.specs.declared.shapes.Shape.{Shape}
use Rattle.pgas_base.specs.declared.starts.Start.{Start}
use Rattle.pool_core.specs.declared.headers.Header.{Header}
use Rattle.pool_core.specs.declared.headers.State.{State as HeaderState}
use Rattle.pool_core.specs.declared.headers.State.TheVariants.{Free, Own, Shown, Worn}
use Rattle.epoch_laws.specs.declared.steps.Kind.{Kind}
use Rattle.epoch_laws.specs.declared.steps.Kind.TheVariants.{TakeTry, Show, Hold, Touch, Return, DeferLook, Release}
use Rattle.epoch_laws.specs.declared.steps.Step.{Step}
use Rattle.epoch_laws.specs.Places.{Place, place_of, with_place}
use Rattle.epoch_laws.specs.States.{State, IsPlace, opening, opening_words}
use Rattle.epoch_laws.specs.Needs.{AllMet}
use Rattle.epoch_laws.specs.TakeSteps.{take_try, show, give_back, is_free_with, look_count}
use Rattle.epoch_laws.specs.HoldSteps.{hold, touch}
use Rattle.epoch_laws.specs.DeferralSteps.{defer_look}
use Rattle.epoch_laws.specs.ReclaimSteps.{release, last_count}
use Rattle.epoch_laws.specs.Steps.{move}
use Rattle.epoch_laws.specs.Runs.{AreAllowed, outcome, state_after}
use Rattle.epoch_laws.proofs.SoundRuns.{shape_kept}
use Rattle.epoch_laws.proofs.Updates.{at_place}
use Rattle.epoch_table.specs.Clients.{Thing, thing_of}
use Rattle.epoch_table.proofs.Quiet.{untouched}

abbrev is_thing : HeaderState → Bool
is_thing Free = false
is_thing Own = true
is_thing Shown = true
is_thing Worn = false

-- each object whose header says that it is owned or shown is one of the shape
abbrev AreOfShape : Shape → (Place → Header) → Type 0
AreOfShape shape header = (p : Place) → is_thing (header p).state ≡ true → IsPlace shape p

written : (shape : Shape) (header : Place → Header) (q : Place) (h : Header) → IsPlace shape q → AreOfShape shape header → (p : Place) → is_thing (with_place header q h p).state ≡ true → IsPlace shape p
written shape header q h inside is = at_place (λ p x. is_thing x.state ≡ true → IsPlace shape p) header q h (λ e. inside) (λ p ne e. is p e)

inside_kept : (s : State) (c : ℕ) (k : Kind) → AllMet (move s c k).needs → AreOfShape s.shape s.words.header → AreOfShape s.shape (move s c k).outcome.next.words.header
unfolding move take_try show give_back hold touch defer_look release
inside_kept s c (TakeTry l i) h is =
    let p : Place = record { locale = l; index = i } in
    let n = look_count (s.seat c).free_look in
    ⊎_elim (λ e. rw e (written s.shape s.words.header p (record { count = n; state = Own }) h.1.1.0 is)) (λ e. rw e is) (cases_Bool (is_free_with (s.words.header p) n))
inside_kept s c (Show q) h is = written s.shape s.words.header (place_of q) (record { count = q.count; state = Shown }) h.1.0 is
inside_kept s c (Hold q) h is = is
inside_kept s c (Touch q) h is = is
inside_kept s c (Return q) h is = written s.shape s.words.header (place_of q) (record { count = q.count; state = Free }) h.1.0 is
inside_kept s c (DeferLook q) h is = is
inside_kept s c (Release q) h is =
    ⊎_elim
    (λ e. rw e (written s.shape s.words.header (place_of q) (record { count = q.count; state = Worn }) h.1.0 is))
    (λ e. rw e (written s.shape s.words.header (place_of q) (record { count = q.count + 1; state = Free }) h.1.0 is))
    (cases_Bool (q.count == last_count))
inside_kept s c k h is = subst (AreOfShape s.shape) (sym (untouched s c k tt).header) is

pub inside_after : (s : State) (steps : List Step) → AreAllowed s steps → AreOfShape s.shape s.words.header → AreOfShape (state_after s steps).shape (state_after s steps).words.header
inside_after s [] allowed is = is
inside_after s (x ∷ steps) allowed is =
    let next = (outcome s x).next in inside_after next steps allowed.1 (subst (λ shape. AreOfShape shape next.words.header) (sym (shape_kept s x.seat x.kind)) (inside_kept s x.seat x.kind allowed.0 is))

pub opening_inside : (shape : Shape) (start : Start) (seats : ℕ) → AreOfShape (opening shape start seats).shape (opening shape start seats).words.header
unfolding opening opening_words
opening_inside shape start seats p e = absurd (false≢true e)

pub thing_state : (st : HeaderState) (n : ℕ) (tag : Option ℕ) (row : ℕ → ℕ) (x : Thing) → thing_of (record { count = n; state = st }) tag row ≡ Some x → is_thing st ≡ true
thing_state Free n tag row x e = absurd (cc e)
thing_state Own n tag row x e = refl
thing_state Shown n tag row x e = refl
thing_state Worn n tag row x e = absurd (cc e)
