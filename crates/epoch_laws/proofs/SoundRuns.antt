-- What holds of every state that a run leaves.
use Rattle.std.proofs.Common.{◌≡◌, ◌≤◌, ◌==◌, ℕ, arith, Bool, true, false, if◌then◌else◌, List, [], ◌∷◌, refl, ap, sym, ◌∙◌, subst, ⊎_elim}
use Rattle.std.proofs.lemmas.Bool.{false_from_ne_true}
use Rattle.std.proofs.lemmas.Bool.Decides.{eqb_tells}
use Rattle.pgas_base.specs.declared.shapes.Shape.{Shape}
use Rattle.pgas_base.specs.declared.starts.Start.{Start}
use Rattle.pgas_base.specs.Shapes.{IsShape}
use Rattle.epoch_laws.specs.declared.steps.Kind.{Kind}
use Rattle.epoch_laws.specs.declared.steps.Step.{Step}
use Rattle.epoch_laws.specs.declared.steps.Kind.TheVariants.{Register, Unregister, PinLook, PinSet, Unpin, TakeLook, TakeTry, Show, Hold, Touch, Return, DeferLook, DeferSwap, DeferLink, ElectLocal, ElectGlobal, EpochLook, ScanToken, Advance, Spread, Collect, Walk, Release, Leave, StackLook, StackNext, StackPop, StackPut, HandLink, HomeSwap, HomeLink, HomeTake, HomeWalk}
use Rattle.epoch_laws.specs.Places.{index_in, Place, place_in, pending, is_among}
use Rattle.epoch_laws.specs.States.{State, opening}
use Rattle.epoch_laws.specs.TokenSteps.{register, unregister, pin_look, pin_set, unpin}
use Rattle.epoch_laws.specs.TakeSteps.{take_look, take_try, show, give_back, is_free_with, look_count}
use Rattle.epoch_laws.specs.HoldSteps.{hold, touch}
use Rattle.epoch_laws.specs.DeferralSteps.{defer_look, defer_swap, defer_link}
use Rattle.epoch_laws.specs.ReclaimSteps.{elect_local, elect_global, epoch_look, scan_token, advance, spread, collect, walk, release, leave, last_count, has_global}
use Rattle.epoch_laws.specs.StackSteps.{stack_look, stack_next, stack_pop, stack_put, hand_link, same_head, looked_top}
use Rattle.epoch_laws.specs.HomeSteps.{home_swap, home_link, home_take, home_walk}
use Rattle.epoch_laws.specs.Steps.{move}
use Rattle.epoch_laws.specs.Runs.{AreAllowed, outcome, state_after}
use Rattle.epoch_laws.specs.Needs.{AllMet}
use Rattle.epoch_laws.specs.Laws.{IsNobodys, TakesNobodys, ObjectsAreApart}
use Rattle.epoch_laws.proofs.Lists.{truth, among_here, among_more}
use Rattle.epoch_laws.proofs.Locations.{Kind as LocationKind, InStack, InTaken, InRest, InHand, IsOwned, IsWalked, Location, at_}
use Rattle.epoch_laws.proofs.Paths.{IsPath, top_at, top_at_some, path_first}
use Rattle.epoch_laws.proofs.Links.{IsLink}
use Rattle.epoch_laws.proofs.Sound.{home_wait, phased, Map, IsSound}
use Rattle.epoch_laws.proofs.KeepsReclaims.{walk_path}
use Rattle.epoch_laws.proofs.KeepsStacks.{head_is, pop_path}
use Rattle.epoch_laws.proofs.KeepsHomes.{taken_path}
use Rattle.epoch_laws.proofs.SoundSteps.{move_keeps}
use Rattle.epoch_laws.proofs.Opening.{opening_map, opening_sound}

-- a choice of two states of one shape
of_one_shape : (b : Bool) (x y s : State) → x.shape ≡ s.shape → y.shape ≡ s.shape → (if b then x else y).shape ≡ s.shape
of_one_shape true x y s h k = h
of_one_shape false x y s h k = k

-- no step changes the shape
pub shape_kept : (s : State) (c : ℕ) (k : Kind) → (move s c k).outcome.next.shape ≡ s.shape
unfolding move register unregister pin_look pin_set unpin take_look take_try show give_back hold touch defer_look defer_swap defer_link elect_local elect_global epoch_look scan_token advance spread collect walk release leave stack_look stack_next stack_pop stack_put hand_link home_swap home_link home_take home_walk
shape_kept s c (Register l n) = ⊎_elim (λ e. rw e refl) (λ e. rw e refl) (truth (s.words.token_word (record { locale = l; number = n }) == 0))
shape_kept s c Unregister = refl
shape_kept s c PinLook = refl
shape_kept s c PinSet = refl
shape_kept s c Unpin = refl
shape_kept s c (TakeLook l i) = refl
shape_kept s c (TakeTry l i) = ⊎_elim (λ e. rw e refl) (λ e. rw e refl) (truth (is_free_with (s.words.header (record { locale = l; index = i })) (look_count (s.seat c).free_look)))
shape_kept s c (Show q) = refl
shape_kept s c (Hold q) = refl
shape_kept s c (Touch q) = refl
shape_kept s c (Return q) = refl
shape_kept s c (DeferLook q) = refl
shape_kept s c DeferSwap = refl
shape_kept s c DeferLink = refl
shape_kept s c ElectLocal = ⊎_elim (λ e. rw e refl) (λ e. rw e refl) (truth (s.words.election_of (s.seat c).token.locale == 0))
shape_kept s c ElectGlobal = ⊎_elim (λ e. rw e refl) (λ e. rw e refl) (truth (s.words.election == 0))
shape_kept s c EpochLook = refl
shape_kept s c ScanToken = refl
shape_kept s c Advance = refl
shape_kept s c Spread = refl
shape_kept s c Collect = refl
shape_kept s c Walk = refl
shape_kept s c (Release q) = ⊎_elim (λ e. rw e refl) (λ e. rw e refl) (truth (q.count == last_count))
shape_kept s c Leave = ⊎_elim (λ e. rw e refl) (λ e. rw e refl) (truth (has_global (s.seat c).phase))
shape_kept s c (StackLook l) = refl
shape_kept s c StackNext = refl
shape_kept s c StackPop = ⊎_elim (λ e. rw e refl) (λ e. rw e refl) (truth (same_head (s.words.free_head (s.seat c).stack.locale) (s.seat c).stack.head))
shape_kept s c (StackPut top tail) = ⊎_elim (λ e. rw e refl) (λ e. rw e refl) (truth (same_head (s.words.free_head (s.seat c).stack.locale) (s.seat c).stack.head))
shape_kept s c (HandLink q word) = refl
shape_kept s c (HomeSwap top tail) = refl
shape_kept s c HomeLink = refl
shape_kept s c (HomeTake l) = refl
shape_kept s c HomeWalk = ⊎_elim (λ e. rw e refl) (λ e. rw e refl) (truth (s.words.next (place_in ((s.seat c).homing.chain)) == pending))

pub steps_sound : (s : State) (m : Map) → IsSound s m → IsShape s.shape → (steps : List Step) → AreAllowed s steps → (n : Map) × IsSound (state_after s steps) n
steps_sound s m sound is [] h = (m, sound)
steps_sound s m sound is (step ∷ steps) h =
    let kept = move_keeps s m sound is step.seat step.kind h.0 in
    steps_sound ((outcome s step).next) kept.0 kept.1 (subst IsShape (sym (shape_kept s step.seat step.kind)) is) steps h.1

-- an object at a location that is no seat's hand, nor what it owns or has walked over, is nobody's
nobodys : (s : State) (m : Map) → IsSound s m → (p : Place) (k : Location) → is_among p (m.content k) ≡ true
    → (k.kind ≡ InHand → ⊥) → (k.kind ≡ IsOwned → ⊥) → (k.kind ≡ IsWalked → ⊥) → IsNobodys s p
nobodys s m sound p k among nh nown nw =
    let at = (sound.listed k).all p among in
    let elsewhere : (j : LocationKind) (d : ℕ) → is_among p (m.content (at_ j d)) ≡ true → k.kind ≡ j =
    λ j d h. ap (λ x. x.kind) (sym at.0 ∙ ((sound.listed (at_ j d)).all p h).0) in
    record {
      inside = at.1;
      owned = λ d. let l = sound.lists d in false_from_ne_true (is_among p ((s.seat d).owned)) (λ h. nown (elsewhere IsOwned d (subst (λ x. is_among p x ≡ true) (sym l.owned) h)));
      hand = λ d. let l = sound.lists d in false_from_ne_true (is_among p ((s.seat d).hand)) (λ h. nh (elsewhere InHand d (subst (λ x. is_among p x ≡ true) (sym l.hand) h)));
      walked = λ d. let l = sound.lists d in false_from_ne_true (is_among p ((s.seat d).reclaim.walked)) (λ h. nw (elsewhere IsWalked d (subst (λ x. is_among p x ≡ true) (sym l.walked) h)));
    }

-- the object below the one that a won pop takes is one of the shape, or there is none
popped_below : (s : State) (m : Map) → IsSound s m → (c : ℕ) → AllMet ((stack_pop s c).needs) → same_head (s.words.free_head (s.seat c).stack.locale) (s.seat c).stack.head ≡ true
    → index_in ((s.seat c).stack.next) ≤ s.shape.objects
unfolding stack_pop
popped_below s m sound c h won =
    let look = (s.seat c).stack in
    let l = look.locale in
    let p = looked_top look in
    let path = pop_path s m sound c h won in
    let listed = sound.listed (at_ InStack l) in
    let is_at = (listed.all p (subst (λ x. is_among p x ≡ true) (sym path.1) (among_here p path.0))).0 in
    let link : m.link p ≡ top_at l (index_in (s.words.next p)) = subst (λ y. IsLink s.words.next m.link (λ d. home_wait (s.seat d)) (λ d. (phased (s.seat d)).list_wait) y.kind y.first p) is_at (sound.linked.links p) in
    let was = sound.looks c in
    let e = head_is s m sound c (s.words.free_head l) won in
    let read : look.next ≡ s.words.next p = was.next_read h.1.0.1 (sym (ap (λ x. x.count) e)) in
    let within : (xs : List Place) → IsPath m.link (m.link p) xs → ((q : Place) → is_among q xs ≡ true → is_among q (m.content (at_ InStack l)) ≡ true) → index_in (s.words.next p) ≤ s.shape.objects =
    λ xs way all. ⊎_elim
    (λ z. let e = z.1 in omega arith)
    (λ z.
    let next : Place = record { locale = l; index = index_in (s.words.next p) } in
    let begins = path_first m.link next xs (subst (λ f. IsPath m.link f xs) (link ∙ top_at_some l (index_in (s.words.next p)) z.1) way) in
    let inside = (listed.all next (all next (subst (λ x. is_among next x ≡ true) (sym begins.1) (among_here next begins.0)))).1 in
    inside.index)
    (eqb_tells (index_in (s.words.next p)) 0) in
    subst (λ n. index_in n ≤ s.shape.objects) (sym read) (within path.0 path.2 (λ q x. subst (λ y. is_among q y ≡ true) (sym path.1) (among_more q p path.0 x)))

takes_nobodys : (s : State) (m : Map) → IsSound s m → IsShape s.shape → (c : ℕ) → TakesNobodys s c
unfolding stack_pop home_walk walk
takes_nobodys s m sound is c = record {
  popped = λ h won.
      let path = pop_path s m sound c h won in
      nobodys s m sound _ (at_ InStack ((s.seat c).stack.locale)) (subst (λ x. is_among (looked_top ((s.seat c).stack)) x ≡ true) (sym path.1) (among_here _ path.0)) (λ e. absurd (cc e)) (λ e. absurd (cc e)) (λ e. absurd (cc e));
  below = λ h won. popped_below s m sound c h won;
  taken = λ h.
      let path = taken_path s m sound is c h.1.0.1 in
      nobodys s m sound _ (at_ InTaken c) (subst (λ x. is_among (place_in ((s.seat c).homing.chain)) x ≡ true) (sym path.1) (among_here _ path.0)) (λ e. absurd (cc e)) (λ e. absurd (cc e)) (λ e. absurd (cc e));
  walked = λ h.
      let path = walk_path s m sound c h.1.0.0 h.1.0.1 in
      nobodys s m sound _ (at_ InRest c) (subst (λ x. is_among (place_in ((s.seat c).reclaim.chain)) x ≡ true) (sym path.1) (among_here _ path.0)) (λ e. absurd (cc e)) (λ e. absurd (cc e)) (λ e. absurd (cc e));
}

pub shape_after : (s : State) (steps : List Step) → (state_after s steps).shape ≡ s.shape
shape_after s [] = refl
shape_after s (step ∷ steps) = shape_after ((outcome s step).next) steps ∙ shape_kept s step.seat step.kind

pub objects_are_apart : ObjectsAreApart
unfolding opening
objects_are_apart shape start seats steps is counts run c =
    let begin : IsShape ((opening shape start seats).shape) = opened shape start seats is in
    let r = steps_sound (opening shape start seats) (opening_map shape start seats is counts) (opening_sound shape start seats is counts) begin steps run in
    takes_nobodys (state_after (opening shape start seats) steps) r.0 r.1 (subst IsShape (sym (shape_after (opening shape start seats) steps)) begin) c
  where
    opened : (shape : Shape) (start : Start) (seats : ℕ) → IsShape shape → IsShape ((opening shape start seats).shape)
    opened shape start seats is = is
