-- What the seat of the last advance has freed since is all that was freed since.
use Rattle.std.proofs.Common.{◌≡◌, ◌==◌, ℕ, Bool, true, false, List, [], ◌∷◌, ◌++◌, Some, refl, ap, sym, ◌∙◌, subst, ⊎_elim, eq-eqb, append_assoc, append-nil}
use Rattle.std.specs.Prelude.{fold, if◌then◌else◌}
use Rattle.std.proofs.lemmas.Bool.{cases_Bool}
use Rattle.pass_book.specs.declared.entries.Entry.{Entry}
use Rattle.pgas_base.specs.Pointers.{Pointer}
use Rattle.epoch_laws.specs.declared.events.EpochEvent.TheVariants.{Registered, Unregistered, Pinned, Unpinned, Given, Shown, Held, Deferred, Freed, Returned}
use Rattle.epoch_laws.specs.declared.events.Item.{Item}
use Rattle.epoch_laws.specs.declared.events.Item.TheVariants.{Event, Advance, Claim, Leave}
use Rattle.epoch_laws.specs.declared.steps.Kind.TheVariants.{Release}
use Rattle.epoch_laws.specs.Needs.{AllMet, event}
use Rattle.epoch_laws.specs.ReclaimSteps.{release}
use Rattle.epoch_laws.specs.Seats.{Seat, Advanced}
use Rattle.epoch_laws.specs.States.{State}
use Rattle.epoch_laws.specs.Steps.{move}
use Rattle.epoch_laws.specs.Timing.{timing, timing_at}
use Rattle.epoch_laws.specs.Told.{summary, is_advanced}
use Rattle.epoch_laws.specs.Items.{releaser_after, releaser, IsExact, ReleasesFrom}
use Rattle.epoch_laws.specs.Places.{Place, place_of}
use Rattle.epoch_laws.specs.Released.{freed_after, freed_since}
use Rattle.epoch_laws.proofs.ReleasedOnce.{freed_more, releaser_then}
use Rattle.epoch_table.specs.declared.events.Happens.{Happens}
use Rattle.epoch_table.specs.declared.events.Happens.TheVariants.{Lists, Enters}
use Rattle.epoch_table.specs.Events.{seat_of, items_in}
use Rattle.epoch_table.specs.Released.{released_after, released_by}
use Rattle.epoch_table.specs.Rule.{AreOwn}

either_way : {A : Type 0} (b : Bool) (x : A) → (if b then x else x) ≡ x
either_way b x = ⊎_elim (λ e. rw e refl) (λ e. rw e refl) (cases_Bool b)

module _ (first count c : ℕ) where
  -- one more item
  same_item : (before : List Item) (x : Item) (caller : ℕ) (mine : List Place) → seat_of x ≡ caller → IsExact first before x → (releaser before ≡ Some c → mine ≡ freed_since before)
      → releaser_after (releaser before) x ≡ Some c → (if caller == c then freed_after mine x else mine) ≡ freed_after (freed_since before) x
  unfolding releaser_after
  same_item before (Advance d e) caller mine own exact same is =
      let me : caller ≡ c = sym own ∙ cc is in rw (eq-eqb caller c me) refl
  same_item before (Event d (Freed q) tag) caller mine own exact same is =
      let d_me : d ≡ c = cc (exact.0, is) in
      let me : caller ≡ c = sym own ∙ d_me in
      rw (eq-eqb caller c me) (ap (λ l. place_of q ∷ l) (same is))
  same_item before (Event d (Registered t) tag) caller mine own exact same is = either_way (caller == c) mine ∙ same is
  same_item before (Event d (Unregistered t) tag) caller mine own exact same is = either_way (caller == c) mine ∙ same is
  same_item before (Event d (Pinned t) tag) caller mine own exact same is = either_way (caller == c) mine ∙ same is
  same_item before (Event d (Unpinned t) tag) caller mine own exact same is = either_way (caller == c) mine ∙ same is
  same_item before (Event d (Given q) tag) caller mine own exact same is = either_way (caller == c) mine ∙ same is
  same_item before (Event d (Shown q) tag) caller mine own exact same is = either_way (caller == c) mine ∙ same is
  same_item before (Event d (Held t q) tag) caller mine own exact same is = either_way (caller == c) mine ∙ same is
  same_item before (Event d (Deferred t q) tag) caller mine own exact same is = either_way (caller == c) mine ∙ same is
  same_item before (Event d (Returned q) tag) caller mine own exact same is = either_way (caller == c) mine ∙ same is
  same_item before (Claim d g) caller mine own exact same is = either_way (caller == c) mine ∙ same is
  same_item before (Leave d true) caller mine own exact same is = absurd (cc is)
  same_item before (Leave d false) caller mine own exact same is = either_way (caller == c) mine ∙ same is

  module _ {Call Reply : Type 0} where
    same_from : (before : List Item) (mine : List Place) (h : List (Entry (Happens Call Reply) (Unit {0}))) → ReleasesFrom first count before (items_in h) → AreOwn h → (releaser before ≡ Some c → mine ≡ freed_since before)
        → releaser (before ++ items_in h) ≡ Some c → fold (released_after c) mine h ≡ freed_since (before ++ items_in h)
    same_from before mine [] exact own same is = same (subst (λ l. releaser l ≡ Some c) (append-nil before) is) ∙ ap freed_since (sym (append-nil before))
    same_from before mine (e ∷ h) exact own same is = by_call (e.call) (λ b l x o s i. same_from b l h x o s i) exact own is
      where
        by_call : (call : Happens Call Reply)
            → ((b : List Item) (l : List Place) → ReleasesFrom first count b (items_in h) → AreOwn h → (releaser b ≡ Some c → l ≡ freed_since b) → releaser (b ++ items_in h) ≡ Some c → fold (released_after c) l h ≡ freed_since (b ++ items_in h))
            → ReleasesFrom first count before (items_in (record e { call = call } ∷ h)) → AreOwn (record e { call = call } ∷ h)
            → releaser (before ++ items_in (record e { call = call } ∷ h)) ≡ Some c → fold (released_after c) mine (record e { call = call } ∷ h) ≡ freed_since (before ++ items_in (record e { call = call } ∷ h))
        by_call (Enters call reply) rest exact own is = rest before mine exact own same is
        by_call (Lists x) rest exact own is =
            let whole = append_assoc before (x ∷ []) (items_in h) in
            let on =
            rest (before ++ x ∷ []) (if e.caller == c then freed_after mine x else mine) exact.2 own.1
            (λ now. same_item before x e.caller mine own.0 exact.1 same (sym (releaser_then before x) ∙ now) ∙ sym (freed_more before x))
            (subst (λ l. releaser l ≡ Some c) (sym whole) is) in
            on ∙ ap freed_since whole

    pub same_released : (h : List (Entry (Happens Call Reply) (Unit {0}))) → ReleasesFrom first count [] (items_in h) → AreOwn h → releaser (items_in h) ≡ Some c → released_by c h ≡ freed_since (items_in h)
    unfolding released_by freed_since
    same_released h exact own is = same_from [] [] h exact own (λ none. refl) is

-- what a release needs of its seat, and what it lists
pub release_tells : (s : State) (c : ℕ) (q : Pointer) → AllMet (move s c (Release q)).needs → ((s.seat c).phase ≡ Advanced) × ((move s c (Release q)).outcome.items ≡ event c (Freed q))
unfolding move release
release_tells s c q h = (h.1.1.0, refl)

pub advanced_is : (x : Seat) → x.phase ≡ Advanced → (summary (timing x)).advanced ≡ true
unfolding is_advanced timing_at
advanced_is x is = ap (λ p. is_advanced (timing_at p x.token x.announced x.reclaim)) is

-- a release leaves the last advance whose it was
pub releaser_still : (items : List Item) (c : ℕ) (q : Pointer) → releaser items ≡ Some c → releaser (items ++ event c (Freed q)) ≡ Some c
unfolding releaser_after
releaser_still items c q is = releaser_then items (Event c (Freed q) 0) ∙ is
