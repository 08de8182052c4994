-- A quiet step whose row is met is permitted on its word.
use Rattle.std.proofs.Common.{◌≡◌, ◌==◌, ◌<◌, ℕ, ◌++◌, if◌then◌else◌, ap, ◌∙◌, List, slice_index, refl, sym, subst, arith}
use prog.Atomic.{either}
use Rattle.atomic_table.specs.Table.{Me, Act, keeps as holding}
use Rattle.pgas_base.specs.declared.shapes.Shape.{Shape}
use Rattle.epoch_laws.specs.declared.steps.Kind.{Kind}
use Rattle.epoch_laws.specs.Words.{Words, WordName}
use Rattle.pass_table.specs.declared.views.View.{View}
use Rattle.pass_table.specs.Terms.{Effect, Acts}
use Rattle.epoch_table.specs.declared.events.Happens.{Happens}
use Rattle.epoch_table.specs.declared.parts.Plan.{Plan}
use Rattle.epoch_table.specs.declared.parts.Part.{Part}
use Rattle.epoch_table.specs.Layout.{named_place, table_words, IsNamed}
use Rattle.epoch_table.specs.Deeds.{Deed, Elsewhere, Loads, Stores, Swaps, Exchanges, deed, number_after}
use Rattle.epoch_table.specs.Events.{PastOpens, PastSteps}
use Rattle.epoch_table.specs.Heads.{Causes}
use Rattle.epoch_table.specs.Released.{ReleasesOnce}
use Rattle.epoch_table.specs.Knowledge.{Finds}
use Rattle.epoch_table.specs.Clients.{ClientTerms, AreLawful, KeptByTakes, KeptByShows, KeptByReturns, KeptByDeferrals, KeptByFrees, KeptByUnpins}
use Rattle.epoch_table.specs.Rule.{AreShown, manager_terms}
use Rattle.epoch_table.specs.Kinds.{looks_of, IsOn, entries_made, part_after, TellsKind, MayMake, LoadsAt, StoresAt, SwapsAt, ExchangesAt, Permitted, Makes}
use Rattle.pass_table.specs.Steps.{Steps}
use Rattle.pass_table.proofs.Going.{goes_to}
use Rattle.epoch_table.proofs.Places.{named_within}
use Rattle.epoch_table.proofs.Writing.{found_so}
use Rattle.epoch_table.proofs.MachineSteps.{now, learns_so, causes_so, releases_so, acts_so}

-- what a client owes, from its laws one by one
pub lawful_of : {Self View Call Reply State : Type 0} {K : ClientTerms Self View Call Reply State} → KeptByTakes K → KeptByShows K → KeptByReturns K → KeptByDeferrals K → KeptByFrees K → KeptByUnpins K → AreLawful K
lawful_of takes shows returns deferrals frees unpins = record { takes = takes; shows = shows; returns = returns; deferrals = deferrals; frees = frees; unpins = unpins }

module _ {Self View' Call Reply State' : Type 0} (K : ClientTerms Self View' Call Reply State') (opens : State' → Type 0) (step : State' → Call → Reply → State' → Type 0) (laws : AreLawful K)
    (plan : Plan Self) (slots : ℕ) (kind : Kind) (me : Me (Unit {0}) (View (Happens Call Reply) (Unit {0}) (Plan Self) (Part View') WordName)) (may : MayMake K plan me.0.number kind me.0.part) where
  -- on this word, where what is told is what is found there
  permitted : (name : WordName) → IsNamed plan.shape name → IsOn (deed me.0.part.seat kind) name → (said : ℕ → ℕ)
      → ((table : List ℕ) (words : Words) → AreShown plan.shape table words → Finds words (deed me.0.part.seat kind) (said (slice_index table (named_place plan.shape name))))
      → Permitted K opens step plan slots kind me (named_place plan.shape name) (number_after (deed me.0.part.seat kind)) said
  permitted name is_named on said finds m rule has rested below callers legal homes small =
      let c : ℕ = me.0.number in
      let found : ℕ = slice_index m.words (named_place plan.shape name) in
      let G : Part View' → Type 0 = λ p. (e : Effect (Unit {0}) (Happens Call Reply) (Unit {0}) (Part View') WordName) × (act : Act (Unit {0}))
      × Acts (manager_terms K) (PastOpens opens) (PastSteps step) plan m (named_place plan.shape name) (number_after (deed p.seat kind) found) c me.1 e act
      × TellsKind K plan c kind p me.1 (said found) e in
      let may' : MayMake K plan c kind (m.parts c) = subst (MayMake K plan c kind) (sym has) may in
      let finds' : Finds (now K opens step plan m rule).words (deed (m.parts c).seat kind) (said found) =
      subst (λ (p : Part View'). Finds (now K opens step plan m rule).words (deed p.seat kind) (said found)) (sym has) (finds m.words (now K opens step plan m rule).words rule.shown) in
      let on' : IsOn (deed (m.parts c).seat kind) name = subst (λ (p : Part View'). IsOn (deed p.seat kind) name) (sym has) on in
      let all : G (m.parts c) = (
        _,
        holding,
        acts_so K opens step plan m rule laws c kind may' (said found) finds' below name is_named on' legal me.1,
        (learns_so K opens step plan m rule laws c kind may' (said found) finds', (m.history, refl), causes_so K opens step plan m rule laws c kind may' (said found) finds' below, releases_so K opens step plan m rule laws c kind may' (said found) finds'),
      ) in
      subst G has all

  pub may_load : (word : ℕ) → LoadsAt plan.shape (deed me.0.part.seat kind) word → Permitted K opens step plan slots kind me word (λ n. n) (λ n. n)
  may_load word = by (deed me.0.part.seat kind) refl
    where
      by : (d : Deed) → deed me.0.part.seat kind ≡ d → LoadsAt plan.shape d word → Permitted K opens step plan slots kind me word (λ n. n) (λ n. n)
      by Elsewhere is at = absurd at
      by (Loads name) is at =
          let on : IsOn (deed me.0.part.seat kind) name = subst (λ d. IsOn d name) (sym is) refl in
          subst (λ w. Permitted K opens step plan slots kind me w (λ n. n) (λ n. n)) (sym at.1)
          (subst (λ d. Permitted K opens step plan slots kind me (named_place plan.shape name) (number_after d) (λ n. n)) is
          (permitted name at.0 on (λ n. n) (λ table words shown. found_so plan.shape table name at.0 (deed me.0.part.seat kind) words shown on)))
      by (Stores name number) is at = absurd at
      by (Swaps name number) is at = absurd at
      by (Exchanges name old new) is at = absurd at

  pub may_store : (word new : ℕ) → StoresAt plan.shape (deed me.0.part.seat kind) word new → Permitted K opens step plan slots kind me word (λ _. new) (λ _. new)
  may_store word new = by (deed me.0.part.seat kind) refl
    where
      by : (d : Deed) → deed me.0.part.seat kind ≡ d → StoresAt plan.shape d word new → Permitted K opens step plan slots kind me word (λ _. new) (λ _. new)
      by Elsewhere is at = absurd at
      by (Loads name) is at = absurd at
      by (Stores name number) is at =
          let on : IsOn (deed me.0.part.seat kind) name = subst (λ d. IsOn d name) (sym is) refl in
          subst (λ w. Permitted K opens step plan slots kind me w (λ _. new) (λ _. new)) (sym at.1)
          (subst (λ x. Permitted K opens step plan slots kind me (named_place plan.shape name) (λ _. x) (λ _. new)) (sym at.2)
          (subst (λ d. Permitted K opens step plan slots kind me (named_place plan.shape name) (number_after d) (λ _. new)) is
          (permitted name at.0 on (λ _. new) (λ table words shown. subst (λ d. Finds words d new) (sym is) tt))))
      by (Swaps name number) is at = absurd at
      by (Exchanges name old other) is at = absurd at

  pub may_swap : (word new : ℕ) → SwapsAt plan.shape (deed me.0.part.seat kind) word new → Permitted K opens step plan slots kind me word (λ _. new) (λ n. n)
  may_swap word new = by (deed me.0.part.seat kind) refl
    where
      by : (d : Deed) → deed me.0.part.seat kind ≡ d → SwapsAt plan.shape d word new → Permitted K opens step plan slots kind me word (λ _. new) (λ n. n)
      by Elsewhere is at = absurd at
      by (Loads name) is at = absurd at
      by (Stores name number) is at = absurd at
      by (Swaps name number) is at =
          let on : IsOn (deed me.0.part.seat kind) name = subst (λ d. IsOn d name) (sym is) refl in
          subst (λ w. Permitted K opens step plan slots kind me w (λ _. new) (λ n. n)) (sym at.1)
          (subst (λ x. Permitted K opens step plan slots kind me (named_place plan.shape name) (λ _. x) (λ n. n)) (sym at.2)
          (subst (λ d. Permitted K opens step plan slots kind me (named_place plan.shape name) (number_after d) (λ n. n)) is
          (permitted name at.0 on (λ n. n) (λ table words shown. found_so plan.shape table name at.0 (deed me.0.part.seat kind) words shown on))))
      by (Exchanges name old other) is at = absurd at

  pub may_exchange : (word old new : ℕ) → ExchangesAt plan.shape (deed me.0.part.seat kind) word old new → Permitted K opens step plan slots kind me word (λ n. either (n == old) new n) (λ n. n)
  may_exchange word old new = by (deed me.0.part.seat kind) refl
    where
      by : (d : Deed) → deed me.0.part.seat kind ≡ d → ExchangesAt plan.shape d word old new → Permitted K opens step plan slots kind me word (λ n. either (n == old) new n) (λ n. n)
      by Elsewhere is at = absurd at
      by (Loads name) is at = absurd at
      by (Stores name number) is at = absurd at
      by (Swaps name number) is at = absurd at
      by (Exchanges name from to) is at =
          let on : IsOn (deed me.0.part.seat kind) name = subst (λ d. IsOn d name) (sym is) refl in
          subst (λ w. Permitted K opens step plan slots kind me w (λ n. either (n == old) new n) (λ n. n)) (sym at.1)
          (subst (λ x. Permitted K opens step plan slots kind me (named_place plan.shape name) (λ n. either (n == x) new n) (λ n. n)) (sym at.2)
          (subst (λ x. Permitted K opens step plan slots kind me (named_place plan.shape name) (λ n. either (n == from) x n) (λ n. n)) (sym at.3)
          (subst (λ d. Permitted K opens step plan slots kind me (named_place plan.shape name) (number_after d) (λ n. n)) is
          (permitted name at.0 on (λ n. n) (λ table words shown. found_so plan.shape table name at.0 (deed me.0.part.seat kind) words shown on)))))

module _ (shape : Shape) (own word : ℕ) where
  named_low : (name : WordName) → IsNamed shape name → word ≡ named_place shape name → word < table_words shape own
  named_low name is at = let low = named_within shape name is in omega (arith, low, at)

  pub loads_within : (d : Deed) → LoadsAt shape d word → word < table_words shape own
  loads_within Elsewhere at = absurd at
  loads_within (Loads name) at = named_low name at.0 at.1
  loads_within (Stores name number) at = absurd at
  loads_within (Swaps name number) at = absurd at
  loads_within (Exchanges name old new) at = absurd at

  pub stores_within : (d : Deed) (new : ℕ) → StoresAt shape d word new → word < table_words shape own
  stores_within Elsewhere new at = absurd at
  stores_within (Loads name) new at = absurd at
  stores_within (Stores name number) new at = named_low name at.0 at.1
  stores_within (Swaps name number) new at = absurd at
  stores_within (Exchanges name old number) new at = absurd at

  pub swaps_within : (d : Deed) (new : ℕ) → SwapsAt shape d word new → word < table_words shape own
  swaps_within Elsewhere new at = absurd at
  swaps_within (Loads name) new at = absurd at
  swaps_within (Stores name number) new at = absurd at
  swaps_within (Swaps name number) new at = named_low name at.0 at.1
  swaps_within (Exchanges name old number) new at = absurd at

  pub exchanges_within : (d : Deed) (old new : ℕ) → ExchangesAt shape d word old new → word < table_words shape own
  exchanges_within Elsewhere old new at = absurd at
  exchanges_within (Loads name) old new at = absurd at
  exchanges_within (Stores name number) old new at = absurd at
  exchanges_within (Swaps name number) old new at = absurd at
  exchanges_within (Exchanges name from to) old new at = named_low name at.0 at.1

module _ {Self View' Call Reply State' : Type 0} (K : ClientTerms Self View' Call Reply State') (opens : State' → Type 0) (step : State' → Call → Reply → State' → Type 0) (plan : Plan Self) where
  -- what is seen after a step that sees
  seen_is : (kind : Kind) (m : Me (Unit {0}) (View (Happens Call Reply) (Unit {0}) (Plan Self) (Part View') WordName)) (found : ℕ) (n : Me (Unit {0}) (View (Happens Call Reply) (Unit {0}) (Plan Self) (Part View') WordName))
      → (steps : Steps (manager_terms K) (PastOpens opens) (PastSteps step) plan (λ found e. TellsKind K plan m.0.number kind m.0.part m.1 found e) m found n) → n.0.seen ≡ steps.effect.history ++ steps.effect.entries
  seen_is kind m found n steps =
      let e = steps.effect in
      ap (λ x. x.0.seen) steps.after ∙ ap (λ b. if b then e.history ++ e.entries else m.0.seen) (ap (λ x. x.sees) steps.told.1.1)

  -- what a step of a known kind does to its caller's seat
  pub makes_of : (kind : Kind) (m : Me (Unit {0}) (View (Happens Call Reply) (Unit {0}) (Plan Self) (Part View') WordName)) (found : ℕ) (n : Me (Unit {0}) (View (Happens Call Reply) (Unit {0}) (Plan Self) (Part View') WordName))
      → Steps (manager_terms K) (PastOpens opens) (PastSteps step) plan (λ found e. TellsKind K plan m.0.number kind m.0.part m.1 found e) m found n → Makes K opens step plan kind m found n
  makes_of kind m found n steps = (
    steps.told.0,
    goes_to (manager_terms K) (PastOpens opens) (PastSteps step) plan (λ found e. TellsKind K plan m.0.number kind m.0.part m.1 found e) m found n steps
        (looks_of (deed m.0.part.seat kind) found) (entries_made K plan m.0.number kind m.0.part found) (part_after K plan m.0.number kind m.0.part found) m.1 steps.told.1,
    subst (Causes plan.start.stack plan.callers kind m.0.part.won found) (sym (seen_is kind m found n steps)) steps.told.2,
    subst (ReleasesOnce m.0.number kind) (sym (seen_is kind m found n steps)) steps.told.3,
  )
