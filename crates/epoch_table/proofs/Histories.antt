-- Histories of a manager that grow by the items of one step.
use Rattle.std.proofs.Common.{◌≡◌, ◌⊎◌, ℕ, List, [], ◌∷◌, ◌++◌, refl, ap, sym, ◌∙◌, subst, ⊎_elim, append_assoc}
use Rattle.std.proofs.lemmas.List.{append-nil}
use Rattle.std.specs.List.{All}
use Rattle.std.proofs.lemmas.List.Elements.{All-nil}
use Rattle.pass_book.specs.declared.entries.Entry.{Entry}
use Rattle.pass_book.specs.Histories.{Leads, IsLegal}
use Rattle.pass_book.proofs.Legal.{leaves-snoc}
use Rattle.pass_table.proofs.Lists.{all_cons}
use Rattle.epoch_laws.specs.declared.events.Item.{Item}
use Rattle.epoch_laws.specs.declared.events.Item.TheVariants.{Event, Advance, Claim, Leave}
use Rattle.epoch_laws.specs.declared.events.EpochEvent.TheVariants.{Registered, Unregistered, Pinned, Unpinned, Given, Shown, Held, Deferred, Freed, Returned}
use Rattle.epoch_laws.specs.Histories.{IsLegalHistory}
use Rattle.epoch_laws.specs.Items.{happenings, IsExactRelease}
use Rattle.epoch_table.specs.declared.events.Happens.{Happens}
use Rattle.epoch_table.specs.declared.events.Happens.TheVariants.{Lists, Enters}
use Rattle.epoch_table.specs.declared.events.Past.{Past}
use Rattle.epoch_table.specs.Events.{AreOf, items_in, entries_in, PastOpens, PastSteps}
use Rattle.epoch_table.specs.Clients.{deferrals_in}
use Rattle.epoch_table.specs.Rule.{AreOwn}
use Rattle.epoch_table.specs.Kinds.{entry_of, entries_of_items}

-- the deferrals of two lists of items are those of both
pub deferrals_then : (xs ys : List Item) → deferrals_in (xs ++ ys) ≡ deferrals_in xs ++ deferrals_in ys
unfolding deferrals_in
deferrals_then [] ys = refl
deferrals_then (Event c (Registered t) tag ∷ xs) ys = deferrals_then xs ys
deferrals_then (Event c (Unregistered t) tag ∷ xs) ys = deferrals_then xs ys
deferrals_then (Event c (Pinned t) tag ∷ xs) ys = deferrals_then xs ys
deferrals_then (Event c (Unpinned t) tag ∷ xs) ys = deferrals_then xs ys
deferrals_then (Event c (Given q) tag ∷ xs) ys = deferrals_then xs ys
deferrals_then (Event c (Shown q) tag ∷ xs) ys = deferrals_then xs ys
deferrals_then (Event c (Held t q) tag ∷ xs) ys = deferrals_then xs ys
deferrals_then (Event c (Deferred t q) tag ∷ xs) ys = ap (λ l. record { caller = c; pointer = q } ∷ l) (deferrals_then xs ys)
deferrals_then (Event c (Freed q) tag ∷ xs) ys = deferrals_then xs ys
deferrals_then (Event c (Returned q) tag ∷ xs) ys = deferrals_then xs ys
deferrals_then (Advance c e ∷ xs) ys = deferrals_then xs ys
deferrals_then (Claim c g ∷ xs) ys = deferrals_then xs ys
deferrals_then (Leave c g ∷ xs) ys = deferrals_then xs ys

module _ {Call Reply : Type 0} where
  pub items_then : (h : List (Entry (Happens Call Reply) (Unit {0}))) (c : ℕ) (xs : List Item) → items_in (h ++ entries_of_items c xs) ≡ items_in h ++ xs
  items_then [] c [] = refl
  items_then [] c (x ∷ xs) = ap (λ l. x ∷ l) (items_then [] c xs)
  items_then (e ∷ h) c xs = by e.call (items_then h c xs)
    where
      by : (call : Happens Call Reply) → items_in (h ++ entries_of_items c xs) ≡ items_in h ++ xs → items_in (record { caller = e.caller; call = call; reply = tt } ∷ (h ++ entries_of_items c xs)) ≡ items_in (record { caller = e.caller; call = call; reply = tt } ∷ h) ++ xs
      by (Lists x) ih = ap (λ l. x ∷ l) ih
      by (Enters call reply) ih = ih

  pub entries_then : (h : List (Entry (Happens Call Reply) (Unit {0}))) (c : ℕ) (xs : List Item) → entries_in (h ++ entries_of_items c xs) ≡ entries_in h
  entries_then [] c [] = refl
  entries_then [] c (x ∷ xs) = entries_then [] c xs
  entries_then (e ∷ h) c xs = by e.call (entries_then h c xs)
    where
      by : (call : Happens Call Reply) → entries_in (h ++ entries_of_items c xs) ≡ entries_in h → entries_in (record { caller = e.caller; call = call; reply = tt } ∷ (h ++ entries_of_items c xs)) ≡ entries_in (record { caller = e.caller; call = call; reply = tt } ∷ h)
      by (Lists x) ih = ih
      by (Enters call reply) ih = ap (λ l. record { caller = e.caller; call = call; reply = reply } ∷ l) ih

  pub own_then : (h : List (Entry (Happens Call Reply) (Unit {0}))) (c : ℕ) (xs : List Item) → AreOwn h → AreOf c xs → AreOwn (h ++ entries_of_items c xs)
  own_then [] c [] own of = tt
  own_then [] c (x ∷ xs) own of = (of.0, own_then [] c xs tt of.1)
  own_then (e ∷ h) c xs own of = by e.call (λ own. own_then h c xs own of) own
    where
      by : (call : Happens Call Reply) → (AreOwn h → AreOwn (h ++ entries_of_items c xs)) → AreOwn (record { caller = e.caller; call = call; reply = tt } ∷ h) → AreOwn (record { caller = e.caller; call = call; reply = tt } ∷ (h ++ entries_of_items c xs))
      by (Lists x) ih own = (own.0, ih own.1)
      by (Enters call reply) ih own = ih own

  pub entries_own : (c : ℕ) (xs : List Item) → All (λ (x : Entry (Happens Call Reply) (Unit {0})). x.caller ≡ c) (entries_of_items c xs)
  entries_own c [] = All-nil _
  entries_own c (x ∷ xs) = all_cons (λ (x : Entry (Happens Call Reply) (Unit {0})). x.caller ≡ c) (entry_of c x) (entries_of_items c xs) refl (entries_own c xs)

module _ {Call Reply State : Type 0} (opens : State → Type 0) (step : State → Call → Reply → State → Type 0) where
  -- what a history leaves has its items, and the numbers with which it began
  pub record IsPastOf (from : Past State) (h : List (Entry (Happens Call Reply) (Unit {0}))) (to : Past State) : Type 0 where
    pub items : to.items ≡ from.items ++ items_in h
    pub epoch : to.epoch ≡ from.epoch
    pub count : to.count ≡ from.count

  past_of : (h : List (Entry (Happens Call Reply) (Unit {0}))) (from to : Past State) → Leads (PastOpens opens) (PastSteps step) from h to → IsPastOf from h to
  past_of [] from to e = record { items = ap (λ p. p.items) (sym e) ∙ sym (append-nil from.items); epoch = ap (λ p. p.epoch) (sym e); count = ap (λ p. p.count) (sym e) }
  past_of (e ∷ h) from to leads = by e.call (λ next goes. past_of h next to goes) leads
    where
      by : (call : Happens Call Reply) → ((next : Past State) → Leads (PastOpens opens) (PastSteps step) next h to → IsPastOf next h to) → (next : Past State) × PastSteps step from call e.reply next × Leads (PastOpens opens) (PastSteps step) next h to
          → IsPastOf from (record { caller = e.caller; call = call; reply = e.reply } ∷ h) to
      by (Lists x) ih goes =
          let rest = ih goes.0 goes.2 in
          let is = goes.1.0 in
          record {
            items = rest.items ∙ (ap (λ p. p.items ++ items_in h) is ∙ append_assoc from.items (x ∷ []) (items_in h));
            epoch = rest.epoch ∙ ap (λ p. p.epoch) is;
            count = rest.count ∙ ap (λ p. p.count) is;
          }
      by (Enters call reply) ih goes =
          let rest = ih goes.0 goes.2 in
          let is = goes.1.2 in
          record { items = rest.items ∙ ap (λ p. p.items ++ items_in h) is; epoch = rest.epoch ∙ ap (λ p. p.epoch) is; count = rest.count ∙ ap (λ p. p.count) is }

  -- an item that leaves a legal history of events, and exact releases, leaves a legal history
  legal_one : (start : Past State) (h : List (Entry (Happens Call Reply) (Unit {0}))) (c : ℕ) (x : Item) → start.items ≡ [] → IsLegal (PastOpens opens) (PastSteps step) start h
      → IsLegalHistory start.count (happenings (items_in h ++ x ∷ [])) → IsExactRelease start.epoch start.count (items_in h ++ x ∷ []) → IsLegal (PastOpens opens) (PastSteps step) start (h ++ entry_of c x ∷ [])
  legal_one start h c x none legal events exact =
      let past = legal.0 in
      let is = past_of h start past legal.1.1 in
      let items : past.items ++ x ∷ [] ≡ items_in h ++ x ∷ [] = ap (λ l. l ++ x ∷ []) (is.items ∙ ap (λ l. l ++ items_in h) none) in
      let new : Past State = record past { items = past.items ++ x ∷ [] } in
      let events' : IsLegalHistory past.count (happenings (past.items ++ x ∷ [])) = subst (λ n. IsLegalHistory n (happenings (past.items ++ x ∷ []))) (sym is.count) (subst (λ l. IsLegalHistory start.count (happenings l)) (sym items) events) in
      let exact' : IsExactRelease past.epoch past.count (past.items ++ x ∷ []) =
      subst (λ n. IsExactRelease past.epoch n (past.items ++ x ∷ [])) (sym is.count) (subst (λ e. IsExactRelease e start.count (past.items ++ x ∷ [])) (sym is.epoch) (subst (λ l. IsExactRelease start.epoch start.count l) (sym items) exact)) in
      (new, leaves-snoc (PastOpens opens) (PastSteps step) start h past new (entry_of c x) legal.1 (refl, events', exact'))

  pub legal_then : (start : Past State) (h : List (Entry (Happens Call Reply) (Unit {0}))) (c : ℕ) (xs : List Item) → start.items ≡ [] → (xs ≡ []) ⊎ ((x : Item) × (xs ≡ x ∷ []))
      → IsLegal (PastOpens opens) (PastSteps step) start h → IsLegalHistory start.count (happenings (items_in h ++ xs)) → IsExactRelease start.epoch start.count (items_in h ++ xs)
      → IsLegal (PastOpens opens) (PastSteps step) start (h ++ entries_of_items c xs)
  legal_then start h c xs none few legal events exact =
      ⊎_elim
      (λ e. subst (λ l. IsLegal (PastOpens opens) (PastSteps step) start (h ++ entries_of_items c l)) (sym e) (subst (IsLegal (PastOpens opens) (PastSteps step) start) (sym (append-nil h)) legal))
      (λ e.
      subst (λ l. IsLegal (PastOpens opens) (PastSteps step) start (h ++ entries_of_items c l)) (sym e.1)
      (legal_one start h c e.0 none legal (subst (λ l. IsLegalHistory start.count (happenings (items_in h ++ l))) e.1 events) (subst (λ l. IsExactRelease start.epoch start.count (items_in h ++ l)) e.1 exact)))
      few
