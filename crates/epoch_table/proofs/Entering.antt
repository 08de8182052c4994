-- A history that grows by what an action of the client enters: its items stay, and it stays legal.
use Rattle.std.proofs.Common.{◌≡◌, ℕ, List, [], ◌∷◌, ◌++◌, Option, Some, None, refl, ap, sym, subst}
use Rattle.std.proofs.lemmas.List.{append-nil}
use Rattle.std.specs.List.{All}
use Rattle.std.proofs.lemmas.List.Elements.{All-nil}
use Rattle.pass_book.specs.declared.entries.Entry.{Entry}
use Rattle.pass_book.specs.Histories.{Leads, IsLegal}
use Rattle.pass_book.proofs.Legal.{leaves-snoc}
use Rattle.pass_table.proofs.Lists.{all_one}
use Rattle.epoch_table.specs.declared.events.Happens.{Happens}
use Rattle.epoch_table.specs.declared.events.Happens.TheVariants.{Lists, Enters}
use Rattle.epoch_table.specs.declared.events.Past.{Past}
use Rattle.epoch_table.specs.Events.{items_in, entries_in, PastOpens, PastSteps}
use Rattle.epoch_table.specs.Clients.{entered}
use Rattle.epoch_table.specs.Rule.{AreOwn}
use Rattle.epoch_table.specs.Spots.{happened}

module _ {Call Reply : Type 0} where
  pub items_stay : (h : List (Entry (Happens Call Reply) (Unit {0}))) (c : ℕ) (o : Option (Call × Reply)) → items_in (h ++ happened c o) ≡ items_in h
  items_stay [] c None = refl
  items_stay [] c (Some both) = refl
  items_stay (e ∷ h) c o = by e.call (items_stay h c o)
    where
      by : (call : Happens Call Reply) → items_in (h ++ happened c o) ≡ items_in h → items_in (record { caller = e.caller; call = call; reply = tt } ∷ (h ++ happened c o)) ≡ items_in (record { caller = e.caller; call = call; reply = tt } ∷ h)
      by (Lists x) ih = ap (λ l. x ∷ l) ih
      by (Enters call reply) ih = ih

  pub entries_grow : (h : List (Entry (Happens Call Reply) (Unit {0}))) (c : ℕ) (o : Option (Call × Reply)) → entries_in (h ++ happened c o) ≡ entered (entries_in h) c o
  entries_grow h c None = ap entries_in (append-nil h)
  entries_grow [] c (Some both) = refl
  entries_grow (e ∷ h) c (Some both) = by e.call (entries_grow h c (Some both))
    where
      by : (call : Happens Call Reply) → entries_in (h ++ happened c (Some both)) ≡ entered (entries_in h) c (Some both)
          → entries_in (record { caller = e.caller; call = call; reply = tt } ∷ (h ++ happened c (Some both))) ≡ entered (entries_in (record { caller = e.caller; call = call; reply = tt } ∷ h)) c (Some both)
      by (Lists x) ih = ih
      by (Enters call reply) ih = ap (λ l. record { caller = e.caller; call = call; reply = reply } ∷ l) ih

  pub own_stay : (h : List (Entry (Happens Call Reply) (Unit {0}))) (c : ℕ) (o : Option (Call × Reply)) → AreOwn h → AreOwn (h ++ happened c o)
  own_stay [] c None own = tt
  own_stay [] c (Some both) own = tt
  own_stay (e ∷ h) c o own = by e.call (own_stay h c o) own
    where
      by : (call : Happens Call Reply) → (AreOwn h → AreOwn (h ++ happened c o)) → AreOwn (record { caller = e.caller; call = call; reply = tt } ∷ h) → AreOwn (record { caller = e.caller; call = call; reply = tt } ∷ (h ++ happened c o))
      by (Lists x) ih own = (own.0, ih own.1)
      by (Enters call reply) ih own = ih own

  pub happened_own : (c : ℕ) (o : Option (Call × Reply)) → All (λ (x : Entry (Happens Call Reply) (Unit {0})). x.caller ≡ c) (happened c o)
  happened_own c None = All-nil _
  happened_own c (Some both) = all_one (λ (x : Entry (Happens Call Reply) (Unit {0})). x.caller ≡ c) _ refl

-- ---- which of them are legal

module _ {Call Reply State : Type 0} (opens : State → Type 0) (step : State → Call → Reply → State → Type 0) where
  -- the entries of a history lead the client's object as the history leads it
  entries_lead : (h : List (Entry (Happens Call Reply) (Unit {0}))) (from to : Past State) → Leads (PastOpens opens) (PastSteps step) from h to → Leads opens step from.object (entries_in h) to.object
  entries_lead [] from to leads = ap (λ (p : Past State). p.object) leads
  entries_lead (e ∷ h) from to leads = by e.call (λ next. entries_lead h next to) leads
    where
      by : (call : Happens Call Reply) → ((next : Past State) → Leads (PastOpens opens) (PastSteps step) next h to → Leads opens step next.object (entries_in h) to.object)
          → (next : Past State) × PastSteps step from call e.reply next × Leads (PastOpens opens) (PastSteps step) next h to → Leads opens step from.object (entries_in (record { caller = e.caller; call = call; reply = e.reply } ∷ h)) to.object
      by (Lists x) ih goes = subst (λ o. Leads opens step o (entries_in h) to.object) (ap (λ (p : Past State). p.object) goes.1.0) (ih goes.0 goes.2)
      by (Enters call reply) ih goes =
          let is = ap (λ (p : Past State). p.object) goes.1.2 in (goes.1.0, goes.1.1, subst (λ o. Leads opens step o (entries_in h) to.object) is (ih goes.0 goes.2))

  -- a history leads also from another object, over which its entries lead
  leads_over : (h : List (Entry (Happens Call Reply) (Unit {0}))) (from to : Past State) (first last : State) → Leads (PastOpens opens) (PastSteps step) from h to → Leads opens step first (entries_in h) last
      → Leads (PastOpens opens) (PastSteps step) (record from { object = first }) h (record to { object = last })
  leads_over [] from to first last leads goes = λ i. record { epoch = (leads i).epoch; count = (leads i).count; items = (leads i).items; object = goes i }
  leads_over (e ∷ h) from to first last leads goes = by e.call (λ next object. leads_over h next to object last) leads goes
    where
      by : (call : Happens Call Reply)
          → ((next : Past State) (object : State) → Leads (PastOpens opens) (PastSteps step) next h to → Leads opens step object (entries_in h) last → Leads (PastOpens opens) (PastSteps step) (record next { object = object }) h (record to { object = last }))
          → (next : Past State) × PastSteps step from call e.reply next × Leads (PastOpens opens) (PastSteps step) next h to
          → Leads opens step first (entries_in (record { caller = e.caller; call = call; reply = e.reply } ∷ h)) last
          → (next : Past State) × PastSteps step (record from { object = first }) call e.reply next × Leads (PastOpens opens) (PastSteps step) next h (record to { object = last })
      by (Lists x) ih leads goes =
          let next = leads.0 in
          let is = leads.1.0 in
          (record next { object = first }, (ap (λ (p : Past State). record p { object = first }) is, leads.1.1, leads.1.2), ih next first leads.2 goes)
      by (Enters call reply) ih leads goes =
          let next = leads.0 in
          let is : next ≡ record from { object = leads.1.0 } = leads.1.2 in
          (record next { object = goes.0 }, (goes.0, goes.1, ap (λ (p : Past State). record p { object = goes.0 }) is), ih next goes.0 leads.2 goes.2)

  -- the last of the entries was a step
  last_step : (from : State) (h : List (Entry Call Reply)) (e : Entry Call Reply) (to : State) → Leads opens step from (h ++ e ∷ []) to → (mid : State) × Leads opens step from h mid × step mid e.call e.reply to
  last_step from [] e to goes = (from, refl, subst (step from e.call e.reply) goes.2 goes.1)
  last_step from (x ∷ h) e to goes = let rest = last_step goes.0 h e to goes.2 in (rest.0, (goes.0, goes.1, rest.1), rest.2)

  -- a legal history stays so by an entry of the client, where that leaves a legal list of the client's entries
  pub legal_entered : (start : Past State) (h : List (Entry (Happens Call Reply) (Unit {0}))) (c : ℕ) (o : Option (Call × Reply)) → IsLegal (PastOpens opens) (PastSteps step) start h
      → (IsLegal opens step start.object (entries_in h) → IsLegal opens step start.object (entered (entries_in h) c o)) → IsLegal (PastOpens opens) (PastSteps step) start (h ++ happened c o)
  legal_entered start h c None legal keeps = subst (IsLegal (PastOpens opens) (PastSteps step) start) (sym (append-nil h)) legal
  legal_entered start h c (Some both) legal keeps =
      let past = legal.0 in
      let all = keeps (past.object, (legal.1.0.1, entries_lead h start past legal.1.1)) in
      let last = last_step start.object (entries_in h) (record { caller = c; call = both.0; reply = both.1 }) all.0 all.1.1 in
      let before : Past State = record past { object = last.0 } in
      let after : Past State = record past { object = all.0 } in (
        after,
        leaves-snoc (PastOpens opens) (PastSteps step) start h before after (record { caller = c; call = Enters both.0 both.1; reply = tt })
            (legal.1.0, leads_over h start past start.object last.0 legal.1.1 last.1) (all.0, last.2, refl),
      )
