-- What the calls on tokens come to.
use Rattle.std.proofs.Common.{◌≡◌, ◌≢◌, ◌⊎◌, ◌<◌, ◌+◌, ℕ, List, [], ◌∷◌, ◌++◌, length, refl, ap, sym, ◌∙◌, subst, inl, inr, ⊎_elim, arith, Some, None, length-append}
use Rattle.atomic_table.specs.Table.{Me}
use Rattle.pass_book.specs.declared.entries.Entry.{Entry}
use Rattle.pass_book.specs.declared.entries.Look.{Look}
use Rattle.epoch_laws.specs.declared.tokens.Token.{Token}
use Rattle.epoch_laws.specs.declared.events.EpochEvent.TheVariants.{Registered as IsRegistered, Pinned as PinnedEvent}
use Rattle.epoch_laws.specs.declared.events.Item.TheVariants.{Event}
use Rattle.epoch_laws.specs.declared.steps.Kind.{Kind}
use Rattle.epoch_laws.specs.declared.steps.Kind.TheVariants.{Register, PinLook, PinSet}
use Rattle.epoch_laws.specs.Needs.{event}
use Rattle.epoch_laws.specs.Seats.{Idle, Registered, PinLooked, Pinned}
use Rattle.epoch_laws.specs.Words.{WordName, token, local_epoch}
use Rattle.pass_table.specs.declared.views.View.{View}
use Rattle.pass_table.specs.Steps.{GoesTo, GoesAmongTo}
use Rattle.pass_table.proofs.Going.{goes_then, among_then, among_to}
use Rattle.pass_table.proofs.Lists.{in_order_more}
use Rattle.epoch_table.specs.declared.events.Happens.{Happens}
use Rattle.epoch_table.specs.declared.parts.Plan.{Plan}
use Rattle.epoch_table.specs.declared.parts.Part.{Part}
use Rattle.epoch_table.specs.Clients.{ClientTerms}
use Rattle.epoch_table.specs.Deeds.{deed}
use Rattle.epoch_table.specs.Events.{PastOpens, PastSteps}
use Rattle.epoch_table.specs.Kinds.{looks_of, entries_of_items, client_after, MayMake, Makes}
use Rattle.epoch_table.specs.Facts.{facts_after}
use Rattle.epoch_table.specs.Heads.{won_after}
use Rattle.epoch_table.specs.Knowledge.{Told, tells}
use Rattle.epoch_table.specs.Rule.{manager_terms}
use Rattle.epoch_manager.specs.Tokens.{token_read, AreOthers, TakesToken, PinsSeat}
use Rattle.epoch_manager.proofs.Rows.{register_row, pin_look_row, pin_set_row}
use Rattle.epoch_manager.proofs.Told.{register_lost, register_won, pin_look_told, pin_set_told}

module _ {C View' Call Reply State' : Type 0} (K : ClientTerms C View' Call Reply State') (opens : State' → Type 0) (step : State' → Call → Reply → State' → Type 0) (plan : Plan C) where
  abbrev pub Seated : Type 0
  Seated = Me (Unit {0}) (View (Happens Call Reply) (Unit {0}) (Plan C) (Part View') WordName)

  abbrev pub Goes : Seated → Seated → List (Look WordName) → List (Entry (Happens Call Reply) (Unit {0})) → Part View' → Type 0
  Goes m n words entries part = GoesTo (manager_terms K) (PastOpens opens) (PastSteps step) plan m n words entries part m.1

  abbrev pub after_made : Kind → Seated → ℕ → Told → Part View'
  after_made kind m found t = record {
    seat = t.seat;
    facts = facts_after m.0.part.seat kind m.0.part.facts found;
    won = won_after m.0.part.seat kind m.0.part.won found;
    client = client_after K m.0.part.seat kind m.0.part.client;
  }

  -- what a step does, where it is known what it tells
  pub made_of : (kind : Kind) (m n : Seated) (found : ℕ) (t : Told) → tells plan.shape plan.callers m.0.number m.0.part.seat m.0.part.facts kind found ≡ t → Makes K opens step plan kind m found n
      → Goes m n (looks_of (deed m.0.part.seat kind) found) (entries_of_items m.0.number t.items) (after_made kind m found t)
  made_of kind m n found t is makes =
      subst (λ (u : Told). Goes m n (looks_of (deed m.0.part.seat kind) found) (entries_of_items m.0.number u.items) (after_made kind m found u)) is makes.1

  -- steps without an entry, and then others
  pub then_goes : (m k n : Seated) (words more : List (Look WordName)) (entries : List (Entry (Happens Call Reply) (Unit {0}))) (part last : Part View') → Goes m k words [] part → Goes k n more entries last → Goes m n (words ++ more) entries last
  then_goes m k n words more entries part last first next = (
    goes_then (manager_terms K) (PastOpens opens) (PastSteps step) plan m.0 k.0 n.0 words more entries first.0 next.0,
    next.1,
    next.2 ∙ first.2,
    next.3,
  )

  -- the same of steps that made entries, between which those of others may stand
  abbrev pub Among : Seated → Seated → List (Look WordName) → List (Entry (Happens Call Reply) (Unit {0})) → Part View' → Type 0
  Among m n words entries part = GoesAmongTo (manager_terms K) (PastOpens opens) (PastSteps step) plan m n words entries part m.1

  pub as_among : (m n : Seated) (words : List (Look WordName)) (entries : List (Entry (Happens Call Reply) (Unit {0}))) (part : Part View') → Goes m n words entries part → Among m n words entries part
  as_among m n words entries part goes = among_to (manager_terms K) (PastOpens opens) (PastSteps step) plan m n words entries part m.1 goes

  pub then_among : (m k n : Seated) (words more : List (Look WordName)) (entries others : List (Entry (Happens Call Reply) (Unit {0}))) (part last : Part View') → Among m k words entries part → Among k n more others last
      → Among m n (words ++ more) (entries ++ others) last
  then_among m k n words more entries others part last first next = (
    among_then (manager_terms K) (PastOpens opens) (PastSteps step) plan m.0 k.0 n.0 words more entries others first.0 next.0,
    next.1,
    next.2 ∙ first.2,
    next.3,
  )

  -- ---- taking a token

  -- so many tokens of the locale were tried
  pub record HasTried (locale tries : ℕ) (m n : Seated) : Type 0 where
    pub words : List (Look WordName)
    pub others : AreOthers locale tries words
    pub so : ((n ≡ m) × (words ≡ [])) ⊎ Goes m n words [] m.0.part

  pub no_try : (locale : ℕ) (m : Seated) → HasTried locale 0 m m
  no_try locale m = record { words = []; others = record { count = refl; each = λ k look none. absurd cc }; so = inl (refl, refl) }

  pub tried_same : (locale tries : ℕ) (m n : Seated) → HasTried locale tries m n → (n.0.number ≡ m.0.number) × (n.0.part ≡ m.0.part)
  tried_same locale tries m n tried = ⊎_elim (λ t. (ap (λ x. x.0.number) t.0, ap (λ x. x.0.part) t.0)) (λ t. (t.0.same.number, t.1)) tried.so

  pub may_register : (m : Seated) (locale number : ℕ) → m.0.number < plan.callers → m.0.part.seat.phase ≡ Idle → locale < plan.shape.locales → number < plan.shape.tokens
      → MayMake K plan m.0.number (Register locale number) m.0.part
  may_register m locale number below is hl hn = record { row = register_row plan.shape plan.callers m.0.number m.0.part.seat m.0.part.facts below locale number hl hn is; made = tt; allowed = tt }

  -- the tries so far, and then a step
  after_tries : (locale tries : ℕ) (m k n : Seated) (more : List (Look WordName)) (entries : List (Entry (Happens Call Reply) (Unit {0}))) (part : Part View') → (tried : HasTried locale tries m k)
      → Goes k n more entries part → Goes m n (tried.words ++ more) entries part
  after_tries locale tries m k n more entries part tried next =
      ⊎_elim
      (λ t. subst (λ (l : List (Look WordName)). Goes m n (l ++ more) entries part) (sym t.1) (subst (λ (x : Seated). Goes x n more entries part) t.0 next))
      (λ t. then_goes m k n tried.words more entries m.0.part part t next)
      tried.so

  pub one_more : (locale number found : ℕ) (m k n : Seated) → HasTried locale number m k → found ≢ 0 → Makes K opens step plan (Register locale number) k found n → HasTried locale (number + 1) m n
  one_more locale number found m k n tried ne makes =
      let t : Token = record { locale = locale; number = number } in
      let same = tried_same locale number m k tried in
      let next = made_of (Register locale number) k n found _ (register_lost plan.shape plan.callers k.0.number k.0.part.seat k.0.part.facts locale number found ne) makes in
      let all = after_tries locale number m k n (token_read t found ∷ []) [] k.0.part tried next in
      record {
        words = tried.words ++ token_read t found ∷ [];
        others = record {
          count = length-append tried.words (token_read t found ∷ []) ∙ ap (λ i. i + 1) tried.others.count;
          each = in_order_more (λ j (look : Look WordName). (look.name ≡ token (record { locale = locale; number = j })) × (look.word ≢ 0)) tried.words _ (token_read t found) number refl tried.others.count tried.others.each (refl, ne);
        };
        so = inr (subst (Goes m n (tried.words ++ token_read t found ∷ []) []) same.1 all);
      }

  pub takes_it : (locale number found : ℕ) (m k n : Seated) → HasTried locale number m k → found ≡ 0 → number < plan.shape.tokens → Makes K opens step plan (Register locale number) k found n
      → TakesToken K opens step plan locale m n (Some number)
  takes_it locale number found m k n tried is low makes =
      let t : Token = record { locale = locale; number = number } in
      let same = tried_same locale number m k tried in
      let next = made_of (Register locale number) k n found _ (register_won plan.shape plan.callers k.0.number k.0.part.seat k.0.part.facts locale number found is) makes in
      let all = after_tries locale number m k n (token_read t found ∷ []) _ _ tried next in
      let part_of : Part View' → Part View' = λ p. record p { seat = record p.seat { phase = Registered; token = t } } in (
        tried.words ++ token_read t 0 ∷ [],
        (tried.words, tried.others, refl),
        low,
        subst (λ (w : ℕ). Goes m n (tried.words ++ token_read t w ∷ []) (entries_of_items m.0.number (event m.0.number (IsRegistered t))) (part_of m.0.part)) is
            (subst (λ (i : ℕ). Goes m n (tried.words ++ token_read t found ∷ []) (entries_of_items i (event i (IsRegistered t))) (part_of m.0.part)) same.0
            (subst (λ (p : Part View'). Goes m n (tried.words ++ token_read t found ∷ []) (entries_of_items k.0.number (event k.0.number (IsRegistered t))) (part_of p)) same.1 all)),
      )

  pub takes_none : (locale tries : ℕ) (m n : Seated) → HasTried locale tries m n → tries ≡ plan.shape.tokens → 0 < plan.shape.tokens → TakesToken K opens step plan locale m n None
  takes_none locale tries m n tried all some =
      let many = tried.others.count in (
        tried.words,
        subst (λ i. AreOthers locale i tried.words) all tried.others,
        ⊎_elim (λ t. let none : length tried.words ≡ 0 = ap length t.1 in absurd (omega arith)) (λ t. t) tried.so,
      )

  -- ---- a pin

  pub may_pin_look : (m : Seated) → m.0.number < plan.callers → m.0.part.seat.phase ≡ Registered → MayMake K plan m.0.number PinLook m.0.part
  may_pin_look m below is = record { row = pin_look_row plan.shape plan.callers m.0.number m.0.part.seat m.0.part.facts below is; made = tt; allowed = tt }

  module _ (m k n : Seated) (epoch : ℕ) (looks : Makes K opens step plan PinLook m epoch k) where
    abbrev pub Looked : Part View'
    Looked = record m.0.part { seat = record m.0.part.seat { phase = PinLooked; announced = epoch } }

    pub looked_so : Goes m k (record { name = local_epoch m.0.part.seat.token.locale; word = epoch } ∷ []) [] Looked
    looked_so = made_of PinLook m k epoch _ (pin_look_told plan.shape plan.callers m.0.number m.0.part.seat m.0.part.facts epoch) looks

    pub may_pin_set : m.0.number < plan.callers → MayMake K plan k.0.number PinSet k.0.part
    may_pin_set below =
        let number = looked_so.0.same.number in
        record { row = pin_set_row plan.shape plan.callers k.0.number k.0.part.seat k.0.part.facts (omega arith) (ap (λ (p : Part View'). p.seat.phase) looked_so.1); made = tt; allowed = tt }

    pub announced_so : epoch ≡ k.0.part.seat.announced
    announced_so = sym (ap (λ (p : Part View'). p.seat.announced) looked_so.1)

    pub token_still : k.0.part.seat.token ≡ m.0.part.seat.token
    token_still = ap (λ (p : Part View'). p.seat.token) looked_so.1

    pub pins_so : (t : Token) → t ≡ m.0.part.seat.token → Makes K opens step plan PinSet k (epoch + 2) n → PinsSeat K opens step plan t m epoch n
    pins_so t is sets =
        let number = looked_so.0.same.number in
        let pinned : Part View' → Part View' = λ p. record p { seat = record p.seat { phase = Pinned } } in
        let part : Part View' = pinned Looked in
        let goes = made_of PinSet k n (epoch + 2) _ (pin_set_told plan.shape plan.callers k.0.number k.0.part.seat k.0.part.facts (epoch + 2)) sets in
        let so : Goes k n [] (entries_of_items m.0.number (Event m.0.number (PinnedEvent m.0.part.seat.token) epoch ∷ [])) part =
        subst (λ (i : ℕ). Goes k n [] (entries_of_items i (Event i (PinnedEvent m.0.part.seat.token) epoch ∷ [])) part) number
        (subst (λ (p : Part View'). Goes k n [] (entries_of_items k.0.number (Event k.0.number (PinnedEvent p.seat.token) p.seat.announced ∷ [])) (pinned p)) looked_so.1 goes) in
        let all = then_goes m k n (record { name = local_epoch m.0.part.seat.token.locale; word = epoch } ∷ []) [] (entries_of_items m.0.number (Event m.0.number (PinnedEvent m.0.part.seat.token) epoch ∷ [])) Looked part looked_so so in
        (looks.0, subst (λ (u : Token). Goes m n (record { name = local_epoch u.locale; word = epoch } ∷ []) (entries_of_items m.0.number (Event m.0.number (PinnedEvent u) epoch ∷ [])) part) (sym is) all)
