-- What a call's clauses say of its pass, from what it did to its caller's seat.
use Rattle.std.proofs.Common.{◌≡◌, ◌<◌, ◌⊎◌, ℕ, true, ltb, List, [], ◌∷◌, ◌++◌, refl, ap, sym, ◌∙◌, subst, ⊎_elim, arith, Option, Some, None}
use Rattle.std.proofs.lemmas.Bool.{false≢true}
use Rattle.std.proofs.lemmas.List.{append-nil}
use Rattle.std.specs.Option.{ForSome}
use mathlib.Core.List.{IsPrefix}
use Rattle.pass_book.specs.declared.entries.Entry.{Entry}
use Rattle.pass_book.specs.declared.entries.Look.{Look}
use Rattle.pgas_base.specs.declared.shapes.Shape.{Shape}
use Rattle.pgas_base.specs.Pointers.{Pointer}
use Rattle.epoch_laws.specs.declared.tokens.Token.{Token}
use Rattle.epoch_laws.specs.declared.events.Item.{Item}
use Rattle.epoch_laws.specs.declared.events.Item.TheVariants.{Event}
use Rattle.epoch_laws.specs.declared.events.EpochEvent.TheVariants.{Unregistered, Pinned as PinnedEvent, Unpinned, Deferred}
use Rattle.epoch_laws.specs.declared.steps.Kind.TheVariants.{Unregister, Unpin}
use Rattle.epoch_laws.specs.Needs.{event}
use Rattle.epoch_laws.specs.Places.{Place, same_token}
use Rattle.epoch_laws.specs.Seats.{Seat, Phase as SeatPhase, Idle as IsIdle, Registered as IsRegistered, Pinned as IsPinned}
use Rattle.epoch_laws.specs.Timing.{IsToken}
use Rattle.epoch_laws.specs.Words.{WordName, local_epoch}
use Rattle.epoch_laws.proofs.Updates.{same_token_tells}
use Rattle.pass_table.specs.declared.views.View.{View}
use Rattle.pass_table.specs.Passes.{Change}
use Rattle.pass_table.specs.Views.{page_of}
use Rattle.pass_table.proofs.Going.{gains_among, among_begins}
use Rattle.epoch_table.specs.declared.events.Happens.{Happens}
use Rattle.epoch_table.specs.declared.parts.Plan.{Plan}
use Rattle.epoch_table.specs.declared.parts.Part.{Part}
use Rattle.epoch_table.specs.Clients.{ClientTerms}
use Rattle.epoch_table.specs.Events.{PastOpens, PastSteps}
use Rattle.epoch_table.specs.Kinds.{entries_of_items, Makes, MayMake}
use Rattle.epoch_table.specs.Rule.{manager_terms, is_between}
use Rattle.epoch_manager.specs.declared.phases.Phase.{Phase}
use Rattle.epoch_manager.specs.declared.phases.Phase.TheVariants.{Idle, Registered, Pinned}
use Rattle.epoch_manager.specs.Deferring.{deferral_words, part_deferred, DefersSeat}
use Rattle.epoch_manager.specs.Fits.{is_idle, is_registered, is_pinned, stands_as, is_token, is_inside, may_hold, IsKept, PassFits}
use Rattle.epoch_manager.specs.Managers.{ListsItems, ReadsWords}
use Rattle.epoch_manager.proofs.Known.{both, and_so, below_so, ltb_so}
use Rattle.epoch_manager.specs.Tokens.{TakesToken, registered_items, PinsSeat}
use Rattle.epoch_manager.proofs.Rows.{unregister_row, unpin_row}
use Rattle.epoch_manager.proofs.Told.{unregister_told, unpin_told}
use Rattle.epoch_manager.proofs.TokenSteps.{Seated, Goes, Among, as_among, made_of}

-- ---- phases

idle_so : (p : SeatPhase) → is_idle p ≡ true → p ≡ IsIdle
idle_so IsIdle is = refl
idle_so p is = absurd (false≢true is)

registered_so : (p : SeatPhase) → is_registered p ≡ true → p ≡ IsRegistered
registered_so IsRegistered is = refl
registered_so p is = absurd (false≢true is)

pinned_so : (p : SeatPhase) → is_pinned p ≡ true → p ≡ IsPinned
pinned_so IsPinned is = refl
pinned_so p is = absurd (false≢true is)

-- only a pinned pass holds objects
pub none_held : (phase : Phase) (t : Token) (held : List Place) → phase ≡ Registered t → may_hold phase held ≡ true → held ≡ []
none_held phase t [] is may = refl
none_held phase t (p ∷ held) is may = absurd (false≢true (subst (λ (f : Phase). may_hold f (p ∷ held) ≡ true) is may))

token_so : (t u : Token) → same_token t u ≡ true → t ≡ u
token_so t u is = ⊎_elim (λ h. h.1) (λ h. absurd (false≢true (sym h.0 ∙ is))) (same_token_tells t u)

same_so : (t : Token) → same_token t t ≡ true
same_so t = ⊎_elim (λ h. h.0) (λ h. let ne = h.1 in absurd (ne refl)) (same_token_tells t t)

pub stands_idle : (seat : Seat) (phase : Phase) → phase ≡ Idle → stands_as seat phase ≡ true → seat.phase ≡ IsIdle
stands_idle seat phase is stands = idle_so seat.phase (subst (λ p. stands_as seat p ≡ true) is stands)

pub stands_registered : (seat : Seat) (phase : Phase) (t : Token) → phase ≡ Registered t → stands_as seat phase ≡ true → (seat.phase ≡ IsRegistered) × (seat.token ≡ t)
stands_registered seat phase t is stands =
    let two = both (is_registered seat.phase) (same_token seat.token t) (subst (λ p. stands_as seat p ≡ true) is stands) in
    (registered_so seat.phase two.0, token_so seat.token t two.1)

pub stands_pinned : (seat : Seat) (phase : Phase) (t : Token) → phase ≡ Pinned t → stands_as seat phase ≡ true → (seat.phase ≡ IsPinned) × (seat.token ≡ t)
stands_pinned seat phase t is stands =
    let two = both (is_pinned seat.phase) (same_token seat.token t) (subst (λ p. stands_as seat p ≡ true) is stands) in
    (pinned_so seat.phase two.0, token_so seat.token t two.1)

pub now_idle : (seat : Seat) → seat.phase ≡ IsIdle → stands_as seat Idle ≡ true
now_idle seat is = ap is_idle is

pub now_registered : (seat : Seat) (t : Token) → seat.phase ≡ IsRegistered → seat.token ≡ t → stands_as seat (Registered t) ≡ true
now_registered seat t is same = and_so (is_registered seat.phase) (same_token seat.token t) (ap is_registered is) (subst (λ u. same_token seat.token u ≡ true) same (same_so seat.token))

pub now_pinned : (seat : Seat) (t : Token) → seat.phase ≡ IsPinned → seat.token ≡ t → stands_as seat (Pinned t) ≡ true
now_pinned seat t is same = and_so (is_pinned seat.phase) (same_token seat.token t) (ap is_pinned is) (subst (λ u. same_token seat.token u ≡ true) same (same_so seat.token))

pub token_inside : (shape : Shape) (t : Token) → is_token shape t ≡ true → IsToken shape.locales shape.tokens t
token_inside shape t is =
    let two = both (ltb t.locale shape.locales) (ltb t.number shape.tokens) is in
    record { locale = below_so t.locale shape.locales two.0; number = below_so t.number shape.tokens two.1 }

pub inside_token : (shape : Shape) (t : Token) → t.locale < shape.locales → t.number < shape.tokens → is_token shape t ≡ true
inside_token shape t hl hn = and_so (ltb t.locale shape.locales) (ltb t.number shape.tokens) (ltb_so t.locale shape.locales hl) (ltb_so t.number shape.tokens hn)

pub same_registered : (phase : Phase) (t u : Token) → phase ≡ Registered t → phase ≡ Registered u → t ≡ u
same_registered phase t u a b = cc

pub same_pinned : (phase : Phase) (t u : Token) → phase ≡ Pinned t → phase ≡ Pinned u → t ≡ u
same_pinned phase t u a b = cc

some_so : {A : Type 0} (x y : A) → Some x ≡ Some y → x ≡ y
some_so x y e = cc

-- a pass whose number and part stay fits its plan still
pub kept_fits : {C View' Call Reply : Type 0} (v w : View (Happens Call Reply) (Unit {0}) (Plan C) (Part View') WordName) (phase : Phase) → ForSome v.plan (λ (p : Plan C). PassFits p v phase) → w.plan ≡ v.plan → w.number ≡ v.number → w.part ≡ v.part
    → ForSome w.plan (λ (p : Plan C). PassFits p w phase)
kept_fits v w phase fits plan number part x is =
    let f = fits x (sym plan ∙ is) in
    let low = f.below in
    record { below = omega arith; stands = ap (λ p. stands_as p.seat phase) part ∙ f.stands; inside = f.inside; kept = subst (λ p. IsKept x.shape p phase) (sym part) f.kept }

module _ {C View' Call Reply State' : Type 0} (K : ClientTerms C View' Call Reply State') (opens : State' → Type 0) (step : State' → Call → Reply → State' → Type 0) (plan : Plan C) where
  -- a pass of the manager's opening fits its plan
  pub fits_plan : (v : View (Happens Call Reply) (Unit {0}) (Plan C) (Part View') WordName) (phase : Phase) → v.plan ≡ Some plan → PassFits plan v phase → ForSome v.plan (λ (p : Plan C). PassFits p v phase)
  fits_plan v phase has fits x is = subst (λ (p : Plan C). PassFits p v phase) (some_so plan x (sym has ∙ is)) fits

  module _ (m n : Seated K opens step plan) (words : List (Look WordName)) where
    pub fits_after : (entries : List (Entry (Happens Call Reply) (Unit {0}))) (part : Part View') (old new : Phase) → PassFits plan m.0 old → Among K opens step plan m n words entries part → stands_as part.seat new ≡ true → is_inside plan.shape new ≡ true
        → IsKept plan.shape part new → PassFits plan n.0 new
    fits_after entries part old new fits goes stands inside kept =
        let number = goes.0.same.number in
        let low = fits.below in
        record { below = omega arith; stands = ap (λ (p : Part View'). stands_as p.seat new) goes.1 ∙ stands; inside = inside; kept = subst (λ (p : Part View'). IsKept plan.shape p new) (sym goes.1) kept }

    abbrev pub Changed : Change (Happens Call Reply) (Unit {0}) WordName
    Changed = record { caller = m.0.number; old = page_of m.0; new = page_of n.0; looked_old = m.0.looked; looked_new = n.0.looked }

    pub listed_of : (items : List Item) (part : Part View') → Among K opens step plan m n words (entries_of_items m.0.number items) part
        → ListsItems K opens step plan Changed items
    listed_of items part goes = gains_among (manager_terms K) (PastOpens opens) (PastSteps step) plan m.0 n.0 words (entries_of_items m.0.number items) goes.0

    pub read_of : (entries : List (Entry (Happens Call Reply) (Unit {0}))) (part : Part View') (IsCause : List (Look WordName) → Type 0) → Among K opens step plan m n words entries part → IsCause words
        → ReadsWords K opens step plan Changed IsCause
    read_of entries part IsCause goes cause = record { words = words; looked = goes.0.looked; cause = cause; meets = goes.0.meets }

    pub begins_of : (entries : List (Entry (Happens Call Reply) (Unit {0}))) (part : Part View') → Among K opens step plan m n words entries part → IsPrefix m.0.seen n.0.seen
    begins_of entries part goes = among_begins (manager_terms K) (PastOpens opens) (PastSteps step) plan m.0 n.0 words entries goes.0

  -- a whole call: what it read and listed, and that its pass is between two calls again, in this phase
  pub record Done (m n : Seated K opens step plan) (words : List (Look WordName)) (items : List Item) (part : Part View') (new : Phase) : Type 0 where
    pub goes : Among K opens step plan m n words (entries_of_items m.0.number items) part
    pub rests : n.0.rests ≡ true
    pub carried : n.1 ≡ m.1
    pub fits : PassFits plan n.0 new

  module _ (m n : Seated K opens step plan) (words : List (Look WordName)) (items : List Item) (part : Part View') where
    pub done_among : (old new : Phase) → PassFits plan m.0 old → Among K opens step plan m n words (entries_of_items m.0.number items) part → is_between part.seat.phase ≡ true → stands_as part.seat new ≡ true → is_inside plan.shape new ≡ true
        → IsKept plan.shape part new → Done m n words items part new
    done_among old new fits goes between stands inside kept = record {
      goes = goes;
      rests = goes.3 ∙ between;
      carried = goes.2;
      fits = fits_after m n words (entries_of_items m.0.number items) part old new fits goes stands inside kept;
    }

    pub done : (old new : Phase) → PassFits plan m.0 old → Goes K opens step plan m n words (entries_of_items m.0.number items) part → is_between part.seat.phase ≡ true → stands_as part.seat new ≡ true → is_inside plan.shape new ≡ true
        → IsKept plan.shape part new → Done m n words items part new
    done old new fits goes = done_among old new fits (as_among K opens step plan m n words (entries_of_items m.0.number items) part goes)

  -- what its clauses say
  module _ (m n : Seated K opens step plan) (words : List (Look WordName)) (items : List Item) (part : Part View') (new : Phase) (d : Done m n words items part new) where
    pub done_listed : ListsItems K opens step plan (Changed m n words) items
    done_listed = listed_of m n words items part d.goes

    pub done_read : (IsCause : List (Look WordName) → Type 0) → IsCause words → ReadsWords K opens step plan (Changed m n words) IsCause
    done_read IsCause cause = read_of m n words (entries_of_items m.0.number items) part IsCause d.goes cause

    pub done_begins : IsPrefix m.0.seen n.0.seen
    done_begins = begins_of m n words (entries_of_items m.0.number items) part d.goes

    pub done_looked : words ≡ [] → n.0.looked ≡ m.0.looked
    done_looked none = d.goes.0.looked ∙ (ap (λ l. m.0.looked ++ l) none ∙ append-nil m.0.looked)

    pub done_fits : n.0.plan ≡ Some plan → ForSome n.0.plan (λ (p : Plan C). PassFits p n.0 new)
    done_fits has = fits_plan n.0 new has d.fits

  module _ (m n : Seated K opens step plan) (phase : Phase) (fits : PassFits plan m.0 phase) where
    pub register_done : (locale number : ℕ) → phase ≡ Idle → (takes : TakesToken K opens step plan locale m n (Some number)) → locale < plan.shape.locales
        → Done m n takes.0 (registered_items m.0.number (Registered (record { locale = locale; number = number }))) (record m.0.part { seat = record m.0.part.seat { phase = IsRegistered; token = record { locale = locale; number = number } } })
        (Registered (record { locale = locale; number = number }))
    register_done locale number idle takes low =
        let t : Token = record { locale = locale; number = number } in
        done m n takes.0 (registered_items m.0.number (Registered t)) (record m.0.part { seat = record m.0.part.seat { phase = IsRegistered; token = t } }) phase (Registered t) fits takes.3 refl
        (now_registered (record m.0.part.seat { phase = IsRegistered; token = t }) t refl refl) (inside_token plan.shape t low takes.2)
        (record { done = fits.kept.done; owned = fits.kept.owned; held = fits.kept.held; pinned = subst (λ (p : Phase). may_hold p m.0.part.seat.held ≡ true) idle fits.kept.pinned })

    pub refused_done : (locale : ℕ) (takes : TakesToken K opens step plan locale m n None) → m.0.part.seat.phase ≡ IsIdle → Done m n takes.0 [] m.0.part phase
    refused_done locale takes idle = done m n takes.0 [] m.0.part phase phase fits takes.2 (ap is_between idle) fits.stands fits.inside fits.kept

    pub unregister_done : (t : Token) → phase ≡ Registered t → Makes K opens step plan Unregister m 0 n → Done m n [] (event m.0.number (Unregistered t)) (record m.0.part { seat = record m.0.part.seat { phase = IsIdle } }) Idle
    unregister_done t is makes =
        let stands = stands_registered m.0.part.seat phase t is fits.stands in
        let part : Part View' = record m.0.part { seat = record m.0.part.seat { phase = IsIdle } } in
        let goes = made_of K opens step plan Unregister m n 0 _ (unregister_told plan.shape plan.callers m.0.number m.0.part.seat m.0.part.facts 0) makes in
        let goes' : Goes K opens step plan m n [] (entries_of_items m.0.number (event m.0.number (Unregistered t))) part = subst (λ (u : Token). Goes K opens step plan m n [] (entries_of_items m.0.number (event m.0.number (Unregistered u))) part) stands.1 goes in
        done m n [] (event m.0.number (Unregistered t)) part phase Idle fits goes' refl refl refl
        (record { done = fits.kept.done; owned = fits.kept.owned; held = fits.kept.held; pinned = subst (λ (p : Phase). may_hold p m.0.part.seat.held ≡ true) is fits.kept.pinned })

    pub unpin_done : (t : Token) → phase ≡ Pinned t → Makes K opens step plan Unpin m 1 n
        → Done m n [] (event m.0.number (Unpinned t)) (record m.0.part { seat = record m.0.part.seat { phase = IsRegistered; held = [] }; client = K.unpinned m.0.part.client }) (Registered t)
    unpin_done t is makes =
        let stands = stands_pinned m.0.part.seat phase t is fits.stands in
        let part : Part View' = record m.0.part { seat = record m.0.part.seat { phase = IsRegistered; held = [] }; client = K.unpinned m.0.part.client } in
        let goes = made_of K opens step plan Unpin m n 1 _ (unpin_told plan.shape plan.callers m.0.number m.0.part.seat m.0.part.facts 1) makes in
        let goes' : Goes K opens step plan m n [] (entries_of_items m.0.number (event m.0.number (Unpinned t))) part = subst (λ (u : Token). Goes K opens step plan m n [] (entries_of_items m.0.number (event m.0.number (Unpinned u))) part) stands.1 goes in
        done m n [] (event m.0.number (Unpinned t)) part phase (Registered t) fits goes' refl (now_registered part.seat t refl stands.1) (subst (λ (p : Phase). is_inside plan.shape p ≡ true) is fits.inside)
        (record { done = fits.kept.done; owned = fits.kept.owned; held = refl; pinned = refl })

    pub pin_done : (t : Token) (epoch : ℕ) → phase ≡ Registered t → PinsSeat K opens step plan t m epoch n
        → Done m n (record { name = local_epoch t.locale; word = epoch } ∷ []) (Event m.0.number (PinnedEvent t) epoch ∷ []) (record m.0.part { seat = record m.0.part.seat { phase = IsPinned; announced = epoch } }) (Pinned t)
    pin_done t epoch is pins =
        let stands = stands_registered m.0.part.seat phase t is fits.stands in
        let part : Part View' = record m.0.part { seat = record m.0.part.seat { phase = IsPinned; announced = epoch } } in
        done m n (record { name = local_epoch t.locale; word = epoch } ∷ []) (Event m.0.number (PinnedEvent t) epoch ∷ []) part phase (Pinned t) fits pins.1 refl (now_pinned part.seat t refl stands.1)
        (subst (λ (p : Phase). is_inside plan.shape p ≡ true) is fits.inside)
        (record { done = fits.kept.done; owned = fits.kept.owned; held = fits.kept.held; pinned = refl })

    pub defer_done : (t : Token) (q : Pointer) (tag : ℕ) → phase ≡ Pinned t → (defers : DefersSeat K opens step plan q m tag n)
        → Done m n (deferral_words t.locale tag defers.1.0) (Event m.0.number (Deferred t q) tag ∷ []) (part_deferred K q tag defers.1.0 m.0.part) phase
    defer_done t q tag is defers =
        let stands = stands_pinned m.0.part.seat phase t is fits.stands in
        let old = defers.1.0 in
        let part : Part View' = part_deferred K q tag old m.0.part in
        let goes = subst (λ (u : Token). Among K opens step plan m n (deferral_words u.locale tag old) (entries_of_items m.0.number (Event m.0.number (Deferred u q) tag ∷ [])) part) stands.1 defers.1.1 in
        done_among m n (deferral_words t.locale tag old) (Event m.0.number (Deferred t q) tag ∷ []) part phase phase fits goes refl
        (subst (λ (f : Phase). stands_as part.seat f ≡ true) (sym is) (now_pinned part.seat t refl stands.1)) fits.inside
        (record { done = fits.kept.done; owned = fits.kept.owned; held = fits.kept.held; pinned = fits.kept.pinned })

  -- a token of the pass is one of the shape's
  pub inside_so : (phase : Phase) (t : Token) (v : View (Happens Call Reply) (Unit {0}) (Plan C) (Part View') WordName) → PassFits plan v phase → (phase ≡ Registered t) ⊎ (phase ≡ Pinned t) → IsToken plan.shape.locales plan.shape.tokens t
  inside_so phase t v fits is =
      ⊎_elim (λ r. token_inside plan.shape t (subst (λ (p : Phase). is_inside plan.shape p ≡ true) r fits.inside)) (λ r. token_inside plan.shape t (subst (λ (p : Phase). is_inside plan.shape p ≡ true) r fits.inside)) is

  pub may_unregister : (m : Seated K opens step plan) (phase : Phase) (t : Token) → PassFits plan m.0 phase → phase ≡ Registered t → MayMake K plan m.0.number Unregister m.0.part
  may_unregister m phase t fits is =
      record { row = unregister_row plan.shape plan.callers m.0.number m.0.part.seat m.0.part.facts fits.below (stands_registered m.0.part.seat phase t is fits.stands).0; made = tt; allowed = tt }

  pub may_unpin : (m : Seated K opens step plan) (phase : Phase) (t : Token) → PassFits plan m.0 phase → phase ≡ Pinned t → MayMake K plan m.0.number Unpin m.0.part
  may_unpin m phase t fits is =
      record { row = unpin_row plan.shape plan.callers m.0.number m.0.part.seat m.0.part.facts fits.below (stands_pinned m.0.part.seat phase t is fits.stands).0; made = tt; allowed = tt }

  -- ---- taking a token

  pub taken_rests : (locale : ℕ) (m n : Seated K opens step plan) (result : Option ℕ) → m.0.part.seat.phase ≡ IsIdle → TakesToken K opens step plan locale m n result → (n.0.rests ≡ true) × (n.1 ≡ m.1)
  taken_rests locale m n None idle takes = let goes = takes.2 in (goes.3 ∙ ap is_between idle, goes.2)
  taken_rests locale m n (Some number) idle takes = let goes = takes.3 in (goes.3, goes.2)
