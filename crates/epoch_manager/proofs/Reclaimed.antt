-- What a reclaim comes to for its pass.
use Rattle.std.proofs.Common.{◌≡◌, ◌==◌, ◌&&◌, ◌++◌, ◌⊎◌, ℕ, true, false, List, [], ◌∷◌, length, Result, Ok, Err, refl, ap, sym, ◌∙◌, subst, inl, inr}
use Rattle.std.specs.Prelude.{not, is_none}
use Rattle.pass_book.specs.declared.entries.Look.{Look}
use Rattle.pgas_base.specs.declared.shapes.Shape.{Shape}
use Rattle.pgas_base.specs.Pointers.{Pointer}
use Rattle.epoch_laws.specs.declared.events.Item.{Item}
use Rattle.epoch_laws.specs.declared.tokens.Token.{Token}
use Rattle.epoch_laws.specs.declared.events.Item.TheVariants.{Claim, Leave}
use Rattle.epoch_laws.specs.Places.{Place, is_among}
use Rattle.epoch_laws.specs.Seats.{Registered as IsRegistered}
use Rattle.epoch_laws.specs.Words.{WordName}
use Rattle.epoch_table.specs.declared.parts.Plan.{Plan}
use Rattle.epoch_table.specs.declared.parts.Part.{Part}
use Rattle.epoch_table.specs.Clients.{ClientTerms}
use Rattle.epoch_table.specs.Facts.{Facts}
use Rattle.epoch_table.specs.Rule.{is_between}
use Rattle.epoch_manager.specs.declared.faults.NotNow.{NotNow}
use Rattle.epoch_manager.specs.declared.faults.NotNow.TheVariants.{LocalBusy, GlobalBusy, EpochsSpent, Held}
use Rattle.epoch_manager.specs.declared.phases.Phase.{Phase}
use Rattle.epoch_manager.specs.declared.phases.Phase.TheVariants.{Registered}
use Rattle.epoch_manager.specs.declared.reclaims.Advanced.{Advanced}
use Rattle.epoch_manager.specs.Fits.{is_nil, is_done, stands_as, are_known, may_hold, PassFits}
use Rattle.epoch_manager.specs.Managers.{pointers, ListsItems}
use Rattle.epoch_manager.specs.Reclaiming.{IsRefused, local_read, reclaimed_to, EntersReclaim}
use Rattle.epoch_manager.specs.ReclaimCalls.{ReclaimCause, refused_items, ListsReclaim}
use Rattle.epoch_manager.specs.Releasing.{IsKeptBy, reclaim_items, frees_after, ReclaimsSeat, Reclaims}
use Rattle.epoch_manager.specs.TakeSeats.{places}
use Rattle.epoch_manager.proofs.Known.{both, and_so, known_agree, pointers_agree}
use Rattle.epoch_manager.proofs.PassClauses.{Done, Changed, done_among, done_listed, stands_registered, now_registered}
use Rattle.epoch_manager.proofs.Returned.{settled_so}
use Rattle.epoch_manager.proofs.TokenSteps.{Seated}

-- the pointers to objects name them
pub places_of : (facts : Facts) (ps : List Place) → places (pointers facts ps) ≡ ps
places_of facts [] = refl
places_of facts (p ∷ ps) = ap (λ l. p ∷ l) (places_of facts ps)

-- ---- what refuses it

refused_cause : (shape : Shape) (c at : ℕ) (fault : NotNow) (words : List (Look WordName)) (items : List Item) → IsRefused shape c at fault words items → ReclaimCause shape at (Err fault) words
refused_cause shape c at LocalBusy words items is = is.0
refused_cause shape c at GlobalBusy words items is = let inner = is.2 in is.3 ∙ ap (λ l. local_read at 0 ∷ l) inner.0
refused_cause shape c at EpochsSpent words items is = let inner = is.2 in (inner.0, inner.1, is.3 ∙ ap (λ l. local_read at 0 ∷ l) inner.2)
refused_cause shape c at (Held locale number word) words items is = let inner = is.2 in (inner.0, inner.1, is.3 ∙ ap (λ l. local_read at 0 ∷ l) inner.2)

refused_listed : (shape : Shape) (c at : ℕ) (fault : NotNow) (words : List (Look WordName)) (items : List Item) → IsRefused shape c at fault words items → items ≡ refused_items c fault
refused_listed shape c at LocalBusy words items is = is.1
refused_listed shape c at GlobalBusy words items is = let inner = is.2 in is.4 ∙ ap (λ l. Claim c false ∷ (l ++ Leave c false ∷ [])) inner.1
refused_listed shape c at EpochsSpent words items is = let inner = is.2 in is.4 ∙ ap (λ l. Claim c false ∷ (l ++ Leave c false ∷ [])) inner.3
refused_listed shape c at (Held locale number word) words items is = let inner = is.2 in is.4 ∙ ap (λ l. Claim c false ∷ (l ++ Leave c false ∷ [])) inner.3

module _ {C View' Call Reply State' : Type 0} (K : ClientTerms C View' Call Reply State') (opens : State' → Type 0) (step : State' → Call → Reply → State' → Type 0) (plan : Plan C) (m n : Seated K opens step plan) (phase : Phase) (fits : PassFits plan m.0 phase) (t : Token)
    (is : phase ≡ Registered t) where
  abbrev at : ℕ
  at = m.0.part.seat.token.locale

  -- what it lists, and what its pass then knows of the client
  abbrev Says : List Item → Result Advanced NotNow → Type 0
  Says items (Ok reclaimed) =
      (freed : List Pointer) × (reclaimed.freed ≡ length freed) × (n.0.part.client ≡ frees_after K m.0.part.client freed) × (items ≡ reclaim_items m.0.number reclaimed.epoch freed)
  Says items (Err fault) = (n.0.part.client ≡ m.0.part.client) × (items ≡ refused_items m.0.number fault)

  -- a whole call
  pub record Finished (result : Result Advanced NotNow) : Type 0 where
    pub words : List (Look WordName)
    pub items : List Item
    pub part : Part View'
    pub done : Done K opens step plan m n words items part phase
    pub kept : IsKeptBy m.0.part n.0.part
    pub cause : ReclaimCause plan.shape at result words
    pub says : Says items result

  stands : (m.0.part.seat.phase ≡ IsRegistered) × (m.0.part.seat.token ≡ t)
  stands = stands_registered m.0.part.seat phase t is fits.stands

  module _ (to freed : ℕ) (w : ReclaimsSeat K opens step plan to freed m n) where
    nothing_left : is_done n.0.part.seat n.0.part.won ≡ true
    nothing_left =
        let old = m.0.part.seat in
        let new = n.0.part.seat in
        let two = both (old.homing.chain == 0) (is_nil old.reclaim.walked && not m.0.part.won) (settled_so old m.0.part.won fits.kept.done).1 in
        let three = both (is_nil old.reclaim.walked) (not m.0.part.won) two.1 in
        and_so (is_nil new.hand) _ (ap is_nil w.hand)
        (and_so (is_none new.homing.tail) _ (ap is_none w.tail)
        (and_so (new.homing.chain == 0) _ (ap (λ x. x == 0) w.kept.chain ∙ two.0)
        (and_so (is_nil new.reclaim.walked) (not n.0.part.won) (ap is_nil w.walked) (ap not w.kept.won ∙ three.1))))

    known_still : (ps : List Place) → ((p : Place) → is_among p ps ≡ true → (is_among p m.0.part.seat.owned ≡ true) ⊎ (is_among p m.0.part.seat.held ≡ true)) → are_known plan.shape m.0.part.facts ps ≡ true
        → are_known plan.shape n.0.part.facts ps ≡ true
    known_still ps has known = known_agree m.0.part.facts n.0.part.facts plan.shape ps (λ p h. w.kept.counts p (has p h)) known

    finished_ok : (reclaimed : Advanced) → to ≡ reclaimed.epoch → freed ≡ reclaimed.freed → Finished (Ok reclaimed)
    finished_ok reclaimed same_epoch same_freed =
        let new = n.0.part.seat in
        record {
          words = _;
          items = reclaim_items m.0.number to w.pointers;
          part = n.0.part;
          done =
              done_among K opens step plan m n _ (reclaim_items m.0.number to w.pointers) n.0.part phase phase fits w.goes (ap is_between w.phase)
              (subst (λ (f : Phase). stands_as new f ≡ true) (sym is) (now_registered new t w.phase (w.kept.token ∙ stands.1))) fits.inside
              (record {
                done = nothing_left;
                owned = subst (λ l. are_known plan.shape n.0.part.facts l ≡ true) (sym w.kept.owned) (known_still m.0.part.seat.owned (λ p h. inl h) fits.kept.owned);
                held = subst (λ l. are_known plan.shape n.0.part.facts l ≡ true) (sym w.kept.held) (known_still m.0.part.seat.held (λ p h. inr h) fits.kept.held);
                pinned = subst (λ l. may_hold phase l ≡ true) (sym w.kept.held) fits.kept.pinned;
              });
          kept = w.kept;
          cause = (w.epoch, sym same_epoch ∙ w.one_more, w.not_last, (w.passed, w.more, w.are_passed, refl));
          says = (w.pointers, sym same_freed ∙ w.count, w.client, ap (λ e. reclaim_items m.0.number e w.pointers) same_epoch);
        }

  finished_err : (fault : NotNow) → EntersReclaim K opens step plan m n (Err fault) → Finished (Err fault)
  finished_err fault enters =
      let words = enters.0 in
      let items = enters.1 in
      let goes = enters.3.2 in
      let part = reclaimed_to IsRegistered enters.3.0 enters.3.1 m.0.part in
      record {
        words = words;
        items = items;
        part = part;
        done =
            done_among K opens step plan m n words items part phase phase fits goes refl
            (subst (λ (f : Phase). stands_as part.seat f ≡ true) (sym is) (now_registered part.seat t refl stands.1)) fits.inside
            (record { done = fits.kept.done; owned = fits.kept.owned; held = fits.kept.held; pinned = fits.kept.pinned });
        kept = subst (IsKeptBy m.0.part) (sym goes.1) (record { token = refl; owned = refl; held = refl; chain = refl; won = refl; counts = λ p h. refl });
        cause = refused_cause plan.shape m.0.number at fault words items enters.2;
        says = (ap (λ (p : Part View'). p.client) goes.1, refused_listed plan.shape m.0.number at fault words items enters.2);
      }

  pub finished : (result : Result Advanced NotNow) → Reclaims K opens step plan m n result → Finished result
  finished (Ok reclaimed) so = finished_ok reclaimed.epoch reclaimed.freed so reclaimed refl refl
  finished (Err fault) so = finished_err fault so

  module _ (result : Result Advanced NotNow) (f : Finished result) where
    pub reclaim_owned : pointers n.0.part.facts n.0.part.seat.owned ≡ pointers m.0.part.facts m.0.part.seat.owned
    reclaim_owned = ap (pointers n.0.part.facts) f.kept.owned ∙ pointers_agree m.0.part.facts n.0.part.facts m.0.part.seat.owned (λ p h. f.kept.counts p (inl h))

    pub reclaim_held : pointers n.0.part.facts n.0.part.seat.held ≡ pointers m.0.part.facts m.0.part.seat.held
    reclaim_held = ap (pointers n.0.part.facts) f.kept.held ∙ pointers_agree m.0.part.facts n.0.part.facts m.0.part.seat.held (λ p h. f.kept.counts p (inr h))

    pub reclaim_read : (u : Token) → phase ≡ Registered u → ReclaimCause plan.shape u.locale result f.words
    reclaim_read u so = subst (λ (x : Token). ReclaimCause plan.shape x.locale result f.words) (stands_registered m.0.part.seat phase u so fits.stands).1 f.cause

    pub reclaim_items_so : ListsItems K opens step plan (Changed K opens step plan m n f.words) f.items
    reclaim_items_so = done_listed K opens step plan m n f.words f.items f.part phase f.done

  pub reclaim_listed : (result : Result Advanced NotNow) (f : Finished result) → ListsReclaim K opens step plan (Changed K opens step plan m n f.words) m.0.part.client n.0.part.client result
  reclaim_listed (Ok reclaimed) f = let s = f.says in (s.0, s.1, s.2, subst (λ l. ListsItems K opens step plan (Changed K opens step plan m n f.words) l) s.3 (reclaim_items_so (Ok reclaimed) f))
  reclaim_listed (Err fault) f = let s = f.says in (s.0, subst (λ l. ListsItems K opens step plan (Changed K opens step plan m n f.words) l) s.1 (reclaim_items_so (Err fault) f))
