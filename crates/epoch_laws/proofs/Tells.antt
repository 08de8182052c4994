-- What each item needs of those before it, and what it tells.
use Rattle.std.proofs.Common.{◌≡◌, ◌≢◌, ◌⊎◌, ℕ, ◌+◌, ◌<◌, ◌≤◌, true, false, List, [], ◌∷◌, ◌++◌, length, Option, Some, None, refl, ap, sym, ◌∙◌, subst, inl, inr, ⊎_elim, arith, length-append}
use Rattle.std.proofs.lemmas.Bool.Decides.{eqb_tells}
use Rattle.std.proofs.Math.Seq.{take-append_seam}
use Rattle.pgas_base.specs.Pointers.{Pointer}
use Rattle.epoch_laws.specs.declared.tokens.Token.{Token}
use Rattle.epoch_laws.specs.declared.events.EpochEvent.{EpochEvent}
use Rattle.epoch_laws.specs.declared.events.EpochEvent.TheVariants.{Registered, Unregistered, Pinned, Unpinned, Given, Shown, Held, Deferred, Freed, Returned}
use Rattle.epoch_laws.specs.declared.events.Item.{Item}
use Rattle.epoch_laws.specs.declared.events.Item.TheVariants.{Event, Advance, Claim, Leave}
use Rattle.epoch_laws.specs.Places.{Place, place_of, same_place, same_token, with_number, with_token}
use Rattle.epoch_laws.specs.Histories.{Happening, IsFree, IsShown, IsOwnedBy, IsDeferredAt, Standing, registrant_after, pinner_after, registrant, pinner, freed, standing_after, progress_after, progress, standing, IsNext}
use Rattle.epoch_laws.specs.Items.{happenings, epoch_after, epoch_of, advancer_after, last_advancer, claimant_after, claimant, releaser_after, releaser, tag_after, last_tag, IsExact}
use Rattle.epoch_laws.proofs.Updates.{number_here, number_there, at_number, token_there, same_place_tells, same_token_tells}
use Rattle.epoch_laws.proofs.Told.{stands_same, happenings_advance, happenings_claim, happenings_leave, Class, Frees, Lives, Defers, Owns, Summary, View, Stands, TokensTold, ObjectsTold, EpochsTold, TagsTold, IsTold, happenings_event, epoch_more, advancer_more, claimant_more, releaser_more, tag_more, registrant_more, pinner_more, progress_more, stands_more}

abbrev happening : ℕ → EpochEvent → Happening
happening c e = record { caller = c; event = e }

-- an event that has to do with no token
tokens_same : (seats : ℕ → Summary) (hs : List Happening) (x : Happening)
    → ((t : Token) (by : Option ℕ) → registrant_after t by x ≡ by) → ((t : Token) (by : Option ℕ) → pinner_after t by x ≡ by) → TokensTold seats hs → TokensTold seats (hs ++ x ∷ [])
tokens_same seats hs x r p old = record {
  registered = λ t c e. old.registered t c (sym (registrant_more hs x t ∙ r t (registrant t hs)) ∙ e);
  has = λ c t e. registrant_more hs x t ∙ r t (registrant t hs) ∙ old.has c t e;
  pinned = λ t c e. old.pinned t c (sym (pinner_more hs x t ∙ p t (pinner t hs)) ∙ e);
  pins = λ c t e. pinner_more hs x t ∙ p t (pinner t hs) ∙ old.pins c t e;
}

standing_more : (hs : List Happening) (x : Happening) (count : ℕ) (p : Place) → (progress count p hs).position ≡ length hs
    → standing count p (hs ++ x ∷ []) ≡ standing_after p (length hs) (standing count p hs) x
unfolding standing progress_after
standing_more hs x count p at = ap (λ y. y.standing) (progress_more hs x count p) ∙ ap (λ n. standing_after p n (progress count p hs).standing x) at

position_more : (hs : List Happening) (x : Happening) (count : ℕ) (p : Place) → (progress count p hs).position ≡ length hs → (progress count p (hs ++ x ∷ [])).position ≡ length (hs ++ x ∷ [])
unfolding progress_after
position_more hs x count p at = let l = length-append hs (x ∷ []) in ap (λ y. y.position) (progress_more hs x count p) ∙ go (progress count p hs).position (length hs) (length (hs ++ x ∷ [])) at l
  where
    go : (a b c : ℕ) → a ≡ b → c ≡ b + 1 → a + 1 ≡ c
    go a b c e f = omega arith

-- an event that has to do with no object
objects_same : (count : ℕ) (v w : View) (hs : List Happening) (x : Happening) → ((p : Place) (n : ℕ) (st : Standing) → standing_after p n st x ≡ st)
    → ((p : Place) → w.class p ≡ v.class p) → ((p : Place) → w.count p ≡ v.count p) → ((p : Place) → w.tag p ≡ v.tag p)
    → ((c : ℕ) (t : Token) → (v.seats c).pinned ≡ Some t → (((w.seats c).pinned ≡ Some t) × (w.born t ≡ v.born t)) ⊎ (x.event ≡ Unpinned t))
    → ObjectsTold count v hs → ObjectsTold count w (hs ++ x ∷ [])
objects_same count v w hs x same ek en et keeps old = record {
  stands = λ p.
      subst (λ k. Stands w (hs ++ x ∷ []) k (w.count p) (w.tag p) (standing count p (hs ++ x ∷ []))) (sym (ek p))
      (subst (λ n. Stands w (hs ++ x ∷ []) (v.class p) n (w.tag p) (standing count p (hs ++ x ∷ []))) (sym (en p))
      (subst (λ t. Stands w (hs ++ x ∷ []) (v.class p) (v.count p) t (standing count p (hs ++ x ∷ []))) (sym (et p))
      (subst (Stands w (hs ++ x ∷ []) (v.class p) (v.count p) (v.tag p)) (sym (standing_more hs x count p (old.position p) ∙ same p (length hs) (standing count p hs)))
      (stands_more v w hs x (v.class p) (v.count p) (v.tag p) (standing count p hs) keeps (old.stands p)))));
  position = λ p. position_more hs x count p (old.position p);
}

-- an event of one object
objects_at : (count : ℕ) (v w : View) (hs : List Happening) (x : Happening) (q : Place)
    → ((p : Place) → p ≢ q → (n : ℕ) (st : Standing) → standing_after p n st x ≡ st)
    → ((p : Place) → p ≢ q → w.class p ≡ v.class p) → ((p : Place) → p ≢ q → w.count p ≡ v.count p) → ((p : Place) → p ≢ q → w.tag p ≡ v.tag p)
    → ((c : ℕ) (t : Token) → (v.seats c).pinned ≡ Some t → ((w.seats c).pinned ≡ Some t) × (w.born t ≡ v.born t))
    → Stands w (hs ++ x ∷ []) (w.class q) (w.count q) (w.tag q) (standing_after q (length hs) (standing count q hs) x)
    → ObjectsTold count v hs → ObjectsTold count w (hs ++ x ∷ [])
objects_at count v w hs x q same ek en et keeps here old = record {
  stands = λ p.
      ⊎_elim
      (λ h. subst (λ r. Stands w (hs ++ x ∷ []) (w.class r) (w.count r) (w.tag r) (standing count r (hs ++ x ∷ []))) (sym h.1)
      (subst (Stands w (hs ++ x ∷ []) (w.class q) (w.count q) (w.tag q)) (sym (standing_more hs x count q (old.position q))) here))
      (λ h.
      let ne = h.1 in
      subst (λ k. Stands w (hs ++ x ∷ []) k (w.count p) (w.tag p) (standing count p (hs ++ x ∷ []))) (sym (ek p ne))
      (subst (λ n. Stands w (hs ++ x ∷ []) (v.class p) n (w.tag p) (standing count p (hs ++ x ∷ []))) (sym (en p ne))
      (subst (λ t. Stands w (hs ++ x ∷ []) (v.class p) (v.count p) t (standing count p (hs ++ x ∷ []))) (sym (et p ne))
      (subst (Stands w (hs ++ x ∷ []) (v.class p) (v.count p) (v.tag p)) (sym (standing_more hs x count p (old.position p) ∙ same p ne (length hs) (standing count p hs)))
      (stands_more v w hs x (v.class p) (v.count p) (v.tag p) (standing count p hs) (λ c t e. inl (keeps c t e)) (old.stands p))))))
      (same_place_tells p q);
  position = λ p. position_more hs x count p (old.position p);
}

-- an event tells nothing of epochs and elections
epochs_event : (first : ℕ) (seats more : ℕ → Summary) (epoch : ℕ) (items : List Item) (c : ℕ) (e : EpochEvent) (tag : ℕ)
    → ((d : ℕ) → (more d).global ≡ (seats d).global) → ((d : ℕ) → (more d).advanced ≡ (seats d).advanced)
    → EpochsTold first seats epoch items → EpochsTold first more epoch (items ++ Event c e tag ∷ [])
unfolding epoch_after claimant_after releaser_after advancer_after
epochs_event first seats more epoch items c e tag eg ea old = record {
  risen = epoch_more items first (Event c e tag) ∙ old.risen;
  claimed = λ d h. eg d ∙ old.claimed d (sym (claimant_more items (Event c e tag)) ∙ h);
  claims = λ d h. claimant_more items (Event c e tag) ∙ old.claims d (sym (eg d) ∙ h);
  released = λ d h. ea d ∙ old.released d (sym (releaser_more items (Event c e tag)) ∙ h);
  releases = λ d h. let r = old.releases d (sym (ea d) ∙ h) in (releaser_more items (Event c e tag) ∙ r.0, advancer_more items (Event c e tag) ∙ r.1);
}

-- an event that isn't a deferral tells no tag
tags_event : (tag : Place → Option ℕ) (items : List Item) (c : ℕ) (e : EpochEvent) (n : ℕ) → ((p : Place) (old : ℕ) → tag_after p old (Event c e n) ≡ old)
    → TagsTold tag items → TagsTold tag (items ++ Event c e n ∷ [])
tags_event tag items c e n same old p d h = tag_more items p (Event c e n) ∙ same p (last_tag p items) ∙ old p d h

module _ (first count : ℕ) (v : View) (items : List Item) (told : IsTold first count v items) (c : ℕ) where
  old_tokens : TokensTold v.seats (happenings items)
  old_tokens = told.tokens

  -- the parts of an event, put together
  together : (w : View) (e : EpochEvent) (tag : ℕ) → TokensTold w.seats (happenings items ++ happening c e ∷ []) → ObjectsTold count w (happenings items ++ happening c e ∷ [])
      → EpochsTold first w.seats w.epoch (items ++ Event c e tag ∷ []) → TagsTold w.tag (items ++ Event c e tag ∷ []) → IsTold first count w (items ++ Event c e tag ∷ [])
  together w e tag t o p g = record {
    tokens = subst (TokensTold w.seats) (sym (happenings_event items c e tag)) t;
    objects = subst (ObjectsTold count w) (sym (happenings_event items c e tag)) o;
    epochs = p;
    tags = g;
  }

  -- a seat's part that doesn't change for the others
  seat_else : (x : Summary) {A : Type 0} (part : Summary → A) → part x ≡ part (v.seats c) → (d : ℕ) → part (with_number v.seats c x d) ≡ part (v.seats d)
  seat_else x part e d = at_number (λ d y. part y ≡ part (v.seats d)) v.seats c x e (λ d ne. refl) d

  pub tells_registered : (t : Token) (x : Summary) → (v.seats c).token ≡ None → ((d : ℕ) → (v.seats d).token ≡ Some t → ⊥)
      → x.token ≡ Some t → x.pinned ≡ (v.seats c).pinned → x.global ≡ (v.seats c).global → x.advanced ≡ (v.seats c).advanced
      → IsNext count (happenings items) c (Registered t) × IsTold first count (record v { seats = with_number v.seats c x }) (items ++ Event c (Registered t) 0 ∷ [])
  unfolding registrant_after pinner_after standing_after tag_after
  tells_registered t x none nobody et ep eg ea =
      let hs = happenings items in
      let y = happening c (Registered t) in
      let tk = told.tokens in
      let w : View = record v { seats = with_number v.seats c x } in (
        free hs t (registrant t hs) refl (λ d e. nobody d (tk.registered t d e)),
        together w (Registered t) 0
            (record {
              registered = λ u d e.
                  ⊎_elim
                  (λ h.
                  let is : d ≡ c = cc (sym (registrant_more hs y u) ∙ e, here u h.0 (registrant u hs)) in
                  subst (λ k. (with_number v.seats c x k).token ≡ Some u) (sym is) (ap (λ z. z.token) (number_here v.seats c x) ∙ et ∙ ap Some (sym h.1)))
                  (λ h.
                  let was : registrant u hs ≡ Some d = sym (there u h.0 (registrant u hs)) ∙ sym (registrant_more hs y u) ∙ e in
                  let had = tk.registered u d was in
                  let other : d ≢ c = λ is. absurd (cc (had, ap (λ k. (v.seats k).token) is, none)) in
                  ap (λ z. z.token) (number_there v.seats c x d other) ∙ had)
                  (same_token_tells u t);
              has = λ d u. at_number (λ d z. z.token ≡ Some u → registrant u (hs ++ y ∷ []) ≡ Some d) v.seats c x
                  (λ e. let same : u ≡ t = cc (e, et) in registrant_more hs y u ∙ here u (is_it u same) (registrant u hs))
                  (λ d ne e. registrant_more hs y u ∙ there u (not_it u (λ same. nobody d (e ∙ ap Some same))) (registrant u hs) ∙ tk.has d u e) d;
              pinned = λ u d e. seat_else x (λ z. z.pinned) ep d ∙ tk.pinned u d (sym (pinner_more hs y u) ∙ e);
              pins = λ d u e. pinner_more hs y u ∙ tk.pins d u (sym (seat_else x (λ z. z.pinned) ep d) ∙ e);
            })
            (objects_same count v w hs y (λ p n st. refl) (λ p. refl) (λ p. refl) (λ p. refl) (λ d u e. inl (seat_else x (λ z. z.pinned) ep d ∙ e, refl)) told.objects)
            (epochs_event first v.seats w.seats v.epoch items c (Registered t) 0 (seat_else x (λ z. z.global) eg) (seat_else x (λ z. z.advanced) ea) told.epochs)
            (tags_event v.tag items c (Registered t) 0 (λ p n. refl) told.tags),
      )
    where
      free : (hs : List Happening) (t : Token) (o : Option ℕ) → registrant t hs ≡ o → ((d : ℕ) → registrant t hs ≡ Some d → ⊥) → registrant t hs ≡ None
      free hs t None e no_one = e
      free hs t (Some d) e no_one = absurd (no_one d e)

      here : (u : Token) → same_token u t ≡ true → (by : Option ℕ) → registrant_after u by (happening c (Registered t)) ≡ Some c
      here u h by = rw h refl

      there : (u : Token) → same_token u t ≡ false → (by : Option ℕ) → registrant_after u by (happening c (Registered t)) ≡ by
      there u h by = rw h refl

      is_it : (u : Token) → u ≡ t → same_token u t ≡ true
      is_it u e = ⊎_elim (λ h. h.0) (λ h. let n = h.1 in absurd (n e)) (same_token_tells u t)

      not_it : (u : Token) → (u ≡ t → ⊥) → same_token u t ≡ false
      not_it u n = ⊎_elim (λ h. absurd (n h.1)) (λ h. h.0) (same_token_tells u t)

  -- the token of a seat isn't pinned where the seat hasn't pinned it
  unpinned_by : (t : Token) → ((d : ℕ) (u : Token) → (v.seats d).pinned ≡ Some u → (v.seats d).token ≡ Some u) → (v.seats c).token ≡ Some t → (v.seats c).pinned ≡ None
      → pinner t (happenings items) ≡ None
  unpinned_by t has mine none = go (pinner t (happenings items)) refl
    where
      go : (o : Option ℕ) → pinner t (happenings items) ≡ o → pinner t (happenings items) ≡ None
      go None e = e
      go (Some d) e =
          let tk = told.tokens in
          let p = tk.pinned t d e in
          let is : d ≡ c = cc (tk.has d t (has d t p), tk.has c t mine) in
          absurd (cc (p, ap (λ k. (v.seats k).pinned) is, none))

  pub tells_unregistered : (t : Token) (x : Summary) → ((d : ℕ) (u : Token) → (v.seats d).pinned ≡ Some u → (v.seats d).token ≡ Some u)
      → (v.seats c).token ≡ Some t → (v.seats c).pinned ≡ None
      → x.token ≡ None → x.pinned ≡ (v.seats c).pinned → x.global ≡ (v.seats c).global → x.advanced ≡ (v.seats c).advanced
      → IsNext count (happenings items) c (Unregistered t) × IsTold first count (record v { seats = with_number v.seats c x }) (items ++ Event c (Unregistered t) 0 ∷ [])
  unfolding registrant_after pinner_after standing_after tag_after
  tells_unregistered t x pin_has mine none et ep eg ea =
      let hs = happenings items in
      let y = happening c (Unregistered t) in
      let tk = told.tokens in
      let w : View = record v { seats = with_number v.seats c x } in (
        (tk.has c t mine, unpinned_by t pin_has mine none),
        together w (Unregistered t) 0
            (record {
              registered = λ u d e.
                  ⊎_elim
                  (λ h. absurd (cc (sym (registrant_more hs y u) ∙ e, here u h.0 (registrant u hs))))
                  (λ h.
                  let other_token = h.1 in
                  let was : registrant u hs ≡ Some d = sym (there u h.0 (registrant u hs)) ∙ sym (registrant_more hs y u) ∙ e in
                  let had = tk.registered u d was in
                  let other : d ≢ c = λ is. other_token (let same : u ≡ t = cc (had, ap (λ k. (v.seats k).token) is, mine) in same) in
                  ap (λ z. z.token) (number_there v.seats c x d other) ∙ had)
                  (same_token_tells u t);
              has = λ d u. at_number (λ d z. z.token ≡ Some u → registrant u (hs ++ y ∷ []) ≡ Some d) v.seats c x
                  (λ e. absurd (cc (e, et)))
                  (λ d ne e. registrant_more hs y u ∙ there u (not_it u (λ same. ne (let is : d ≡ c = cc (tk.has d t (e ∙ ap Some same), tk.has c t mine) in is))) (registrant u hs) ∙ tk.has d u e) d;
              pinned = λ u d e. seat_else x (λ z. z.pinned) ep d ∙ tk.pinned u d (sym (pinner_more hs y u) ∙ e);
              pins = λ d u e. pinner_more hs y u ∙ tk.pins d u (sym (seat_else x (λ z. z.pinned) ep d) ∙ e);
            })
            (objects_same count v w hs y (λ p n st. refl) (λ p. refl) (λ p. refl) (λ p. refl) (λ d u e. inl (seat_else x (λ z. z.pinned) ep d ∙ e, refl)) told.objects)
            (epochs_event first v.seats w.seats v.epoch items c (Unregistered t) 0 (seat_else x (λ z. z.global) eg) (seat_else x (λ z. z.advanced) ea) told.epochs)
            (tags_event v.tag items c (Unregistered t) 0 (λ p n. refl) told.tags),
      )
    where
      here : (u : Token) → same_token u t ≡ true → (by : Option ℕ) → registrant_after u by (happening c (Unregistered t)) ≡ None
      here u h by = rw h refl

      there : (u : Token) → same_token u t ≡ false → (by : Option ℕ) → registrant_after u by (happening c (Unregistered t)) ≡ by
      there u h by = rw h refl

      not_it : (u : Token) → (u ≡ t → ⊥) → same_token u t ≡ false
      not_it u n = ⊎_elim (λ h. absurd (n h.1)) (λ h. h.0) (same_token_tells u t)

  pub tells_pinned : (t : Token) (x : Summary) (a : ℕ) → ((d : ℕ) (u : Token) → (v.seats d).pinned ≡ Some u → (v.seats d).token ≡ Some u)
      → (v.seats c).token ≡ Some t → (v.seats c).pinned ≡ None
      → x.token ≡ (v.seats c).token → x.pinned ≡ Some t → x.global ≡ (v.seats c).global → x.advanced ≡ (v.seats c).advanced
      → IsNext count (happenings items) c (Pinned t)
      × IsTold first count (record v { seats = with_number v.seats c x; born = with_token v.born t v.epoch }) (items ++ Event c (Pinned t) a ∷ [])
  unfolding registrant_after pinner_after standing_after tag_after
  tells_pinned t x a pin_has mine none et ep eg ea =
      let hs = happenings items in
      let y = happening c (Pinned t) in
      let tk = told.tokens in
      let w : View = record v { seats = with_number v.seats c x; born = with_token v.born t v.epoch } in
      let others : (d : ℕ) (u : Token) → (v.seats d).pinned ≡ Some u → (d ≢ c) × (u ≢ t) =
      λ d u e. ((λ is. absurd (cc (e, ap (λ k. (v.seats k).pinned) is, none))), (λ same. let is : d ≡ c = cc (tk.has d t (pin_has d t (e ∙ ap Some same)), tk.has c t mine) in absurd (cc (e, ap (λ k. (v.seats k).pinned) is, none)))) in (
        (tk.has c t mine, unpinned_by t pin_has mine none),
        together w (Pinned t) a
            (record {
              registered = λ u d e. seat_else x (λ z. z.token) et d ∙ tk.registered u d (sym (registrant_more hs y u) ∙ e);
              has = λ d u e. registrant_more hs y u ∙ tk.has d u (sym (seat_else x (λ z. z.token) et d) ∙ e);
              pinned = λ u d e.
                  ⊎_elim
                  (λ h.
                  let is : d ≡ c = cc (sym (pinner_more hs y u) ∙ e, here u h.0 (pinner u hs)) in
                  subst (λ k. (with_number v.seats c x k).pinned ≡ Some u) (sym is) (ap (λ z. z.pinned) (number_here v.seats c x) ∙ ep ∙ ap Some (sym h.1)))
                  (λ h.
                  let had = tk.pinned u d (sym (there u h.0 (pinner u hs)) ∙ sym (pinner_more hs y u) ∙ e) in
                  ap (λ z. z.pinned) (number_there v.seats c x d (others d u had).0) ∙ had)
                  (same_token_tells u t);
              pins = λ d u. at_number (λ d z. z.pinned ≡ Some u → pinner u (hs ++ y ∷ []) ≡ Some d) v.seats c x
                  (λ e. let same : u ≡ t = cc (e, ep) in pinner_more hs y u ∙ here u (is_it u same) (pinner u hs))
                  (λ d ne e. pinner_more hs y u ∙ there u (not_it u (others d u e).1) (pinner u hs) ∙ tk.pins d u e) d;
            })
            (objects_same count v w hs y (λ p n st. refl) (λ p. refl) (λ p. refl) (λ p. refl)
            (λ d u e. let o = others d u e in inl (ap (λ z. z.pinned) (number_there v.seats c x d o.0) ∙ e, token_there v.born t v.epoch u o.1)) told.objects)
            (epochs_event first v.seats w.seats v.epoch items c (Pinned t) a (seat_else x (λ z. z.global) eg) (seat_else x (λ z. z.advanced) ea) told.epochs)
            (tags_event v.tag items c (Pinned t) a (λ p n. refl) told.tags),
      )
    where
      here : (u : Token) → same_token u t ≡ true → (by : Option ℕ) → pinner_after u by (happening c (Pinned t)) ≡ Some c
      here u h by = rw h refl

      there : (u : Token) → same_token u t ≡ false → (by : Option ℕ) → pinner_after u by (happening c (Pinned t)) ≡ by
      there u h by = rw h refl

      is_it : (u : Token) → u ≡ t → same_token u t ≡ true
      is_it u e = ⊎_elim (λ h. h.0) (λ h. let n = h.1 in absurd (n e)) (same_token_tells u t)

      not_it : (u : Token) → (u ≡ t → ⊥) → same_token u t ≡ false
      not_it u n = ⊎_elim (λ h. absurd (n h.1)) (λ h. h.0) (same_token_tells u t)

  pub tells_unpinned : (t : Token) (x : Summary) → (v.seats c).pinned ≡ Some t
      → x.token ≡ (v.seats c).token → x.pinned ≡ None → x.global ≡ (v.seats c).global → x.advanced ≡ (v.seats c).advanced
      → IsNext count (happenings items) c (Unpinned t) × IsTold first count (record v { seats = with_number v.seats c x }) (items ++ Event c (Unpinned t) 0 ∷ [])
  unfolding registrant_after pinner_after standing_after tag_after
  tells_unpinned t x mine et ep eg ea =
      let hs = happenings items in
      let y = happening c (Unpinned t) in
      let tk = told.tokens in
      let w : View = record v { seats = with_number v.seats c x } in (
        tk.pins c t mine,
        together w (Unpinned t) 0
            (record {
              registered = λ u d e. seat_else x (λ z. z.token) et d ∙ tk.registered u d (sym (registrant_more hs y u) ∙ e);
              has = λ d u e. registrant_more hs y u ∙ tk.has d u (sym (seat_else x (λ z. z.token) et d) ∙ e);
              pinned = λ u d e.
                  ⊎_elim
                  (λ h. absurd (cc (sym (pinner_more hs y u) ∙ e, here u h.0 (pinner u hs))))
                  (λ h.
                  let other_token = h.1 in
                  let had = tk.pinned u d (sym (there u h.0 (pinner u hs)) ∙ sym (pinner_more hs y u) ∙ e) in
                  let other : d ≢ c = λ is. other_token (let same : u ≡ t = cc (had, ap (λ k. (v.seats k).pinned) is, mine) in same) in
                  ap (λ z. z.pinned) (number_there v.seats c x d other) ∙ had)
                  (same_token_tells u t);
              pins = λ d u. at_number (λ d z. z.pinned ≡ Some u → pinner u (hs ++ y ∷ []) ≡ Some d) v.seats c x
                  (λ e. absurd (cc (e, ep)))
                  (λ d ne e. pinner_more hs y u ∙ there u (not_it u (λ same. ne (let is : d ≡ c = cc (tk.pins d t (e ∙ ap Some same), tk.pins c t mine) in is))) (pinner u hs) ∙ tk.pins d u e) d;
            })
            (objects_same count v w hs y (λ p n st. refl) (λ p. refl) (λ p. refl) (λ p. refl)
            (λ d u e.
            ⊎_elim
            (λ h. inr (ap Unpinned (let same : t ≡ u = cc (e, ap (λ k. (v.seats k).pinned) h.1, mine) in same)))
            (λ h. let ne = h.1 in inl (ap (λ z. z.pinned) (number_there v.seats c x d ne) ∙ e, refl))
            (eqb_tells d c)) told.objects)
            (epochs_event first v.seats w.seats v.epoch items c (Unpinned t) 0 (seat_else x (λ z. z.global) eg) (seat_else x (λ z. z.advanced) ea) told.epochs)
            (tags_event v.tag items c (Unpinned t) 0 (λ p n. refl) told.tags),
      )
    where
      here : (u : Token) → same_token u t ≡ true → (by : Option ℕ) → pinner_after u by (happening c (Unpinned t)) ≡ None
      here u h by = rw h refl

      there : (u : Token) → same_token u t ≡ false → (by : Option ℕ) → pinner_after u by (happening c (Unpinned t)) ≡ by
      there u h by = rw h refl

      not_it : (u : Token) → (u ≡ t → ⊥) → same_token u t ≡ false
      not_it u n = ⊎_elim (λ h. absurd (n h.1)) (λ h. h.0) (same_token_tells u t)

  -- an event of one object: what it makes of its standing, and what it leaves of the others
  of_object : (w : View) (e : EpochEvent) (tag : ℕ) (q : Place)
      → ((t : Token) (by : Option ℕ) → registrant_after t by (happening c e) ≡ by) → ((t : Token) (by : Option ℕ) → pinner_after t by (happening c e) ≡ by)
      → ((p : Place) → p ≢ q → (n : ℕ) (st : Standing) → standing_after p n st (happening c e) ≡ st)
      → w.seats ≡ v.seats → w.epoch ≡ v.epoch → w.born ≡ v.born
      → ((p : Place) → p ≢ q → w.class p ≡ v.class p) → ((p : Place) → p ≢ q → w.count p ≡ v.count p) → ((p : Place) → p ≢ q → w.tag p ≡ v.tag p)
      → Stands w (happenings items ++ happening c e ∷ []) (w.class q) (w.count q) (w.tag q) (standing_after q (length (happenings items)) (standing count q (happenings items)) (happening c e))
      → TagsTold w.tag (items ++ Event c e tag ∷ [])
      → IsTold first count w (items ++ Event c e tag ∷ [])
  of_object w e tag q er ep es eseats eepoch eborn ek en et here tags =
      together w e tag
      (subst (λ s. TokensTold s (happenings items ++ happening c e ∷ [])) (sym eseats) (tokens_same v.seats (happenings items) (happening c e) er ep told.tokens))
      (objects_at count v w (happenings items) (happening c e) q es ek en et (λ d t h. (ap (λ s. (s d).pinned) eseats ∙ h, ap (λ b. b t) eborn)) here told.objects)
      (subst (λ s. EpochsTold first s w.epoch (items ++ Event c e tag ∷ [])) (sym eseats)
      (subst (λ n. EpochsTold first v.seats n (items ++ Event c e tag ∷ [])) (sym eepoch)
      (epochs_event first v.seats v.seats v.epoch items c e tag (λ d. refl) (λ d. refl) told.epochs)))
      tags

-- a view that differs from another at one object alone
pub record IsElsewhere (v w : View) (p : Place) : Type 0 where
  pub seats : w.seats ≡ v.seats
  pub epoch : w.epoch ≡ v.epoch
  pub born : w.born ≡ v.born
  pub class : (q : Place) → q ≢ p → w.class q ≡ v.class q
  pub count : (q : Place) → q ≢ p → w.count q ≡ v.count q
  pub tag : (q : Place) → q ≢ p → w.tag q ≡ v.tag q

same_yes : (p : Place) → same_place p p ≡ true
same_yes p = ⊎_elim (λ h. h.0) (λ h. let n = h.1 in absurd (n refl)) (same_place_tells p p)

same_no : (p q : Place) → p ≢ q → same_place p q ≡ false
same_no p q ne = ⊎_elim (λ h. absurd (ne h.1)) (λ h. h.0) (same_place_tells p q)

module _ (first count : ℕ) (v : View) (items : List Item) (told : IsTold first count v items) (c : ℕ) (q : Pointer) where
  -- how the object stands by its class
  stands_as : (k : Class) (n : ℕ) → v.class (place_of q) ≡ k → v.count (place_of q) ≡ n → Stands v (happenings items) k n (v.tag (place_of q)) (standing count (place_of q) (happenings items))
  stands_as k n ek en =
      let p = place_of q in
      let o = told.objects in
      subst (λ x. Stands v (happenings items) x n (v.tag p) (standing count p (happenings items))) ek
      (subst (λ x. Stands v (happenings items) (v.class p) x (v.tag p) (standing count p (happenings items))) en (o.stands p))

  -- an event after which the object stands as one that isn't deferred
  simply : (w : View) (e : EpochEvent) (new : Class) → IsElsewhere v w (place_of q)
      → ((t : Token) (by : Option ℕ) → registrant_after t by (happening c e) ≡ by) → ((t : Token) (by : Option ℕ) → pinner_after t by (happening c e) ≡ by)
      → ((p : Place) → p ≢ place_of q → (n : ℕ) (st : Standing) → standing_after p n st (happening c e) ≡ st)
      → ((p : Place) (old : ℕ) → tag_after p old (Event c e 0) ≡ old)
      → w.class (place_of q) ≡ new → w.tag (place_of q) ≡ v.tag (place_of q)
      → Stands w (happenings items ++ happening c e ∷ []) new (w.count (place_of q)) (v.tag (place_of q)) (standing_after (place_of q) (length (happenings items)) (standing count (place_of q) (happenings items)) (happening c e))
      → IsTold first count w (items ++ Event c e 0 ∷ [])
  simply w e new elsewhere er ep es eg ek et here =
      let p = place_of q in
      of_object first count v items told c w e 0 p er ep es elsewhere.seats elsewhere.epoch elsewhere.born elsewhere.class elsewhere.count elsewhere.tag
      (subst (λ k. Stands w (happenings items ++ happening c e ∷ []) k (w.count p) (w.tag p) (standing_after p (length (happenings items)) (standing count p (happenings items)) (happening c e))) (sym ek)
      (subst (λ t. Stands w (happenings items ++ happening c e ∷ []) new (w.count p) t (standing_after p (length (happenings items)) (standing count p (happenings items)) (happening c e))) (sym et) here))
      (λ r d h. tags_event v.tag items c e 0 eg told.tags r d (sym (tag_is r) ∙ h))
    where
      tag_is : (r : Place) → w.tag r ≡ v.tag r
      tag_is r = ⊎_elim (λ h. subst (λ x. w.tag x ≡ v.tag x) (sym h.1) et) (λ h. let ne = h.1 in elsewhere.tag r ne) (same_place_tells r (place_of q))

  pub tells_given : (w : View) → IsElsewhere v w (place_of q) → v.class (place_of q) ≡ Frees → v.count (place_of q) ≡ q.count
      → w.class (place_of q) ≡ Owns c → w.count (place_of q) ≡ q.count → w.tag (place_of q) ≡ v.tag (place_of q)
      → IsNext count (happenings items) c (Given q) × IsTold first count w (items ++ Event c (Given q) 0 ∷ [])
  unfolding registrant_after pinner_after standing_after tag_after
  tells_given w elsewhere ek en wk wn wt =
      let was = stands_as Frees q.count ek en in (
        was,
        simply w (Given q) (Owns c) elsewhere (λ t by. refl) (λ t by. refl) (λ p ne n st. rw (same_no p (place_of q) ne) refl) (λ p n. refl) wk wt
            (rw (same_yes (place_of q)) (λ i. record { condition = IsOwnedBy c; count = (ap (λ s. s.count) was ∙ sym wn) i })),
      )

  pub tells_shown : (w : View) → IsElsewhere v w (place_of q) → v.class (place_of q) ≡ Owns c → v.count (place_of q) ≡ q.count
      → w.class (place_of q) ≡ Lives → w.count (place_of q) ≡ q.count → w.tag (place_of q) ≡ v.tag (place_of q)
      → IsNext count (happenings items) c (Shown q) × IsTold first count w (items ++ Event c (Shown q) 0 ∷ [])
  unfolding registrant_after pinner_after standing_after tag_after
  tells_shown w elsewhere ek en wk wn wt =
      let was = stands_as (Owns c) q.count ek en in (
        was,
        simply w (Shown q) Lives elsewhere (λ t by. refl) (λ t by. refl) (λ p ne n st. rw (same_no p (place_of q) ne) refl) (λ p n. refl) wk wt
            (rw (same_yes (place_of q)) (λ i. record { condition = IsShown; count = (ap (λ s. s.count) was ∙ sym wn) i })),
      )

  pub tells_returned : (w : View) → IsElsewhere v w (place_of q) → v.class (place_of q) ≡ Owns c → v.count (place_of q) ≡ q.count
      → w.class (place_of q) ≡ Frees → w.count (place_of q) ≡ q.count → w.tag (place_of q) ≡ v.tag (place_of q)
      → IsNext count (happenings items) c (Returned q) × IsTold first count w (items ++ Event c (Returned q) 0 ∷ [])
  unfolding registrant_after pinner_after standing_after tag_after
  tells_returned w elsewhere ek en wk wn wt =
      let was = stands_as (Owns c) q.count ek en in (
        was,
        simply w (Returned q) Frees elsewhere (λ t by. refl) (λ t by. refl) (λ p ne n st. rw (same_no p (place_of q) ne) refl) (λ p n. refl) wk wt
            (rw (same_yes (place_of q)) (λ i. record { condition = IsFree; count = (ap (λ s. s.count) was ∙ sym wn) i })),
      )

  pub tells_held : (t : Token) → v.class (place_of q) ≡ Lives → v.count (place_of q) ≡ q.count → (v.seats c).pinned ≡ Some t
      → IsNext count (happenings items) c (Held t q) × IsTold first count v (items ++ Event c (Held t q) 0 ∷ [])
  unfolding registrant_after pinner_after standing_after tag_after
  tells_held t ek en pinned =
      let tk = told.tokens in
      let y = happening c (Held t q) in (
        (stands_as Lives q.count ek en, tk.pins c t pinned),
        together first count v items told c v (Held t q) 0
            (tokens_same v.seats (happenings items) y (λ t by. refl) (λ t by. refl) told.tokens)
            (objects_same count v v (happenings items) y (λ p n st. refl) (λ p. refl) (λ p. refl) (λ p. refl) (λ d u e. inl (e, refl)) told.objects)
            (epochs_event first v.seats v.seats v.epoch items c (Held t q) 0 (λ d. refl) (λ d. refl) told.epochs)
            (tags_event v.tag items c (Held t q) 0 (λ p n. refl) told.tags),
      )

  -- a deferral: what is pinned now was pinned at most one epoch after the tag
  pub tells_deferred : (t : Token) (d : ℕ) (w : View) → IsElsewhere v w (place_of q) → v.class (place_of q) ≡ Lives → v.count (place_of q) ≡ q.count → (v.seats c).pinned ≡ Some t
      → w.class (place_of q) ≡ Defers → w.count (place_of q) ≡ q.count → w.tag (place_of q) ≡ Some d
      → ((b : ℕ) (u : Token) → (v.seats b).pinned ≡ Some u → v.born u ≤ d + 1)
      → IsNext count (happenings items) c (Deferred t q) × IsTold first count w (items ++ Event c (Deferred t q) d ∷ [])
  unfolding registrant_after pinner_after standing_after tag_after
  tells_deferred t d w elsewhere ek en pinned wk wn wt young =
      let tk = told.tokens in
      let p = place_of q in
      let hs = happenings items in
      let y = happening c (Deferred t q) in
      let was = stands_as Lives q.count ek en in (
        (was, tk.pins c t pinned),
        of_object first count v items told c w (Deferred t q) d p (λ t by. refl) (λ t by. refl) (λ r ne n st. rw (same_no r p ne) refl)
            elsewhere.seats elsewhere.epoch elsewhere.born elsewhere.class elsewhere.count elsewhere.tag
            (subst (λ k. Stands w (hs ++ y ∷ []) k (w.count p) (w.tag p) (standing_after p (length hs) (standing count p hs) y)) (sym wk)
            (subst (λ x. Stands w (hs ++ y ∷ []) Defers (w.count p) x (standing_after p (length hs) (standing count p hs) y)) (sym wt) (
              length hs,
              rw (same_yes p) (λ i. record { condition = IsDeferredAt (length hs); count = (ap (λ s. s.count) was ∙ sym wn) i }),
              within (length hs) (length (hs ++ y ∷ [])) (length-append hs (y ∷ [])),
              (λ u b e.
                  let at : pinner u hs ≡ Some b = ap (pinner u) (sym (take-append_seam hs (y ∷ []))) ∙ e in
                  let now = tk.pinned u b at in
                  let old = young b u now in
                  inr (b, ap (λ s. (s b).pinned) elsewhere.seats ∙ now, (λ f g. let same : d ≡ f = cc g in let wb : w.born u ≡ v.born u = ap (λ x. x u) elsewhere.born in omega arith))),
            )))
            (λ r e h. tag_more items r (Event c (Deferred t q) d) ∙ tagged r e h),
      )
    where
      within : (a b : ℕ) → b ≡ a + 1 → a ≤ b
      within a b e = omega arith

      tagged : (r : Place) (e : ℕ) → w.tag r ≡ Some e → tag_after r (last_tag r items) (Event c (Deferred t q) d) ≡ e
      tagged r e h =
          ⊎_elim
          (λ s. rw s.0 (let same : d ≡ e = cc (h, ap w.tag s.1, wt) in same))
          (λ s. let ne = s.1 in rw s.0 (told.tags r e (sym (elsewhere.tag r ne) ∙ h)))
          (same_place_tells r (place_of q))

  -- a release: nothing that was pinned at the deferral is pinned still
  pub tells_freed : (d : ℕ) (w : View) (new : Class) → IsElsewhere v w (place_of q) → v.class (place_of q) ≡ Defers → v.count (place_of q) ≡ q.count → v.tag (place_of q) ≡ Some d
      → w.class (place_of q) ≡ new → w.tag (place_of q) ≡ None
      → ((st : Standing) → st.count ≡ q.count → (hs : List Happening) → Stands w hs new (w.count (place_of q)) None (freed st.count))
      → ((b : ℕ) (u : Token) → (v.seats b).pinned ≡ Some u → d + 1 < v.born u)
      → IsNext count (happenings items) c (Freed q) × IsTold first count w (items ++ Event c (Freed q) 0 ∷ [])
  unfolding registrant_after pinner_after standing_after tag_after
  tells_freed d w new elsewhere ek en et wk wt makes old =
      let p = place_of q in
      let hs = happenings items in
      let y = happening c (Freed q) in
      let was = stands_as Defers q.count ek en in (
        (
          was.0,
          was.1,
          (λ u b e. ⊎_elim (λ x. x) (λ x. let late = x.2 d et in let early = old x.0 u x.1 in absurd (omega arith)) (was.3 u b e)),
        ),
        of_object first count v items told c w (Freed q) 0 p (λ t by. refl) (λ t by. refl) (λ r ne n st. rw (same_no r p ne) refl)
            elsewhere.seats elsewhere.epoch elsewhere.born elsewhere.class elsewhere.count elsewhere.tag
            (subst (λ k. Stands w (hs ++ y ∷ []) k (w.count p) (w.tag p) (standing_after p (length hs) (standing count p hs) y)) (sym wk)
            (subst (λ x. Stands w (hs ++ y ∷ []) new (w.count p) x (standing_after p (length hs) (standing count p hs) y)) (sym wt)
            (rw (same_yes p) (makes (standing count p hs) (ap (λ s. s.count) was.1) (hs ++ y ∷ [])))))
            (λ r e h. tag_more items r (Event c (Freed q) 0) ∙
            ⊎_elim (λ s. absurd (cc (h, ap w.tag s.1, wt))) (λ s. let ne = s.1 in told.tags r e (sym (elsewhere.tag r ne) ∙ h)) (same_place_tells r p)),
      )

module _ (first count : ℕ) (v : View) (items : List Item) (told : IsTold first count v items) (c : ℕ) (x : Summary)
    (et : x.token ≡ (v.seats c).token) (ep : x.pinned ≡ (v.seats c).pinned) where
  more_seats : ℕ → Summary
  more_seats = with_number v.seats c x

  -- an item that is no event: the parts that have to do with epochs are given
  of_item : (i : Item) (n : ℕ) → happenings (items ++ i ∷ []) ≡ happenings items → ((p : Place) (old : ℕ) → tag_after p old i ≡ old)
      → EpochsTold first (with_number v.seats c x) n (items ++ i ∷ []) → IsTold first count (record v { seats = with_number v.seats c x; epoch = n }) (items ++ i ∷ [])
  of_item i n eh eg epochs =
      let tk = told.tokens in
      let ob = told.objects in
      record {
        tokens = subst (TokensTold (with_number v.seats c x)) (sym eh)
            (record {
              registered = λ t d e. seat_else first count v items told c x (λ z. z.token) et d ∙ tk.registered t d e;
              has = λ d t e. tk.has d t (sym (seat_else first count v items told c x (λ z. z.token) et d) ∙ e);
              pinned = λ t d e. seat_else first count v items told c x (λ z. z.pinned) ep d ∙ tk.pinned t d e;
              pins = λ d t e. tk.pins d t (sym (seat_else first count v items told c x (λ z. z.pinned) ep d) ∙ e);
            });
        objects = subst (ObjectsTold count (record v { seats = with_number v.seats c x; epoch = n })) (sym eh)
            (record {
              stands = λ p. stands_same v (record v { seats = with_number v.seats c x; epoch = n }) (happenings items) (v.class p) (v.count p) (v.tag p) (standing count p (happenings items))
                  (λ d t e. (seat_else first count v items told c x (λ z. z.pinned) ep d ∙ e, refl)) (ob.stands p);
              position = ob.position;
            });
        epochs = epochs;
        tags = λ p d e. tag_more items p i ∙ eg p (last_tag p items) ∙ told.tags p d e;
      }

  pub tells_advance : (e : ℕ) → e ≡ v.epoch + 1 → (v.seats c).global ≡ true → x.global ≡ (v.seats c).global → x.advanced ≡ true → ((d : ℕ) → (v.seats d).advanced ≡ true → d ≡ c)
      → IsExact first items (Advance c e) × IsTold first count (record v { seats = with_number v.seats c x; epoch = e }) (items ++ Advance c e ∷ [])
  unfolding epoch_after claimant_after releaser_after advancer_after tag_after
  tells_advance e ee mine eg ea alone =
      let ep = told.epochs in (
        (ee ∙ ap (λ n. n + 1) (sym ep.risen), ep.claims c mine),
        of_item (Advance c e) e (happenings_advance items c e) (λ p n. refl)
            (record {
              risen = epoch_more items first (Advance c e) ∙ ap (λ n. n + 1) ep.risen ∙ sym ee;
              claimed = λ d h. seat_else first count v items told c x (λ z. z.global) eg d ∙ ep.claimed d (sym (claimant_more items (Advance c e)) ∙ h);
              claims = λ d h. claimant_more items (Advance c e) ∙ ep.claims d (sym (seat_else first count v items told c x (λ z. z.global) eg d) ∙ h);
              released = λ d h. let is : c ≡ d = cc (sym (releaser_more items (Advance c e)) ∙ h) in
                  subst (λ k. (with_number v.seats c x k).advanced ≡ true) is (ap (λ z. z.advanced) (number_here v.seats c x) ∙ ea);
              releases = at_number (λ d z. z.advanced ≡ true → (releaser (items ++ Advance c e ∷ []) ≡ Some d) × (last_advancer (items ++ Advance c e ∷ []) ≡ Some d)) v.seats c x
                  (λ h. (releaser_more items (Advance c e), advancer_more items (Advance c e))) (λ d ne h. absurd (ne (alone d h)));
            }),
      )

  pub tells_claim : x.global ≡ true → x.advanced ≡ (v.seats c).advanced → ((d : ℕ) → (v.seats d).global ≡ true → ⊥)
      → IsExact first items (Claim c true) × IsTold first count (record v { seats = with_number v.seats c x }) (items ++ Claim c true ∷ [])
  unfolding epoch_after claimant_after releaser_after advancer_after tag_after
  tells_claim eg ea nobody =
      let ep = told.epochs in (
        none (claimant items) refl,
        of_item (Claim c true) v.epoch (happenings_claim items c true) (λ p n. refl)
            (record {
              risen = epoch_more items first (Claim c true) ∙ ep.risen;
              claimed = λ d h. let is : c ≡ d = cc (sym (claimant_more items (Claim c true)) ∙ h) in
                  subst (λ k. (with_number v.seats c x k).global ≡ true) is (ap (λ z. z.global) (number_here v.seats c x) ∙ eg);
              claims = at_number (λ d z. z.global ≡ true → claimant (items ++ Claim c true ∷ []) ≡ Some d) v.seats c x
                  (λ h. claimant_more items (Claim c true)) (λ d ne h. absurd (nobody d h));
              released = λ d h. seat_else first count v items told c x (λ z. z.advanced) ea d ∙ ep.released d (sym (releaser_more items (Claim c true)) ∙ h);
              releases = λ d h. let r = ep.releases d (sym (seat_else first count v items told c x (λ z. z.advanced) ea d) ∙ h) in
                  (releaser_more items (Claim c true) ∙ r.0, advancer_more items (Claim c true) ∙ r.1);
            }),
      )
    where
      none : (o : Option ℕ) → claimant items ≡ o → claimant items ≡ None
      none None e = e
      none (Some d) e = let ep = told.epochs in absurd (nobody d (ep.claimed d e))

  pub tells_leave : (v.seats c).global ≡ true → x.global ≡ false → x.advanced ≡ false → ((d : ℕ) → (v.seats d).global ≡ true → d ≡ c) → ((d : ℕ) → (v.seats d).advanced ≡ true → d ≡ c)
      → IsExact first items (Leave c true) × IsTold first count (record v { seats = with_number v.seats c x }) (items ++ Leave c true ∷ [])
  unfolding epoch_after claimant_after releaser_after advancer_after tag_after
  tells_leave mine eg ea alone also =
      let ep = told.epochs in (
        ep.claims c mine,
        of_item (Leave c true) v.epoch (happenings_leave items c true) (λ p n. refl)
            (record {
              risen = epoch_more items first (Leave c true) ∙ ep.risen;
              claimed = λ d h. absurd (cc (sym (claimant_more items (Leave c true)) ∙ h));
              claims = at_number (λ d z. z.global ≡ true → claimant (items ++ Leave c true ∷ []) ≡ Some d) v.seats c x
                  (λ h. absurd (cc (h, eg))) (λ d ne h. absurd (ne (alone d h)));
              released = λ d h. absurd (cc (sym (releaser_more items (Leave c true)) ∙ h));
              releases = at_number (λ d z. z.advanced ≡ true → (releaser (items ++ Leave c true ∷ []) ≡ Some d) × (last_advancer (items ++ Leave c true ∷ []) ≡ Some d)) v.seats c x
                  (λ h. absurd (cc (h, ea))) (λ d ne h. absurd (ne (also d h)));
            }),
      )

-- a claim or a leave of a local election tells nothing
module _ (first count : ℕ) (v : View) (items : List Item) (told : IsTold first count v items) (c : ℕ) where
  silently : (i : Item) → happenings (items ++ i ∷ []) ≡ happenings items → ((p : Place) (old : ℕ) → tag_after p old i ≡ old)
      → ((n : ℕ) → epoch_after n i ≡ n) → ((o : Option ℕ) → claimant_after o i ≡ o) → ((o : Option ℕ) → releaser_after o i ≡ o) → ((o : Option ℕ) → advancer_after o i ≡ o)
      → IsTold first count v (items ++ i ∷ [])
  silently i eh eg ee ec er ea =
      let ep = told.epochs in
      record {
        tokens = subst (TokensTold v.seats) (sym eh) told.tokens;
        objects = subst (ObjectsTold count v) (sym eh) told.objects;
        epochs = record {
          risen = epoch_more items first i ∙ ee (epoch_of first items) ∙ ep.risen;
          claimed = λ d h. ep.claimed d (sym (claimant_more items i ∙ ec (claimant items)) ∙ h);
          claims = λ d h. claimant_more items i ∙ ec (claimant items) ∙ ep.claims d h;
          released = λ d h. ep.released d (sym (releaser_more items i ∙ er (releaser items)) ∙ h);
          releases = λ d h. let r = ep.releases d h in (releaser_more items i ∙ er (releaser items) ∙ r.0, advancer_more items i ∙ ea (last_advancer items) ∙ r.1);
        };
        tags = λ p d e. tag_more items p i ∙ eg p (last_tag p items) ∙ told.tags p d e;
      }

  pub tells_local_claim : IsTold first count v (items ++ Claim c false ∷ [])
  unfolding epoch_after claimant_after releaser_after advancer_after tag_after
  tells_local_claim = silently (Claim c false) (happenings_claim items c false) (λ p n. refl) (λ n. refl) (λ o. refl) (λ o. refl) (λ o. refl)

  pub tells_local_leave : IsTold first count v (items ++ Leave c false ∷ [])
  unfolding epoch_after claimant_after releaser_after advancer_after tag_after
  tells_local_leave = silently (Leave c false) (happenings_leave items c false) (λ p n. refl) (λ n. refl) (λ o. refl) (λ o. refl) (λ o. refl)
