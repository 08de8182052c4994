-- What the client speaks of after a step by which an object changes hands: its rule is kept.
use Rattle.std.proofs.Common.{◌≡◌, ◌==◌, ◌<◌, ◌+◌, ℕ, Bool, true, false, List, [], ◌∷◌, ◌++◌, Option, Some, None, refl, ap, sym, ◌∙◌, subst, ⊎_elim, eq-eqb}
use mathlib.Core.Path.{fun_ext}
use Rattle.std.proofs.lemmas.List.{append-nil}
use Rattle.std.proofs.lemmas.Bool.{cases_Bool, false≢true}
use Rattle.std.proofs.lemmas.Bool.Decides.{eqb_tells}
use Rattle.pass_book.specs.declared.entries.Entry.{Entry}
use Rattle.pgas_base.specs.declared.shapes.Shape.{Shape}
use Rattle.pgas_base.specs.Pointers.{Pointer}
use Rattle.pool_core.specs.declared.headers.Header.{Header}
use Rattle.pool_core.specs.declared.headers.State.{State as HeaderState}
use Rattle.pool_core.specs.declared.headers.State.TheVariants.{Free, Own, Shown, Worn}
use Rattle.epoch_laws.specs.declared.steps.Kind.{Kind}
use Rattle.epoch_laws.specs.declared.steps.Kind.TheVariants.{TakeTry, Show, Return, DeferLook, Release}
use Rattle.epoch_laws.specs.Places.{Place, place_of, pointer_at, is_among, with_number, with_place, without}
use Rattle.epoch_laws.specs.States.{State, IsPlace}
use Rattle.epoch_laws.specs.Seats.{Seat, Pinned, DeferLooked, is_reclaiming}
use Rattle.epoch_laws.specs.Locations.{Kind as LocationKind, InHand, IsOwned, IsWalked, at_}
use Rattle.epoch_laws.specs.Sound.{Fits, Map, IsSound}
use Rattle.epoch_laws.specs.Needs.{AllMet}
use Rattle.epoch_laws.specs.TakeSteps.{take_try, show, give_back, is_free, is_free_with, look_count}
use Rattle.epoch_laws.specs.DeferralSteps.{defer_look}
use Rattle.epoch_laws.specs.ReclaimSteps.{release, last_count}
use Rattle.epoch_laws.specs.Steps.{move}
use Rattle.epoch_laws.proofs.Updates.{number_here, number_there, place_here, place_there, same_place_tells, part_with, part_kept}
use Rattle.epoch_table.specs.declared.parts.Part.{Part}
use Rattle.epoch_table.specs.Clients.{ClientTerms, Action, Scene, Thing, Standing, Owned, Live, Retired, Deferral, thing, thing_of, deferrals_in, standing_so, knows_after, AreLawful, Takes, Shows, Returns, Defers, Frees}
use Rattle.epoch_table.specs.Kinds.{IsQuiet, Changes, Succeeds, Allows, client_after}
use Rattle.epoch_table.proofs.Quiet.{untouched, unpin_or}

-- ---- objects

-- the objects where one header and one tag are others
things_with : (header : Place → Header) (tag : Place → Option ℕ) (rows : Place → ℕ → ℕ) (p : Place) (h : Header) (t : Option ℕ)
    → ◌≡◌ {A = Place → Option Thing} (λ q. thing_of (with_place header p h q) (with_place tag p t q) (rows q)) (with_place (λ q. thing_of (header q) (tag q) (rows q)) p (thing_of h t (rows p)))
things_with header tag rows p h t =
    fun_ext
    (λ q.
    ⊎_elim
    (λ e.
    subst (λ r. thing_of (with_place header p h r) (with_place tag p t r) (rows r) ≡ with_place (λ q. thing_of (header q) (tag q) (rows q)) p (thing_of h t (rows p)) r) (sym e.1)
    (rw (place_here header p h, place_here tag p t) (sym (place_here (λ q. thing_of (header q) (tag q) (rows q)) p (thing_of h t (rows p))))))
    (λ e. let ne = e.1 in rw (place_there header p h q ne, place_there tag p t q ne) (sym (place_there (λ q. thing_of (header q) (tag q) (rows q)) p (thing_of h t (rows p)) q ne)))
    (same_place_tells q p))

-- a tag that is written again
same_tags : (tag : Place → Option ℕ) (p : Place) → ◌≡◌ {A = Place → Option ℕ} (with_place tag p (tag p)) tag
same_tags tag p = fun_ext (λ q. ⊎_elim (λ e. subst (λ r. with_place tag p (tag p) r ≡ tag r) (sym e.1) (place_here tag p (tag p))) (λ e. let ne = e.1 in place_there tag p (tag p) q ne) (same_place_tells q p))

same_headers : (header : Place → Header) (p : Place) → ◌≡◌ {A = Place → Header} (with_place header p (header p)) header
same_headers header p = fun_ext (λ q. ⊎_elim (λ e. subst (λ r. with_place header p (header p) r ≡ header r) (sym e.1) (place_here header p (header p))) (λ e. let ne = e.1 in place_there header p (header p) q ne) (same_place_tells q p))

-- where one header is another
header_with : (header : Place → Header) (tag : Place → Option ℕ) (rows : Place → ℕ → ℕ) (p : Place) (h : Header)
    → ◌≡◌ {A = Place → Option Thing} (λ q. thing_of (with_place header p h q) (tag q) (rows q)) (with_place (λ q. thing_of (header q) (tag q) (rows q)) p (thing_of h (tag p) (rows p)))
header_with header tag rows p h =
    subst (λ (f : Place → Option ℕ). ◌≡◌ {A = Place → Option Thing} (λ q. thing_of (with_place header p h q) (f q) (rows q)) (with_place (λ q. thing_of (header q) (tag q) (rows q)) p (thing_of h (tag p) (rows p))))
    (same_tags tag p) (things_with header tag rows p h (tag p))

-- where one tag is another
tag_with : (header : Place → Header) (tag : Place → Option ℕ) (rows : Place → ℕ → ℕ) (p : Place) (t : Option ℕ)
    → ◌≡◌ {A = Place → Option Thing} (λ q. thing_of (header q) (with_place tag p t q) (rows q)) (with_place (λ q. thing_of (header q) (tag q) (rows q)) p (thing_of (header p) t (rows p)))
tag_with header tag rows p t =
    subst (λ (f : Place → Header). ◌≡◌ {A = Place → Option Thing} (λ q. thing_of (f q) (with_place tag p t q) (rows q)) (with_place (λ q. thing_of (header q) (tag q) (rows q)) p (thing_of (header p) t (rows p))))
    (same_headers header p) (things_with header tag rows p (header p) t)

abbrev live_so : Standing → Bool
live_so Owned = false
live_so Live = true
live_so Retired = false

is_live : Option Thing → Bool
is_live None = false
is_live (Some x) = live_so x.standing

row_in : Option Thing → ℕ → ℕ
row_in None = λ at. 0
row_in (Some x) = x.row

use_count : Option Thing → ℕ
use_count None = 0
use_count (Some x) = x.count

-- an object that is shown and not deferred has such a header and no tag
pub live_is : (h : Header) (t : Option ℕ) (rows row : ℕ → ℕ) (q : Pointer) → thing_of h t rows ≡ thing q Live row → (h ≡ record { count = q.count; state = Shown }) × (t ≡ None)
unfolding is_live use_count
live_is h t rows row q e = by h.state t e refl
  where
    by : (st : HeaderState) (t : Option ℕ) → thing_of (record { count = h.count; state = st }) t rows ≡ thing q Live row → h.state ≡ st → (h ≡ record { count = q.count; state = Shown }) × (t ≡ None)
    by Free t e is = absurd (false≢true (ap is_live e))
    by Own t e is = absurd (false≢true (ap is_live e))
    by Shown None e is = let count : h.count ≡ q.count = ap use_count e in ((λ i. record { count = count i; state = is i }), refl)
    by Shown (Some d) e is = absurd (false≢true (ap is_live e))
    by Worn t e is = absurd (false≢true (ap is_live e))

-- ---- where the objects are

module _ (s : State) (m : Map) (sound : IsSound s m) (c : ℕ) where
  fits_at : (k : LocationKind) (places : List Place) → m.content (at_ k c) ≡ places → (p : Place) → is_among p places ≡ true → Fits k (s.words.header p) (s.tag p)
  fits_at k places same p among =
      let at = ((sound.listed (at_ k c)).all p (subst (λ l. is_among p l ≡ true) (sym same) among)).0 in subst (λ l. Fits l.kind (s.words.header p) (s.tag p)) at (sound.fit p)

  -- an object of the hand is free, one that is owned is so, and one that was walked over is shown and deferred
  pub hand_fits : (p : Place) → is_among p (s.seat c).hand ≡ true → Fits InHand (s.words.header p) (s.tag p)
  hand_fits = fits_at InHand (s.seat c).hand (sound.lists c).hand

  pub owned_fits : (p : Place) → is_among p (s.seat c).owned ≡ true → Fits IsOwned (s.words.header p) (s.tag p)
  owned_fits = fits_at IsOwned (s.seat c).owned (sound.lists c).owned

  pub walked_fits : (p : Place) → is_among p (s.seat c).reclaim.walked ≡ true → Fits IsWalked (s.words.header p) (s.tag p)
  walked_fits = fits_at IsWalked (s.seat c).reclaim.walked (sound.lists c).walked

  header_is : (p : Place) (n : ℕ) (st : HeaderState) → (s.words.header p).count ≡ n → (s.words.header p).state ≡ st → s.words.header p ≡ record { count = n; state = st }
  header_is p n st count state = λ i. record { count = count i; state = state i }

  -- a take that knows the count wins
  pub take_wins : (p : Place) → is_among p (s.seat c).hand ≡ true → (s.words.header p).count ≡ look_count (s.seat c).free_look → s.words.header p ≡ record { count = look_count (s.seat c).free_look; state = Free }
  take_wins p among count = header_is p _ Free count (hand_fits p among).state

-- ---- steps

-- what the client asks for, where an object changes hands
abbrev pub Asks : {Self View Call Reply State' : Type 0} → ClientTerms Self View Call Reply State' → Kind → View → Seat → Type 0
Asks K (TakeTry locale index) view seat = K.may_take view seat.owned
Asks K (Show pointer) view seat = K.may view (Shows pointer)
Asks K (Return pointer) view seat = K.gives_back
Asks K (DeferLook pointer) view seat = K.may view (Defers pointer)
Asks K _ view seat = Unit {0}

is_free_of : (n : ℕ) → is_free_with (record { count = n; state = Free }) n ≡ true
unfolding is_free
is_free_of n = eq-eqb n n refl

-- a deferral needs that its object is shown and not deferred
pub defer_needs : (s : State) (c : ℕ) (q : Pointer) → (c < s.seats) × ((s.seat c).phase ≡ Pinned) → IsPlace s.shape (place_of q) → s.words.header (place_of q) ≡ record { count = q.count; state = Shown } → s.tag (place_of q) ≡ None
    → AllMet (move s c (DeferLook q)).needs
unfolding move defer_look
defer_needs s c q h inside shown none = (h.0, (inside, (h.1, (shown, (none, tt)))))

-- the object of a take is in the hand
pub take_hand : (s : State) (c : ℕ) (p : Place) → AllMet (move s c (TakeTry p.locale p.index)).needs → is_among p (s.seat c).hand ≡ true
unfolding move take_try
take_hand s c p h = h.1.1.1.1.0

-- what the client asks for is what is allowed
pub asks_of : {Self View Call Reply State' : Type 0} (K : ClientTerms Self View Call Reply State') (k : Kind) (part : Part View) (seat : Seat) → part.seat ≡ seat → Allows K k part → Asks K k part.client seat
asks_of K (TakeTry l i) part seat same allowed = subst (λ (x : Seat). K.may_take part.client x.owned) same allowed.0
asks_of K (Show q) part seat same allowed = allowed
asks_of K (Return q) part seat same allowed = allowed
asks_of K (DeferLook q) part seat same allowed = allowed
asks_of K _ part seat same allowed = tt

module _ {Self View Call Reply State' : Type 0} (K : ClientTerms Self View Call Reply State') (shape : Shape) (s : State) (rows : Place → ℕ → ℕ) (words : ℕ → ℕ) (entries : List (Entry Call Reply)) (views : ℕ → View) (deferrals : List Deferral) where
  -- what the client speaks of in the state
  abbrev pub scene : Scene View Call Reply
  scene = record { words = words; entries = entries; views = views; deferrals = deferrals; things = λ q. thing_of (s.words.header q) (s.tag q) (rows q); owned = λ d. (s.seat d).owned }

module _ {Self View Call Reply State' : Type 0} (K : ClientTerms Self View Call Reply State') (shape : Shape) (s : State) (c : ℕ) (rows : Place → ℕ → ℕ) (words : ℕ → ℕ) (entries : List (Entry Call Reply)) (views : ℕ → View) (deferrals : List Deferral) where
  -- and after a step
  abbrev pub scene_after : Kind → Scene View Call Reply
  scene_after k =
      let x = (move s c k).outcome in record {
        words = words;
        entries = entries;
        views = with_number views c (client_after K (s.seat c) k (views c));
        deferrals = deferrals ++ deferrals_in x.items;
        things = λ q. thing_of (x.next.words.header q) (x.next.tag q) (rows q);
        owned = λ d. (x.next.seat d).owned;
      }

module _ {Self View Call Reply State' : Type 0} (K : ClientTerms Self View Call Reply State') (laws : AreLawful K) (client : Self) (shape : Shape) (s : State) (m : Map) (sound : IsSound s m) (c : ℕ)
    (rows : Place → ℕ → ℕ) (words : ℕ → ℕ) (entries : List (Entry Call Reply)) (views : ℕ → View) (deferrals : List Deferral) where
  abbrev here : Scene View Call Reply
  here = scene K shape s rows words entries views deferrals

  -- what an object that is taken, shown or given back leaves of the scene
  handed : (p : Place) (h : Header) (seat : Seat) (action : Action) (places : List Place) → seat.owned ≡ places → K.holds client shape (knows_after K (standing_so here p (thing_of h (s.tag p) (rows p)) c places) c action 0)
      → K.holds client shape record {
        words = words;
        entries = entries;
        views = with_number views c (K.after (views c) action 0);
        deferrals = deferrals ++ [];
        things = λ q. thing_of (with_place s.words.header p h q) (s.tag q) (rows q);
        owned = λ d. (with_number s.seat c seat d).owned;
      }
  handed p h seat action places owned holds =
      let things = header_with s.words.header s.tag rows p h in
      let owners = part_with (λ (x : Seat). x.owned) s.seat c seat ∙ ap (λ l. with_number (λ d. (s.seat d).owned) c l) owned in
      let none = append-nil deferrals in
      subst (K.holds client shape) (sym (λ i. record { words = words; entries = entries; views = with_number views c (K.after (views c) action 0); deferrals = none i; things = things i; owned = owners i })) holds

  -- and what a deferral or a release leaves
  ended : (header : Place → Header) (tag : Place → Option ℕ) (seat : Seat) (p : Place) (new : Option Thing) (action : Action) (more : List Deferral) → seat.owned ≡ (s.seat c).owned
      → ◌≡◌ {A = Place → Option Thing} (λ q. thing_of (header q) (tag q) (rows q)) (with_place here.things p new)
      → K.holds client shape (knows_after K (record here { deferrals = deferrals ++ more; things = with_place here.things p new }) c action 0)
      → K.holds client shape record {
        words = words;
        entries = entries;
        views = with_number views c (K.after (views c) action 0);
        deferrals = deferrals ++ more;
        things = λ q. thing_of (header q) (tag q) (rows q);
        owned = λ d. (with_number s.seat c seat d).owned;
      }
  ended header tag seat p new action more owned things holds =
      let owners = part_kept (λ (x : Seat). x.owned) s.seat c seat owned in
      subst (K.holds client shape) (sym (λ i. record { words = words; entries = entries; views = with_number views c (K.after (views c) action 0); deferrals = deferrals ++ more; things = things i; owned = owners i })) holds

  -- an object of the shape that is free is nothing that the client speaks of, one that is owned is so, and one that was walked over is retired
  free_thing : (p : Place) (n : ℕ) → s.words.header p ≡ record { count = n; state = Free } → here.things p ≡ None
  free_thing p n is = ap (λ h. thing_of h (s.tag p) (rows p)) is

  owned_thing : (q : Pointer) → (s.words.header (place_of q)).count ≡ q.count → is_among (place_of q) (s.seat c).owned ≡ true → here.things (place_of q) ≡ thing q Owned (rows (place_of q))
  owned_thing q count among = ap (λ h. thing_of h (s.tag (place_of q)) (rows (place_of q))) (header_is s m sound c (place_of q) q.count Own count (owned_fits s m sound c (place_of q) among).state)

  walked_thing : (q : Pointer) → (s.words.header (place_of q)).count ≡ q.count → is_among (place_of q) (s.seat c).reclaim.walked ≡ true → here.things (place_of q) ≡ thing q Retired (rows (place_of q))
  walked_thing q count among =
      let p = place_of q in
      let fits = walked_fits s m sound c p among in
      let tagged : (d : ℕ) × (s.tag p ≡ Some d) = fits.tagging in
      ap (λ h. thing_of h (s.tag p) (rows p)) (header_is s m sound c p q.count Shown count fits.state) ∙ ap (λ t. thing_of (record { count = q.count; state = Shown }) t (rows p)) tagged.1

  -- the rule is kept by each step by which an object changes hands
  pub changes_kept : (k : Kind) → Changes k → K.holds client shape here → AllMet (move s c k).needs → Asks K k (views c) (s.seat c) → Succeeds k s c → (is_reclaiming (s.seat c).phase ≡ true → K.may_reclaim (views c) (s.seat c).owned)
      → K.holds client shape (scene_after K shape s c rows words entries views deferrals k)
  unfolding move take_try show give_back defer_look release deferrals_in is_reclaiming row_in
  changes_kept (TakeTry l i) changes holds h allowed ready reclaims =
      let p : Place = record { locale = l; index = i } in
      let n = look_count (s.seat c).free_look in
      let q = pointer_at p n in
      let header : s.words.header p ≡ record { count = n; state = Free } = ready in
      let wins : is_free_with (s.words.header p) n ≡ true = ap (λ x. is_free_with x n) header ∙ is_free_of n in
      rw wins
      (handed p (record { count = n; state = Own }) (record (s.seat c) { hand = without p (s.seat c).hand; owned = p ∷ (s.seat c).owned }) (Takes q) (p ∷ (s.seat c).owned) refl
      (laws.takes client shape here c q (rows p) holds allowed (free_thing p n header)))
  changes_kept (Show q) changes holds h allowed ready reclaims =
      let p = place_of q in
      let owned = h.1.1.1.1.0 in
      handed p (record { count = q.count; state = Shown }) (record (s.seat c) { owned = without p (s.seat c).owned }) (Shows q) (without p (s.seat c).owned) refl
      (subst (λ t. K.holds client shape (knows_after K (standing_so here p (thing_of (record { count = q.count; state = Shown }) t (rows p)) c (without p (s.seat c).owned)) c (Shows q) 0)) (sym (owned_fits s m sound c p owned).tagging)
      (laws.shows client shape here c q (rows p) holds allowed owned (owned_thing q h.1.1.1.0 owned)))
  changes_kept (Return q) changes holds h allowed ready reclaims =
      let p = place_of q in
      let owned = h.1.1.1.1.0 in
      handed p (record { count = q.count; state = Free }) (record (s.seat c) { owned = without p (s.seat c).owned; hand = p ∷ (s.seat c).hand }) (Returns q) (without p (s.seat c).owned) refl
      (laws.returns client shape here c q (rows p) holds allowed owned (owned_thing q h.1.1.1.0 owned))
  changes_kept (DeferLook q) changes holds h allowed ready reclaims =
      let p = place_of q in
      let lawful = laws.deferrals client shape here c q holds allowed in
      let read = s.words.epoch_of (s.seat c).token.locale in
      let header : s.words.header p ≡ record { count = q.count; state = Shown } = h.1.1.1.0 in
      let row_is : thing q Live (rows p) ≡ thing q Live lawful.0 = sym (ap (λ x. thing_of x (s.tag p) (rows p)) header ∙ ap (λ t. thing_of (record { count = q.count; state = Shown }) t (rows p)) h.1.1.1.1.0) ∙ lawful.1 in
      let same : rows p ≡ lawful.0 = ap row_in row_is in
      ended s.words.header (with_place s.tag p (Some read)) (record (s.seat c) { phase = DeferLooked; deferral = record { pointer = q; tag = read; old = 0 } }) p (thing q Retired (rows p)) (Defers q) (record { caller = c; pointer = q } ∷ []) refl
      (tag_with s.words.header s.tag rows p (Some read) ∙ ap (λ x. with_place here.things p (thing_of x (Some read) (rows p))) header)
      (subst (λ (row : ℕ → ℕ). K.holds client shape (knows_after K (record here { deferrals = deferrals ++ record { caller = c; pointer = q } ∷ []; things = with_place here.things p (thing q Retired row) }) c (Defers q) 0)) (sym same) lawful.2)
  changes_kept (Release q) changes holds h allowed ready reclaims =
      let p = place_of q in
      let walked = h.1.1.1.1.0 in
      let lawful = laws.frees client shape here c q (rows p) holds (reclaims (ap is_reclaiming h.1.1.0)) (walked_thing q h.1.1.1.0 walked) in
      let none : K.holds client shape (knows_after K (record here { deferrals = deferrals ++ []; things = with_place here.things p None }) c (Frees q) 0) =
      subst (λ l. K.holds client shape (knows_after K (record here { deferrals = l; things = with_place here.things p None }) c (Frees q) 0)) (sym (append-nil deferrals)) lawful.1 in
      ⊎_elim
      (λ z. rw z (ended (with_place s.words.header p (record { count = q.count; state = Worn })) (with_place s.tag p None) _ p None (Frees q) [] refl (things_with s.words.header s.tag rows p (record { count = q.count; state = Worn }) None) none))
      (λ z. rw z (ended (with_place s.words.header p (record { count = q.count + 1; state = Free })) (with_place s.tag p None) _ p None (Frees q) [] refl (things_with s.words.header s.tag rows p (record { count = q.count + 1; state = Free }) None) none))
      (cases_Bool (q.count == last_count))
  changes_kept _ changes holds h allowed ready reclaims = absurd changes

  take_phase : (l i : ℕ) → ((move s c (TakeTry l i)).outcome.next.seat c).phase ≡ (s.seat c).phase
  unfolding move take_try
  take_phase l i =
      ⊎_elim (λ z. rw z (ap (λ (x : Seat). x.phase) (number_here s.seat c _))) (λ z. rw z refl) (cases_Bool (is_free_with (s.words.header (record { locale = l; index = i })) (look_count (s.seat c).free_look)))

  -- and a pass that reclaims is still one to which that is allowed
  pub reclaims_kept : (k : Kind) → Changes k → K.holds client shape here → AllMet (move s c k).needs → (is_reclaiming (s.seat c).phase ≡ true → K.may_reclaim (views c) (s.seat c).owned)
      → is_reclaiming ((move s c k).outcome.next.seat c).phase ≡ true → K.may_reclaim (client_after K (s.seat c) k (views c)) ((move s c k).outcome.next.seat c).owned
  unfolding move take_try show give_back defer_look release is_reclaiming
  reclaims_kept (TakeTry l i) changes holds h reclaims r = absurd (false≢true (sym h.1.1.1.0.0 ∙ (ap is_reclaiming (sym (take_phase l i)) ∙ r)))
  reclaims_kept (Show q) changes holds h reclaims r = absurd (false≢true (sym h.1.1.0 ∙ subst (λ (x : Seat). is_reclaiming x.phase ≡ true) (number_here s.seat c _) r))
  reclaims_kept (Return q) changes holds h reclaims r = absurd (false≢true (sym h.1.1.0 ∙ subst (λ (x : Seat). is_reclaiming x.phase ≡ true) (number_here s.seat c _) r))
  reclaims_kept (DeferLook q) changes holds h reclaims r = absurd (false≢true (subst (λ (x : Seat). is_reclaiming x.phase ≡ true) (number_here s.seat c _) r))
  reclaims_kept (Release q) changes holds h reclaims r =
      let lawful = laws.frees client shape here c q (rows (place_of q)) holds (reclaims (ap is_reclaiming h.1.1.0)) (walked_thing q h.1.1.1.0 h.1.1.1.1.0) in
      ⊎_elim
      (λ z. rw z (subst (λ (x : Seat). K.may_reclaim (K.after (views c) (Frees q) 0) x.owned) (sym (number_here s.seat c _)) lawful.0))
      (λ z. rw z (subst (λ (x : Seat). K.may_reclaim (K.after (views c) (Frees q) 0) x.owned) (sym (number_here s.seat c _)) lawful.0))
      (cases_Bool (q.count == last_count))
  reclaims_kept _ changes holds h reclaims r = absurd changes

  -- by a quiet step nothing changes but what an unpin drops
  pub quiet_kept : (k : Kind) → IsQuiet k → K.holds client shape here → K.holds client shape (scene_after K shape s c rows words entries views deferrals k)
  quiet_kept k quiet holds =
      let still = untouched s c k quiet in
      let header = still.header in
      let tag = still.tag in
      let none : deferrals ++ deferrals_in (move s c k).outcome.items ≡ deferrals = ap (λ l. deferrals ++ l) still.none ∙ append-nil deferrals in
      subst (K.holds client shape)
      (sym (λ i. record { words = words; entries = entries; views = with_number views c (client_after K (s.seat c) k (views c)); deferrals = none i; things = λ q. thing_of (header i q) (tag i q) (rows q); owned = λ d. still.owned d i }))
      (⊎_elim
      (λ e. subst (λ x. K.holds client shape (record here { views = with_number views c (client_after K (s.seat c) x (views c)) })) (sym e) (laws.unpins client shape here c holds))
      (λ e. subst (λ v. K.holds client shape (record here { views = v })) (sym (same_views (client_after K (s.seat c) k (views c)) (e (views c)))) holds)
      (unpin_or K (s.seat c) k quiet))
    where
      same_views : (v : View) → v ≡ views c → ◌≡◌ {A = ℕ → View} (with_number views c v) views
      same_views v is = fun_ext (λ d. ⊎_elim (λ h. ap (with_number views c v) h.1 ∙ (number_here views c v ∙ (is ∙ ap views (sym h.1)))) (λ h. number_there views c v d h.1) (eqb_tells d c))
