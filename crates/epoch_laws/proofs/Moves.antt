-- What a step does that takes objects from one location to another.
use Rattle.std.proofs.Common.{◌≡◌, ◌≢◌, ℕ, true, false, List, [], ◌∷◌, Option, refl, ap, sym, ◌∙◌, subst}
use Rattle.pgas_base.specs.declared.shapes.Shape.{Shape}
use Rattle.pool_core.specs.declared.headers.Header.{Header}
use Rattle.pool_core.specs.declared.free_words.FreeWord.{FreeWord}
use Rattle.epoch_laws.specs.declared.tokens.Token.{Token}
use Rattle.epoch_laws.specs.Places.{Place, is_among, with_number}
use Rattle.epoch_laws.specs.Words.{Words}
use Rattle.epoch_laws.specs.Seats.{Seat}
use Rattle.epoch_laws.specs.States.{State}
use Rattle.epoch_laws.proofs.Updates.{at_number, part_kept, part_with}
use Rattle.epoch_laws.proofs.Lists.{IsDistinct, among_here, among_none}
use Rattle.epoch_laws.proofs.Locations.{Kind, InHand, IsOwned, InDeferral, InList, IsWalked, Location, at_, AreListed, loc_moved, content_moved, content_else, moves_listed, at_moved}
use Rattle.epoch_laws.proofs.Paths.{IsChain, ArePaths, moves_paths}
use Rattle.epoch_laws.proofs.Links.{IsHomeKind, IsLink, IsLinked, moves_linked}
use Rattle.epoch_laws.proofs.Ages.{AreAged}
use Rattle.epoch_laws.proofs.Looks.{AreLooks}
use Rattle.epoch_laws.proofs.Sound.{phased, home_wait, home_wait_at, Lists, lists, AreOf, AreLists, state_of, is_tagged, HasTag, Fits, AllFit, Map, firsts_of, IsSound}

-- what two seats have in common where only what they own or have in hand differs
pub record IsAlike (a b : Seat) : Type 0 where
  pub phased : phased b ≡ phased a
  pub homing : b.homing ≡ a.homing
  pub stack : b.stack ≡ a.stack

module _ (seat : ℕ → Seat) (c : ℕ) (new : Seat) (alike : IsAlike (seat c) new) where
  pub paths_alike : (locales : ℕ) (words : Words) (link : Place → Option Place) (content : Location → List Place)
      → ArePaths locales link (firsts_of words seat) content → ArePaths locales link (firsts_of words (with_number seat c new)) content
  paths_alike locales words link content h =
      subst (λ f. ArePaths locales link (record { stack = λ l. (words.free_head l).index; home = words.home_head; taken = f; list = words.list_head; rest = λ d. (phased (with_number seat c new d)).rest }) content)
      (sym (part_kept (λ x. x.homing.chain) seat c new (ap (λ x. x.chain) alike.homing)))
      (subst (λ f. ArePaths locales link (record { stack = λ l. (words.free_head l).index; home = words.home_head; taken = λ d. (seat d).homing.chain; list = words.list_head; rest = f }) content)
      (sym (part_kept (λ x. (phased x).rest) seat c new (ap (λ x. x.rest) alike.phased))) h)

  pub linked_alike : (loc : Place → Location) (link : Place → Option Place) (next : Place → ℕ) (head : ℕ → ℕ)
      → IsLinked loc link next (λ d. home_wait (seat d)) (λ d. (phased (seat d)).list_wait) head
      → IsLinked loc link next (λ d. home_wait (with_number seat c new d)) (λ d. (phased (with_number seat c new d)).list_wait) head
  linked_alike loc link next head h =
      subst (λ f. IsLinked loc link next f (λ d. (phased (with_number seat c new d)).list_wait) head)
      (sym (part_kept home_wait seat c new (ap (λ x. home_wait_at x.tail x.old) alike.homing)))
      (subst (λ f. IsLinked loc link next (λ d. home_wait (seat d)) f head)
      (sym (part_kept (λ x. (phased x).list_wait) seat c new (ap (λ x. x.list_wait) alike.phased))) h)

  pub aged_alike : (shape : Shape) (epoch : ℕ) (born : Token → ℕ) (tag : Place → Option ℕ) (loc : Place → Location)
      → AreAged shape epoch born tag loc (λ d. (phased (seat d)).collecting) (λ d. (phased (seat d)).deferring)
      → AreAged shape epoch born tag loc (λ d. (phased (with_number seat c new d)).collecting) (λ d. (phased (with_number seat c new d)).deferring)
  aged_alike shape epoch born tag loc h =
      subst (λ f. AreAged shape epoch born tag loc f (λ d. (phased (with_number seat c new d)).deferring))
      (sym (part_kept (λ x. (phased x).collecting) seat c new (ap (λ x. x.collecting) alike.phased)))
      (subst (λ f. AreAged shape epoch born tag loc (λ d. (phased (seat d)).collecting) f)
      (sym (part_kept (λ x. (phased x).deferring) seat c new (ap (λ x. x.deferring) alike.phased))) h)

  pub looks_alike : (locales : ℕ) (free_head : ℕ → FreeWord) (next : Place → ℕ)
      → AreLooks locales (λ d. (seat d).stack) free_head next → AreLooks locales (λ d. (with_number seat c new d).stack) free_head next
  looks_alike locales free_head next h =
      subst (λ f. AreLooks locales f free_head next) (sym (part_kept (λ x. x.stack) seat c new alike.stack)) h

-- a location is none of another seat's lists
abbrev pub IsSeatKind : Kind → Type 0
IsSeatKind InHand = Unit {0}
IsSeatKind IsOwned = Unit {0}
IsSeatKind IsWalked = Unit {0}
IsSeatKind InDeferral = Unit {0}
IsSeatKind _ = ⊥

abbrev pub IsNoOthers : ℕ → Location → Type 0
IsNoOthers c a = (d : ℕ) (k : Kind) → d ≢ c → IsSeatKind k → at_ k d ≢ a

pub own_location : (c : ℕ) (k : Kind) → IsNoOthers c (at_ k c)
own_location c k d j ne is e = ne (ap (λ x. x.first) e)

pub no_seat_location : (c : ℕ) (a : Location) → (IsSeatKind a.kind → ⊥) → IsNoOthers c a
no_seat_location c a none d k ne is e = none (subst IsSeatKind (ap (λ x. x.kind) e) is)

pub lists_moved : (content : Location → List Place) (l : ℕ → Lists) (c : ℕ) (new : Lists) (moved : List Place) (a b : Location)
    → AreLists content l → IsNoOthers c a → IsNoOthers c b → AreOf (content_moved moved a b content) c new → AreLists (content_moved moved a b content) (with_number l c new)
lists_moved content l c new moved a b old na nb here =
    at_number (λ d x. AreOf (content_moved moved a b content) d x) l c new here
    (λ d ne.
    let was = old d in
    record {
      hand = content_else moved a b content (at_ InHand d) (na d InHand ne tt) (nb d InHand ne tt) ∙ was.hand;
      owned = content_else moved a b content (at_ IsOwned d) (na d IsOwned ne tt) (nb d IsOwned ne tt) ∙ was.owned;
      walked = content_else moved a b content (at_ IsWalked d) (na d IsWalked ne tt) (nb d IsWalked ne tt) ∙ was.walked;
      to_swap = content_else moved a b content (at_ InDeferral d) (na d InDeferral ne tt) (nb d InDeferral ne tt) ∙ was.to_swap;
    })

-- the lists of a seat in terms of the seats
pub lists_of_seats : (seat : ℕ → Seat) (c : ℕ) (new : Seat) (content : Location → List Place)
    → AreLists content (with_number (λ d. lists (seat d)) c (lists new)) → AreLists content (λ d. lists (with_number seat c new d))
lists_of_seats seat c new content h = subst (AreLists content) (sym (part_with lists seat c new)) h

pub fit_moved : (header more : Place → Header) (tag now : Place → Option ℕ) (loc : Place → Location) (moved : List Place) (b : Location) → AllFit header tag loc
    → ((p : Place) → is_among p moved ≡ true → Fits b.kind (more p) (now p))
    → ((p : Place) → is_among p moved ≡ false → (more p ≡ header p) × (now p ≡ tag p))
    → AllFit more now (loc_moved moved b loc)
fit_moved header more tag now loc moved b old here there =
    at_moved (λ p k. Fits k.kind (more p) (now p)) moved b loc here
    (λ p h. let same = there p h in subst (λ x. Fits ((loc p).kind) x (now p)) (sym same.0) (subst (λ x. Fits ((loc p).kind) (header p) x) (sym same.1) (old p)))

-- objects go to a location of the same state
pub fit_same : (header : Place → Header) (tag : Place → Option ℕ) (loc : Place → Location) (moved : List Place) (b : Location) → AllFit header tag loc
    → ((p : Place) → is_among p moved ≡ true → (state_of b.kind ≡ state_of ((loc p).kind)) × (is_tagged b.kind ≡ is_tagged ((loc p).kind)))
    → AllFit header tag (loc_moved moved b loc)
fit_same header tag loc moved b old same =
    fit_moved header header tag tag loc moved b old
    (λ p h.
    let was = old p in
    let e = same p h in
    record { state = was.state ∙ sym e.0; bound = was.bound; tagging = subst (λ x. HasTag x (tag p)) (sym e.1) was.tagging })
    (λ p h. (refl, refl))

pub not_it : (p q : Place) → is_among q (p ∷ []) ≡ false → q ≢ p
not_it p q h e = absurd (cc (h, ap (λ x. is_among x (p ∷ [])) e, among_here p []))

pub one_distinct : (p : Place) → IsDistinct (p ∷ [])
one_distinct p = (among_none p, tt)

abbrev pub moved_map : Map → List Place → Location → Location → Map
moved_map m moved a b = record { loc = loc_moved moved b m.loc; link = m.link; content = content_moved moved a b m.content }

-- the seat and the words that were changed, where objects for which nobody waits went from one location that is no chain to another
module _ (s : State) (m : Map) (sound : IsSound s m) (moved : List Place) (a b : Location) (apart : a ≢ b)
    (part : (p : Place) → is_among p moved ≡ true → is_among p (m.content a) ≡ true) (distinct : IsDistinct moved) where
  pub was_at : (p : Place) → is_among p moved ≡ true → m.loc p ≡ a
  was_at p h = ((sound.listed a).all p (part p h)).0

  pub listed_moved : AreListed s.shape (loc_moved moved b m.loc) (content_moved moved a b m.content)
  listed_moved = moves_listed s.shape m.loc m.content sound.listed moved a b apart part distinct

  pub paths_moved : (IsChain s.shape.locales a.kind a.first a.second → ⊥) → (IsChain s.shape.locales b.kind b.first b.second → ⊥)
      → ArePaths s.shape.locales m.link (firsts_of s.words s.seat) (content_moved moved a b m.content)
  paths_moved na nb =
      moves_paths s.shape.locales m.link m.link (firsts_of s.words s.seat) (firsts_of s.words s.seat) m.content moved a b sound.paths (λ k chain ka kb. refl) (λ k p ka h. refl)
      (λ chain. absurd (na chain)) (λ chain. absurd (nb chain))

  pub linked_moved : (IsHomeKind a.kind → ⊥) → (a.kind ≡ InList → ⊥)
      → ((p : Place) → is_among p moved ≡ true → IsLink s.words.next m.link (λ d. home_wait (s.seat d)) (λ d. (phased (s.seat d)).list_wait) b.kind b.first p)
      → IsLinked (loc_moved moved b m.loc) m.link s.words.next (λ d. home_wait (s.seat d)) (λ d. (phased (s.seat d)).list_wait) s.words.home_head
  linked_moved nh nl here =
      let old = sound.linked in
      moves_linked m.loc m.link m.link s.words.next (λ d. home_wait (s.seat d)) (λ d. (phased (s.seat d)).list_wait) (λ d. home_wait (s.seat d)) (λ d. (phased (s.seat d)).list_wait)
      s.words.home_head s.words.home_head old moved b (λ p h. refl) here (λ d w e. e) (λ d w e. e)
      (λ d w e h. absurd (nh (subst (λ x. IsHomeKind x.kind) (was_at w.place h) (old.home_waits d w e).at_home)))
      (λ d w e h. absurd (nl (sym (ap (λ x. x.kind) (was_at w.place h)) ∙ (old.list_waits d w e).in_list)))
      (λ d w e h. e) (λ d w e h. e) old.one_wait old.heads
