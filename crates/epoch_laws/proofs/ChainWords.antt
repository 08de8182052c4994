-- The word with which a chain begins, or goes on, leads to an object of the shape or to none.
use Rattle.std.proofs.Common.{◌≡◌, ◌≢◌, ◌⊎◌, ◌<◌, ◌≤◌, ℕ, true, List, ◌∷◌, Option, Some, refl, sym, ◌∙◌, subst, inl, inr, ⊎_elim, arith}
use Rattle.std.proofs.lemmas.Bool.Decides.{eqb_tells}
use Rattle.pgas_base.specs.declared.shapes.Shape.{Shape}
use Rattle.pgas_base.specs.Shapes.{IsShape}
use Rattle.epoch_laws.specs.ChainWords.{IsChainWord}
use Rattle.epoch_laws.specs.Counts.{IsLocal, HasCounts}
use Rattle.epoch_laws.specs.Places.{Place, place_in, pending, is_among}
use Rattle.epoch_laws.specs.Seats.{Advanced}
use Rattle.epoch_laws.specs.States.{State, IsPlace}
use Rattle.epoch_laws.specs.Locations.{Location, InStack, InHome, InTaken, InRest, at_}
use Rattle.epoch_laws.specs.Links.{IsLink}
use Rattle.epoch_laws.specs.Paths.{IsPath, led_to, top_at, first_of, list_at}
use Rattle.epoch_laws.specs.Sound.{Map, IsSound, home_wait, phased}
use Rattle.epoch_laws.proofs.Lists.{among_here, among_more}
use Rattle.epoch_laws.proofs.Paths.{led_to_some, top_at_some, path_first}
use Rattle.epoch_laws.proofs.KeepsReclaims.{walk_path}
use Rattle.epoch_laws.proofs.KeepsHomes.{taken_path}

-- the first object of a path is among those that it leads over
path_begins : (link : Place → Option Place) (p : Place) (xs : List Place) → IsPath link (Some p) xs → is_among p xs ≡ true
path_begins link p xs way = let rest = path_first link p xs way in subst (λ l. is_among p l ≡ true) (sym rest.1) (among_here p rest.0)

top_within : (shape : Shape) (l index : ℕ) (link : Place → Option Place) (xs : List Place) → IsPath link (top_at l index) xs → ((p : Place) → is_among p xs ≡ true → IsPlace shape p) → index ≤ shape.objects
top_within shape l index link xs way all =
    ⊎_elim
    (λ h. let zero' = h.1 in omega (arith, zero'))
    (λ h. let ne = h.1 in (all (record { locale = l; index = index }) (path_begins link _ xs (subst (λ x. IsPath link x xs) (top_at_some l index ne) way))).index)
    (eqb_tells index 0)

-- a word with which a path begins leads to one of its objects
chain_word : (shape : Shape) (word : ℕ) (link : Place → Option Place) (xs : List Place) → IsPath link (led_to word) xs → ((p : Place) → is_among p xs ≡ true → IsPlace shape p) → IsChainWord shape word
chain_word shape word link xs way all =
    ⊎_elim
    (λ h. inl h.1)
    (λ h. let ne = h.1 in inr (all (place_in word) (path_begins link (place_in word) xs (subst (λ x. IsPath link x xs) (led_to_some word ne) way))))
    (eqb_tells word 0)

module _ (s : State) (m : Map) (sound : IsSound s m) where
  -- the object on top of a stack is one of its locale's, or there is none
  pub stack_top : (l : ℕ) → l < s.shape.locales → (s.words.free_head l).index ≤ s.shape.objects
  unfolding first_of
  stack_top l low =
      top_within s.shape l (s.words.free_head l).index m.link (m.content (at_ InStack l)) (sound.paths (at_ InStack l) (refl, low)) (λ p among. ((sound.listed (at_ InStack l)).all p among).1)

  pub list_word : (l n : ℕ) → IsChainWord s.shape (s.words.list_head l n)
  unfolding first_of
  list_word l n =
      chain_word s.shape (s.words.list_head l n) m.link (m.content (list_at l n)) (sound.paths (list_at l n) tt) (λ p among. ((sound.listed (list_at l n)).all p among).1)

  pub home_word : (l : ℕ) → IsChainWord s.shape (s.words.home_head l)
  unfolding first_of
  home_word l =
      chain_word s.shape (s.words.home_head l) m.link (m.content (at_ InHome l)) (sound.paths (at_ InHome l) refl) (λ p among. ((sound.listed (at_ InHome l)).all p among).1)

  -- where the first object's link is its next word, that is one of the chain too
  next_word : (k : Location) (p : Place) (rest : List Place) → m.content k ≡ p ∷ rest → IsPath m.link (m.link p) rest → m.link p ≡ led_to (s.words.next p) → IsChainWord s.shape (s.words.next p)
  next_word k p rest is way link =
      chain_word s.shape (s.words.next p) m.link rest (subst (λ x. IsPath m.link x rest) link way)
      (λ q among. ((sound.listed k).all q (subst (λ l. is_among q l ≡ true) (sym is) (among_more q p rest among))).1)

  first_at : (k : Location) (p : Place) (rest : List Place) → m.content k ≡ p ∷ rest → m.loc p ≡ k
  first_at k p rest is = ((sound.listed k).all p (subst (λ l. is_among p l ≡ true) (sym is) (among_here p rest))).0

  abbrev links_at : Location → Place → Type 0
  links_at k p = IsLink s.words.next m.link (λ d. home_wait (s.seat d)) (λ d. (phased (s.seat d)).list_wait) k.kind k.first p

  pub walked_word : (c : ℕ) → (s.seat c).phase ≡ Advanced → (s.seat c).reclaim.chain ≢ 0 → IsChainWord s.shape (s.words.next (place_in (s.seat c).reclaim.chain))
  walked_word c at some =
      let p = place_in (s.seat c).reclaim.chain in
      let path = walk_path s m sound c at some in
      next_word (at_ InRest c) p path.0 path.1 path.2 (subst (λ k. links_at k p) (first_at (at_ InRest c) p path.0 path.1) (sound.linked.links p))

  pub taken_word : (is_shape : IsShape s.shape) (c : ℕ) → (s.seat c).homing.chain ≢ 0 → (s.words.next (place_in (s.seat c).homing.chain) ≡ pending) ⊎ IsChainWord s.shape (s.words.next (place_in (s.seat c).homing.chain))
  taken_word is_shape c some =
      let p = place_in (s.seat c).homing.chain in
      let path = taken_path s m sound is_shape c some in
      ⊎_elim
      (λ h. inr (next_word (at_ InTaken c) p path.0 path.1 path.2 h.1))
      (λ h. inl h.0)
      (subst (λ k. links_at k p) (first_at (at_ InTaken c) p path.0 path.1) (sound.linked.links p))

  -- where the object is that is on top of a stack, that which is walked over in a taken home chain, and that which is in a collected one
  pub top_in_stack : (l : ℕ) → l < s.shape.locales → (s.words.free_head l).index ≢ 0 → m.loc (record { locale = l; index = (s.words.free_head l).index }) ≡ at_ InStack l
  unfolding first_of
  top_in_stack l low some =
      let p : Place = record { locale = l; index = (s.words.free_head l).index } in
      let path = path_first m.link p (m.content (at_ InStack l)) (subst (λ x. IsPath m.link x (m.content (at_ InStack l))) (top_at_some l (s.words.free_head l).index some) (sound.paths (at_ InStack l) (refl, low))) in
      first_at (at_ InStack l) p path.0 path.1

  pub taken_at : (is_shape : IsShape s.shape) (c : ℕ) → (s.seat c).homing.chain ≢ 0 → m.loc (place_in (s.seat c).homing.chain) ≡ at_ InTaken c
  taken_at is_shape c some = let path = taken_path s m sound is_shape c some in first_at (at_ InTaken c) (place_in (s.seat c).homing.chain) path.0 path.1

  pub walked_from : (c : ℕ) → (s.seat c).phase ≡ Advanced → (s.seat c).reclaim.chain ≢ 0 → m.loc (place_in (s.seat c).reclaim.chain) ≡ at_ InRest c
  walked_from c at some = let path = walk_path s m sound c at some in first_at (at_ InRest c) (place_in (s.seat c).reclaim.chain) path.0 path.1

  -- a home chain's first object is of its locale, and each further one of a taken chain of that of the one before
  pub home_local : HasCounts s m.loc → (l : ℕ) → s.words.home_head l ≢ 0 → (place_in (s.words.home_head l)).locale ≡ l
  unfolding first_of
  home_local current l some =
      let p = place_in (s.words.home_head l) in
      let at = (sound.listed (at_ InHome l)).all p (path_begins m.link p (m.content (at_ InHome l)) (subst (λ x. IsPath m.link x (m.content (at_ InHome l))) (led_to_some (s.words.home_head l) some) (sound.paths (at_ InHome l) refl))) in
      subst (λ (y : Location). IsLocal s.seat y.kind y.first p) at.0 (current.locals p at.1)

  pub taken_local : (is_shape : IsShape s.shape) → HasCounts s m.loc → (c : ℕ) → (s.seat c).homing.chain ≢ 0 → s.words.next (place_in (s.seat c).homing.chain) ≢ pending → s.words.next (place_in (s.seat c).homing.chain) ≢ 0
      → (place_in (s.words.next (place_in (s.seat c).homing.chain))).locale ≡ (place_in (s.seat c).homing.chain).locale
  taken_local is_shape current c some stored more =
      let p = place_in (s.seat c).homing.chain in
      let path = taken_path s m sound is_shape c some in
      let link : m.link p ≡ led_to (s.words.next p) =
      ⊎_elim (λ h. h.1) (λ h. absurd (stored h.0)) (subst (λ k. links_at k p) (first_at (at_ InTaken c) p path.0 path.1) (sound.linked.links p)) in
      let q = place_in (s.words.next p) in
      let begins = path_begins m.link q path.0 (subst (λ x. IsPath m.link x path.0) (link ∙ led_to_some (s.words.next p) more) path.2) in
      let at = (sound.listed (at_ InTaken c)).all q (subst (λ l. is_among q l ≡ true) (sym path.1) (among_more q p path.0 begins)) in
      subst (λ (y : Location). IsLocal s.seat y.kind y.first q) at.0 (current.locals q at.1)
