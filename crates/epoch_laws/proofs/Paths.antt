-- The chains: each leads from its first object over just the objects at its location.
use Rattle.std.proofs.Common.{◌≡◌, ◌≢◌, ℕ, true, List, [], ◌∷◌, ◌++◌, Option, Some, None, refl, ap, sym, subst, ⊎_elim}
use Rattle.std.proofs.lemmas.Bool.Decides.{eqb_tells}
use Rattle.epoch_laws.specs.Places.{Place, place_in, is_among, with_number}
use Rattle.epoch_laws.specs.DeferralSteps.{with_list}
use Rattle.epoch_laws.proofs.Updates.{number_there}
use Rattle.epoch_laws.proofs.Lists.{among_here, among_more}
use Rattle.epoch_laws.proofs.Locations.{Kind, InStack, InHome, InTaken, InList, InRest, Location, at_, same_location_tells, content_moved, content_else}
pub use Rattle.epoch_laws.specs.Paths.{IsPath, Leads, Firsts, IsChain, ArePaths, list_at}
unfoldable pub use Rattle.epoch_laws.specs.Paths.{led_to, top_at, first_of}

pub led_to_none : led_to 0 ≡ None
unfolding led_to
led_to_none = refl

pub led_to_some : (word : ℕ) → word ≢ 0 → led_to word ≡ Some (place_in word)
unfolding led_to
led_to_some word ne = ⊎_elim (λ h. absurd (ne h.1)) (λ h. rw h.0 refl) (eqb_tells word 0)

pub top_at_some : (l index : ℕ) → index ≢ 0 → top_at l index ≡ Some (record { locale = l; index = index })
unfolding top_at
top_at_some l index ne = ⊎_elim (λ h. absurd (ne h.1)) (λ h. rw h.0 refl) (eqb_tells index 0)

pub top_at_none : (l : ℕ) → top_at l 0 ≡ None
unfolding top_at
top_at_none l = refl

pub leads-path : (link : Place → Option Place) (first last : Option Place) (xs ys : List Place) → Leads link first xs last → IsPath link last ys → IsPath link first (xs ++ ys)
leads-path link first last [] ys h path = subst (λ f. IsPath link f ys) (sym h) path
leads-path link first last (x ∷ xs) ys h path = (h.0, leads-path link (link x) last xs ys h.1 path)

pub path_same : (link new : Place → Option Place) (first : Option Place) (xs : List Place) → ((p : Place) → is_among p xs ≡ true → new p ≡ link p)
    → IsPath link first xs → IsPath new first xs
path_same link new first [] same h = h
path_same link new first (x ∷ xs) same h =
    (h.0, subst (λ f. IsPath new f xs) (sym (same x (among_here x xs))) (path_same link new (link x) xs (λ p m. same p (among_more p x xs m)) h.1))

-- a path that begins somewhere
pub path_first : (link : Place → Option Place) (p : Place) (xs : List Place) → IsPath link (Some p) xs → (rest : List Place) × (xs ≡ p ∷ rest) × IsPath link (link p) rest
path_first link p [] h = absurd (cc h)
path_first link p (x ∷ xs) h = let same : p ≡ x = cc h.0 in (xs, ap (λ q. q ∷ xs) (sym same), subst (λ q. IsPath link (link q) xs) (sym same) h.1)

pub path_none : (link : Place → Option Place) (xs : List Place) → IsPath link None xs → xs ≡ []
path_none link [] h = refl
path_none link (x ∷ xs) h = absurd (cc h.0)

-- another first word matters to its chain alone
module _ (locales : ℕ) (f : Firsts) (l v : ℕ) where
  pub stack_else : (kind : Kind) (i j : ℕ) → IsChain locales kind i j → (◌≢◌ {A = Location} (record { kind = kind; first = i; second = j }) (at_ InStack l))
      → first_of (record f { stack = with_number f.stack l v }) kind i j ≡ first_of f kind i j
  unfolding first_of
  stack_else InStack i j h ne = ap (top_at i) (number_there f.stack l v i (λ e. ne (λ t. record { kind = InStack; first = e t; second = h.0 t })))
  stack_else InHome i j h ne = refl
  stack_else InTaken i j h ne = refl
  stack_else InList i j h ne = refl
  stack_else InRest i j h ne = refl
  stack_else _ i j h ne = absurd h

  pub home_else : (kind : Kind) (i j : ℕ) → IsChain locales kind i j → (◌≢◌ {A = Location} (record { kind = kind; first = i; second = j }) (at_ InHome l))
      → first_of (record f { home = with_number f.home l v }) kind i j ≡ first_of f kind i j
  unfolding first_of
  home_else InHome i j h ne = ap led_to (number_there f.home l v i (λ e. ne (λ t. record { kind = InHome; first = e t; second = h t })))
  home_else InStack i j h ne = refl
  home_else InTaken i j h ne = refl
  home_else InList i j h ne = refl
  home_else InRest i j h ne = refl
  home_else _ i j h ne = absurd h

  pub taken_else : (kind : Kind) (i j : ℕ) → IsChain locales kind i j → (◌≢◌ {A = Location} (record { kind = kind; first = i; second = j }) (at_ InTaken l))
      → first_of (record f { taken = with_number f.taken l v }) kind i j ≡ first_of f kind i j
  unfolding first_of
  taken_else InTaken i j h ne = ap led_to (number_there f.taken l v i (λ e. ne (λ t. record { kind = InTaken; first = e t; second = h t })))
  taken_else InStack i j h ne = refl
  taken_else InHome i j h ne = refl
  taken_else InList i j h ne = refl
  taken_else InRest i j h ne = refl
  taken_else _ i j h ne = absurd h

  pub rest_else : (kind : Kind) (i j : ℕ) → IsChain locales kind i j → (◌≢◌ {A = Location} (record { kind = kind; first = i; second = j }) (at_ InRest l))
      → first_of (record f { rest = with_number f.rest l v }) kind i j ≡ first_of f kind i j
  unfolding first_of
  rest_else InRest i j h ne = ap led_to (number_there f.rest l v i (λ e. ne (λ t. record { kind = InRest; first = e t; second = h t })))
  rest_else InStack i j h ne = refl
  rest_else InHome i j h ne = refl
  rest_else InTaken i j h ne = refl
  rest_else InList i j h ne = refl
  rest_else _ i j h ne = absurd h

pub list_there : (heads : ℕ → ℕ → ℕ) (l m v i j : ℕ) → ((i ≡ l) × (j ≡ m) → ⊥) → with_list heads l m v i j ≡ heads i j
unfolding with_list
list_there heads l m v i j ne =
    ⊎_elim (λ h. ⊎_elim (λ g. absurd (ne (h.1, g.1))) (λ g. rw (h.0, g.0) refl) (eqb_tells j m)) (λ h. rw h.0 refl) (eqb_tells i l)

pub list_here : (heads : ℕ → ℕ → ℕ) (l m v : ℕ) → with_list heads l m v l m ≡ v
unfolding with_list
list_here heads l m v =
    ⊎_elim (λ h. ⊎_elim (λ g. rw (h.0, g.0) refl) (λ g. let e = g.1 in absurd (e refl)) (eqb_tells m m)) (λ h. let e = h.1 in absurd (e refl)) (eqb_tells l l)

pub list_else : (locales : ℕ) (f : Firsts) (l m v : ℕ) (kind : Kind) (i j : ℕ) → IsChain locales kind i j → (◌≢◌ {A = Location} (record { kind = kind; first = i; second = j }) (list_at l m))
    → first_of (record f { list = with_list f.list l m v }) kind i j ≡ first_of f kind i j
unfolding first_of
list_else locales f l m v InList i j h ne = ap led_to (list_there f.list l m v i j (λ e. ne (λ t. record { kind = InList; first = e.0 t; second = e.1 t })))
list_else locales f l m v InStack i j h ne = refl
list_else locales f l m v InHome i j h ne = refl
list_else locales f l m v InTaken i j h ne = refl
list_else locales f l m v InRest i j h ne = refl
list_else locales f l m v _ i j h ne = absurd h

-- where some places went from one location to another, the other chains lead as before
pub moves_paths : (locales : ℕ) (link new : Place → Option Place) (f g : Firsts) (content : Location → List Place) (moved : List Place) (a b : Location)
    → ArePaths locales link f content
    → ((k : Location) → IsChain locales k.kind k.first k.second → k ≢ a → k ≢ b → first_of g k.kind k.first k.second ≡ first_of f k.kind k.first k.second)
    → ((k : Location) (p : Place) → k ≢ a → is_among p (content k) ≡ true → new p ≡ link p)
    → (IsChain locales a.kind a.first a.second → IsPath new (first_of g a.kind a.first a.second) (content_moved moved a b content a))
    → (IsChain locales b.kind b.first b.second → IsPath new (first_of g b.kind b.first b.second) (content_moved moved a b content b))
    → ArePaths locales new g (content_moved moved a b content)
moves_paths locales link new f g content moved a b old firsts links at_a at_b k chain =
    ⊎_elim
    (λ h. subst (λ x. IsChain locales x.kind x.first x.second → IsPath new (first_of g x.kind x.first x.second) (content_moved moved a b content x)) (sym h.1) at_a chain)
    (λ h.
    ⊎_elim
    (λ e. subst (λ x. IsChain locales x.kind x.first x.second → IsPath new (first_of g x.kind x.first x.second) (content_moved moved a b content x)) (sym e.1) at_b chain)
    (λ e.
    let na = h.1 in
    let nb = e.1 in
    subst (IsPath new (first_of g k.kind k.first k.second)) (sym (content_else moved a b content k na nb))
    (subst (λ x. IsPath new x (content k)) (sym (firsts k chain na nb)) (path_same link new (first_of f k.kind k.first k.second) (content k) (λ p m. links k p na m) (old k chain))))
    (same_location_tells k b))
    (same_location_tells k a)
