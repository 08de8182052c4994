-- What a reclaim gathers in its hand, where an object joins the chain of its home and where a chain goes.
use Rattle.std.proofs.Common.{◌≡◌, ◌≢◌, ◌+◌, ℕ, true, false, List, [], ◌∷◌, length, Option, Some, None, refl, ap, sym, ◌∙◌, subst, ⊎_elim, arith}
use Rattle.std.specs.Prelude.{unwrap_or}
use Rattle.std.proofs.lemmas.Bool.{false_from_ne_true}
use Rattle.std.proofs.lemmas.Bool.Decides.{eqb_tells}
use Rattle.pgas_base.specs.declared.shapes.Shape.{Shape}
use Rattle.pgas_base.specs.Pointers.{Pointer}
use Rattle.epoch_laws.specs.Locations.{IsDistinct}
use Rattle.epoch_laws.specs.Places.{Place, place_of, pending, is_among, without_all, with_number}
use Rattle.epoch_laws.proofs.Lists.{among_here, among_more, among_nil, among_cons, among_none, among_left, among_kept}
use Rattle.epoch_laws.proofs.Updates.{number_here, number_there}
use Rattle.epoch_table.specs.Facts.{Facts, count_of, next_word_of}
use Rattle.epoch_table.specs.Knowledge.{AreAllKnown}
use Rattle.epoch_manager.specs.declared.homes.HomeChain.{HomeChain}
use Rattle.epoch_manager.specs.Gathering.{IsChainOf, Gathers, no_chains}
use Rattle.epoch_manager.specs.HomeChains.{word_below, joined}
use Rattle.epoch_manager.specs.TakeSeats.{places, AreLinked, IsOfChain, AreOfChain, last_of}
use Rattle.epoch_manager.proofs.HandChains.{linked_still, each_still, chain_known, of_locale, last_among}

-- ---- none

pub gathers_none : (shape : Shape) (facts : Facts) → Gathers shape [] facts no_chains
gathers_none shape facts = record { pointers = λ l. []; each = λ l. refl; all = λ p h. absurd (among_nil p h); only = λ l p h. absurd (among_nil p h) }

none_of : (shape : Shape) (facts : Facts) (l : ℕ) (qs : List Pointer) → IsChainOf shape facts l None qs → qs ≡ []
none_of shape facts l [] is = refl
none_of shape facts l (q ∷ rest) is = absurd (cc (is.0))

pub nothing_gathered : (shape : Shape) (hand : List Place) (facts : Facts) → Gathers shape hand facts no_chains → hand ≡ []
nothing_gathered shape [] facts g = refl
nothing_gathered shape (p ∷ hand) facts g =
    absurd (among_nil p (subst (λ qs. is_among p (places qs) ≡ true) (none_of shape facts p.locale (g.pointers p.locale) (g.each p.locale)) (g.all p (among_here p hand))))

-- ---- one chain

module _ (shape : Shape) (f : Facts) (l : ℕ) where
  -- each is of the chain's locale
  pub chain_locale : (chain : Option HomeChain) (qs : List Pointer) → IsChainOf shape f l chain qs → (p : Place) → is_among p (places qs) ≡ true → p.locale ≡ l
  chain_locale chain [] is p h = absurd (among_nil p h)
  chain_locale chain (q ∷ rest) is p h = of_locale shape f l (q ∷ rest) is.3 p h

  -- its objects are known
  chain_is_known : (chain : Option HomeChain) (qs : List Pointer) → IsChainOf shape f l chain qs → (p : Place) → is_among p (places qs) ≡ true → ((n : ℕ) × (count_of f p ≡ Some n)) × ((w : ℕ) × (next_word_of f p ≡ Some w))
  chain_is_known chain [] is p h = absurd (among_nil p h)
  chain_is_known chain (q ∷ rest) is p h = chain_known shape f l q rest pending is.2 is.3 p h

  -- it is as it was where its objects' words are
  chain_still : (g : Facts) (chain : Option HomeChain) (qs : List Pointer) → ((p : Place) → is_among p (places qs) ≡ true → count_of g p ≡ count_of f p) → ((p : Place) → is_among p (places qs) ≡ true → next_word_of g p ≡ next_word_of f p)
      → IsChainOf shape f l chain qs → IsChainOf shape g l chain qs
  chain_still g chain [] counts nexts is = is
  chain_still g chain (q ∷ rest) counts nexts is = (is.0, is.1, linked_still f g q rest pending is.2 nexts, each_still f g shape l (q ∷ rest) is.3 counts)

  -- an object joins it
  chain_joined : (g : Facts) (chain : Option HomeChain) (qs : List Pointer) (q : Pointer) → ((p : Place) → count_of g p ≡ count_of f p) → ((p : Place) → p ≢ place_of q → next_word_of g p ≡ next_word_of f p)
      → next_word_of g (place_of q) ≡ Some (word_below chain) → IsOfChain shape f l q → is_among (place_of q) (places qs) ≡ false → IsChainOf shape f l chain qs → IsChainOf shape g l (Some (joined q chain)) (q ∷ qs)
  chain_joined g chain [] q counts nexts next one fresh is = (
    ap (λ c. Some (joined q c)) is,
    (among_none (place_of q), tt),
    next ∙ ap (λ c. Some (word_below c)) is,
    each_still f g shape l (q ∷ []) (one, tt) (λ p h. counts p),
  )
  chain_joined g chain (r ∷ rest) q counts nexts next one fresh is =
      let more : (length rest + 1) + 1 ≡ length (r ∷ rest) + 1 = omega arith in (
        ap (λ c. Some (joined q c)) is.0 ∙ ap (λ (n : ℕ). Some (record { top = q; tail = last_of r rest; many = n })) more,
        (fresh, is.1),
        (
          next ∙ ap (λ c. Some (word_below c)) is.0,
          linked_still f g r rest pending is.2 (λ p h. nexts p (λ e. absurd (cc (fresh, ap (λ x. is_among x (places (r ∷ rest))) e, h)))),
        ),
        each_still f g shape l (q ∷ r ∷ rest) (one, is.3) (λ p h. counts p),
      )

  -- what a chain is that is there
  pub record IsOut (chain : HomeChain) (qs : List Pointer) : Type 0 where
    pub rest : List Pointer
    pub points : qs ≡ chain.top ∷ rest
    pub last : chain.tail ≡ last_of chain.top rest
    pub distinct : IsDistinct (places (chain.top ∷ rest))
    pub linked : AreLinked f chain.top rest pending
    pub each : AreOfChain shape f l (chain.top ∷ rest)

  pub out_of : (chain : Option HomeChain) (some : HomeChain) (qs : List Pointer) → IsChainOf shape f l chain qs → chain ≡ Some some → IsOut some qs
  out_of chain some [] is there = absurd (cc (is, there))
  out_of chain some (q ∷ rest) is there =
      subst (λ c. IsOut c (q ∷ rest)) (ap (λ c. unwrap_or c some) (sym is.0 ∙ there)) (record { rest = rest; points = refl; last = refl; distinct = is.1; linked = is.2; each = is.3 })

-- ---- all

module _ (shape : Shape) (hand : List Place) (f g : Facts) (chains : ℕ → Option HomeChain) (was : Gathers shape hand f chains) where
  pub all_gathered_known : AreAllKnown f hand
  all_gathered_known p h = chain_is_known shape f p.locale (chains p.locale) (was.pointers p.locale) (was.each p.locale) p (was.all p h)

  -- of another locale than one that is among the objects of this
  other_locale : (l k : ℕ) (p : Place) → k ≢ l → is_among p (places (was.pointers k)) ≡ true → p.locale ≢ l
  other_locale l k p ne h e = ne (sym (chain_locale shape f k (chains k) (was.pointers k) (was.each k) p h) ∙ e)

  -- they are as they were where the words of the hand are
  pub gathers_still : ((p : Place) → is_among p hand ≡ true → count_of g p ≡ count_of f p) → ((p : Place) → is_among p hand ≡ true → next_word_of g p ≡ next_word_of f p) → Gathers shape hand g chains
  gathers_still counts nexts = record {
    pointers = was.pointers;
    each = λ l. chain_still shape f l g (chains l) (was.pointers l) (λ p h. counts p (was.only l p h)) (λ p h. nexts p (was.only l p h)) (was.each l);
    all = was.all;
    only = was.only;
  }

  -- an object joins those of its home
  module _ (q : Pointer) (fresh : is_among (place_of q) hand ≡ false) (one : IsOfChain shape f q.locale q) (counts : (p : Place) → count_of g p ≡ count_of f p)
      (nexts : (p : Place) → p ≢ place_of q → next_word_of g p ≡ next_word_of f p) (next : next_word_of g (place_of q) ≡ Some (word_below (chains q.locale))) where
    abbrev more : ℕ → List Pointer
    more = with_number was.pointers q.locale (q ∷ was.pointers q.locale)

    more_here : more q.locale ≡ q ∷ was.pointers q.locale
    more_here = number_here was.pointers q.locale (q ∷ was.pointers q.locale)

    more_there : (l : ℕ) → l ≢ q.locale → more l ≡ was.pointers l
    more_there l ne = number_there was.pointers q.locale (q ∷ was.pointers q.locale) l ne

    abbrev chain : HomeChain
    chain = joined q (chains q.locale)

    each_joined : (l : ℕ) → IsChainOf shape g l (with_number chains q.locale (Some chain) l) (more l)
    each_joined l =
        ⊎_elim
        (λ e.
        subst (λ k. IsChainOf shape g k (with_number chains q.locale (Some chain) k) (more k)) (sym e.1)
        (subst (λ c. IsChainOf shape g q.locale c (more q.locale)) (sym (number_here chains q.locale (Some chain)))
        (subst (IsChainOf shape g q.locale (Some chain)) (sym more_here)
        (chain_joined shape f q.locale g (chains q.locale) (was.pointers q.locale) q counts nexts next one
        (false_from_ne_true _ (λ h. absurd (cc (fresh, was.only q.locale (place_of q) h)))) (was.each q.locale)))))
        (λ e.
        let ne = e.1 in
        subst (λ c. IsChainOf shape g l c (more l)) (sym (number_there chains q.locale (Some chain) l ne))
        (subst (IsChainOf shape g l (chains l)) (sym (more_there l ne))
        (chain_still shape f l g (chains l) (was.pointers l) (λ p h. counts p) (λ p h. nexts p (λ is. other_locale q.locale l p ne h (ap (λ x. x.locale) is))) (was.each l))))
        (eqb_tells l q.locale)

    all_joined : (p : Place) → is_among p (place_of q ∷ hand) ≡ true → is_among p (places (more p.locale)) ≡ true
    all_joined p h =
        ⊎_elim
        (λ e. subst (λ x. is_among x (places (more x.locale)) ≡ true) (sym e) (subst (λ qs. is_among (place_of q) (places qs) ≡ true) (sym more_here) (among_here (place_of q) (places (was.pointers q.locale)))))
        (λ e.
        let before = was.all p e.1 in
        ⊎_elim
        (λ s.
        let same = s.1 in
        subst (λ k. is_among p (places (more k)) ≡ true) (sym same)
        (subst (λ qs. is_among p (places qs) ≡ true) (sym more_here) (among_more p (place_of q) (places (was.pointers q.locale)) (subst (λ k. is_among p (places (was.pointers k)) ≡ true) same before))))
        (λ s. let ne = s.1 in subst (λ qs. is_among p (places qs) ≡ true) (sym (more_there p.locale ne)) before)
        (eqb_tells p.locale q.locale))
        (among_cons p (place_of q) hand h)

    only_joined : (l : ℕ) (p : Place) → is_among p (places (more l)) ≡ true → is_among p (place_of q ∷ hand) ≡ true
    only_joined l p h =
        ⊎_elim
        (λ s.
        let h' : is_among p (place_of q ∷ places (was.pointers q.locale)) ≡ true = subst (λ qs. is_among p (places qs) ≡ true) (ap more s.1 ∙ more_here) h in
        ⊎_elim
        (λ e. subst (λ x. is_among x (place_of q ∷ hand) ≡ true) (sym e) (among_here (place_of q) hand))
        (λ e. among_more p (place_of q) hand (was.only q.locale p e.1))
        (among_cons p (place_of q) (places (was.pointers q.locale)) h'))
        (λ s. let ne = s.1 in among_more p (place_of q) hand (was.only l p (subst (λ qs. is_among p (places qs) ≡ true) (more_there l ne) h)))
        (eqb_tells l q.locale)

    pub gathers_joined : Gathers shape (place_of q ∷ hand) g (with_number chains q.locale (Some chain))
    gathers_joined = record { pointers = more; each = each_joined; all = all_joined; only = only_joined }

  -- a chain is gone
  module _ (l : ℕ) (top : Pointer) (rest : List Pointer) (points : was.pointers l ≡ top ∷ rest) (counts : (p : Place) → count_of g p ≡ count_of f p)
      (nexts : (p : Place) → p ≢ place_of (last_of top rest) → next_word_of g p ≡ next_word_of f p) where
    abbrev gone : List Place
    gone = places (top ∷ rest)

    abbrev fewer : ℕ → List Pointer
    fewer = with_number was.pointers l []

    gone_local : (p : Place) → is_among p gone ≡ true → p.locale ≡ l
    gone_local p h = chain_locale shape f l (chains l) (was.pointers l) (was.each l) p (subst (λ qs. is_among p (places qs) ≡ true) (sym points) h)

    each_left : (k : ℕ) → IsChainOf shape g k (with_number chains l None k) (fewer k)
    each_left k =
        ⊎_elim
        (λ e.
        subst (λ x. IsChainOf shape g x (with_number chains l None x) (fewer x)) (sym e.1)
        (subst (IsChainOf shape g l (with_number chains l None l)) (sym (number_here was.pointers l [])) (number_here chains l None)))
        (λ e.
        let ne = e.1 in
        subst (λ c. IsChainOf shape g k c (fewer k)) (sym (number_there chains l None k ne))
        (subst (IsChainOf shape g k (chains k)) (sym (number_there was.pointers l [] k ne))
        (chain_still shape f k g (chains k) (was.pointers k) (λ p h. counts p)
        (λ p h. nexts p (λ is. other_locale l k p ne h (ap (λ x. x.locale) is ∙ gone_local (place_of (last_of top rest)) (last_among top rest)))) (was.each k))))
        (eqb_tells k l)

    all_left : (p : Place) → is_among p (without_all gone hand) ≡ true → is_among p (places (fewer p.locale)) ≡ true
    all_left p h =
        let left = among_left p gone hand h in
        let before = was.all p left.1 in
        let ne : p.locale ≢ l = (λ e. absurd (cc (left.0, subst (λ qs. is_among p (places qs) ≡ true) (ap was.pointers e ∙ points) before))) in
        subst (λ qs. is_among p (places qs) ≡ true) (sym (number_there was.pointers l [] p.locale ne)) before

    only_left : (k : ℕ) (p : Place) → is_among p (places (fewer k)) ≡ true → is_among p (without_all gone hand) ≡ true
    only_left k p h =
        ⊎_elim
        (λ e. absurd (among_nil p (subst (λ qs. is_among p (places qs) ≡ true) (ap fewer e.1 ∙ number_here was.pointers l []) h)))
        (λ e.
        let ne = e.1 in
        let before = subst (λ qs. is_among p (places qs) ≡ true) (number_there was.pointers l [] k ne) h in
        among_kept p gone hand (false_from_ne_true _ (λ there. absurd (other_locale l k p ne before (gone_local p there)))) (was.only k p before))
        (eqb_tells k l)

    pub gathers_left : Gathers shape (without_all gone hand) g (with_number chains l None)
    gathers_left = record { pointers = fewer; each = each_left; all = all_left; only = only_left }
