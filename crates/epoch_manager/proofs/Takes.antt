-- Steps of a take, one after another.
use Rattle.std.proofs.Common.{◌≡◌, ◌⊎◌, ◌+◌, ◌++◌, ℕ, true, false, List, [], ◌∷◌, Option, Some, None, refl, ap, sym, ◌∙◌, subst, inl, inr, ⊎_elim, arith}
use Rattle.std.proofs.lemmas.Bool.{false≢true}
use Rattle.std.proofs.lemmas.List.{append-nil}
use Rattle.std.proofs.lemmas.List.Elements.{All-nil, All-cons, All-append}
use mathlib.Core.List.{IsPrefix}
use Rattle.pass_book.specs.declared.entries.Entry.{Entry}
use Rattle.pass_book.specs.declared.entries.Look.{Look}
use Rattle.pass_table.proofs.Going.{goes_begins}
use Rattle.epoch_laws.specs.Places.{Place, is_among}
use Rattle.epoch_laws.specs.Words.{WordName}
use Rattle.epoch_table.specs.declared.events.Happens.{Happens}
use Rattle.epoch_table.specs.declared.events.Happens.TheVariants.{Lists, Enters}
use Rattle.epoch_table.specs.declared.parts.Plan.{Plan}
use Rattle.epoch_table.specs.declared.parts.Part.{Part}
use Rattle.epoch_table.specs.Clients.{ClientTerms}
use Rattle.epoch_table.specs.Events.{PastOpens, PastSteps, items_in}
use Rattle.epoch_table.specs.Heads.{givens}
use Rattle.epoch_table.specs.Rule.{manager_terms, is_between}
use Rattle.epoch_table.proofs.Heads.{givens_then}
use Rattle.epoch_manager.specs.Takes.{header_read, head_read, later, last_header, last_head, is_spent, CanSpend}
use Rattle.epoch_manager.specs.Tours.{IsOf, AreOf}
use Rattle.epoch_manager.specs.declared.gets.Get.{Get}
use Rattle.epoch_manager.specs.declared.gets.Get.TheVariants.{Got, Empty, Spent}
use Rattle.epoch_manager.specs.TakeSeats.{Has, IsSameFor, SeatOf, Under, Reads, GetsBy}
use Rattle.epoch_manager.proofs.TokenSteps.{Goes, then_goes}

-- ---- words

later_none : (a : Option ℕ) → later None a ≡ a
later_none None = refl
later_none (Some w) = refl

later_later : (a b c : Option ℕ) → later a (later b c) ≡ later (later a b) c
later_later a b None = refl
later_later a b (Some w) = refl

pub headers-append : (xs ys : List (Look WordName)) (p : Place) → last_header (xs ++ ys) p ≡ later (last_header xs p) (last_header ys p)
headers-append [] ys p = sym (later_none (last_header ys p))
headers-append (x ∷ xs) ys p = ap (later (header_read x p)) (headers-append xs ys p) ∙ later_later (header_read x p) (last_header xs p) (last_header ys p)

pub heads-append : (xs ys : List (Look WordName)) (l : ℕ) → last_head (xs ++ ys) l ≡ later (last_head xs l) (last_head ys l)
heads-append [] ys l = sym (later_none (last_head ys l))
heads-append (x ∷ xs) ys l = ap (later (head_read x l)) (heads-append xs ys l) ∙ later_later (head_read x l) (last_head xs l) (last_head ys l)

-- the last count isn't the later number where it is neither, and is where it is the second
pub unspent_later : (a b : Option ℕ) → is_spent a ≡ false → is_spent b ≡ false → is_spent (later a b) ≡ false
unspent_later a None x y = x
unspent_later a (Some w) x y = y

pub spent_later : (a b : Option ℕ) → is_spent b ≡ true → is_spent (later a b) ≡ true
spent_later a None y = absurd (false≢true y)
spent_later a (Some w) y = y

-- what was read of an object stays, where nothing more is read of it, and where more is, that counts
pub headers_before : (xs ys : List (Look WordName)) (p : Place) → last_header ys p ≡ None → last_header (xs ++ ys) p ≡ last_header xs p
headers_before xs ys p none = headers-append xs ys p ∙ ap (later (last_header xs p)) none

pub headers_after : (P : Option ℕ → Type 0) → (P None → ⊥) → (xs ys : List (Look WordName)) (p : Place) → P (last_header ys p) → P (last_header (xs ++ ys) p)
headers_after P none xs ys p is = subst P (sym (headers-append xs ys p)) (go (last_header xs p) (last_header ys p) is)
  where
    go : (a b : Option ℕ) → P b → P (later a b)
    go a None h = absurd (none h)
    go a (Some w) h = h

pub heads_before : (xs ys : List (Look WordName)) (l : ℕ) → last_head ys l ≡ None → last_head (xs ++ ys) l ≡ last_head xs l
heads_before xs ys l none = heads-append xs ys l ∙ ap (later (last_head xs l)) none

-- ---- words of one locale

pub none_of : (l : ℕ) → AreOf l []
none_of l = All-nil (λ (look : Look WordName). IsOf l look.name)

pub one_of : (l : ℕ) (name : WordName) (word : ℕ) → IsOf l name → AreOf l (record { name = name; word = word } ∷ [])
one_of l name word is = All-cons (λ (look : Look WordName). IsOf l look.name) (record { name = name; word = word }) [] is (none_of l)

pub of_both : (l : ℕ) (xs ys : List (Look WordName)) → AreOf l xs → AreOf l ys → AreOf l (xs ++ ys)
of_both l xs ys a b = All-append (λ (look : Look WordName). IsOf l look.name) xs ys a b

-- ---- items

module _ {Call Reply : Type 0} where
  one_more_in : (caller : ℕ) (call : Happens Call Reply) (xs ys zs : List (Entry (Happens Call Reply) (Unit {0}))) → items_in zs ≡ items_in xs ++ items_in ys
      → items_in (record { caller = caller; call = call; reply = tt } ∷ zs) ≡ items_in (record { caller = caller; call = call; reply = tt } ∷ xs) ++ items_in ys
  one_more_in caller (Lists item) xs ys zs same = ap (λ l. item ∷ l) same
  one_more_in caller (Enters call reply) xs ys zs same = same

  items_in-append : (xs ys : List (Entry (Happens Call Reply) (Unit {0}))) → items_in (xs ++ ys) ≡ items_in xs ++ items_in ys
  items_in-append [] ys = refl
  items_in-append (e ∷ xs) ys = one_more_in e.caller e.call xs ys (xs ++ ys) (items_in-append xs ys)

module _ {C View' Call Reply State' : Type 0} (K : ClientTerms C View' Call Reply State') (opens : State' → Type 0) (step : State' → Call → Reply → State' → Type 0) (plan : Plan C) where
  abbrev S : Type 0
  S = SeatOf K opens step plan

  -- ---- what stays

  pub same_self : (part : Part View') → IsSameFor part part
  same_self part = record { phase = refl; token = refl; owned = refl; held = refl; reclaim = refl; client = refl; counts = λ p has. refl }

  pub has_still : (old new : Part View') → IsSameFor old new → (p : Place) → Has old p → Has new p
  has_still old new same p has =
      ⊎_elim (λ h. inl (subst (λ l. is_among p l ≡ true) (sym same.owned) h)) (λ h. inr (subst (λ l. is_among p l ≡ true) (sym same.held) h)) has

  pub had_still : (old new : Part View') → IsSameFor old new → (p : Place) → Has new p → Has old p
  had_still old new same p has =
      ⊎_elim (λ h. inl (subst (λ l. is_among p l ≡ true) same.owned h)) (λ h. inr (subst (λ l. is_among p l ≡ true) same.held h)) has

  pub same_then : (old mid new : Part View') → IsSameFor old mid → IsSameFor mid new → IsSameFor old new
  same_then old mid new a b = record {
    phase = b.phase ∙ a.phase;
    token = b.token ∙ a.token;
    owned = b.owned ∙ a.owned;
    held = b.held ∙ a.held;
    reclaim = b.reclaim ∙ a.reclaim;
    client = b.client ∙ a.client;
    counts = λ p has. b.counts p (has_still old mid a p has) ∙ a.counts p has;
  }

  -- ---- steps

  pub under_none : (m : S) → Under K opens step plan m m []
  under_none m = record { so = inl (refl, refl); same = same_self m.0.part }

  to_own : (m n : S) (looks : List (Look WordName)) (entries : List (Entry (Happens Call Reply) (Unit {0}))) (part : Part View') → Goes K opens step plan m n looks entries part → Goes K opens step plan m n looks entries n.0.part
  to_own m n looks entries part goes = (goes.0, refl, goes.2, goes.3 ∙ ap (λ (p : Part View'). is_between p.seat.phase) (sym goes.1))

  pub under_one : (m n : S) (looks : List (Look WordName)) (part : Part View') → Goes K opens step plan m n looks [] part → IsSameFor m.0.part part → Under K opens step plan m n looks
  under_one m n looks part goes same = record { so = inr (to_own m n looks [] part goes); same = subst (IsSameFor m.0.part) (sym goes.1) same }

  pub goes_own : (m n : S) (looks : List (Look WordName)) (entries : List (Entry (Happens Call Reply) (Unit {0}))) (part : Part View') → Goes K opens step plan m n looks entries part → Goes K opens step plan m n looks entries n.0.part
  goes_own = to_own

  -- steps so far, and then others
  pub after_under : (m k n : S) (looks more : List (Look WordName)) (entries : List (Entry (Happens Call Reply) (Unit {0}))) (part : Part View') → Under K opens step plan m k looks → Goes K opens step plan k n more entries part
      → Goes K opens step plan m n (looks ++ more) entries part
  after_under m k n looks more entries part under next =
      ⊎_elim
      (λ t. subst (λ (l : List (Look WordName)). Goes K opens step plan m n (l ++ more) entries part) (sym t.1) (subst (λ (x : S). Goes K opens step plan x n more entries part) t.0 next))
      (λ t. then_goes K opens step plan m k n looks more entries k.0.part part t next)
      under.so

  pub under_then : (m k n : S) (looks more : List (Look WordName)) → Under K opens step plan m k looks → Under K opens step plan k n more → Under K opens step plan m n (looks ++ more)
  under_then m k n looks more first next = record {
    so =
        ⊎_elim
        (λ t. subst (λ (l : List (Look WordName)). ((n ≡ m) × (looks ++ l ≡ [])) ⊎ Goes K opens step plan m n (looks ++ l) [] n.0.part) (sym t.1)
        (subst (λ (l : List (Look WordName)). ((n ≡ m) × (l ≡ [])) ⊎ Goes K opens step plan m n l [] n.0.part) (sym (append-nil looks))
        (subst (λ (x : S). ((x ≡ m) × (looks ≡ [])) ⊎ Goes K opens step plan m x looks [] x.0.part) (sym t.0) first.so)))
        (λ t. inr (after_under m k n looks more [] n.0.part first t))
        next.so;
    same = same_then m.0.part k.0.part n.0.part first.same next.same;
  }

  pub number_still : (m n : S) (looks : List (Look WordName)) → Under K opens step plan m n looks → n.0.number ≡ m.0.number
  number_still m n looks under = ⊎_elim (λ t. ap (λ (x : S). x.0.number) t.0) (λ t. t.0.same.number) under.so

  begins_still : (m n : S) (looks : List (Look WordName)) → Under K opens step plan m n looks → (n.0.seen ≡ m.0.seen) ⊎ IsPrefix m.0.seen n.0.seen
  begins_still m n looks under =
      ⊎_elim (λ t. inl (ap (λ (x : S). x.0.seen) t.0)) (λ t. inr (goes_begins (manager_terms K) (PastOpens opens) (PastSteps step) plan m.0 n.0 looks [] t.0)) under.so

  -- what could be spent then can be later
  pub can_still : (m n : S) (looks : List (Look WordName)) → Under K opens step plan m n looks → CanSpend plan m.0.seen → CanSpend plan n.0.seen
  can_still m n looks under can =
      ⊎_elim
      (λ e. subst (CanSpend plan) (sym e) can)
      (λ p.
      let more : givens (items_in n.0.seen) ≡ givens (items_in m.0.seen) + givens (items_in p.0) =
      ap (λ l. givens (items_in l)) (sym p.1) ∙ (ap givens (items_in-append m.0.seen p.0) ∙ givens_then (items_in m.0.seen) (items_in p.0)) in
      omega arith)
      (begins_still m n looks under)

  -- ---- words that tell nothing of headers

  pub reads_none : (l : ℕ) (m : S) → Reads K opens step plan l m m None
  reads_none l m = record { looks = []; under = under_none m; local = none_of l; unheaded = λ p. refl; head_so = refl }

  pub reads_then : (l : ℕ) (m k n : S) (a b : Option ℕ) → Reads K opens step plan l m k a → Reads K opens step plan l k n b → Reads K opens step plan l m n (later a b)
  reads_then l m k n x y a b = record {
    looks = a.looks ++ b.looks;
    under = under_then m k n a.looks b.looks a.under b.under;
    local = of_both l a.looks b.looks a.local b.local;
    unheaded = λ p. headers_before a.looks b.looks p (b.unheaded p) ∙ a.unheaded p;
    head_so = heads-append a.looks b.looks l ∙ (ap (λ h. later h (last_head b.looks l)) a.head_so ∙ ap (later x) b.head_so);
  }

  -- what getting an object comes to, after other steps that met no last count
  pub gets_then : (l : ℕ) (m k n : S) (result : Get) (head last : Option ℕ) → Reads K opens step plan l m k head → is_spent head ≡ false → GetsBy K opens step plan last l k n result → GetsBy K opens step plan (later head last) l m n result
  gets_then l m k n (Got i) head last a unspent g = (reads_then l m k n head last a g.0, g.1, unspent_later head last unspent g.2)
  gets_then l m k n Empty head last a unspent g = (reads_then l m k n head last a g.0, g.1, unspent_later head last unspent g.2)
  gets_then l m k n Spent head last a unspent g = (reads_then l m k n head last a g.0, g.1, spent_later head last g.2, g.3)
