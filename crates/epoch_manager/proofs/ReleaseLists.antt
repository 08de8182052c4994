-- What the release of a list comes to.
use Rattle.std.proofs.Common.{◌≡◌, ◌≢◌, ◌<◌, ◌≤◌, ◌+◌, ◌*◌, ◌++◌, ℕ, true, List, [], ◌∷◌, length, Option, refl, ap, sym, ◌∙◌, subst, arith, inl, inr, ⊎_elim, length-append, append-nil}
use Rattle.std.proofs.Math.Nat.{mul-le-mul_right}
use Rattle.std.proofs.lemmas.List.{map-append}
use Rattle.std.proofs.lemmas.List.Sums.{fold-append}
use Rattle.pgas_base.specs.declared.shapes.Shape.{Shape}
use Rattle.pgas_base.specs.Shapes.{IsShape}
use Rattle.pgas_base.specs.Pointers.{Pointer, IsPointer, word_of}
use Rattle.epoch_laws.specs.declared.events.EpochEvent.TheVariants.{Freed}
use Rattle.epoch_laws.specs.declared.events.Item.{Item}
use Rattle.epoch_laws.specs.declared.events.Item.TheVariants.{Event}
use Rattle.epoch_laws.specs.declared.steps.Kind.TheVariants.{Collect}
use Rattle.epoch_laws.specs.Places.{Place, place_of, place_in, is_among}
use Rattle.epoch_laws.specs.States.{IsPlace}
use Rattle.epoch_laws.proofs.Lists.{among_cons}
use Rattle.epoch_laws.proofs.Words.{place_in-word_of, word_not_none}
use Rattle.epoch_table.specs.declared.parts.Plan.{Plan}
use Rattle.epoch_table.specs.declared.parts.Part.{Part}
use Rattle.epoch_table.specs.Clients.{ClientTerms, Frees}
use Rattle.epoch_table.specs.Deeds.{deed}
use Rattle.epoch_table.specs.Kinds.{entries_of_items, looks_of, MayMake, Makes}
use Rattle.epoch_table.specs.Released.{released_by}
use Rattle.epoch_manager.specs.declared.homes.HomeChain.{HomeChain}
use Rattle.epoch_manager.specs.Gathering.{GathersOn}
use Rattle.epoch_manager.specs.TakeSeats.{Has}
use Rattle.epoch_manager.specs.Releasing.{IsWalking, IsReleasing, IsKeptBy, freed_items, frees_after, Lists, HasFreed, ReleasesOne, ReleasesList, released_of}
use Rattle.epoch_manager.proofs.Crowds.{no_more}
use Rattle.epoch_manager.proofs.HandChains.{small_of}
use Rattle.epoch_manager.proofs.LocalSteps.{entries_append}
use Rattle.epoch_manager.proofs.ReclaimSteps.{collect_row, collect_told}
use Rattle.epoch_manager.proofs.TokenSteps.{Seated, Among, made_of, as_among, then_among}

-- all locales have few objects
pub most_objects : (shape : Shape) → IsShape shape → shape.locales * shape.objects ≤ 16777216
most_objects shape is = let l = is.0.1 in let n = is.2.1 in let few = mul-le-mul_right shape.objects l in omega arith

-- what is kept twice is kept
pub kept_then : {View' : Type 0} (a b d : Part View') → IsKeptBy a b → IsKeptBy b d → IsKeptBy a d
kept_then a b d first next = record {
  token = next.token ∙ first.token;
  owned = next.owned ∙ first.owned;
  held = next.held ∙ first.held;
  chain = next.chain ∙ first.chain;
  won = next.won ∙ first.won;
  counts = λ p has. next.counts p (still p has) ∙ first.counts p has;
}
  where
    still : (p : Place) → Has a p → Has b p
    still p has = ⊎_elim (λ h. inl (subst (λ l. is_among p l ≡ true) (sym first.owned) h)) (λ h. inr (subst (λ l. is_among p l ≡ true) (sym first.held) h)) has

pub freed-append : (c : ℕ) (xs ys : List Pointer) → freed_items c (xs ++ ys) ≡ freed_items c xs ++ freed_items c ys
freed-append c xs ys = map-append (λ q. Event c (Freed q) 0) xs ys

module _ {C View' Call Reply State' : Type 0} (K : ClientTerms C View' Call Reply State') (opens : State' → Type 0) (step : State' → Call → Reply → State' → Type 0) (plan : Plan C) where
  -- steps and then others
  pub lists_then : (m k n : Seated K opens step plan) (items more : List Item) (pointers others : List Pointer) → Lists K opens step plan m k items pointers → Lists K opens step plan k n more others
      → Lists K opens step plan m n (items ++ more) (pointers ++ others)
  lists_then m k n items more pointers others first next =
      let number : k.0.number ≡ m.0.number = first.goes.0.same.number in
      let on : Among K opens step plan k n next.looks (entries_of_items m.0.number more) n.0.part = subst (λ c. Among K opens step plan k n next.looks (entries_of_items c more) n.0.part) number next.goes in
      let both = then_among K opens step plan m k n first.looks next.looks (entries_of_items m.0.number items) (entries_of_items m.0.number more) k.0.part n.0.part first.goes on in
      record {
        looks = first.looks ++ next.looks;
        goes = subst (λ l. Among K opens step plan m n (first.looks ++ next.looks) l n.0.part) (sym (entries_append m.0.number items more)) both;
        kept = kept_then m.0.part k.0.part n.0.part first.kept next.kept;
        client = next.client ∙ (ap (λ v. frees_after K v others) first.client ∙ sym (fold-append (λ v q. K.after v (Frees q) 0) m.0.part.client pointers others));
      }

  pub number_on : (m n : Seated K opens step plan) (items : List Item) (pointers : List Pointer) → Lists K opens step plan m n items pointers → n.0.number ≡ m.0.number
  number_on m n items pointers lists = lists.goes.0.same.number

  -- steps and then what is gathered
  pub lists_gathered : (m k n : Seated K opens step plan) (items : List Item) (pointers : List Pointer) (chains : ℕ → Option HomeChain) → Lists K opens step plan m k items pointers → GathersOn K opens step plan chains k n → Lists K opens step plan m n items pointers
  lists_gathered m k n items pointers chains first on =
      ⊎_elim
      (λ t. subst (λ (x : Seated K opens step plan). Lists K opens step plan m x items pointers) (sym t.0) first)
      (λ t.
      let same = on.under.same in
      let entries = entries_of_items m.0.number items in
      let both = then_among K opens step plan m k n first.looks on.looks entries [] k.0.part n.0.part first.goes (as_among K opens step plan k n on.looks [] n.0.part t) in
      record {
        looks = first.looks ++ on.looks;
        goes = subst (λ l. Among K opens step plan m n (first.looks ++ on.looks) l n.0.part) (append-nil entries) both;
        kept = kept_then m.0.part k.0.part n.0.part first.kept (record { token = same.token; owned = same.owned; held = same.held; chain = on.chain; won = on.won; counts = same.counts });
        client = same.client ∙ first.client;
      })
      on.under.so

  pub released_gathered : (k n : Seated K opens step plan) (chains : ℕ → Option HomeChain) → GathersOn K opens step plan chains k n → released_of K opens step plan n ≡ released_of K opens step plan k
  released_gathered k n chains on =
      ⊎_elim
      (λ t. ap (released_of K opens step plan) t.0)
      (λ t. ap (λ c. released_by c n.0.mine) t.0.same.number ∙ ap (released_by k.0.number) (t.0.mine ∙ append-nil k.0.mine))
      on.under.so

  module _ (m : Seated K opens step plan) (epoch at freed : ℕ) (chains : ℕ → Option HomeChain) (releasing : IsReleasing plan.shape epoch at 0 chains m.0.part) (low : at < plan.shape.locales) (below : m.0.number < plan.callers) where
    pub may_collect : MayMake K plan m.0.number Collect m.0.part
    may_collect =
        let lists = releasing.collected in
        record {
          row = collect_row plan.shape plan.callers m.0.number m.0.part.seat m.0.part.facts below releasing.walking.phase (record { spread = releasing.spread; chain = releasing.chain; walked = releasing.walking.walked }) (omega arith);
          made = tt;
          allowed = tt;
        }

    module _ (has : HasFreed K opens step plan m freed) (word : ℕ) (j : Seated K opens step plan) (collects : Makes K opens step plan Collect m word j) where
      abbrev collected : Part View'
      collected = record m.0.part { seat = record m.0.part.seat { reclaim = record m.0.part.seat.reclaim { collected = m.0.part.seat.reclaim.collected + 1; chain = word } } }

      collected_so : Among K opens step plan m j (looks_of (deed m.0.part.seat Collect) word) [] collected
      collected_so =
          let made = made_of K opens step plan Collect m j word _ (collect_told plan.shape plan.callers m.0.number m.0.part.seat m.0.part.facts word) collects in
          as_among K opens step plan m j (looks_of (deed m.0.part.seat Collect) word) [] collected made

      still_freed : released_of K opens step plan j ≡ released_of K opens step plan m
      still_freed = ap (λ c. released_by c j.0.mine) collected_so.0.same.number ∙ ap (released_by m.0.number) (collected_so.0.mine ∙ append-nil m.0.mine)

      pub collects_so : ReleasesList K opens step plan epoch at freed word freed chains m j
      collects_so =
          let is = collected_so.1 in
          record {
            pointers = [];
            lists = record {
              looks = looks_of (deed m.0.part.seat Collect) word;
              goes = subst (λ (p : Part View'). Among K opens step plan m j (looks_of (deed m.0.part.seat Collect) word) [] p) (sym is) collected_so;
              kept = subst (IsKeptBy m.0.part) (sym is) (record { token = refl; owned = refl; held = refl; chain = refl; won = refl; counts = λ p h. refl });
              client = ap (λ (p : Part View'). p.client) is;
            };
            releasing = subst (IsReleasing plan.shape epoch (at + 1) word chains) (sym is)
                (record {
                  walking = record { phase = releasing.walking.phase; walked = releasing.walking.walked; gathers = releasing.walking.gathers; tail = releasing.walking.tail };
                  read = releasing.read;
                  spread = releasing.spread;
                  collected = ap (λ k. k + 1) releasing.collected;
                  chain = refl;
                });
            leads = collects.0;
            count = omega arith;
            has = record { many = ap length still_freed ∙ has.many; inside = subst (λ (l : List Place). (p : Place) → is_among p l ≡ true → IsPlace plan.shape p) (sym still_freed) has.inside; low = has.low };
          }

  -- ---- an object more

  module _ (m j : Seated K opens step plan) (epoch at freed word total : ℕ) (chains : ℕ → Option HomeChain) (so : ReleasesList K opens step plan epoch at freed word total chains m j) where
    pub walking_on : IsWalking plan.shape chains j.0.part
    walking_on = so.releasing.walking

    pub below_on : m.0.number < plan.callers → j.0.number < plan.callers
    below_on below = let number = number_on m j _ _ so.lists in omega arith

    module _ (q : Pointer) (is : IsPointer q) (same : word_of q ≡ word) where
      pub inside_on : IsPlace plan.shape (place_of q)
      inside_on =
          let at' : place_in word ≡ place_of q = ap place_in (sym same) ∙ place_in-word_of q (small_of q is) in
          let some : word ≢ 0 = (λ e. word_not_none q (small_of q is) (same ∙ e)) in
          ⊎_elim (λ e. absurd (some e)) (λ h. subst (IsPlace plan.shape) at' h) so.leads

      pub chain_on : j.0.part.seat.reclaim.chain ≡ word_of q
      chain_on = so.releasing.chain ∙ sym same

      module _ (next : ℕ) (n : Seated K opens step plan) (now : ℕ → Option HomeChain) (one : ReleasesOne K opens step plan q next now j n) where
        inside_all : (p : Place) → is_among p (released_of K opens step plan n) ≡ true → IsPlace plan.shape p
        inside_all p h =
            ⊎_elim
            (λ e. subst (IsPlace plan.shape) (sym e) inside_on)
            (λ e. so.has.inside p e.1)
            (among_cons p (place_of q) (released_of K opens step plan j) (subst (λ l. is_among p l ≡ true) one.frees.released h))

        many_now : length (released_of K opens step plan n) ≡ total + 1
        many_now = let many = so.has.many in let more = ap length one.frees.released in omega arith

        pub low_now : total + 1 ≤ plan.shape.locales * plan.shape.objects
        low_now = subst (λ k. k ≤ plan.shape.locales * plan.shape.objects) many_now (no_more plan.shape (released_of K opens step plan n) inside_all one.frees.distinct)

        pub one_released : ReleasesList K opens step plan epoch at freed next (total + 1) now m n
        one_released =
            let number : j.0.number ≡ m.0.number = number_on m j _ _ so.lists in
            let on : Lists K opens step plan j n (freed_items m.0.number (q ∷ [])) (q ∷ []) = subst (λ c. Lists K opens step plan j n (freed_items c (q ∷ [])) (q ∷ [])) number one.frees.lists in
            let all = lists_then m j n (freed_items m.0.number so.pointers) (freed_items m.0.number (q ∷ [])) so.pointers (q ∷ []) so.lists on in
            let count = so.count in
            let longer = length-append so.pointers (q ∷ []) in
            let reclaim = one.frees.reclaim in
            record {
              pointers = so.pointers ++ q ∷ [];
              lists = subst (λ l. Lists K opens step plan m n l (so.pointers ++ q ∷ [])) (sym (freed-append m.0.number so.pointers (q ∷ []))) all;
              releasing = record {
                walking = one.walking;
                read = ap (λ r. r.epoch) reclaim ∙ so.releasing.read;
                spread = ap (λ r. r.spread) reclaim ∙ so.releasing.spread;
                collected = ap (λ r. r.collected) reclaim ∙ so.releasing.collected;
                chain = ap (λ r. r.chain) reclaim;
              };
              leads = one.frees.leads;
              count = omega arith;
              has = record { many = many_now; inside = inside_all; low = low_now };
            }
