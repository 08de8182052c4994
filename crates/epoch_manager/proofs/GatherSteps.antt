-- The steps by which what a reclaim has freed is gathered, and goes home.
use Rattle.std.proofs.Common.{◌≡◌, ◌<◌, ◌++◌, ℕ, true, [], ◌∷◌, Option, Some, None, refl, ap, sym, ◌∙◌, subst, arith}
use mathlib.Core.Path.{fun_ext}
use Rattle.pgas_base.specs.Pointers.{Pointer}
use Rattle.epoch_laws.specs.declared.steps.Kind.TheVariants.{HandLink}
use Rattle.epoch_laws.specs.Places.{place_of, is_among, with_number}
use Rattle.epoch_laws.proofs.Lists.{among_here}
use Rattle.epoch_laws.proofs.Updates.{number_here, place_here, place_there}
use Rattle.epoch_table.specs.declared.parts.Plan.{Plan}
use Rattle.epoch_table.specs.declared.parts.Part.{Part}
use Rattle.epoch_table.specs.Clients.{ClientTerms}
use Rattle.epoch_table.specs.Facts.{next_word_of}
use Rattle.epoch_table.specs.Kinds.{MayMake, Makes}
use Rattle.epoch_manager.specs.declared.homes.HomeChain.{HomeChain}
use Rattle.epoch_manager.specs.Apart.{number_so, number_twice}
use Rattle.epoch_manager.specs.Gathering.{HasChain, SendsHome, part_sent, Gathers, HasFree, GathersOn}
use Rattle.epoch_manager.specs.HomeChains.{word_below, joined, AreBut, Joins}
use Rattle.epoch_manager.specs.Returning.{home_words}
use Rattle.epoch_manager.specs.TakeSeats.{places, AreOfChain}
use Rattle.epoch_manager.proofs.Gatherings.{IsOut, out_of, all_gathered_known, gathers_joined, gathers_left}
use Rattle.epoch_manager.proofs.TakeRows.{hand_link_row, hand_link_told}
use Rattle.epoch_manager.proofs.Takes.{under_none, under_one, under_then, number_still}
use Rattle.epoch_manager.proofs.TokenSteps.{Seated, Goes, made_of}

module _ {C View' Call Reply State' : Type 0} (K : ClientTerms C View' Call Reply State') (opens : State' → Type 0) (step : State' → Call → Reply → State' → Type 0) (plan : Plan C) where
  -- ---- so far

  pub gathers_begin : (m : Seated K opens step plan) (chains : ℕ → Option HomeChain) → Gathers plan.shape m.0.part.seat.hand m.0.part.facts chains → m.0.part.seat.homing.tail ≡ None → GathersOn K opens step plan chains m m
  gathers_begin m chains gathers none = record { looks = []; under = under_none K opens step plan m; chain = refl; won = refl; gathers = gathers; none = none }

  pub gathers_same : (m n : Seated K opens step plan) (chains others : ℕ → Option HomeChain) → ((l : ℕ) → others l ≡ chains l) → GathersOn K opens step plan chains m n → GathersOn K opens step plan others m n
  gathers_same m n chains others same on = subst (λ f. GathersOn K opens step plan f m n) (sym (fun_ext same)) on

  pub below_gathered : (m n : Seated K opens step plan) (chains : ℕ → Option HomeChain) → GathersOn K opens step plan chains m n → m.0.number < plan.callers → n.0.number < plan.callers
  below_gathered m n chains on below = let number = number_still K opens step plan m n on.looks on.under in omega (arith, below, number)

  pub gathers_then : (m k n : Seated K opens step plan) (chains others : ℕ → Option HomeChain) → GathersOn K opens step plan chains m k → GathersOn K opens step plan others k n → GathersOn K opens step plan others m n
  gathers_then m k n chains others first next = record {
    looks = first.looks ++ next.looks;
    under = under_then K opens step plan m k n first.looks next.looks first.under next.under;
    chain = next.chain ∙ first.chain;
    won = next.won ∙ first.won;
    gathers = next.gathers;
    none = next.none;
  }

  -- ---- a chain goes home

  module _ (m k : Seated K opens step plan) (chains : ℕ → Option HomeChain) (on : GathersOn K opens step plan chains m k) (l : ℕ) (some : HomeChain) (there : chains l ≡ Some some) where
    abbrev out : IsOut plan.shape k.0.part.facts l some (on.gathers.pointers l)
    out = out_of plan.shape k.0.part.facts l (chains l) some (on.gathers.pointers l) (on.gathers.each l) there

    abbrev pub chain_there : HasChain plan.shape k.0.part some.top some.tail
    chain_there =
        let here : some.top.locale ≡ l = out.each.0.local in
        record {
          rest = out.rest;
          last = out.last;
          inside = λ p h. on.gathers.only l p (subst (λ qs. is_among p (places qs) ≡ true) (sym out.points) h);
          distinct = out.distinct;
          linked = out.linked;
          place = out.each.0.inside;
          count = out.each.0.count;
          each = subst (λ x. AreOfChain plan.shape k.0.part.facts x out.rest) (sym here) out.each.1;
          known = all_gathered_known plan.shape k.0.part.seat.hand k.0.part.facts k.0.part.facts chains on.gathers;
          none = on.none;
        }

    pub chain_gone : (n : Seated K opens step plan) → SendsHome K opens step plan some.top some.tail k n → GathersOn K opens step plan (with_number chains l None) m n
    chain_gone n sends =
        let old = (sends chain_there).0 in
        let goes : Goes K opens step plan k n (home_words some.top.locale old) [] (part_sent some.top out.rest some.tail old k.0.part) = (sends chain_there).1 in
        let last = part_sent some.top out.rest some.tail old k.0.part in
        let more = under_one K opens step plan k n (home_words some.top.locale old) last goes (record { phase = refl; token = refl; owned = refl; held = refl; reclaim = refl; client = refl; counts = λ p has. refl }) in
        let left : Gathers plan.shape last.seat.hand last.facts (with_number chains l None) =
        gathers_left plan.shape k.0.part.seat.hand k.0.part.facts last.facts chains on.gathers l some.top out.rest out.points (λ p. refl)
        (λ p ne. place_there (next_word_of k.0.part.facts) (place_of some.tail) (Some old) p (λ e. ne (e ∙ ap place_of out.last))) in
        record {
          looks = on.looks ++ home_words some.top.locale old;
          under = under_then K opens step plan m k n on.looks (home_words some.top.locale old) on.under more;
          chain = ap (λ (p : Part View'). p.seat.homing.chain) goes.1 ∙ on.chain;
          won = ap (λ (p : Part View'). p.won) goes.1 ∙ on.won;
          gathers = subst (λ (p : Part View'). Gathers plan.shape p.seat.hand p.facts (with_number chains l None)) (sym goes.1) left;
          none = ap (λ (p : Part View'). p.seat.homing.tail) goes.1;
        }

  -- ---- an object joins those of its home

  module _ (q : Pointer) (m : Seated K opens step plan) (below : m.0.number < plan.callers) (chains : ℕ → Option HomeChain) (free : HasFree plan.shape m.0.part q chains) where
    abbrev word : ℕ
    word = word_below (chains q.locale)

    pub may_join : MayMake K plan m.0.number (HandLink q word) m.0.part
    may_join = record {
      row = hand_link_row plan.shape plan.callers m.0.number m.0.part.seat m.0.part.facts below q word free.free.inside free.free.count (subst (λ h. is_among (place_of q) h ≡ true) (sym free.hand) (among_here (place_of q) free.back));
      made = tt;
      allowed = tt;
    }

    module _ (k : Seated K opens step plan) (links : Makes K opens step plan (HandLink q word) m word k) where
      abbrev linked : Part View'
      linked = record m.0.part { facts = record m.0.part.facts { nexts = record { place = place_of q; number = Some word } ∷ m.0.part.facts.nexts } }

      linked_so : Goes K opens step plan m k [] [] linked
      linked_so = made_of K opens step plan (HandLink q word) m k word _ (hand_link_told plan.shape plan.callers m.0.number m.0.part.seat m.0.part.facts q word word) links

      abbrev longer : ℕ → Option HomeChain
      longer = with_number chains q.locale (Some (joined q (chains q.locale)))

      pub joined_on : GathersOn K opens step plan longer m k
      joined_on =
          let all : Gathers plan.shape (place_of q ∷ free.back) linked.facts longer =
          gathers_joined plan.shape free.back m.0.part.facts linked.facts chains free.gathers q free.fresh free.free (λ p. refl)
          (λ p ne. place_there (next_word_of m.0.part.facts) (place_of q) (Some word) p ne) (place_here (next_word_of m.0.part.facts) (place_of q) (Some word)) in
          record {
            looks = [];
            under = under_one K opens step plan m k [] linked linked_so (record { phase = refl; token = refl; owned = refl; held = refl; reclaim = refl; client = refl; counts = λ p has. refl });
            chain = ap (λ (p : Part View'). p.seat.homing.chain) linked_so.1;
            won = ap (λ (p : Part View'). p.won) linked_so.1;
            gathers = subst (λ (p : Part View'). Gathers plan.shape p.seat.hand p.facts longer) (sym linked_so.1) (subst (λ h. Gathers plan.shape h linked.facts longer) (sym free.hand) all);
            none = ap (λ (p : Part View'). p.seat.homing.tail) linked_so.1 ∙ free.none;
          }

      pub below_joined : k.0.number < plan.callers
      below_joined = below_gathered m k longer joined_on below

      module _ (now : ℕ → Option HomeChain) where
        -- it stays in the hand
        pub joins_on : Joins q chains now None → GathersOn K opens step plan now m k
        joins_on joins = gathers_same m k longer now joins joined_on

        -- or the chain is full
        module _ (full : HomeChain) (joins : Joins q chains now (Some full)) where
          full_there : longer q.locale ≡ Some full
          full_there = number_here chains q.locale (Some (joined q (chains q.locale))) ∙ ap Some (sym joins.0)

          pub full_chain : HasChain plan.shape k.0.part full.top full.tail
          full_chain = chain_there m k longer joined_on q.locale full full_there

          pub full_gone : (n : Seated K opens step plan) → SendsHome K opens step plan full.top full.tail k n → GathersOn K opens step plan now m n
          full_gone n sends =
              gathers_same m n (with_number longer q.locale None) now
              (λ l. joins.2 l ∙ ap (λ f. f l) (sym (number_twice chains q.locale (Some (joined q (chains q.locale))) None)))
              (chain_gone m k longer joined_on q.locale full full_there n sends)

  -- ---- a chain that is taken out

  pub taken_on : (m k : Seated K opens step plan) (chains now : ℕ → Option HomeChain) (l : ℕ) → AreBut l None chains now → chains l ≡ None → GathersOn K opens step plan chains m k → GathersOn K opens step plan now m k
  taken_on m k chains now l but none on = gathers_same m k chains now (λ x. but x ∙ ap (λ f. f x) (number_so chains l None none)) on
