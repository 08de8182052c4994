-- A locale's chain of objects that came home is taken.
use Rattle.std.proofs.Common.{◌≡◌, ◌≢◌, ◌<◌, ℕ, false, [], ◌∷◌, None, refl, ap, sym, ◌∙◌, subst, ⊎_elim}
use Rattle.pgas_base.specs.Pointers.{Pointer, IsPointer, word_of}
use Rattle.epoch_laws.specs.declared.steps.Kind.TheVariants.{HomeTake}
use Rattle.epoch_laws.specs.ChainWords.{IsChainWord}
use Rattle.epoch_laws.specs.Places.{place_of, place_in}
use Rattle.epoch_laws.specs.Seats.{is_reclaiming}
use Rattle.epoch_laws.specs.States.{IsPlace}
use Rattle.epoch_laws.specs.Words.{home_chain}
use Rattle.epoch_laws.proofs.Lists.{among_nil, among_none, among_one}
use Rattle.epoch_laws.proofs.Words.{place_in-word_of, word_not_none}
use Rattle.epoch_table.specs.declared.parts.Plan.{Plan}
use Rattle.epoch_table.specs.declared.parts.Part.{Part}
use Rattle.epoch_table.specs.Clients.{ClientTerms}
use Rattle.epoch_table.specs.Kinds.{MayMake, Makes}
use Rattle.epoch_manager.specs.declared.gets.Get.{Get}
use Rattle.epoch_manager.specs.declared.gets.Get.TheVariants.{Got, Empty}
use Rattle.epoch_manager.specs.Takes.{later}
use Rattle.epoch_manager.specs.TakeSeats.{Has, IsEmptyHanded, HasOne, SeatOf, Reads, Gets, Walks, WalksRest, IsChained, HoldsRest}
use Rattle.epoch_manager.proofs.HandChains.{small_of}
use Rattle.epoch_manager.proofs.TakeRows.{home_take_row, home_take_told}
use Rattle.epoch_manager.proofs.Takes.{one_of, under_one, reads_then, gets_then, had_still}
use Rattle.epoch_manager.proofs.TokenSteps.{Goes, made_of}

module _ {C View' Call Reply State' : Type 0} (K : ClientTerms C View' Call Reply State') (opens : State' → Type 0) (step : State' → Call → Reply → State' → Type 0) (plan : Plan C) where
  abbrev S : Type 0
  S = SeatOf K opens step plan

  pub may_take_home : (m : S) (l : ℕ) → m.0.number < plan.callers → is_reclaiming m.0.part.seat.phase ≡ false → l < plan.shape.locales → IsEmptyHanded m.0.part → MayMake K plan m.0.number (HomeTake l) m.0.part
  may_take_home m l below quiet low empty = record { row = home_take_row plan.shape plan.callers m.0.number m.0.part.seat m.0.part.facts below quiet l low empty.chain; made = tt; allowed = tt }

  module _ (m n : S) (l found : ℕ) (empty : IsEmptyHanded m.0.part) (makes : Makes K opens step plan (HomeTake l) m found n) where
    abbrev taken_part : Part View'
    taken_part = record m.0.part { seat = record m.0.part.seat { homing = record m.0.part.seat.homing { chain = found } } }

    take_goes : Goes K opens step plan m n (record { name = home_chain l; word = found } ∷ []) [] taken_part
    take_goes = made_of K opens step plan (HomeTake l) m n found _ (home_take_told plan.shape plan.callers m.0.number m.0.part.seat m.0.part.facts l found) makes

    n_part : n.0.part ≡ taken_part
    n_part = take_goes.1

    pub n_reads : Reads K opens step plan l m n None
    n_reads = record {
      looks = record { name = home_chain l; word = found } ∷ [];
      under = under_one K opens step plan m n _ taken_part take_goes (record { phase = refl; token = refl; owned = refl; held = refl; reclaim = refl; client = refl; counts = λ p has. refl });
      local = one_of l (home_chain l) found refl;
      unheaded = λ p. refl;
      head_so = refl;
    }

    pub n_chain : n.0.part.seat.homing.chain ≡ found
    n_chain = ap (λ (p : Part View'). p.seat.homing.chain) n_part

    pub leads : IsChainWord plan.shape found
    leads = makes.0.0

    pub none_came : found ≡ 0 → Gets K opens step plan l m n Empty
    none_came none = (
      None,
      (n_reads, subst IsEmptyHanded (sym n_part) (record { hand = empty.hand; tail = empty.tail; chain = none; won = empty.won }), refl),
    )

    module _ (first : Pointer) (is : IsPointer first) (same : word_of first ≡ found) where
      named : place_in found ≡ place_of first
      named = ap place_in (sym same) ∙ place_in-word_of first (small_of first is)

      some : found ≢ 0
      some e = word_not_none first (small_of first is) (same ∙ e)

      pub first_inside : IsPlace plan.shape (place_of first)
      first_inside = ⊎_elim (λ e. absurd (some e)) (λ h. subst (IsPlace plan.shape) named h) leads

      pub first_local : first.locale ≡ l
      first_local = sym (ap (λ p. p.locale) named) ∙ makes.0.1 some

      module _ (k : S) (word : ℕ) (walks : Walks K opens step plan n k first word) where
        pub k_reads : Reads K opens step plan l m k None
        k_reads = reads_then K opens step plan l m n k None None n_reads (subst (λ i. Reads K opens step plan i n k None) first_local walks.reads)

        k_hand : k.0.part.seat.hand ≡ place_of first ∷ []
        k_hand = walks.hand ∙ ap (λ h. place_of first ∷ h) (ap (λ (p : Part View'). p.seat.hand) n_part ∙ empty.hand)

        k_tail : k.0.part.seat.homing.tail ≡ None
        k_tail = walks.tail ∙ (ap (λ (p : Part View'). p.seat.homing.tail) n_part ∙ empty.tail)

        k_others : Has k.0.part (place_of first) → ⊥
        k_others has = let r = walks.reads in walks.others (had_still K opens step plan n.0.part k.0.part r.under.same (place_of first) has)

        pub k_chained : IsChained plan.shape k.0.part first.locale first [] word
        k_chained = record {
          back = [];
          hand = k_hand;
          count = refl;
          only = λ p h. absurd (among_nil p h);
          all = λ p h. absurd (among_nil p h);
          distinct = (among_none (place_of first), tt);
          linked = walks.next;
          each = (record { local = refl; pointer = is; inside = first_inside; count = walks.count }, tt);
          others = λ p h has. k_others (subst (Has k.0.part) (among_one p (place_of first) h) has);
          tail = k_tail;
          won = walks.won ∙ (ap (λ (p : Part View'). p.won) n_part ∙ empty.won);
        }

        pub one_came : (index : ℕ) → index ≡ first.index → word ≡ 0 → Gets K opens step plan l m k (Got index)
        one_came index at none = (
          None,
          (
            k_reads,
            subst (λ p. HasOne plan.shape k.0.part p) (λ t. record { locale = first_local t; index = sym at t })
                (record { hand = k_hand; tail = k_tail; chain = walks.chain ∙ none; inside = first_inside; others = k_others }),
            refl,
          ),
        )

        pub rest_came : (top tail : Pointer) (r d : S) (result : Get) → WalksRest K opens step plan first.locale first top tail k r → Gets K opens step plan first.locale r d result → Gets K opens step plan l m d result
        rest_came top tail r d result walked got =
            let gets = subst (λ i. Gets K opens step plan i r d result) first_local got in
            let reads = reads_then K opens step plan l m k r None None k_reads (subst (λ i. Reads K opens step plan i k r None) first_local walked.reads) in
            (later None gets.0, gets_then K opens step plan l m r d result None gets.0 reads refl gets.1)

        pub next_came : (top : Pointer) → IsPointer top → word_of top ≡ word → IsPlace plan.shape (place_of top) × (top.locale ≡ first.locale)
        next_came top is_top same_top =
            let at : place_in word ≡ place_of top = ap place_in (sym same_top) ∙ place_in-word_of top (small_of top is_top) in
            let more : word ≢ 0 = (λ e. word_not_none top (small_of top is_top) (same_top ∙ e)) in
            (⊎_elim (λ e. absurd (more e)) (λ h. subst (IsPlace plan.shape) at h) walks.leads, sym (ap (λ p. p.locale) at) ∙ walks.local more)

  pub holds_rest : (k r : S) (first top tail : Pointer) → WalksRest K opens step plan first.locale first top tail k r → HoldsRest plan.shape r.0.part first top tail
  holds_rest k r first top tail walked = record { rest = walked.rest; word = 0; chained = walked.chained; chain = walked.chain; last = walked.last }
