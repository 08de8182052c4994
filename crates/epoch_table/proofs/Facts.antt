-- What a pass knows of the objects that it has stays so through its own steps and those of others.
use Rattle.std.proofs.Common.{◌≢◌, ◌<◌, ◌+◌, ◌*◌, arith, ◌≡◌, ◌⊎◌, ◌==◌, ◌&&◌, ℕ, Bool, true, false, if◌then◌else◌, List, ◌∷◌, Option, Some, None, refl, ap, sym, ◌∙◌, subst, inl, inr, ⊎_elim}
use Rattle.std.proofs.lemmas.Bool.{cases_Bool, eqb-true}
use Rattle.std.specs.Prelude.{MatchBool}
use prog.Atomic.{either}
use Rattle.pgas_base.specs.Pointers.{Pointer}
use Rattle.pgas_base.specs.Shapes.{IsShape}
use Rattle.epoch_laws.specs.declared.steps.Kind.{Kind}
use Rattle.epoch_laws.specs.declared.steps.Kind.TheVariants.{Register, Unregister, PinLook, PinSet, Unpin, TakeLook, TakeTry, Show, Hold, Touch, Return, DeferLook, DeferSwap, DeferLink, ElectLocal, ElectGlobal, EpochLook, ScanToken, Advance, Spread, Collect, Walk, Release, Leave, StackLook, StackNext, StackPop, StackPut, HandLink, HomeSwap, HomeLink, HomeTake, HomeWalk}
use Rattle.epoch_laws.specs.Frames.{LeavesOthers}
use Rattle.epoch_laws.specs.Places.{Place, place_of, place_in, pointer_at, pending, is_among, without, without_all, joined_by, with_number}
use Rattle.epoch_laws.specs.Counts.{IsCurrent, HasCounts}
use Rattle.epoch_laws.specs.Seats.{Seat}
use Rattle.epoch_laws.specs.Sound.{Map, IsSound}
use Rattle.epoch_laws.specs.States.{State}
use Rattle.epoch_laws.specs.Needs.{AllMet}
use Rattle.epoch_laws.specs.Words.{Words, WordName, header_of, next_of, word_at}
use Rattle.epoch_laws.specs.TokenSteps.{register, unregister, pin_look, pin_set, unpin}
use Rattle.epoch_laws.specs.TakeSteps.{take_look, take_try, show, give_back, is_free_with, look_count}
use Rattle.epoch_laws.specs.HoldSteps.{hold, touch}
use Rattle.epoch_laws.specs.DeferralSteps.{defer_look, defer_swap, defer_link}
use Rattle.epoch_laws.specs.ReclaimSteps.{passes, elect_local, elect_global, epoch_look, scan_token, advance, spread, collect, walk, release, leave, has_global, last_count}
use Rattle.epoch_laws.specs.StackSteps.{stack_look, stack_next, stack_pop, stack_put, hand_link, same_head, looked_top}
use Rattle.epoch_laws.specs.HomeSteps.{home_swap, home_link, home_take, home_walk}
use Rattle.epoch_laws.specs.Steps.{move}
use Rattle.epoch_laws.proofs.Counts.{chain_current}
use Rattle.epoch_laws.proofs.Lists.{among_nil, among_cons, among_left}
use Rattle.epoch_laws.proofs.Segments.{among_without}
use Rattle.epoch_laws.proofs.Updates.{number_here, at_place}
use Rattle.epoch_laws.proofs.Words.{IsSmall, place_in-word_of, small_in_shape}
use Rattle.epoch_table.specs.Deeds.{Deed, Elsewhere, Loads, Stores, Swaps, Exchanges, deed, Writes, Does}
use Rattle.epoch_table.specs.Facts.{Facts, count_of, next_word_of, Keeps, InHand, AreTrue, AreFacts, learned_at, learned, Gain, gain, gained, facts_after}
use Rattle.epoch_table.specs.Knowledge.{Finds}
use Rattle.epoch_table.specs.Numbers.{header_in, head_in, count_in}
use Rattle.epoch_table.specs.Rule.{AreSmall}
use Rattle.epoch_table.proofs.Deeds.{does}
use Rattle.epoch_table.proofs.Knowledge.{header_read, head_found}

-- the count in the word of a pointer
pub count_back : (l i n : ℕ) → n < 4294967296 → count_in (l * 72057594037927936 + i * 4294967296 + n) ≡ n
count_back l i n low = omega arith

-- the count of a header whose word stays
same_count : (words after : Words) (p : Place) → word_at after (header_of p) ≡ word_at words (header_of p) → (after.header p).count ≡ (words.header p).count
same_count words after p e = ap (λ h. h.count) (sym (header_read (after.header p)) ∙ (ap header_in e ∙ header_read (words.header p)))

-- the object is one that a step brings, and what is said of it is so
abbrev IsBrought : Option Gain → Place → Type 0
IsBrought None p = ⊥
IsBrought (Some g) p = p ≡ g.place

abbrev IsTrueGain : Words → Option Gain → Type 0
IsTrueGain words None = Unit {0}
IsTrueGain words (Some g) = ((n : ℕ) → g.count ≡ Some n → (words.header g.place).count ≡ n) × ((word : ℕ) → g.next ≡ Some word → words.next g.place ≡ word)

module _ (Has Hand : Place → Type 0) (facts : Facts) where
  -- where those words stay it stays so
  stays_true : (words after : Words) → ((p : Place) → word_at after (header_of p) ≡ word_at words (header_of p)) → ((p : Place) → after.next p ≡ words.next p)
      → AreTrue words Has Hand facts → AreTrue after Has Hand facts
  stays_true words after headers nexts is = record {
    count = λ p n has e. same_count words after p (headers p) ∙ is.count p n has e;
    next = λ p word hand e. nexts p ∙ is.next p word hand e;
  }

  wrote : (words after : Words) (name : WordName) (number : ℕ) → Writes words name number after → AreTrue words Has Hand facts → AreTrue after Has Hand (learned_at name number facts)
  wrote words after (header_of q) number w is = record {
    count =
        at_place (λ p x. (n : ℕ) → Has p → x ≡ Some n → (after.header p).count ≡ n) (count_of facts) q (Some (header_in number).count)
        (λ n has e. ap (λ h. h.count) (sym (header_read (after.header q)) ∙ ap header_in w.here) ∙ cc e)
        (λ p ne n has e. same_count words after p (w.there (header_of p) (λ x. ne (cc x))) ∙ is.count p n has e);
    next = λ p word hand e. w.there (next_of p) (λ x. absurd (cc x)) ∙ is.next p word hand e;
  }
  wrote words after (next_of q) number w is = record {
    count = λ p n has e. same_count words after p (w.there (header_of p) (λ x. absurd (cc x))) ∙ is.count p n has e;
    next =
        at_place (λ p x. (word : ℕ) → Hand p → x ≡ Some word → after.next p ≡ word) (next_word_of facts) q (Some number)
        (λ word hand e. w.here ∙ cc e)
        (λ p ne word hand e. w.there (next_of p) (λ x. ne (cc x)) ∙ is.next p word hand e);
  }
  wrote words after name number w is = stays_true words after (λ p. w.there (header_of p) (λ x. absurd (cc x))) (λ p. w.there (next_of p) (λ x. absurd (cc x))) is

  read : (words after : Words) (name : WordName) (found : ℕ) → word_at words name ≡ found → after ≡ words → AreTrue words Has Hand facts → AreTrue after Has Hand (learned_at name found facts)
  read words after name found finds same is =
      subst (λ w. AreTrue w Has Hand (learned_at name found facts)) (sym same) (wrote words words name found (record { here = finds; there = λ other ne. refl }) is)

  -- the step's word is as the step tells it
  by_deed : (d : Deed) (words after : Words) (found : ℕ) → Does words d after → Finds words d found → AreTrue words Has Hand facts → AreTrue after Has Hand (learned d found facts)
  by_deed Elsewhere words after found done finds is = subst (λ w. AreTrue w Has Hand facts) (sym done) is
  by_deed (Loads name) words after found done finds is = read words after name found finds done is
  by_deed (Stores name number) words after found done finds is = wrote words after name number done is
  by_deed (Swaps name number) words after found done finds is = wrote words after name number done is
  by_deed (Exchanges name old new) words after found done finds is =
      tried (found == old) (subst (λ n. MatchBool (n == old) (Writes words name new after) (after ≡ words)) finds done)
    where
      tried : (b : Bool) → MatchBool b (Writes words name new after) (after ≡ words) → AreTrue after Has Hand (learned_at name (either b new found) facts)
      tried true h = wrote words after name new h is
      tried false h = read words after name found finds h is

  -- also of an object that a step brings
  with_gain : (words : Words) (g : Option Gain) → IsTrueGain words g → AreTrue words Has Hand facts
      → AreTrue words (λ p. Has p ⊎ IsBrought g p) (λ p. Hand p ⊎ IsBrought g p) (gained g facts)
  with_gain words None brings is = record {
    count = λ p n has e. ⊎_elim (λ h. is.count p n h e) (λ h. absurd h) has;
    next = λ p word hand e. ⊎_elim (λ h. is.next p word h e) (λ h. absurd h) hand;
  }
  with_gain words (Some g) brings is = record {
    count =
        at_place (λ p x. (n : ℕ) → Has p ⊎ (p ≡ g.place) → x ≡ Some n → (words.header p).count ≡ n) (count_of facts) g.place g.count
        (λ n has e. brings.0 n e)
        (λ p ne n has e. ⊎_elim (λ h. is.count p n h e) (λ h. absurd (ne h)) has);
    next =
        at_place (λ p x. (word : ℕ) → Hand p ⊎ (p ≡ g.place) → x ≡ Some word → words.next p ≡ word) (next_word_of facts) g.place g.next
        (λ word hand e. brings.1 word e)
        (λ p ne word hand e. ⊎_elim (λ h. is.next p word h e) (λ h. absurd (ne h)) hand);
  }

-- of fewer objects
fewer : (words : Words) (Has Hand Has' Hand' : Place → Type 0) (facts : Facts) → ((p : Place) → Has' p → Has p) → ((p : Place) → Hand' p → Hand p) → AreTrue words Has Hand facts → AreTrue words Has' Hand' facts
fewer words Has Hand Has' Hand' facts has hand is = record { count = λ p n h e. is.count p n (has p h) e; next = λ p word h e. is.next p word (hand p h) e }

-- what a seat has afterwards it had before, or the step brought it
record Grows (g : Option Gain) (old new : Seat) : Type 0 where
  keeps : (p : Place) → Keeps new p → Keeps old p ⊎ IsBrought g p
  hand : (p : Place) → InHand new p → InHand old p ⊎ IsBrought g p

-- by the four lists of the seat
abbrev Of : Option Gain → Seat → List Place → Type 0
Of g old places = (p : Place) → is_among p places ≡ true → Keeps old p ⊎ IsBrought g p

grows : (g : Option Gain) (old new : Seat) → Of g old new.owned → ((p : Place) → InHand new p → InHand old p ⊎ IsBrought g p) → Of g old new.reclaim.walked → Of g old new.held → Grows g old new
grows g old new owned hand walked held = record {
  keeps = λ p h.
      ⊎_elim
      (λ a. ⊎_elim (λ o. owned p o) (λ b. ⊎_elim (λ i. ⊎_elim (λ x. inl (inl (inr (inl x)))) inr (hand p i)) (λ w. walked p w) b) a)
      (λ x. held p x)
      h;
  hand = hand;
}

had_owned : (g : Option Gain) (old : Seat) → Of g old old.owned
had_owned g old p h = inl (inl (inl h))

had_hand : (g : Option Gain) (old : Seat) (p : Place) → InHand old p → InHand old p ⊎ IsBrought g p
had_hand g old p h = inl h

had_walked : (g : Option Gain) (old : Seat) → Of g old old.reclaim.walked
had_walked g old p h = inl (inl (inr (inr h)))

had_held : (g : Option Gain) (old : Seat) → Of g old old.held
had_held g old p h = inl (inr h)

-- the same with one more, which the step brings
one_more : (g : Gain) (A : Place → Type 0) (places : List Place) → ((p : Place) → is_among p places ≡ true → A p ⊎ (p ≡ g.place)) → (p : Place) → is_among p (g.place ∷ places) ≡ true → A p ⊎ (p ≡ g.place)
one_more g A places all p h = ⊎_elim (λ e. inr e) (λ h. all p h.1) (among_cons p g.place places h)

-- and with fewer
some_gone : {A : Type 0} (p q : Place) (places : List Place) → (is_among p places ≡ true → A) → is_among p (without q places) ≡ true → A
some_gone p q places all h = all (among_without p q places h).1

many_gone : {A : Type 0} (p : Place) (gone places : List Place) → (is_among p places ≡ true → A) → is_among p (without_all gone places) ≡ true → A
many_gone p gone places all h = all (among_left p gone places h).1

joined : (g : Gain) (A : Place → Type 0) (places : List Place) → ((p : Place) → is_among p places ≡ true → A p ⊎ (p ≡ g.place)) → (p : Place) → is_among p (joined_by g.place places) ≡ true → A p ⊎ (p ≡ g.place)
unfolding joined_by
joined g A places all p = ⊎_elim (λ e. rw e (all p)) (λ e. rw e (one_more g A places all p)) (cases_Bool (is_among g.place places))

module _ (s : State) (c : ℕ) where
  same : (g : Option Gain) → Grows g (s.seat c) (s.seat c)
  same g = let old = s.seat c in grows g old old (had_owned g old) (had_hand g old) (had_walked g old) (had_held g old)

  into : (g : Option Gain) (new : Seat) → Grows g (s.seat c) new → Grows g (s.seat c) (with_number s.seat c new c)
  into g new h = subst (Grows g (s.seat c)) (sym (number_here s.seat c new)) h

  -- the seat keeps what it has
  like : (g : Option Gain) (new : Seat) → new.owned ≡ (s.seat c).owned → new.hand ≡ (s.seat c).hand → new.reclaim.walked ≡ (s.seat c).reclaim.walked → new.held ≡ (s.seat c).held
      → Grows g (s.seat c) (with_number s.seat c new c)
  like g new owned hand walked held =
      let old = s.seat c in
      into g new
      (grows g old new (subst (Of g old) (sym owned) (had_owned g old)) (subst (λ (l : List Place). (p : Place) → is_among p l ≡ true → InHand old p ⊎ IsBrought g p) (sym hand) (had_hand g old))
      (subst (Of g old) (sym walked) (had_walked g old)) (subst (Of g old) (sym held) (had_held g old)))

  brought : (k : Kind) (found : ℕ) → Grows (gain (s.seat c) k found) (s.seat c) ((move s c k).outcome.next.seat c)
  unfolding move register unregister pin_look pin_set unpin take_look take_try show give_back hold touch defer_look defer_swap defer_link elect_local elect_global epoch_look scan_token advance spread collect walk release leave stack_look stack_next stack_pop stack_put hand_link home_swap home_link home_take home_walk
  brought (Register l n) found = ⊎_elim (λ e. rw e (like None _ refl refl refl refl)) (λ e. rw e (same None)) (cases_Bool (s.words.token_word (record { locale = l; number = n }) == 0))
  brought Unregister found = like None _ refl refl refl refl
  brought PinLook found = like None _ refl refl refl refl
  brought PinSet found = like None _ refl refl refl refl
  brought Unpin found =
      let old = s.seat c in into None _ (grows None old _ (had_owned None old) (had_hand None old) (had_walked None old) (λ p h. absurd (among_nil p h)))
  brought (TakeLook l i) found = like None _ refl refl refl refl
  brought (TakeTry l i) found =
      let old = s.seat c in
      let p : Place = record { locale = l; index = i } in
      let g : Gain = record { place = p; count = None; next = None } in
      ⊎_elim
      (λ e. rw e (into (Some g) _ (grows (Some g) old _ (one_more g (Keeps old) old.owned (had_owned (Some g) old)) (λ q. some_gone q p old.hand (had_hand (Some g) old q)) (had_walked (Some g) old) (had_held (Some g) old))))
      (λ e. rw e (same (Some g)))
      (cases_Bool (is_free_with (s.words.header p) (look_count old.free_look)))
  brought (Show q) found =
      let old = s.seat c in into None _ (grows None old _ (λ p. some_gone p (place_of q) old.owned (had_owned None old p)) (had_hand None old) (had_walked None old) (had_held None old))
  brought (Hold q) found =
      let old = s.seat c in
      let g : Gain = record { place = place_of q; count = Some q.count; next = None } in
      into (Some g) _ (grows (Some g) old _ (had_owned (Some g) old) (had_hand (Some g) old) (had_walked (Some g) old) (joined g (Keeps old) old.held (had_held (Some g) old)))
  brought (Touch q) found = same None
  brought (Return q) found =
      let old = s.seat c in
      let g : Gain = record { place = place_of q; count = None; next = None } in
      into (Some g) _ (grows (Some g) old _ (λ p. some_gone p (place_of q) old.owned (had_owned (Some g) old p)) (one_more g (InHand old) old.hand (had_hand (Some g) old)) (had_walked (Some g) old) (had_held (Some g) old))
  brought (DeferLook q) found = like None _ refl refl refl refl
  brought DeferSwap found = like None _ refl refl refl refl
  brought DeferLink found = like None _ refl refl refl refl
  brought ElectLocal found = ⊎_elim (λ e. rw e (like None _ refl refl refl refl)) (λ e. rw e (same None)) (cases_Bool (s.words.election_of (s.seat c).token.locale == 0))
  brought ElectGlobal found = ⊎_elim (λ e. rw e (like None _ refl refl refl refl)) (λ e. rw e (like None _ refl refl refl refl)) (cases_Bool (s.words.election == 0))
  brought EpochLook found = like None _ refl refl refl refl
  brought ScanToken found =
      ⊎_elim (λ e. rw e (like None _ refl refl refl refl)) (λ e. rw e (like None _ refl refl refl refl)) (cases_Bool (passes (s.seat c).reclaim.epoch (s.words.token_word (s.seat c).reclaim.scan)))
  brought Advance found =
      let old = s.seat c in into None _ (grows None old _ (had_owned None old) (had_hand None old) (λ p h. absurd (among_nil p h)) (had_held None old))
  brought Spread found = like None _ refl refl refl refl
  brought Collect found = like None _ refl refl refl refl
  brought Walk found =
      let old = s.seat c in
      let g : Gain = record { place = place_in old.reclaim.chain; count = Some (count_in old.reclaim.chain); next = None } in
      into (Some g) _ (grows (Some g) old _ (had_owned (Some g) old) (had_hand (Some g) old) (one_more g (Keeps old) old.reclaim.walked (had_walked (Some g) old)) (had_held (Some g) old))
  brought (Release q) found =
      let old = s.seat c in
      let g : Gain = record { place = place_of q; count = None; next = None } in
      let left : Of (Some g) old (without (place_of q) old.reclaim.walked) = λ p. some_gone p (place_of q) old.reclaim.walked (had_walked (Some g) old p) in
      ⊎_elim
      (λ e. rw e (into (Some g) _ (grows (Some g) old _ (had_owned (Some g) old) (had_hand (Some g) old) left (had_held (Some g) old))))
      (λ e. rw e (into (Some g) _ (grows (Some g) old _ (had_owned (Some g) old) (one_more g (InHand old) old.hand (had_hand (Some g) old)) left (had_held (Some g) old))))
      (cases_Bool (q.count == last_count))
  brought Leave found = ⊎_elim (λ e. rw e (like None _ refl refl refl refl)) (λ e. rw e (like None _ refl refl refl refl)) (cases_Bool (has_global (s.seat c).phase))
  brought (StackLook l) found = like None _ refl refl refl refl
  brought StackNext found = like None _ refl refl refl refl
  brought StackPop found =
      let old = s.seat c in
      let g : Gain = record { place = looked_top old.stack; count = None; next = if same_head (head_in found) old.stack.head then Some old.stack.next else None } in
      ⊎_elim
      (λ e. rw e (into (Some g) _ (grows (Some g) old _ (had_owned (Some g) old) (one_more g (InHand old) old.hand (had_hand (Some g) old)) (had_walked (Some g) old) (had_held (Some g) old))))
      (λ e. rw e (like (Some g) _ refl refl refl refl))
      (cases_Bool (same_head (s.words.free_head old.stack.locale) old.stack.head))
  brought (StackPut top tail) found =
      let old = s.seat c in
      ⊎_elim
      (λ e. rw e (into None _ (grows None old _ (had_owned None old) (λ p. many_gone p _ old.hand (had_hand None old p)) (had_walked None old) (had_held None old))))
      (λ e. rw e (like None _ refl refl refl refl))
      (cases_Bool (same_head (s.words.free_head old.stack.locale) old.stack.head))
  brought (HandLink q word) found = same None
  brought (HomeSwap top tail) found =
      let old = s.seat c in into None _ (grows None old _ (had_owned None old) (λ p. many_gone p _ old.hand (had_hand None old p)) (had_walked None old) (had_held None old))
  brought HomeLink found = like None _ refl refl refl refl
  brought (HomeTake l) found = like None _ refl refl refl refl
  brought HomeWalk found =
      let old = s.seat c in
      let g : Gain = record { place = place_in old.homing.chain; count = Some (count_in old.homing.chain); next = None } in
      ⊎_elim
      (λ e. rw e (same (Some g)))
      (λ e. rw e (into (Some g) _ (grows (Some g) old _ (had_owned (Some g) old) (one_more g (InHand old) old.hand (had_hand (Some g) old)) (had_walked (Some g) old) (had_held (Some g) old))))
      (cases_Bool (s.words.next (place_in old.homing.chain) == pending))

  -- what a step says of the object that it brings is so
  module _ (is_shape : IsShape s.shape) (m : Map) (sound : IsSound s m) (current : HasCounts s m.loc) (small : AreSmall s) (found : ℕ) where
    unknown_true : (p : Place) → IsTrueGain s.words (Some (record { place = p; count = None; next = None }))
    unknown_true p = (λ n e. absurd (cc e), λ word e. absurd (cc e))

    same_counts : same_head (s.words.free_head (s.seat c).stack.locale) (s.seat c).stack.head ≡ true → (s.seat c).stack.head.count ≡ (s.words.free_head (s.seat c).stack.locale).count
    same_counts e = sym (eqb-true _ _ (first_true _ _ e))
      where
        first_true : (a b : Bool) → (a && b) ≡ true → a ≡ true
        first_true true b e = refl
        first_true false b e = e

    popped_true : AllMet (stack_pop s c).needs → Finds s.words (deed (s.seat c) StackPop) found → IsTrueGain s.words (gain (s.seat c) StackPop found)
    unfolding stack_pop
    popped_true h finds =
        let look = (s.seat c).stack in
        let head : s.words.free_head look.locale ≡ head_in found = head_found (s.words.free_head look.locale) found (small.heads look.locale) finds in (
          λ n e. absurd (cc e),
          λ word.
              ⊎_elim
              (λ b.
              rw b
              (λ e. sym ((sound.looks c).next_read h.1.0.1 (same_counts (ap (λ x. same_head x look.head) head ∙ b))) ∙ cc e))
              (λ b. rw b (λ e. absurd (cc e)))
              (cases_Bool (same_head (head_in found) look.head)),
        )

    held_true : (q : Pointer) → AllMet (hold s c q).needs → IsTrueGain s.words (Some (record { place = place_of q; count = Some q.count; next = None }))
    unfolding hold
    held_true q h = (λ n e. ap (λ x. x.count) h.1.1.1.0 ∙ cc e, λ word e. absurd (cc e))

    -- a word that leads to an object has its count
    counted : (word : ℕ) → word ≢ 0 → IsCurrent s.shape (λ p. (s.words.header p).count) word → (s.words.header (place_in word)).count ≡ count_in word
    counted word some is =
        ⊎_elim
        (λ none. absurd (some none))
        (λ x.
        let p = x.0 in
        let n = (s.words.header p).count in
        let fits = sound.fit p in
        let small : IsSmall (pointer_at p n) = small_in_shape s.shape (pointer_at p n) is_shape x.1 fits.bound in
        let place : place_in word ≡ p = ap place_in x.2 ∙ place_in-word_of (pointer_at p n) small in
        ap (λ q. (s.words.header q).count) place ∙ (sym (count_back p.locale p.index n small.count) ∙ sym (ap count_in x.2)))
        is

    walked_true : AllMet (walk s c).needs → IsTrueGain s.words (gain (s.seat c) Walk found)
    unfolding walk
    walked_true h = (λ n e. counted (s.seat c).reclaim.chain h.1.0.1 (chain_current s m.loc current c h.1.0.0) ∙ cc e, λ word e. absurd (cc e))

    taken_true : AllMet (home_walk s c).needs → IsTrueGain s.words (gain (s.seat c) HomeWalk found)
    unfolding home_walk
    taken_true h = let seats = current.seats c in (λ n e. counted (s.seat c).homing.chain h.1.0.1 seats.taken ∙ cc e, λ word e. absurd (cc e))

    gain_true : (k : Kind) → AllMet (move s c k).needs → Finds s.words (deed (s.seat c) k) found → IsTrueGain s.words (gain (s.seat c) k found)
    unfolding move
    gain_true (TakeTry l i) h finds = unknown_true _
    gain_true (Hold q) h finds = held_true q h
    gain_true (Return q) h finds = unknown_true _
    gain_true Walk h finds = walked_true h
    gain_true (Release q) h finds = unknown_true _
    gain_true StackPop h finds = popped_true h finds
    gain_true HomeWalk h finds = taken_true h
    gain_true _ h finds = tt

    -- the step leaves what its seat knows so
    pub own_facts : (k : Kind) (facts : Facts) → AllMet (move s c k).needs → Finds s.words (deed (s.seat c) k) found → AreFacts s.words (s.seat c) facts
        → AreFacts (move s c k).outcome.next.words ((move s c k).outcome.next.seat c) (facts_after (s.seat c) k facts found)
    own_facts k facts h finds is =
        let old = s.seat c in
        let g = gain old k found in
        let more = brought k found in
        fewer (move s c k).outcome.next.words (λ p. Keeps old p ⊎ IsBrought g p) (λ p. InHand old p ⊎ IsBrought g p) _ _ (facts_after old k facts found) more.keeps more.hand
        (by_deed (λ p. Keeps old p ⊎ IsBrought g p) (λ p. InHand old p ⊎ IsBrought g p) (gained g facts) (deed old k) s.words (move s c k).outcome.next.words found (does s small c k) finds
        (with_gain (Keeps old) (InHand old) facts s.words g (gain_true k h finds) is))

-- a step of another seat leaves it so
pub other_facts : (s next : State) (d : ℕ) (facts : Facts) → LeavesOthers s next d → AreFacts s.words (s.seat d) facts → AreFacts next.words (s.seat d) facts
other_facts s next d facts leaves is = record {
  count = λ p n has e. ap (λ h. h.count) (⊎_elim (λ a. leaves.headers p a) (λ a. leaves.held p a) has) ∙ is.count p n has e;
  next = λ p word hand e. leaves.nexts p (inr (inl hand)) ∙ is.next p word hand e;
}
