-- That the rows of the steps of a take are met, and what those leave their seat and list.
use Rattle.std.proofs.Common.{◌≡◌, ◌≢◌, ◌<◌, ◌==◌, ℕ, true, false, if◌then◌else◌, [], ◌∷◌, Some, None, refl, ap, eq-eqb, ne_eqb}
use Rattle.std.specs.Prelude.{unwrap_or}
use Rattle.pgas_base.specs.declared.shapes.Shape.{Shape}
use Rattle.pgas_base.specs.Pointers.{Pointer}
use Rattle.epoch_laws.specs.declared.events.EpochEvent.TheVariants.{Given}
use Rattle.epoch_laws.specs.declared.steps.Kind.TheVariants.{TakeLook, TakeTry, StackLook, StackNext, StackPop, StackPut, HandLink, HomeSwap, HomeLink, HomeTake, HomeWalk}
use Rattle.epoch_laws.specs.Chains.{IsLed, led_in, led_over}
use Rattle.epoch_laws.specs.HomeSteps.{home_swap, home_link, home_take, home_walk}
use Rattle.epoch_laws.specs.Needs.{event}
use Rattle.epoch_laws.specs.Places.{Place, place_of, place_in, pending, index_in, is_among, with_number, without, without_all}
use Rattle.epoch_laws.specs.Seats.{Seat, NoLook, Looked, NextRead, is_reclaiming}
use Rattle.epoch_laws.specs.StackSteps.{stack_look, stack_next, stack_pop, stack_put, hand_link, looked_top, same_head, last_stack_count}
use Rattle.epoch_laws.specs.States.{IsPlace}
use Rattle.epoch_laws.specs.Steps.{move}
use Rattle.epoch_laws.specs.TakeSteps.{take_look, take_try, is_free, is_free_with, look_count}
use Rattle.epoch_laws.proofs.Updates.{number_here}
use Rattle.epoch_table.specs.Facts.{Facts, count_of}
use Rattle.epoch_table.specs.Knowledge.{Told, AreAllKnown, known_words, tells, Row}
use Rattle.epoch_table.specs.Numbers.{header_in, head_in}

-- ---- of an object or a chain of the hand, also in a reclaim

module _ (shape : Shape) (seats c : ℕ) (seat : Seat) (facts : Facts) (below : c < seats) where
  pub hand_link_row : (q : Pointer) (word : ℕ) → IsPlace shape (place_of q) → count_of facts (place_of q) ≡ Some q.count → is_among (place_of q) seat.hand ≡ true → Row shape seats c seat facts (HandLink q word)
  unfolding move hand_link
  hand_link_row q word inside count among = ((below, (inside, (ap (λ x. unwrap_or x 0) count, (among, tt)))), count)

  pub home_link_row : (p : Place) → seat.homing.tail ≡ Some p → Row shape seats c seat facts HomeLink
  unfolding move home_link
  home_link_row p waits = ((below, ((p, waits), tt)), tt)

  -- both ends of a chain are objects of the shape and of the hand, of one locale
  pub record AreEnds (locale : ℕ) (top tail : Pointer) : Type 0 where
    pub top_inside : IsPlace shape (place_of top)
    pub tail_inside : IsPlace shape (place_of tail)
    pub top_count : count_of facts (place_of top) ≡ Some top.count
    pub tail_count : count_of facts (place_of tail) ≡ Some tail.count
    pub top_hand : is_among (place_of top) seat.hand ≡ true
    pub tail_hand : is_among (place_of tail) seat.hand ≡ true
    pub top_locale : top.locale ≡ locale
    pub tail_locale : tail.locale ≡ locale

  pub home_swap_row : (top tail : Pointer) → AreEnds top.locale top tail → seat.homing.tail ≡ None → AreAllKnown facts seat.hand
      → IsLed (led_in (known_words facts 0) seat.hand (λ word. word == pending) (place_of top) (place_of tail)) → Row shape seats c seat facts (HomeSwap top tail)
  unfolding move home_swap
  home_swap_row top tail ends none known led =
      ((below, (ends.top_inside, (ends.tail_inside, (none, (ap (λ x. unwrap_or x 0) ends.top_count, (ap (λ x. unwrap_or x 0) ends.tail_count, ((ends.top_hand, refl), ((ends.tail_hand, ends.tail_locale), (led, tt))))))))), known)

-- ---- where the seat is in none

module _ (shape : Shape) (seats c : ℕ) (seat : Seat) (facts : Facts) (below : c < seats) (rests : is_reclaiming seat.phase ≡ false) where
  pub take_look_row : (l i : ℕ) → IsPlace shape (record { locale = l; index = i }) → Row shape seats c seat facts (TakeLook l i)
  unfolding move take_look
  take_look_row l i inside = ((below, (inside.locale, (inside, (rests, tt)))), tt)

  pub take_try_row : (l i n : ℕ) → IsPlace shape (record { locale = l; index = i }) → seat.free_look ≡ Some (record { locale = l; index = i; count = n }) → is_among (record { locale = l; index = i }) seat.hand ≡ true
      → Row shape seats c seat facts (TakeTry l i)
  unfolding move take_try
  take_try_row l i n inside look among = ((below, (inside.locale, (inside, ((rests, (n, look)), (among, tt))))), tt)

  pub stack_look_row : (l : ℕ) → l < shape.locales → Row shape seats c seat facts (StackLook l)
  unfolding move stack_look
  stack_look_row l low = ((below, (low, (rests, tt))), tt)

  pub stack_next_row : seat.stack.phase ≢ NoLook → seat.stack.head.index ≢ 0 → Row shape seats c seat facts StackNext
  unfolding move stack_next
  stack_next_row looked some = ((below, ((rests, looked, some), tt)), tt)

  pub stack_pop_row : seat.stack.phase ≡ NextRead → seat.stack.head.count < last_stack_count → Row shape seats c seat facts StackPop
  unfolding move stack_pop
  stack_pop_row read low = ((below, ((rests, read, low), tt)), tt)

  pub home_take_row : (l : ℕ) → l < shape.locales → seat.homing.chain ≡ 0 → Row shape seats c seat facts (HomeTake l)
  unfolding move home_take
  home_take_row l low none = ((below, (low, ((rests, none), tt))), tt)

  pub home_walk_row : seat.homing.chain ≢ 0 → Row shape seats c seat facts HomeWalk
  unfolding move home_walk
  home_walk_row some = ((below, ((rests, some), tt)), tt)

  pub stack_put_row : (top tail : Pointer) → AreEnds shape seats c seat facts below seat.stack.locale top tail → seat.stack.phase ≢ NoLook → seat.stack.head.count < last_stack_count → AreAllKnown facts seat.hand
      → IsLed (led_in (known_words facts 0) seat.hand (λ word. index_in word == seat.stack.head.index) (place_of top) (place_of tail)) → Row shape seats c seat facts (StackPut top tail)
  unfolding move stack_put
  stack_put_row top tail ends looked low known led =
      ((below, (ends.top_inside, (ends.tail_inside, ((rests, looked, low), (ap (λ x. unwrap_or x 0) ends.top_count, (ap (λ x. unwrap_or x 0) ends.tail_count, ((ends.top_hand, ends.top_locale), ((ends.tail_hand, ends.tail_locale), (led, tt))))))))), known)

module _ (shape : Shape) (seats c : ℕ) (seat : Seat) (facts : Facts) where
  -- a step that lists nothing and leaves its seat so
  abbrev pub Quietly : Seat → Told
  Quietly next = record { seat = next; items = [] }

  here : (next : Seat) → ◌≡◌ {A = Told} (Quietly (with_number (λ d. seat) c next c)) (Quietly next)
  here next = ap Quietly (number_here (λ d. seat) c next)

  pub take_look_told : (l i found : ℕ)
      → tells shape seats c seat facts (TakeLook l i) found ≡ Quietly (record seat { free_look = if is_free (header_in found).state then Some (record { locale = l; index = i; count = (header_in found).count }) else None })
  unfolding move take_look
  take_look_told l i found = here _

  pub take_try_told : (l i found : ℕ) → is_free_with (header_in found) (look_count seat.free_look) ≡ true
      → tells shape seats c seat facts (TakeTry l i) found
      ≡ record { seat = record seat { hand = without (record { locale = l; index = i }) seat.hand; owned = record { locale = l; index = i } ∷ seat.owned }; items = event c (Given (record { locale = l; index = i; count = look_count seat.free_look })) }
  unfolding move take_try
  take_try_told l i found won =
      rw won
      (ap (λ (x : Seat). record { seat = x; items = event c (Given (record { locale = l; index = i; count = look_count seat.free_look })) })
      (number_here (λ d. seat) c (record seat { hand = without (record { locale = l; index = i }) seat.hand; owned = record { locale = l; index = i } ∷ seat.owned })))

  pub stack_look_told : (l found : ℕ) → tells shape seats c seat facts (StackLook l) found ≡ Quietly (record seat { stack = record { phase = Looked; locale = l; head = head_in found; next = 0 } })
  unfolding move stack_look
  stack_look_told l found = here _

  pub stack_next_told : (found : ℕ) → tells shape seats c seat facts StackNext found ≡ Quietly (record seat { stack = record seat.stack { phase = NextRead; next = found } })
  unfolding move stack_next
  stack_next_told found = here _

  abbrev pub lost : Seat
  lost = record seat { stack = record seat.stack { phase = NoLook } }

  pub pop_won : (found : ℕ) → same_head (head_in found) seat.stack.head ≡ true → tells shape seats c seat facts StackPop found ≡ Quietly (record seat { hand = looked_top seat.stack ∷ seat.hand })
  unfolding move stack_pop
  pop_won found won = rw won (here _)

  pub pop_lost : (found : ℕ) → same_head (head_in found) seat.stack.head ≡ false → tells shape seats c seat facts StackPop found ≡ Quietly lost
  unfolding move stack_pop
  pop_lost found won = rw won (here _)

  pub put_won : (top tail : Pointer) (found : ℕ) → same_head (head_in found) seat.stack.head ≡ true
      → tells shape seats c seat facts (StackPut top tail) found
      ≡ Quietly (record seat { hand = without_all (led_over (led_in (known_words facts found) seat.hand (λ word. index_in word == seat.stack.head.index) (place_of top) (place_of tail))) seat.hand })
  unfolding move stack_put
  put_won top tail found won = rw won (here _)

  pub put_lost : (top tail : Pointer) (found : ℕ) → same_head (head_in found) seat.stack.head ≡ false → tells shape seats c seat facts (StackPut top tail) found ≡ Quietly lost
  unfolding move stack_put
  put_lost top tail found won = rw won (here _)

  pub hand_link_told : (q : Pointer) (word found : ℕ) → tells shape seats c seat facts (HandLink q word) found ≡ Quietly seat
  unfolding move hand_link
  hand_link_told q word found = refl

  pub home_swap_told : (top tail : Pointer) (found : ℕ)
      → tells shape seats c seat facts (HomeSwap top tail) found
      ≡ Quietly (record seat {
        hand = without_all (led_over (led_in (known_words facts found) seat.hand (λ word. word == pending) (place_of top) (place_of tail))) seat.hand;
        homing = record seat.homing { tail = Some (place_of tail); old = found };
      })
  unfolding move home_swap
  home_swap_told top tail found = here _

  pub home_link_told : (found : ℕ) → tells shape seats c seat facts HomeLink found ≡ Quietly (record seat { homing = record seat.homing { tail = None } })
  unfolding move home_link
  home_link_told found = here _

  pub home_take_told : (l found : ℕ) → tells shape seats c seat facts (HomeTake l) found ≡ Quietly (record seat { homing = record seat.homing { chain = found } })
  unfolding move home_take
  home_take_told l found = here _

  pub walk_waits : (found : ℕ) → found ≡ pending → tells shape seats c seat facts HomeWalk found ≡ Quietly seat
  unfolding move home_walk
  walk_waits found is = rw (eq-eqb found pending is) refl

  pub walk_told : (found : ℕ) → found ≢ pending → tells shape seats c seat facts HomeWalk found ≡ Quietly (record seat { hand = place_in seat.homing.chain ∷ seat.hand; homing = record seat.homing { chain = found } })
  unfolding move home_walk
  walk_told found ne = rw (ne_eqb found pending ne) (here _)
