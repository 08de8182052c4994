use Rattle.std.proofs.Common.{◌≡◌, ℕ, ◌∷◌, refl, ap, sym, ◌∙◌, subst}
use Rattle.std.specs.Option.{option_map}
use Rattle.epoch_laws.specs.declared.steps.Seen.TheVariants.{Lost}
use Rattle.epoch_laws.specs.Places.{with_place}
use Rattle.epoch_laws.specs.Seats.{Seat}
use Rattle.epoch_laws.specs.TakeSteps.{take_try, is_free_with, look_count}
use Rattle.epoch_core.specs.Objects.{object_place}
use Rattle.epoch_core.specs.Looks.{looked_pointer}
use Rattle.epoch_core.specs.Shown.{IsShowing}
use Rattle.epoch_core.proofs.SeatStores.{seat_read}
use Rattle.pool_core.specs.declared.headers.Header.{Header}
use Rattle.pool_core.specs.declared.headers.State.TheVariants.{Own}
use Rattle.epoch_laws.specs.States.{with_seat}
use Rattle.epoch_laws.specs.Places.{without}
use Rattle.epoch_core.proofs.Decided.{is_true}
use Rattle.epoch_core.proofs.Frees.{free_count_is}
use Rattle.epoch_core.proofs.machine.Machine.take_try.Goals as goal

pub returns-then-not-has_read : goal.returns-then-not-has_read
unfolding take_try
returns-then-not-has_read c s sh =
    let needs = c.in_ok-take_try_needs.ensures.tells s sh in
    let own = seat_read _ s sh c.args.seat c.index.result.now needs.0 c.index.ensures in
    let place = c.in_ok-take_try_needs.ensures.place in
    let p = object_place c.args.at in
    let header_is = c.header_at-found.ensures s sh place in
    let look_is = ap (λ (q : Seat). look_count q.free_look) own.same in
    let test_is : c.has_read.result ≡ is_free_with (s.words.header p) (look_count (s.seat c.args.seat).free_look) = c.has_read.ensures ∙ ap (λ (d : Header). is_free_with d (look_count (option_map looked_pointer c.index.result.now.free_look))) header_is ∙ ap (λ n. is_free_with (s.words.header p) n) (sym look_is) in
    let off = sym test_is ∙ c.if-not-has_read.true in
    rw off (needs, ap Lost (c.header_word_at-word.ensures s sh place), sh)

pub returns : goal.returns
unfolding take_try
returns c s sh =
    let needs = c.in_ok-take_try_needs.ensures.tells s sh in
    let own = seat_read _ s sh c.args.seat c.index.result.now needs.0 c.index.ensures in
    let place = c.in_ok-take_try_needs.ensures.place in
    let p = object_place c.args.at in
    let header_is = c.header_at-found.ensures s sh place in
    let look_is = ap (λ (q : Seat). look_count q.free_look) own.same in
    let test_is : c.has_read.result ≡ is_free_with (s.words.header p) (look_count (s.seat c.args.seat).free_look) = c.has_read.ensures ∙ ap (λ (d : Header). is_free_with d (look_count (option_map looked_pointer c.index.result.now.free_look))) header_is ∙ ap (λ n. is_free_with (s.words.header p) n) (sym look_is) in
    let on = sym test_is ∙ c.if-not-has_read.false in
    let count_is : c.header_at-found.result.count ≡ look_count (s.seat c.args.seat).free_look = ap (λ (d : Header). d.count) header_is ∙ free_count_is (s.words.header p) (look_count (s.seat c.args.seat).free_look) on in
    let stored = c.put_header.ensures.shown s sh place in
    let has = is_true needs.1.1.1.1.0 in
    let moved = c.hand_to_own.ensures.shown _ stored has in
    let P : ℕ → Type 0 = λ n. IsShowing c.hand_to_own.new.self (with_seat (record s { words = record s.words { header = with_place s.words.header p (record { count = n; state = Own }) } }) c.args.seat (record (s.seat c.args.seat) { hand = without p (s.seat c.args.seat).hand; owned = p ∷ (s.seat c.args.seat).owned })) in
    rw on (needs, refl, subst P count_is moved)
