use Rattle.std.proofs.Common.{◌≡◌, ◌<◌, ◌==◌, ℕ, List, [], ◌∷◌, Some, refl, ap, sym, ◌∙◌, subst}
use Rattle.std.proofs.lemmas.Result.{err_from_is_err_and}
use Rattle.std.specs.Vec.{with_item}
use Rattle.pgas_base.specs.Pointers.{word_of}
use Rattle.pgas_base.specs.declared.shapes.Shape.{Shape}
use Rattle.epoch_laws.specs.declared.steps.Seen.TheVariants.{Word}
use Rattle.epoch_laws.specs.Chains.{Led, IsLed, led_in, led_over}
use Rattle.epoch_laws.specs.Places.{Place, pending, place_of, with_number, without_all}
use Rattle.epoch_laws.specs.Seats.{Seat}
use Rattle.epoch_laws.specs.States.{IsPlace, State}
use Rattle.epoch_laws.specs.StackSteps.{is_led}
use Rattle.epoch_laws.specs.HomeSteps.{home_swap}
use Rattle.epoch_core.specs.ChainNeeds.{home_needs}
use Rattle.epoch_core.specs.Ends.{hand_but, path}
use Rattle.epoch_core.specs.Shown.{IsShowing}
use Rattle.epoch_core.specs.Seated.{seat_with}
use Rattle.epoch_core.proofs.NeedLists.{met_both, unmet_before, unmet_behind, broken}
use Rattle.epoch_core.proofs.SeatStores.{seat_changed, seat_twice}
use Rattle.epoch_core.proofs.Decided.{is_true}
use Rattle.epoch_core.proofs.machine.Machine.home_swap.Goals as goal

abbrev way_of : State → ℕ → Place → Place → Led
way_of s seat top tail = led_in s.words ((s.seat seat).hand) (λ word. word == pending) top tail

pub returns-in_err-home_swap_needs : goal.returns-in_err-home_swap_needs
unfolding home_swap
returns-in_err-home_swap_needs c s sh =
    let p = err_from_is_err_and c.from_residual.result c.from_residual.ensures.1 in
    rw (p.1, p.2) (unmet_before (home_needs s c.args.seat c.args.top c.args.tail) (is_led (way_of s c.args.seat (place_of c.args.top) (place_of c.args.tail)) ∷ []) _ _ (c.in_err-home_swap_needs.ensures.tells s sh), sh)

pub returns-in_err-let_go : goal.returns-in_err-let_go
unfolding home_swap
returns-in_err-let_go c s sh =
    let needs = c.in_ok-home_swap_needs.ensures.tells s sh in
    let told = c.in_err-let_go.ensures.tells s sh (is_true needs.1.1.1.1.1.1.0.0) in
    let p = err_from_is_err_and c.from_residual-in_err-let_go.result c.from_residual-in_err-let_go.ensures.1 in
    rw (p.1, p.2) (unmet_behind (home_needs s c.args.seat c.args.top c.args.tail) (is_led (way_of s c.args.seat (place_of c.args.top) (place_of c.args.tail)) ∷ []) _ _ needs (broken (way_of s c.args.seat (place_of c.args.top) (place_of c.args.tail)) _ _ told.0 told.1), told.2)

pub returns : goal.returns
unfolding home_swap led_over
returns c s sh =
    let needs = c.in_ok-home_swap_needs.ensures.tells s sh in
    let told = c.in_ok-let_go.ensures.tells s sh (is_true needs.1.1.1.1.1.1.0.0) in
    let way = way_of s c.args.seat (place_of c.args.top) (place_of c.args.tail) in
    let gone = path s.words (place_of c.args.top) c.in_ok-let_go.field-0 in
    let locale_is = c.locale-locale.ensures.value in
    let shape_is = sym sh.shape ∙ told.2.shape in
    let inside = subst (λ l. l < c.let_go.new.self.shape.locales) (sym locale_is) (subst (λ (d : Shape). c.args.top.locale < d.locales) shape_is c.in_ok-home_swap_needs.ensures.top.locale) in
    let read_is = c.home_head-word.ensures _ told.2 inside ∙ ap (λ l. s.words.home_head l) locale_is in
    let first_is = c.word-first.ensures.value in
    let P : ℕ → ℕ → Type 0 = λ l w. IsShowing c.put_home_head.new.self (record (hand_but s c.args.seat gone) { words = record s.words { home_head = with_number s.words.home_head l w } }) in
    let stored = subst (λ l. P l (word_of c.args.top)) locale_is (subst (λ w. P c.locale-locale.result w) first_is (c.put_home_head.ensures.shown _ told.2 inside)) in
    let base : Seat = record (s.seat c.args.seat) { hand = without_all gone ((s.seat c.args.seat).hand) } in
    let tail_now = subst (λ (d : Shape). IsPlace d (place_of c.args.tail)) (sym sh.shape ∙ stored.shape) c.in_ok-home_swap_needs.ensures.tail in
    let changed = seat_changed _ _ stored (with_item c.put_home_head.new.self.seats c.args.seat (record c.index_mut-own.result.now { homing = record c.index_mut-own.result.now.homing { tail = Some c.args.tail; old = c.home_head-word.result } })) c.args.seat c.index_mut-own.result.now
    (record c.index_mut-own.result.now { homing = record c.index_mut-own.result.now.homing { tail = Some c.args.tail; old = c.home_head-word.result } })
    (λ (q : Seat). record q { homing = record q.homing { tail = Some (place_of c.args.tail); old = s.words.home_head c.args.top.locale } }) needs.0 c.index_mut-own.ensures.value refl
    (λ o h w. ap (λ n. seat_with (record c.index_mut-own.result.now { homing = record c.index_mut-own.result.now.homing { tail = Some c.args.tail; old = n } }) o h w) (sym read_is)) (λ q. refl) (λ q. refl) (λ q. refl) refl refl (λ w o. record { token = o.token; announced = o.announced; looked = o.looked; swapped = o.swapped; scans = o.scans; advances = o.advances; rests = o.rests; scan_locale = o.scan_locale; scan_number = o.scan_number; stack_locale = o.stack_locale; stack_index = o.stack_index; tail = tail_now }) in
    let once = subst (λ (t : State). IsShowing (record c.put_home_head.new.self { seats = with_item c.put_home_head.new.self.seats c.args.seat (record c.index_mut-own.result.now { homing = record c.index_mut-own.result.now.homing { tail = Some c.args.tail; old = c.home_head-word.result } }) }) t)
    (seat_twice (record s { words = record s.words { home_head = with_number s.words.home_head c.args.top.locale (word_of c.args.top) } }) c.args.seat base (λ (q : Seat). record q { homing = record q.homing { tail = Some (place_of c.args.tail); old = s.words.home_head c.args.top.locale } })) changed in
    let over : gone ≡ led_over way = sym (ap led_over told.0) in
    let Q : List Place → Type 0 = λ l. IsShowing (record c.put_home_head.new.self { seats = with_item c.put_home_head.new.self.seats c.args.seat (record c.index_mut-own.result.now { homing = record c.index_mut-own.result.now.homing { tail = Some c.args.tail; old = c.home_head-word.result } }) })
    (record s { words = record s.words { home_head = with_number s.words.home_head c.args.top.locale (word_of c.args.top) }; seat = with_number s.seat c.args.seat (record (s.seat c.args.seat) { hand = without_all l ((s.seat c.args.seat).hand); homing = record (s.seat c.args.seat).homing { tail = Some (place_of c.args.tail); old = s.words.home_head c.args.top.locale } }) }) in
    let all = met_both (home_needs s c.args.seat c.args.top c.args.tail) (is_led way ∷ []) needs (subst IsLed (sym told.0) tt, tt) in
    (all, ap Word read_is, subst Q over once)
