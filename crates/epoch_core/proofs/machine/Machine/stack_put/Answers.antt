use Rattle.std.proofs.Common.{◌≡◌, ◌<◌, ◌≤◌, ◌+◌, ◌==◌, ℕ, true, false, List, [], ◌∷◌, refl, ap, sym, ◌∙◌, subst, arith}
use Rattle.std.proofs.lemmas.Result.{err_from_is_err_and}
use Rattle.pgas_base.specs.declared.shapes.Shape.{Shape}
use Rattle.pool_core.specs.declared.free_words.FreeWord.{FreeWord}
use Rattle.epoch_laws.specs.declared.steps.Seen.TheVariants.{Lost}
use Rattle.epoch_laws.specs.Chains.{IsLed, led_in, led_over}
use Rattle.epoch_laws.specs.Places.{Place, index_in, place_of, with_number}
use Rattle.epoch_laws.specs.Seats.{Seat}
use Rattle.epoch_laws.specs.StackSteps.{free_head_word_of, is_led, same_head, stack_put}
use Rattle.epoch_core.specs.ChainNeeds.{put_needs}
use Rattle.epoch_core.specs.Ends.{hand_but, path}
use Rattle.epoch_core.specs.Shown.{IsShowing}
use Rattle.epoch_core.proofs.NeedLists.{met_both, unmet_before, unmet_behind, broken}
use Rattle.epoch_core.proofs.SeatStores.{seat_read}
use Rattle.epoch_core.proofs.Decided.{is_true}
use Rattle.epoch_core.proofs.machine.Machine.stack_put.Goals as goal

pub returns-in_err-stack_put_needs : goal.returns-in_err-stack_put_needs
unfolding stack_put
returns-in_err-stack_put_needs c s sh =
    let p = err_from_is_err_and c.from_residual.result c.from_residual.ensures.1 in
    rw (p.1, p.2) (unmet_before (put_needs s c.args.seat c.args.top c.args.tail) (is_led (led_in s.words ((s.seat c.args.seat).hand) (λ word. index_in word == (s.seat c.args.seat).stack.head.index) (place_of c.args.top) (place_of c.args.tail)) ∷ []) _ _ (c.in_err-stack_put_needs.ensures.tells s sh), sh)

pub returns-in_err-count : goal.returns-in_err-count
unfolding stack_put
returns-in_err-count c s sh =
    let needs = c.in_ok-stack_put_needs.ensures.tells s sh in
    let own = seat_read _ s sh c.args.seat c.index.result.now needs.0 c.index.ensures in
    let index_is = ap (λ (q : Seat). q.stack.head.index) own.same in
    let told = c.in_err-count.ensures.tells s sh (is_true needs.1.1.1.1.1.1.0.0) in
    let way_of = λ (n : ℕ). led_in s.words ((s.seat c.args.seat).hand) (λ word. index_in word == n) (place_of c.args.top) (place_of c.args.tail) in
    let p = err_from_is_err_and c.from_residual-in_err-count.result c.from_residual-in_err-count.ensures.1 in
    rw (p.1, p.2) (unmet_behind (put_needs s c.args.seat c.args.top c.args.tail) (is_led (way_of ((s.seat c.args.seat).stack.head.index)) ∷ []) _ _ needs (broken (way_of ((s.seat c.args.seat).stack.head.index)) _ _ (ap way_of index_is ∙ told.0) told.1), told.2)

pub returns-then-not-stands_as_read : goal.returns-then-not-stands_as_read
unfolding stack_put
returns-then-not-stands_as_read c s sh =
    let needs = c.in_ok-stack_put_needs.ensures.tells s sh in
    let own = seat_read _ s sh c.args.seat c.index.result.now needs.0 c.index.ensures in
    let index_is = ap (λ (q : Seat). q.stack.head.index) own.same in
    let told = c.in_ok-count.ensures.tells s sh (is_true needs.1.1.1.1.1.1.0.0) in
    let way_of = λ (n : ℕ). led_in s.words ((s.seat c.args.seat).hand) (λ word. index_in word == n) (place_of c.args.top) (place_of c.args.tail) in
    let way_is = ap way_of index_is ∙ told.0 in
    let shape_is = sym sh.shape ∙ told.2.shape in
    let look_locale = ap (λ (q : Seat). q.stack.locale) own.same in
    let head_is = ap (λ (q : Seat). q.stack.head) own.same in
    let inside = subst (λ (d : Shape). c.index.result.now.stack.locale < d.locales) shape_is own.in_range.stack_locale in
    let off : same_head (s.words.free_head (s.seat c.args.seat).stack.locale) (s.seat c.args.seat).stack.head ≡ false =
    ap (λ l. same_head (s.words.free_head l) (s.seat c.args.seat).stack.head) look_locale ∙ ap (λ (h : FreeWord). same_head (s.words.free_head c.index.result.now.stack.locale) h) head_is
    ∙ sym (c.stands_as_read.ensures _ told.2 inside) ∙ c.if-not-stands_as_read.true in
    let again = c.take_again.ensures.shown c.args.self.now s sh told.2 told.1 in
    let inside_again = subst (λ (d : Shape). c.index.result.now.stack.locale < d.locales) (sym sh.shape ∙ again.shape) own.in_range.stack_locale in
    let read_is = c.free_head_word_at-word.ensures s again inside_again ∙ ap (λ l. free_head_word_of s l) (sym look_locale) in
    let all = met_both (put_needs s c.args.seat c.args.top c.args.tail) (is_led (way_of ((s.seat c.args.seat).stack.head.index)) ∷ []) needs (subst IsLed (sym way_is) tt, tt) in
    rw off (all, ap Lost read_is, c.lose.ensures s again)

pub returns : goal.returns
unfolding stack_put led_over
returns c s sh =
    let needs = c.in_ok-stack_put_needs.ensures.tells s sh in
    let own = seat_read _ s sh c.args.seat c.index.result.now needs.0 c.index.ensures in
    let index_is = ap (λ (q : Seat). q.stack.head.index) own.same in
    let told = c.in_ok-count.ensures.tells s sh (is_true needs.1.1.1.1.1.1.0.0) in
    let way_of = λ (n : ℕ). led_in s.words ((s.seat c.args.seat).hand) (λ word. index_in word == n) (place_of c.args.top) (place_of c.args.tail) in
    let way_is = ap way_of index_is ∙ told.0 in
    let shape_is = sym sh.shape ∙ told.2.shape in
    let look_locale = ap (λ (q : Seat). q.stack.locale) own.same in
    let head_is = ap (λ (q : Seat). q.stack.head) own.same in
    let inside = subst (λ (d : Shape). c.index.result.now.stack.locale < d.locales) shape_is own.in_range.stack_locale in
    let on : same_head (s.words.free_head (s.seat c.args.seat).stack.locale) (s.seat c.args.seat).stack.head ≡ true =
    ap (λ l. same_head (s.words.free_head l) (s.seat c.args.seat).stack.head) look_locale ∙ ap (λ (h : FreeWord). same_head (s.words.free_head c.index.result.now.stack.locale) h) head_is
    ∙ sym (c.stands_as_read.ensures _ told.2 inside) ∙ c.if-not-stands_as_read.false in
    let few : (s.seat c.args.seat).stack.head.count < 1099511627775 = needs.1.1.1.0.2 in
    let count_was = ap (λ (q : Seat). q.stack.head.count) own.same in
    let low_count : c.index.result.now.stack.head.count < 1099511627776 = omega arith in
    let raised_is = c.raised_count-next.ensures low_count in
    let count_is : c.raised_count-next.result ≡ (s.seat c.args.seat).stack.head.count + 1 = raised_is ∙ ap (λ n. n + 1) (sym count_was) in
    let low_next : c.raised_count-next.result < 1099511627776 = omega arith in
    let first_is = c.index-first.ensures.value in
    let low_index = subst (λ (d : Shape). c.index-first.result ≤ d.objects) shape_is (subst (λ n. n ≤ c.args.self.now.shape.objects) (sym first_is) c.in_ok-stack_put_needs.ensures.place.index) in
    let stored = c.put_free_head.ensures.shown _ told.2 inside low_next low_index in
    let head_now : ◌≡◌ {A = FreeWord} (record { count = c.raised_count-next.result; index = c.index-first.result }) (record { count = (s.seat c.args.seat).stack.head.count + 1; index = c.args.top.index }) = (λ i. record { count = count_is i; index = first_is i }) in
    let P : ℕ → FreeWord → List Place → Type 0 = λ l h gone. IsShowing c.put_free_head.new.self (record (hand_but s c.args.seat gone) { words = record s.words { free_head = with_number s.words.free_head l h } }) in
    let over : path s.words (place_of c.args.top) c.in_ok-count.count ≡ led_over (way_of ((s.seat c.args.seat).stack.head.index)) = sym (ap led_over way_is) in
    let all = met_both (put_needs s c.args.seat c.args.top c.args.tail) (is_led (way_of ((s.seat c.args.seat).stack.head.index)) ∷ []) needs (subst IsLed (sym way_is) tt, tt) in
    let shown = subst (λ l. P l (record { count = (s.seat c.args.seat).stack.head.count + 1; index = c.args.top.index }) (led_over (way_of ((s.seat c.args.seat).stack.head.index)))) (sym look_locale)
    (subst (λ (h : FreeWord). P c.index.result.now.stack.locale h (led_over (way_of ((s.seat c.args.seat).stack.head.index)))) head_now (subst (λ gone. P c.index.result.now.stack.locale (record { count = c.raised_count-next.result; index = c.index-first.result }) gone) over stored)) in
    rw on (all, refl, shown)
