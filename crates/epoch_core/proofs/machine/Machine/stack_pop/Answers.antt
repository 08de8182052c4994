use Rattle.std.proofs.Common.{◌≡◌, ◌<◌, ◌≤◌, ◌+◌, ℕ, ◌∷◌, refl, ap, sym, ◌∙◌, arith, subst}
use Rattle.pgas_base.specs.declared.shapes.Shape.{Shape}
use Rattle.pool_core.specs.declared.free_words.FreeWord.{FreeWord}
use Rattle.epoch_laws.specs.declared.steps.Seen.TheVariants.{Lost}
use Rattle.epoch_laws.specs.Places.{Place, index_in, with_number}
use Rattle.epoch_laws.specs.Seats.{Seat}
use Rattle.epoch_laws.specs.StackSteps.{stack_pop, same_head, free_head_word_of, looked_top}
use Rattle.epoch_core.specs.Objects.{object_place}
use Rattle.epoch_core.specs.Shown.{IsShowing}
use Rattle.epoch_core.proofs.SeatStores.{seat_read}
use Rattle.epoch_laws.specs.States.{with_seat}
use Rattle.epoch_core.specs.Fresh.{IsFresh}
use Rattle.epoch_core.proofs.machine.Machine.stack_pop.Goals as goal

pub returns-then-not-stands_as_read : goal.returns-then-not-stands_as_read
unfolding stack_pop
returns-then-not-stands_as_read c s sh fresh =
    let needs = c.in_ok-stack_pop_needs.ensures.tells s sh in
    let own = seat_read _ s sh c.args.seat c.index.result.now needs.0 c.index.ensures in
    let look_locale = ap (λ (q : Seat). q.stack.locale) own.same in
    let head_is = ap (λ (q : Seat). q.stack.head) own.same in
    let inside = own.in_range.stack_locale in
    let test_is : c.stands_as_read.result ≡ same_head (s.words.free_head (s.seat c.args.seat).stack.locale) (s.seat c.args.seat).stack.head =
    c.stands_as_read.ensures s sh inside ∙ ap (λ l. same_head (s.words.free_head l) c.index.result.now.stack.head) (sym look_locale) ∙ ap (λ (h : FreeWord). same_head (s.words.free_head (s.seat c.args.seat).stack.locale) h) (sym head_is) in
    let off = sym test_is ∙ c.if-not-stands_as_read.true in
    let read_is = c.free_head_word_at-word.ensures s sh inside ∙ ap (λ l. free_head_word_of s l) (sym look_locale) in
    rw off (needs, ap Lost read_is, c.lose.ensures s sh)

pub returns : goal.returns
unfolding stack_pop
returns c s sh fresh =
    let needs = c.in_ok-stack_pop_needs.ensures.tells s sh in
    let own = seat_read _ s sh c.args.seat c.index.result.now needs.0 c.index.ensures in
    let look_locale = ap (λ (q : Seat). q.stack.locale) own.same in
    let head_is = ap (λ (q : Seat). q.stack.head) own.same in
    let inside = own.in_range.stack_locale in
    let test_is : c.stands_as_read.result ≡ same_head (s.words.free_head (s.seat c.args.seat).stack.locale) (s.seat c.args.seat).stack.head =
    c.stands_as_read.ensures s sh inside ∙ ap (λ l. same_head (s.words.free_head l) c.index.result.now.stack.head) (sym look_locale) ∙ ap (λ (h : FreeWord). same_head (s.words.free_head (s.seat c.args.seat).stack.locale) h) (sym head_is) in
    let on = sym test_is ∙ c.if-not-stands_as_read.false in
    let pops = fresh needs on in
    let next_is = ap (λ (q : Seat). q.stack.next) own.same in
    let index_is : c.index_of-index.result ≡ index_in (s.seat c.args.seat).stack.next = c.index_of-index.ensures ∙ ap index_in (sym next_is) in
    let objects_are = ap (λ (d : Shape). d.objects) sh.shape in
    let low_index = subst (λ i. i ≤ c.args.self.now.shape.objects) (sym index_is) (subst (λ n. index_in (s.seat c.args.seat).stack.next ≤ n) objects_are pops.1) in
    let few : (s.seat c.args.seat).stack.head.count < 1099511627775 = needs.1.0.2 in
    let count_was = ap (λ (q : Seat). q.stack.head.count) own.same in
    let low_count : c.index.result.now.stack.head.count < 1099511627776 = omega arith in
    let raised_is = c.raised_count-count.ensures low_count in
    let count_is : c.raised_count-count.result ≡ (s.seat c.args.seat).stack.head.count + 1 = raised_is ∙ ap (λ n. n + 1) (sym count_was) in
    let low_next : c.raised_count-count.result < 1099511627776 = omega arith in
    let P : ℕ → FreeWord → Type 0 = λ l h. IsShowing c.put_free_head.new.self (record s { words = record s.words { free_head = with_number s.words.free_head l h } }) in
    let head_now : ◌≡◌ {A = FreeWord} (record { count = c.raised_count-count.result; index = c.index_of-index.result }) (record { count = (s.seat c.args.seat).stack.head.count + 1; index = index_in (s.seat c.args.seat).stack.next }) = (λ i. record { count = count_is i; index = index_is i }) in
    let stored = subst (λ l. P l (record { count = (s.seat c.args.seat).stack.head.count + 1; index = index_in (s.seat c.args.seat).stack.next })) (sym look_locale) (subst (λ (h : FreeWord). P c.index.result.now.stack.locale h) head_now (c.put_free_head.ensures.shown s sh inside low_next low_index)) in
    let top_is : object_place c.top_of-top.result ≡ looked_top ((s.seat c.args.seat).stack) = (λ i. record { locale = (c.top_of-top.ensures.locale ∙ sym look_locale) i; index = (c.top_of-top.ensures.index ∙ sym (ap (λ (q : Seat). q.stack.head.index) own.same)) i }) in
    let fresh_at : IsFresh s (object_place c.top_of-top.result) = subst (IsFresh s) (sym top_is) pops.0 in
    let moved = c.none_to_hand.ensures.shown _ stored (record { place = fresh_at.place; unkept = fresh_at.unkept }) in
    let Q : Place → Type 0 = λ p. IsShowing c.none_to_hand.new.self (with_seat (record s { words = record s.words { free_head = with_number s.words.free_head (s.seat c.args.seat).stack.locale (record { count = (s.seat c.args.seat).stack.head.count + 1; index = index_in (s.seat c.args.seat).stack.next }) } }) c.args.seat (record (s.seat c.args.seat) { hand = p ∷ (s.seat c.args.seat).hand })) in
    rw on (needs, refl, subst Q top_is moved)
