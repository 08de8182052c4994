use Rattle.std.proofs.Common.{◌≡◌, ◌≢◌, ◌<◌, ◌+◌, ℕ, true, List, length, slice_index_or, slice_set, refl, ap, sym, ◌∙◌, arith, subst}
use Rattle.std.specs.Prelude.{count_by}
use Rattle.epoch_laws.specs.Places.{Place, is_among, without}
use Rattle.epoch_laws.specs.Seats.{Seat}
use Rattle.epoch_core.specs.declared.marks.Keeper.TheVariants.{Nobody}
use Rattle.epoch_core.specs.declared.marks.Role.{Role}
use Rattle.epoch_core.specs.declared.marks.Role.TheVariants.{Owner, Hand, Walker}
use Rattle.epoch_core.specs.Marks.{is_kept, list_of, same_role}
use Rattle.epoch_core.specs.Objects.{object_place}
use Rattle.epoch_core.proofs.MarkMoves.{moved_from, among-without_here, among-without_other, few, bit, count_by-set}
use Rattle.epoch_core.specs.declared.marks.Keeper.{Keeper}
use Rattle.epoch_core.specs.Tables.{place_number}
use Rattle.epoch_core.proofs.Tables.{place_low}
use Rattle.epoch_core.proofs.SeatStores.{low_read}
use Rattle.epoch_core.proofs.machine.Machine.hand_to_none.Goals as goal

here : (p : Place) (c : ℕ) (q : Seat) → ((role : Role) → is_among p (list_of role q) ≡ same_role role Hand) → (role : Role) → is_among p (list_of role (record q { hand = without p q.hand })) ≡ is_kept role c Nobody
here p c q had Owner = had Owner
here p c q had Hand = among-without_here p q.hand
here p c q had Walker = had Walker

there : (p : Place) (q : Seat) (role : Role) (x : Place) → x ≢ p → is_among x (list_of role (record q { hand = without p q.hand })) ≡ is_among x (list_of role q)
there p q Owner x apart = refl
there p q Hand x apart = among-without_other x p q.hand apart
there p q Walker x apart = refl

pub returns-clause-shown : goal.returns-clause-shown
returns-clause-shown c s sh has =
    let low : c.args.seat < s.seats = low_read _ s sh c.args.seat c.requires in
    let p = object_place c.args.at in
    moved_from _ s sh c.keep.new.self _ c.args.seat c.index_mut-own.result.now _ (λ (q : Seat). record q { hand = without p q.hand }) p Nobody low (sh.marks.inside Hand c.args.seat (object_place c.args.at) low has) c.keep.ensures.rest c.keep.ensures.keepers c.index_mut-own.ensures.value refl
    (λ o h w. refl) (λ role n apart. refl) (λ o. record { token = o.token; announced = o.announced; looked = o.looked; swapped = o.swapped; scans = o.scans; advances = o.advances; rests = o.rests; scan_locale = o.scan_locale; scan_number = o.scan_number; stack_locale = o.stack_locale; stack_index = o.stack_index; tail = o.tail }) (there p (s.seat c.args.seat))
    Hand has (here p c.args.seat (s.seat c.args.seat))
    (λ counts hand walked.
    let hand_now : count_by (is_kept Hand c.args.seat) c.keep.new.self.keepers.items + 1 ≡ count_by (is_kept Hand c.args.seat) c.args.self.now.keepers.items + 0 =
    hand in
    let walked_now : count_by (is_kept Walker c.args.seat) c.keep.new.self.keepers.items + 0 ≡ count_by (is_kept Walker c.args.seat) c.args.self.now.keepers.items + 0 =
    walked in
    let many = few _ s sh (is_kept Hand c.args.seat) in
    let many_walked = few _ s sh (is_kept Walker c.args.seat) in
    let before_hand = counts.0 in
    let before_walked = counts.1 in
    (omega arith, omega arith))

pub returns-clause-fewer : goal.returns-clause-fewer
returns-clause-fewer c s sh has =
    let low : c.args.seat < s.seats = low_read _ s sh c.args.seat c.requires in
    let p = object_place c.args.at in
    let place = sh.marks.inside Hand c.args.seat p low has in
    let old = c.args.self.now.keepers.items in
    let at = place_number c.args.self.now.shape p in
    let fits : at < length old = rw sh.marks.len (place_low c.args.self.now.shape p place) in
    let kept : is_kept Hand c.args.seat (slice_index_or old at Nobody) ≡ true = sym (sh.marks.kept Hand c.args.seat p Nobody low place) ∙ has in
    let counts : count_by (is_kept Hand c.args.seat) (slice_set old at Nobody) + 1 ≡ count_by (is_kept Hand c.args.seat) old + 0 =
    subst (λ b. count_by (is_kept Hand c.args.seat) (slice_set old at Nobody) + bit b ≡ count_by (is_kept Hand c.args.seat) old + 0) kept (count_by-set (is_kept Hand c.args.seat) old at Nobody Nobody fits) in
    let now : count_by (is_kept Hand c.args.seat) c.keep.new.self.keepers.items ≡ count_by (is_kept Hand c.args.seat) (slice_set old at Nobody) = ap (λ (l : List Keeper). count_by (is_kept Hand c.args.seat) l) c.keep.ensures.keepers in
    omega arith
