use Rattle.std.proofs.Common.{◌≡◌, ◌≢◌, ◌<◌, ◌+◌, ℕ, if◌then◌else◌, ◌∷◌, refl, sym, ◌∙◌, arith, subst}
use Rattle.std.specs.Prelude.{count_by}
use Rattle.epoch_laws.specs.Places.{Place, is_among, without}
use Rattle.epoch_laws.specs.Seats.{Seat}
use Rattle.epoch_core.specs.declared.marks.Keeper.TheVariants.{Kept}
use Rattle.epoch_core.specs.declared.marks.Role.{Role}
use Rattle.epoch_core.specs.declared.marks.Role.TheVariants.{Owner, Hand, Walker}
use Rattle.epoch_core.specs.Marks.{is_kept, list_of, same_role}
use Rattle.epoch_core.specs.Objects.{object_place}
use Rattle.epoch_core.proofs.MarkMoves.{moved_from, kept_here, kept_other, among-cons_here, among-cons_other, among-without_here, among-without_other, few, without_nil}
use Rattle.epoch_core.proofs.SeatStores.{low_read}
use Rattle.epoch_core.proofs.machine.Machine.walked_to_hand.Goals as goal

here : (p : Place) (c : ℕ) (q : Seat) → ((role : Role) → is_among p (list_of role q) ≡ same_role role Walker) → (role : Role) → is_among p (list_of role (record q { reclaim = record q.reclaim { walked = without p q.reclaim.walked }; hand = p ∷ q.hand })) ≡ is_kept role c (Kept Hand c)
here p c q had Owner = had Owner ∙ sym (kept_here Owner Hand c)
here p c q had Hand = among-cons_here p q.hand ∙ sym (kept_here Hand Hand c)
here p c q had Walker = among-without_here p q.reclaim.walked ∙ sym (kept_here Walker Hand c)

there : (p : Place) (q : Seat) (role : Role) (x : Place) → x ≢ p → is_among x (list_of role (record q { reclaim = record q.reclaim { walked = without p q.reclaim.walked }; hand = p ∷ q.hand })) ≡ is_among x (list_of role q)
there p q Owner x apart = refl
there p q Hand x apart = among-cons_other x p q.hand apart
there p q Walker x apart = among-without_other x p q.reclaim.walked apart

pub returns-clause-shown : goal.returns-clause-shown
returns-clause-shown c s sh has =
    let low : c.args.seat < s.seats = low_read _ s sh c.args.seat c.requires in
    let p = object_place c.args.at in
    moved_from _ s sh c.keep.new.self _ c.args.seat c.index_mut-own.result.now _ (λ (q : Seat). record q { reclaim = record q.reclaim { walked = without p q.reclaim.walked }; hand = p ∷ q.hand }) p (Kept Hand c.args.seat) low (sh.marks.inside Walker c.args.seat (object_place c.args.at) low has) c.keep.ensures.rest c.keep.ensures.keepers c.index_mut-own.ensures.value refl
    (λ o h w. refl) (λ role n apart. kept_other role Hand n c.args.seat apart) (λ o. record { token = o.token; announced = o.announced; looked = o.looked; swapped = o.swapped; scans = o.scans; advances = o.advances; rests = λ no. without_nil (object_place c.args.at) _ (o.rests no); scan_locale = o.scan_locale; scan_number = o.scan_number; stack_locale = o.stack_locale; stack_index = o.stack_index; tail = o.tail }) (there p (s.seat c.args.seat))
    Walker has (here p c.args.seat (s.seat c.args.seat))
    (λ counts hand walked.
    let hand_now : count_by (is_kept Hand c.args.seat) c.keep.new.self.keepers.items + 0 ≡ count_by (is_kept Hand c.args.seat) c.args.self.now.keepers.items + 1 =
    subst (λ b. count_by (is_kept Hand c.args.seat) c.keep.new.self.keepers.items + 0 ≡ count_by (is_kept Hand c.args.seat) c.args.self.now.keepers.items + (if b then 1 else 0)) (kept_here Hand Hand c.args.seat) hand in
    let walked_now : count_by (is_kept Walker c.args.seat) c.keep.new.self.keepers.items + 1 ≡ count_by (is_kept Walker c.args.seat) c.args.self.now.keepers.items + 0 =
    subst (λ b. count_by (is_kept Walker c.args.seat) c.keep.new.self.keepers.items + 1 ≡ count_by (is_kept Walker c.args.seat) c.args.self.now.keepers.items + (if b then 1 else 0)) (kept_here Walker Hand c.args.seat) walked in
    let many = few _ s sh (is_kept Hand c.args.seat) in
    let many_walked = few _ s sh (is_kept Walker c.args.seat) in
    let before_hand = counts.0 in
    let before_walked = counts.1 in
    (omega arith, omega arith))
