use Rattle.std.proofs.Common.{◌≡◌, ◌≢◌, ◌<◌, ◌+◌, ℕ, false, if◌then◌else◌, ◌∷◌, slice_index_or, refl, ap, sym, ◌∙◌, arith, subst}
use Rattle.std.specs.Prelude.{count_by}
use Rattle.pgas_base.specs.declared.shapes.Shape.{Shape}
use Rattle.epoch_laws.specs.Places.{Place, is_among}
use Rattle.epoch_laws.specs.Seats.{Seat}
use Rattle.epoch_laws.specs.States.{IsPlace}
use Rattle.epoch_core.specs.declared.machine.Machine.{Machine}
use Rattle.epoch_core.specs.declared.marks.Keeper.TheVariants.{Kept}
use Rattle.epoch_core.specs.declared.marks.Role.{Role}
use Rattle.epoch_core.specs.declared.marks.Role.TheVariants.{Owner, Hand, Walker}
use Rattle.epoch_core.specs.Marks.{is_kept, list_of}
use Rattle.epoch_core.specs.Objects.{object_place}
use Rattle.epoch_core.proofs.MarkMoves.{moved_fresh, kept_here, kept_other, among-cons_here, among-cons_other, few}
use Rattle.epoch_core.proofs.SeatStores.{low_read, seat_read}
use Rattle.epoch_core.proofs.machine.Machine.none_to_walked.Goals as goal

here : (p : Place) (c : ℕ) (q : Seat) → ((role : Role) → is_among p (list_of role q) ≡ false) → (role : Role) → is_among p (list_of role (record q { reclaim = record q.reclaim { walked = p ∷ q.reclaim.walked } })) ≡ is_kept role c (Kept Walker c)
here p c q had Owner = had Owner ∙ sym (kept_here Owner Walker c)
here p c q had Hand = had Hand ∙ sym (kept_here Hand Walker c)
here p c q had Walker = among-cons_here p q.reclaim.walked ∙ sym (kept_here Walker Walker c)

there : (p : Place) (q : Seat) (role : Role) (x : Place) → x ≢ p → is_among x (list_of role (record q { reclaim = record q.reclaim { walked = p ∷ q.reclaim.walked } })) ≡ is_among x (list_of role q)
there p q Owner x apart = refl
there p q Hand x apart = refl
there p q Walker x apart = among-cons_other x p q.reclaim.walked apart

pub returns-clause-shown : goal.returns-clause-shown
returns-clause-shown c s sh fresh advanced =
    let low : c.args.seat < s.seats = low_read _ s sh c.args.seat c.requires in
    let p = object_place c.args.at in
    let own = seat_read _ s sh c.args.seat c.index_mut-own.result.now low (c.index_mut-own.ensures.value ∙ ap (λ (n : Machine). slice_index_or n.seats.items c.args.seat c.index_mut-own.result.now) c.keep.ensures.rest) in
    let phase_now = sym (ap (λ (q : Seat). q.phase) own.same) ∙ advanced in
    moved_fresh _ s sh c.keep.new.self _ c.args.seat c.index_mut-own.result.now _ (λ (q : Seat). record q { reclaim = record q.reclaim { walked = p ∷ q.reclaim.walked } }) p (Kept Walker c.args.seat) low (subst (λ (d : Shape). IsPlace d (object_place c.args.at)) sh.shape fresh.place) c.keep.ensures.rest c.keep.ensures.keepers c.index_mut-own.ensures.value refl
    (λ o h w. refl) (λ role n apart. kept_other role Walker n c.args.seat apart) (λ o. record { token = o.token; announced = o.announced; looked = o.looked; swapped = o.swapped; scans = o.scans; advances = o.advances; rests = λ no. absurd (no phase_now); scan_locale = o.scan_locale; scan_number = o.scan_number; stack_locale = o.stack_locale; stack_index = o.stack_index; tail = o.tail }) (there p (s.seat c.args.seat))
    fresh (here p c.args.seat (s.seat c.args.seat))
    (λ counts hand walked.
    let hand_now : count_by (is_kept Hand c.args.seat) c.keep.new.self.keepers.items + 0 ≡ count_by (is_kept Hand c.args.seat) c.args.self.now.keepers.items + 0 =
    subst (λ b. count_by (is_kept Hand c.args.seat) c.keep.new.self.keepers.items + 0 ≡ count_by (is_kept Hand c.args.seat) c.args.self.now.keepers.items + (if b then 1 else 0)) (kept_here Hand Walker c.args.seat) hand in
    let walked_now : count_by (is_kept Walker c.args.seat) c.keep.new.self.keepers.items + 0 ≡ count_by (is_kept Walker c.args.seat) c.args.self.now.keepers.items + 1 =
    subst (λ b. count_by (is_kept Walker c.args.seat) c.keep.new.self.keepers.items + 0 ≡ count_by (is_kept Walker c.args.seat) c.args.self.now.keepers.items + (if b then 1 else 0)) (kept_here Walker Walker c.args.seat) walked in
    let many = few _ s sh (is_kept Hand c.args.seat) in
    let many_walked = few _ s sh (is_kept Walker c.args.seat) in
    let before_hand = counts.0 in
    let before_walked = counts.1 in
    (omega arith, omega arith))
