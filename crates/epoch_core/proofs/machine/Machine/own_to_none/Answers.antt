use Rattle.std.proofs.Common.{◌≡◌, ◌≢◌, ◌<◌, ◌+◌, ℕ, length, slice_set, refl, ap, sym, ◌∙◌, arith}
use Rattle.std.specs.Prelude.{count_by}
use Rattle.std.proofs.lemmas.List.{set-get_or}
use Rattle.epoch_core.specs.declared.machine.Machine.{Machine}
use Rattle.epoch_laws.specs.Places.{Place, is_among, without}
use Rattle.epoch_laws.specs.Seats.{Seat}
use Rattle.epoch_core.specs.declared.marks.Keeper.TheVariants.{Nobody}
use Rattle.epoch_core.specs.declared.marks.Role.{Role}
use Rattle.epoch_core.specs.declared.marks.Role.TheVariants.{Owner, Hand, Walker}
use Rattle.epoch_core.specs.Marks.{is_kept, list_of, same_role}
use Rattle.epoch_core.specs.Objects.{object_place}
use Rattle.epoch_core.proofs.MarkMoves.{moved_from, among-without_here, among-without_other}
use Rattle.epoch_core.proofs.SeatStores.{low_read, element}
use Rattle.epoch_core.proofs.machine.Machine.own_to_none.Goals as goal

here : (p : Place) (c : ℕ) (q : Seat) → ((role : Role) → is_among p (list_of role q) ≡ same_role role Owner) → (role : Role) → is_among p (list_of role (record q { owned = without p q.owned })) ≡ is_kept role c Nobody
here p c q had Owner = among-without_here p q.owned
here p c q had Hand = had Hand
here p c q had Walker = had Walker

there : (p : Place) (q : Seat) (role : Role) (x : Place) → x ≢ p → is_among x (list_of role (record q { owned = without p q.owned })) ≡ is_among x (list_of role q)
there p q Owner x apart = among-without_other x p q.owned apart
there p q Hand x apart = refl
there p q Walker x apart = refl

pub returns-clause-shown : goal.returns-clause-shown
returns-clause-shown c s sh has =
    let low : c.args.seat < s.seats = low_read _ s sh c.args.seat c.requires in
    let p = object_place c.args.at in
    let seats = c.keep.new.self.seats.items in
    let fits : c.args.seat < length seats = rw (ap (λ (n : Machine). length n.seats.items) c.keep.ensures.rest) c.requires in
    let own = element seats c.args.seat fits in
    moved_from _ s sh c.keep.new.self c.keep.new.self.seats c.args.seat own.0 own.0 (λ (q : Seat). record q { owned = without p q.owned }) p Nobody low (sh.marks.inside Owner c.args.seat (object_place c.args.at) low has) c.keep.ensures.rest c.keep.ensures.keepers (sym own.1)
    (sym (ap (λ v. slice_set seats c.args.seat v) (sym own.1) ∙ set-get_or seats c.args.seat own.0)) (λ o h w. refl) (λ role n apart. refl) (λ o. o) (there p (s.seat c.args.seat))
    Owner has (here p c.args.seat (s.seat c.args.seat))
    (λ counts hand walked.
    let hand_now : count_by (is_kept Hand c.args.seat) c.keep.new.self.keepers.items + 0 ≡ count_by (is_kept Hand c.args.seat) c.args.self.now.keepers.items + 0 = hand in
    let walked_now : count_by (is_kept Walker c.args.seat) c.keep.new.self.keepers.items + 0 ≡ count_by (is_kept Walker c.args.seat) c.args.self.now.keepers.items + 0 = walked in
    let before_hand = counts.0 in
    let before_walked = counts.1 in
    (omega arith, omega arith))
