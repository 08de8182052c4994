use Rattle.std.proofs.Common.{◌≤◌, refl, ap, sym, subst}
use Rattle.std.specs.Vec.{with_item}
use Rattle.pool_core.specs.declared.free_words.FreeWord.{FreeWord}
use Rattle.epoch_laws.specs.declared.steps.Seen.TheVariants.{Word}
use Rattle.epoch_laws.specs.Seats.{Seat, Looked}
use Rattle.epoch_laws.specs.StackSteps.{stack_look}
use Rattle.epoch_core.specs.declared.seats.StackPhase.TheVariants.{Looked as RunLooked}
use Rattle.epoch_core.specs.Seated.{seat_with}
use Rattle.epoch_core.proofs.SeatStores.{seat_changed}
use Rattle.epoch_core.proofs.machine.Machine.stack_look.Goals as goal

pub returns : goal.returns
unfolding stack_look
returns c s sh =
    let needs = c.in_ok-stack_look_needs.ensures.tells s sh in
    let inside = c.in_ok-stack_look_needs.ensures.locale in
    let head_is = c.free_head_at-head.ensures s sh inside in (
      needs,
      ap Word (c.free_head_word_at-word.ensures s sh inside),
      seat_changed _ _ sh (with_item c.args.self.now.seats c.args.seat (record c.index_mut.result.now { stack = record { phase = RunLooked; locale = c.args.locale; head = c.free_head_at-head.result; next = 0 } })) c.args.seat c.index_mut.result.now (record c.index_mut.result.now { stack = record { phase = RunLooked; locale = c.args.locale; head = c.free_head_at-head.result; next = 0 } }) (λ (q : Seat). record q { stack = record { phase = Looked; locale = c.args.locale; head = s.words.free_head c.args.locale; next = 0 } }) needs.0 c.index_mut.ensures.value refl
          (λ o h w. ap (λ (f : FreeWord). seat_with (record c.index_mut.result.now { stack = record { phase = RunLooked; locale = c.args.locale; head = f; next = 0 } }) o h w) (sym head_is)) (λ q. refl) (λ q. refl) (λ q. refl) refl refl (λ w o. record { token = o.token; announced = o.announced; looked = o.looked; swapped = o.swapped; scans = o.scans; advances = o.advances; rests = o.rests; scan_locale = o.scan_locale; scan_number = o.scan_number; stack_locale = inside; stack_index = subst (λ (h : FreeWord). h.index ≤ c.args.self.now.shape.objects) (sym head_is) (sh.low.free_index c.args.locale inside); tail = o.tail }),
    )
