use Rattle.std.proofs.Common.{Err, Result, Vec, ℕ, ap, refl, subst}
use Rattle.std.specs.declared.alloc.Global.{Global}
use Rattle.pgas_top.specs.MadeText.{IsMadeText}
use Rattle.pgas_top.specs.declared.statuses.Status.{Status}
use Rattle.pgas_top.proofs.Runs.{ran_cut, ran_done, ran_unwritten}
use Rattle.pgas_top.proofs.program.write_out.Goals as goal

pub returns : goal.returns
returns g c = record {
  ran = λ command source made.
      ran_unwritten command source _ _ (record { taken = refl; faults = refl; refusals = refl }) (subst (λ (r : Result (Vec ℕ Global) Status). IsMadeText command source r) c.in-Err.is made);
}

pub returns-in-Ok : goal.returns-in-Ok
returns-in-Ok g c =
    let wrote = c.in-Err-write_whole.ensures in
    let front = rw c.as_slice.ensures.value at wrote.front in
    record {
      ran = λ command source made.
          ran_cut command source _ c.in-Ok.text front.0 c.in-Err-write_whole.fault c.from.result (subst (λ (r : Result (Vec ℕ Global) Status). IsMadeText command source r) c.in-Ok.is made)
          front.2 wrote.faults wrote.refusals (λ failed. wrote.failed (ap Err failed)) (λ wanted. wrote.memory (ap Err wanted)) c.from.ensures;
    }

pub returns-in-Ok-write_whole : goal.returns-in-Ok-write_whole
returns-in-Ok-write_whole g c =
    let wrote = c.in-Ok-write_whole.ensures in
    let whole = rw c.as_slice.ensures.value at wrote.whole in
    record {
      ran = λ command source made.
          ran_done command source _ c.in-Ok.text (subst (λ (r : Result (Vec ℕ Global) Status). IsMadeText command source r) c.in-Ok.is made) whole (record { faults = wrote.kept.0; refusals = wrote.kept.1 });
    }
