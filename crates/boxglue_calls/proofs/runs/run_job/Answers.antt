-- The run, its end, and the status of both.
use Rattle.std.proofs.Common.{ap, refl, sym, ◌∙◌}
use Rattle.dvi_device.specs.Held.{MemoryState}
use Rattle.boxglue_program.proofs.RunLaws.{if_some, same_run}
use Rattle.boxglue_calls.specs.RunStatus.{outcome_status}
use Rattle.boxglue_calls.proofs.StatusLaws.{run_status_is}
use Rattle.boxglue_calls.proofs.runs.run_job.Goals as goal

pub returns-in-Some : goal.returns-in-Some
returns-in-Some c =
    let ran = rw c.in-Ok.is at c.run_whole.ensures.ran in (
      ran.0,
      ran.1,
      same_run _ _ _ _ _ _ _ _ _ _ _ _ (sym (ap (λ (m : MemoryState). m.failures) c.new.ensures)) refl refl refl refl (ran.2, ran.3),
      if_some c.in-Ok.whole.answers c.in-Some.answers _ c.in-Some.is ran.5,
      c.outcome_status.ensures ∙ (ap outcome_status ran.6 ∙ run_status_is ran.0 ran.1),
    )
