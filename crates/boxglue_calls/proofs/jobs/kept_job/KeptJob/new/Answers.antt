-- The first job.
use Rattle.std.proofs.Common.{Some, refl, ap, ◌∙◌}
use Rattle.dvi_device.specs.Held.{MemoryState}
use Rattle.boxglue_calls.proofs.jobs.kept_job.KeptJob.new.Goals as goal

pub returns-in-Ok : goal.returns-in-Ok
returns-in-Ok c = record {
  represents = c.in-Ok.ensures.ok;
  silent = c.in-Ok.ensures.made.bytes_written ∙ ap (λ (m : MemoryState). Some m.bytes) c.new.ensures;
  failed = c.in-Ok.ensures.made.failed ∙ ap (λ (m : MemoryState). m.failures) c.new.ensures;
  lines = refl;
  answers = c.new-in-Ok.ensures.items;
  taken = refl;
}
