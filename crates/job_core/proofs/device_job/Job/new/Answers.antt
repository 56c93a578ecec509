use Rattle.job_machine.specs.State.{first_state}
use Rattle.job_core.proofs.BoundedFiles.{bounded_first}
use Rattle.job_core.proofs.NewJobs.{new_holds, new_sound}
use Rattle.job_core.proofs.device_job.Job.new.Goals as goal

pub invariant_of-result : goal.invariant_of-result
invariant_of-result g c =
    let fonts = c.in-Ok.state.fonts in
    (new_sound c.args.files.now c.in-Ok.state c.in-Ok.ensures, λ running. bounded_first fonts (g.D.Device.bytes_written c.args.device) c.new-2.result (c.new-2.ensures.written fonts))

pub returns-clause-ok : goal.returns-clause-ok
returns-clause-ok g c =
    let fonts = (first_state c.args.files.now).fonts in
    new_holds c.args.files.now (g.D.Device.bytes_written c.args.device) c.in-Ok.state c.new-2.result c.requires.fresh c.in-Ok.ensures (c.new-2.ensures.written fonts)

pub returns-clause-made : goal.returns-clause-made
returns-clause-made g c = record { bytes_written = c.new-2.ensures.made.bytes_written; failed = c.new-2.ensures.made.failed; began = c.new-2.ensures.made.began }
