-- The run of a whole job, and what is known of each such run.
use Rattle.std.proofs.Common.{◌≡◌, ◌++◌, List, ap, subst, sym, ◌∙◌}
use Rattle.dvi_device.specs.Pasts.{KeepsPast}
use Rattle.job_machine.specs.Machine.{Machine}
use Rattle.job_machine.specs.Reply.{Reply}
use Rattle.job_core.specs.Jobs.{RunsTo, due_bytes}
use Rattle.job_core.specs.Sent.{WasSent}
use Rattle.job_core.proofs.WholeRuns.{job_run, known_in_each}
use Rattle.job_core.proofs.whole_job.run_commands.Goals as goal

pub returns : goal.returns
returns g c =
    let d = g.D.Device in
    let job = c.in_ok-job.job in
    let result = c.finish-end.result in
    let device = c.into_device.result in
    let replies = c.run.new.replies.items in
    let ran = c.in-Ok-run.ensures.ran in
    let end = c.finish-end.ensures in
    let all : replies ≡ ran.0 = ran.1 ∙ ap (λ (before : List Reply). before ++ ran.0) c.in-Ok.ensures.items in
    let runs = subst (λ (added : List Reply). RunsTo job c.args.commands.now added c.run.new.self) (sym all) ran.2 in
    let known = job_run c.args.files.now c.args.commands.now replies result job c.run.new.self c.finish-end.new.self (d.failed c.args.device) (d.failed device)
    (d.bytes_written device) (d.past c.args.device) (d.past device) c.in_ok-job.ensures.ok runs end.finished end.file end.dvi end.end end.size end.count end.part
    (end.goes_on.began ∙ c.in-Ok-run.ensures.goes_on.began) (sym c.in_ok-job.ensures.made.failed) c.into_device.ensures.failed
    c.into_device.ensures.bytes_written c.in_ok-job.ensures.made.began c.into_device.ensures.past in
    record {
      headline = known.0;
      sent = λ run. known_in_each _ _ _ _ _ _ _ (λ (m l : Machine). WasSent m l result (d.bytes_written device)) known.0 run known.1.0;
      past = λ run. known_in_each _ _ _ _ _ _ _ (λ (m l : Machine). KeepsPast (d.past c.args.device) (due_bytes l) (d.past device)) known.0 run known.1.1;
      none = tt;
    }
