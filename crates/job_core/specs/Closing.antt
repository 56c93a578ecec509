-- How the finished file of a job ends (own).
use Rattle.std.specs.Prelude.{◌≢◌, [], Result, OnOk, IfSome}
use Rattle.job_machine.specs.declared.replies.Refusal.{Refusal}
use Rattle.page_core.specs.declared.summary.Summary.{Summary}
use Rattle.dvi_write.specs.Closing.{IsClosedFor}
use Rattle.job_machine.specs.Machine.{Machine}
use Rattle.job_core.specs.Jobs.{JobView, Represents}

-- If the end succeeds, the bytes that the device reports are closed for the pages of each machine that the job represented, unless there are none
-- (own).
abbrev pub ClosesFile : JobView → Result Summary Refusal → JobView → Type 0
ClosesFile old result new =
    (m : Machine) → Represents old m → m.pages ≢ [] → OnOk result (IfSome new.bytes_written (λ bytes. IsClosedFor m.state.fonts bytes m.pages))
