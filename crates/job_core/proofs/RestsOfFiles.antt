-- A job over a device that continues a file whose beginning was sent before.
use Rattle.std.proofs.Common.{◌≡◌, ◌≤◌, ◌+◌, ◌⊎◌, inl, inr, List, ℕ, length, drop, Option, Some, Result, Ok, Err, refl, ap, sym, ◌∙◌, subst, arith}
use Rattle.std.specs.Prelude.{IfSome, OnOk}
use Rattle.std.proofs.Math.Seq.{take-length}
use Rattle.job_machine.specs.declared.replies.Refusal.{Refusal}
use Rattle.job_machine.specs.declared.replies.Refusal.TheVariants.{Device}
use Rattle.page_core.specs.declared.summary.Summary.{Summary}
use Rattle.dvi_device.specs.Written.{written_then, IsFrontOf}
use Rattle.dvi_device.specs.Beginnings.{Beginning}
use Rattle.dvi_device.specs.Pasts.{Past, Differs, KeepsPast}
use Rattle.dvi_device.specs.Resumed.{PassesOn}
use Rattle.dvi_device.proofs.PastLaws.{no_difference}
use Rattle.dvi_write.specs.Layout.{whole}
use Rattle.job_machine.specs.Machine.{Machine}
use Rattle.job_machine.specs.Runs.{Finishes, Finished, Refuses, WantsMemory, LostDevice}
use Rattle.job_machine.proofs.Refusals.{device_counted}
use Rattle.job_core.specs.Jobs.{JobView, due_bytes, Represents, FinishesTo}
use Rattle.job_core.proofs.Moves.{due_landed}
use Rattle.job_core.proofs.Endings.{runs_by}

-- What was sent before an end, what the device that took it had reported then, and how often it had failed.
abbrev pub beginning : List ℕ → Option (List ℕ) → ℕ → Beginning
beginning sent start failed = record { sent = sent; bytes_written = start; failed = failed }

-- After an end that succeeds the inner device has the whole file, if it had reported exactly what was sent before, and this is a beginning of the file.
pub completed : (end : Result Summary Refusal) (seen bytes_written start inner : Option (List ℕ)) (sent whole : List ℕ) (failed : ℕ) (began : Beginning)
    → OnOk end (IfSome seen (λ bytes. bytes ≡ whole)) → bytes_written ≡ seen → beginning sent start failed ≡ began → began.bytes_written ≡ Some began.sent → IsFrontOf began.sent whole
    → (IfSome bytes_written (λ bytes. bytes ≡ whole) → IsFrontOf sent whole → start ≡ Some sent → inner ≡ Some whole) → OnOk end (inner ≡ Some whole)
completed (Ok summary) seen bytes_written start inner sent whole failed began file same is had front got =
    let sent_is : sent ≡ began.sent = ap (λ (b : Beginning). b.sent) is in
    let start_is : start ≡ began.bytes_written = ap (λ (b : Beginning). b.bytes_written) is in
    got (subst (λ (t : Option (List ℕ)). IfSome t (λ bytes. bytes ≡ whole)) (sym same) file) (subst (λ (s : List ℕ). IsFrontOf s whole) (sym sent_is) front)
    (start_is ∙ (had ∙ ap Some (sym sent_is)))
completed (Err refusal) seen bytes_written start inner sent whole failed began file same is had front got = tt

-- What was passed on, by what was sent and reported before the job.
pub passed_on : (seen bytes_written start inner : Option (List ℕ)) (sent : List ℕ) (failed : ℕ) (began : Beginning)
    → bytes_written ≡ seen → beginning sent start failed ≡ began → PassesOn sent start inner bytes_written → PassesOn began.sent began.bytes_written inner seen
passed_on seen bytes_written start inner sent failed began same is passes =
    subst (λ (b : Beginning). PassesOn b.sent b.bytes_written inner seen) is (subst (PassesOn sent start inner) same passes)

-- After an end that succeeds the inner device has got the rest of the file, if what was sent before is a beginning of the file.
pub rest_completed : (end : Result Summary Refusal) (seen bytes_written start inner : Option (List ℕ)) (sent whole : List ℕ) (failed : ℕ) (began : Beginning)
    → OnOk end (IfSome seen (λ bytes. bytes ≡ whole)) → bytes_written ≡ seen → beginning sent start failed ≡ began → IsFrontOf began.sent whole
    → (IfSome bytes_written (λ bytes. bytes ≡ whole) → IsFrontOf sent whole → inner ≡ written_then start (drop (length sent) whole))
    → OnOk end (inner ≡ written_then began.bytes_written (drop (length began.sent) whole))
rest_completed (Ok summary) seen bytes_written start inner sent whole failed began file same is front got =
    let sent_is : sent ≡ began.sent = ap (λ (b : Beginning). b.sent) is in
    let rest = got (subst (λ (t : Option (List ℕ)). IfSome t (λ bytes. bytes ≡ whole)) (sym same) file) (subst (λ (s : List ℕ). IsFrontOf s whole) (sym sent_is) front) in
    subst (λ (b : Beginning). inner ≡ written_then b.bytes_written (drop (length b.sent) whole)) is rest
rest_completed (Err refusal) seen bytes_written start inner sent whole failed began file same is front got = tt

-- Bytes that begin one file have no difference, so there is no own failure.
pub none_differ : (began past : Past) (bytes file : List ℕ) → KeepsPast began bytes past → IsFrontOf began.left file → IsFrontOf bytes file → past.differing ≡ began.differing
none_differ began past bytes file keeps front goes = by_case keeps.own
  where
    by_case : (past.differing ≡ began.differing) ⊎ ((past.differing ≡ began.differing + 1) × Differs began.left bytes) → past.differing ≡ began.differing
    by_case (inl same) = same
    by_case (inr (more, apart)) = absurd (no_difference began.left bytes file front goes apart)

-- Own failures are only added.
at_least : (began past : Past) (bytes : List ℕ) → KeepsPast began bytes past → began.differing ≤ past.differing
at_least began past bytes keeps = by_case keeps.own
  where
    by_case : (past.differing ≡ began.differing) ⊎ ((past.differing ≡ began.differing + 1) × Differs began.left bytes) → began.differing ≤ past.differing
    by_case (inl same) = omega (arith, same)
    by_case (inr (more, apart)) = omega (arith, more)

-- The end does not fail for the device if the inner one has failed as often as before.
pub no_device : (job ended : JobView) (end : Result Summary Refusal) (inner : ℕ) (m : Machine) → FinishesTo job end ended → ended.began ≡ job.began → ended.failed ≡ inner + ended.past.differing
    → Represents job m → IsFrontOf job.began.left (whole m.state.fonts m.pages) → inner + job.past.differing ≡ job.failed → end ≡ Err Device → ⊥
no_device job ended end inner m finishes began counts holds front before is =
    let last = finishes m holds in
    by_end last.0 last.2 (subst (λ (r : Result Summary Refusal). Finishes m job.failed r last.0 ended.failed) is last.1)
  where
    by_end : (next : Machine) → Represents ended next → Finishes m job.failed (Err Device) next ended.failed → ⊥
    by_end next over (Finished summary says may pages goes fails) = cc
    by_end next over (Refuses refusal says may goes fails) = omega (arith, device_counted m next job.failed ended.failed (Refuses refusal says may goes fails), fails)
    by_end next over (WantsMemory says may pages goes fails) = cc
    by_end next over (LostDevice says may pages goes fails) =
        let all = whole m.state.fonts m.pages in
        let all_due : all ≡ due_bytes next = due_landed m m.flight (holds.none (runs_by m.state m.state.over refl may)) ∙ ap due_bytes (sym goes) in
        let same = none_differ ended.began ended.past (due_bytes next) all over.past (subst (λ (p : Past). IsFrontOf p.left all) (sym began) front) (length all, sym all_due ∙ sym (take-length all)) in
        let first : ended.began.differing ≡ job.began.differing = ap (λ (p : Past). p.differing) began in
        omega (arith, fails, counts, before, same, first, at_least job.began job.past (due_bytes m) holds.past)
