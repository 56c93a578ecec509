-- A job that is kept between calls (own).
use Rattle.std.specs.Prelude.{◌≡◌, ◌++◌, ℕ, List, [], length, Option, Some, None}
use Rattle.tfm_core.specs.NamedBytes.{NamedBytes}
use Rattle.job_machine.specs.Machine.{first_machine}
use Rattle.job_core.specs.Jobs.{JobView, Represents}

-- What is kept: the job; how many lines the pieces had that were run; the answers that were not handed over yet; and how many bytes of the file were
-- handed over.
pub record KeptState : Type 0 where
  pub job : JobView
  pub lines : ℕ
  pub answers : List ℕ
  pub taken : ℕ

-- The bytes that a device has reported.
abbrev pub reported_bytes : Option (List ℕ) → List ℕ
reported_bytes None = []
reported_bytes (Some bytes) = bytes

-- The bytes that a job has sent to its device.
abbrev pub sent_by : JobView → List ℕ
sent_by job = reported_bytes job.bytes_written

-- These are the bytes of the file that were handed over. The job has sent them, and then the rest.
pub record HasHanded (kept : KeptState) (handed : List ℕ) : Type 0 where
  pub rest : List ℕ
  pub sent : sent_by kept.job ≡ handed ++ rest
  pub count : kept.taken ≡ length handed

-- A new job with these font files: nothing was run, and there is nothing to hand over.
pub record IsNewJob (files : List NamedBytes) (new : KeptState) : Type 0 where
  pub represents : Represents new.job (first_machine files)
  pub silent : new.job.bytes_written ≡ Some []
  pub failed : new.job.failed ≡ 0
  pub lines : new.lines ≡ 0
  pub answers : new.answers ≡ []
  pub taken : new.taken ≡ 0
