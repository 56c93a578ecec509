-- Whole scripts that are replied to in rows (own).
use Rattle.std.specs.Prelude.{◌≡◌, ◌⊎◌, ◌++◌, ℕ, List, [], ◌∷◌, length, Some, Result}
use Rattle.tfm_core.specs.NamedBytes.{NamedBytes}
use Rattle.job_machine.specs.declared.replies.Refusal.{Refusal}
use Rattle.page_core.specs.declared.summary.Summary.{Summary}
use Rattle.job_machine.specs.Reply.{Reply}
use Rattle.boxglue_script.specs.declared.cause.Cause.{Cause}
use Rattle.boxglue_script.specs.declared.script.Line.{Line}
use Rattle.boxglue_script.specs.Script.{IsScript, IsFirstBad}
use Rattle.job_core.specs.Headline.{WasRun}
use Rattle.job_core.specs.Sent.{WasSent}
use Rattle.boxglue_program.specs.Runs.{commands_of, line_numbers}
use Rattle.boxglue_calls.specs.RunStatus.{run_status}
use Rattle.boxglue_calls.specs.Rows.{bad_row, end_row, reply_rows}
use Rattle.boxglue_calls.specs.declared.jobs.rows.ReplyRow.{ReplyRow}

-- A script was run on a new job with these font files and a device in memory, which then held these bytes. The rows are those of its replies
-- and, the last, of its end.
pub record RepliesToScript (script : List ℕ) (files : List NamedBytes) (rows : List ReplyRow) (dvi : List ℕ) (status : ℕ) : Type 0 where
  pub lines : List Line
  pub replies : List Reply
  pub end : Result Summary Refusal
  pub is_script : IsScript script lines
  pub failures : ℕ
  pub run : WasRun files 0 (commands_of lines) replies end failures (Some dvi)
  pub sent : WasSent run.middle run.last end (Some dvi)
  pub each : length replies ≡ length lines
  pub rows_are : rows ≡ reply_rows (line_numbers lines) replies ++ end_row end ∷ []
  pub status_is : status ≡ run_status replies end

-- A script is bad: the one row says so, there are no bytes, and the status is 1.
pub record RefusesScript (script : List ℕ) (rows : List ReplyRow) (dvi : List ℕ) (status : ℕ) : Type 0 where
  pub number : ℕ
  pub cause : Cause
  pub bad : IsFirstBad script number cause
  pub rows_are : rows ≡ bad_row number cause ∷ []
  pub none : dvi ≡ []
  pub status_is : status ≡ 1

-- The rows, the bytes and the status of a whole script with these font files.
abbrev pub IsReplied : (script : List ℕ) → (files : List NamedBytes) → (rows : List ReplyRow) → (dvi : List ℕ) → (status : ℕ) → Type 0
IsReplied script files rows dvi status = RepliesToScript script files rows dvi status ⊎ RefusesScript script rows dvi status
