-- What the calls on a kept job do whose replies are rows of numbers (own).
use Rattle.std.specs.Prelude.{◌≡◌, ◌<◌, ◌⊎◌, ℕ, List, [], ◌∷◌, length}
use Rattle.boxglue_script.specs.declared.cause.Cause.{Cause}
use Rattle.boxglue_script.specs.declared.script.Line.{Line}
use Rattle.boxglue_script.specs.Script.{IsScript, IsFirstBad, IsRightSoFar}
use Rattle.boxglue_program.specs.Runs.{line_numbers}
use Rattle.boxglue_calls.specs.Buffers.{Holds}
use Rattle.boxglue_calls.specs.RunStatus.{replies_status, reply_status}
use Rattle.boxglue_calls.specs.Jobs.{KeptState}
use Rattle.boxglue_calls.specs.Numbers.{number_after, numbered_lines}
use Rattle.boxglue_calls.specs.Pieces.{RunsLines, EndsJob}
use Rattle.boxglue_calls.specs.Rows.{bad_row, end_row, reply_rows}
use Rattle.boxglue_calls.specs.declared.jobs.rows.ReplyRow.{ReplyRow}

-- The buffer of a caller for rows, and the number that goes out beside them.
pub record RowBuffer : Type 0 where
  pub rows : List ReplyRow
  pub count : ℕ

abbrev pub row_space : List ReplyRow → ℕ → RowBuffer
row_space rows count = record { rows = rows; count = count }

-- The lines of a piece of a script were run, and the buffer begins with the rows of the replies. The lines are numbered after those of the pieces
-- before. The status is that of the replies.
pub record RepliesToPiece (script : List ℕ) (before after : RowBuffer) (old new : KeptState) (status : ℕ) : Type 0 where
  pub run : RunsLines old script new
  pub written : Holds before.rows after.rows (reply_rows (line_numbers (numbered_lines old.lines run.lines)) run.replies)
  pub count_is : after.count ≡ length run.lines
  pub status_is : status ≡ replies_status run.replies
  pub answers : new.answers ≡ old.answers

-- A piece is bad: one row says so, the job is as it was, and the status is 1.
pub record RefusesPieceInRow (script : List ℕ) (before after : RowBuffer) (old new : KeptState) (status : ℕ) : Type 0 where
  pub number : ℕ
  pub cause : Cause
  pub bad : IsFirstBad script number cause
  pub written : Holds before.rows after.rows (bad_row (number_after old.lines number) cause ∷ [])
  pub count_is : after.count ≡ 1
  pub same : new ≡ old
  pub status_is : status ≡ 1

-- How many rows a piece of a script needs: one for each line with a command; or it is bad, and needs one.
abbrev pub NeedsRows : (script : List ℕ) → (count : ℕ) → Type 0
NeedsRows script count =
    ((lines : List Line) × IsScript script lines × (count ≡ length lines))
    ⊎ ((number : ℕ) × (cause : Cause) × IsFirstBad script number cause × (count ≡ 1))

-- A piece needs more rows than there is space for: no line was run, nothing changes but the count, which says how many it needs, and the status is 4.
pub record LacksRows (script : List ℕ) (before after : RowBuffer) (old new : KeptState) (status : ℕ) : Type 0 where
  pub needs : NeedsRows script after.count
  pub small : length before.rows < after.count
  pub rows : after.rows ≡ before.rows
  pub same : new ≡ old
  pub status_is : status ≡ 4

-- Memory was refused while a piece was read, at a line that gives a command, before a line was run: nothing changed, and the status is 2.
pub record LacksMemoryForPiece (script : List ℕ) (before after : RowBuffer) (old new : KeptState) (status : ℕ) : Type 0 where
  pub right : IsRightSoFar script
  pub same : new ≡ old
  pub rows : after ≡ before
  pub status_is : status ≡ 2

-- A piece of a script was run; or is bad; or there is no space for its rows; or memory was refused for its commands.
abbrev pub RepliesTo : (script : List ℕ) → (before after : RowBuffer) → (old new : KeptState) → (status : ℕ) → Type 0
RepliesTo script before after old new status =
    RepliesToPiece script before after old new status ⊎ RefusesPieceInRow script before after old new status
    ⊎ LacksRows script before after old new status ⊎ LacksMemoryForPiece script before after old new status

-- The job was finished, or its end was refused, and the row is that of this reply.
pub record RepliesToEnd (row : ReplyRow) (old new : KeptState) (status : ℕ) : Type 0 where
  pub ended : EndsJob old new
  pub row_is : row ≡ end_row ended.end
  pub status_is : status ≡ reply_status ended.end
  pub answers : new.answers ≡ old.answers
