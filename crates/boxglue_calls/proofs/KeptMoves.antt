-- What is kept after a piece, and after the end (own).
use Rattle.std.proofs.Common.{◌≡◌, ◌≢◌, ◌<◌, ◌^◌, ◌++◌, ℕ, Bool, false, true, List, length, Result, Ok, Err, is_ok, OnOk, OnErr, IfOk, IfErr, IfSome, inl, inr, refl, sym, ap, ◌∙◌, subst}
use Rattle.std.specs.Prelude.{if◌then◌else◌}
use Rattle.job_machine.specs.declared.command.Command.{Command}
use Rattle.job_machine.specs.declared.replies.Refusal.{Refusal}
use Rattle.job_machine.specs.declared.replies.Refusal.TheVariants as refusals
use Rattle.page_core.specs.declared.summary.Summary.{Summary}
use Rattle.job_machine.specs.Reply.{Reply}
use Rattle.dvi_write.specs.Layout.{whole}
use Rattle.job_machine.specs.Machine.{Machine}
use Rattle.dvi_write.specs.Writing.{GoesOn}
use Rattle.job_core.specs.Jobs.{JobView, Represents, RunsTo, FinishesTo, IsProperFrontOf, writing_of}
use Rattle.job_core.specs.Shown.{FilesPages}
use Rattle.job_core.specs.Closing.{ClosesFile}
use Rattle.boxglue_script.specs.declared.script.Line.{Line}
use Rattle.boxglue_script.specs.Script.{IsScript}
use Rattle.boxglue_program.specs.Runs.{commands_of, line_numbers}
use Rattle.boxglue_program.specs.Texts.{answer_lines, end_line}
use Rattle.boxglue_calls.specs.Jobs.{KeptState}
use Rattle.boxglue_calls.specs.Numbers.{number_after, numbered_lines, line_count}
use Rattle.boxglue_calls.specs.Buffers.{Holds}
use Rattle.boxglue_calls.specs.RunStatus.{replies_status, reply_status}
use Rattle.boxglue_calls.specs.Pieces.{Answers, EndsJob, FinishesKept, RunsLines, RunsPiece}
use Rattle.boxglue_calls.specs.Replies.{RepliesToPiece}
use Rattle.boxglue_calls.specs.Rows.{reply_rows}
use Rattle.boxglue_calls.specs.declared.jobs.rows.ReplyRow.{ReplyRow}
use Rattle.boxglue_calls.proofs.PieceLaws.{commands_numbered, length_numbered}

-- Numbered lines that were run.
abbrev pub ran_lines : (old new : KeptState) (job : JobView) (script : List ℕ) (lines counted : List Line) (replies : List Reply)
    → counted ≡ numbered_lines old.lines lines → IsScript script lines → RunsTo old.job (commands_of counted) replies job → (old.job.state.over ≡ true → job ≡ old.job) → GoesOn (writing_of old.job) (writing_of job) → length replies ≡ length counted
    → new.job ≡ job → new.lines ≡ number_after old.lines (line_count script) → new.taken ≡ old.taken → RunsLines old script new
ran_lines old new job script lines counted replies is piece ran idle goes each job_is lines_is taken_is = record {
  lines = lines;
  replies = replies;
  piece = piece;
  ran = subst (λ (j : JobView). RunsTo old.job (commands_of lines) replies j) (sym job_is)
      (subst (λ (cs : List Command). RunsTo old.job cs replies job) (ap commands_of is ∙ commands_numbered old.lines lines) ran);
  idle = λ over. job_is ∙ idle over;
  goes_on = subst (λ (j : JobView). GoesOn (writing_of old.job) (writing_of j)) (sym job_is) goes;
  each = each ∙ ap length is ∙ length_numbered old.lines lines;
  counted = lines_is;
  taken = taken_is;
}

-- Answers that were kept, or lost.
pub kept_answers : (old new text : List ℕ) (kept : Bool) (done status : ℕ) → (kept ≡ true → new ≡ old ++ text) → (kept ≡ false → new ≡ old) → status ≡ (if kept then done else 10)
    → Answers old new text done status
kept_answers old new text true done status added cut is = inl (added refl, is)
kept_answers old new text false done status added cut is = inr (cut refl, is)

-- The same of an answer that was appended, or for which memory was refused.
pub appended_answer : {A E : Type 0} (r : Result A E) (old new text : List ℕ) (kept : Bool) (done status : ℕ) → kept ≡ is_ok r → OnOk r (new ≡ old ++ text) → OnErr r (new ≡ old)
    → status ≡ (if kept then done else 10) → Answers old new text done status
appended_answer (Ok x) old new text kept done status is added cut status_is = inl (added, status_is ∙ ap (λ (b : Bool). if b then done else 10) is)
appended_answer (Err e) old new text kept done status is added cut status_is = inr (cut, status_is ∙ ap (λ (b : Bool). if b then done else 10) is)

-- Numbered lines that were run and answered are a piece that was run.
pub ran_piece : (old new : KeptState) (job : JobView) (script : List ℕ) (lines counted : List Line) (replies : List Reply) (done status : ℕ)
    → counted ≡ numbered_lines old.lines lines → IsScript script lines → RunsTo old.job (commands_of counted) replies job → (old.job.state.over ≡ true → job ≡ old.job) → GoesOn (writing_of old.job) (writing_of job) → length replies ≡ length counted
    → new.job ≡ job → new.lines ≡ number_after old.lines (line_count script) → new.taken ≡ old.taken
    → Answers old.answers new.answers (answer_lines (line_numbers counted) replies) done status → done ≡ replies_status replies → RunsPiece old script new status
ran_piece old new job script lines counted replies done status is piece ran idle goes each job_is lines_is taken_is answered done_is = record {
  run = ran_lines old new job script lines counted replies is piece ran idle goes each job_is lines_is taken_is;
  answered = subst (λ (n : ℕ). Answers old.answers new.answers (answer_lines (line_numbers (numbered_lines old.lines lines)) replies) n status) done_is
      (subst (λ (ls : List Line). Answers old.answers new.answers (answer_lines (line_numbers ls) replies) done status) is answered);
}

-- Numbered lines that were run, and whose rows were written, are a piece that was run.
pub replied_piece : (old new : KeptState) (job : JobView) (script : List ℕ) (lines counted : List Line) (replies : List Reply) (rows_old rows_new : List ReplyRow) (status : ℕ)
    → counted ≡ numbered_lines old.lines lines → IsScript script lines → RunsTo old.job (commands_of counted) replies job → (old.job.state.over ≡ true → job ≡ old.job) → GoesOn (writing_of old.job) (writing_of job) → length replies ≡ length counted
    → new.job ≡ job → new.lines ≡ number_after old.lines (line_count script) → new.taken ≡ old.taken
    → Holds rows_old rows_new (reply_rows (line_numbers counted) replies) → status ≡ replies_status replies → new.answers ≡ old.answers
    → (count : ℕ) → RepliesToPiece script (record { rows = rows_old; count = count }) (record { rows = rows_new; count = length lines }) old new status
replied_piece old new job script lines counted replies rows_old rows_new status is piece ran idle goes each job_is lines_is taken_is written status_is answers_are count = record {
  run = ran_lines old new job script lines counted replies is piece ran idle goes each job_is lines_is taken_is;
  written = subst (λ (ls : List Line). Holds rows_old rows_new (reply_rows (line_numbers ls) replies)) is written;
  count_is = refl;
  status_is = status_is;
  answers = answers_are;
}

-- A job that was finished, or whose end was refused.
abbrev pub ended_job : (old new : KeptState) (job : JobView) (end : Result Summary Refusal)
    → FinishesTo old.job end job → IfErr end (λ refusal. refusal ≢ refusals.Device → job ≡ old.job) → (old.job.state.over ≡ true → job ≡ old.job) → FilesPages old.job end job → ClosesFile old.job end job
    → ((m : Machine) → Represents old.job m → OnOk end (IfSome job.bytes_written (λ bytes. bytes ≡ whole m.state.fonts m.pages)))
    → IfOk end (λ summary. (m : Machine) → Represents old.job m → IfSome job.bytes_written (λ bytes. summary.bytes ≡ length bytes))
    → IfOk end (λ summary. (m : Machine) → Represents old.job m → summary.bytes ≡ length (whole m.state.fonts m.pages))
    → IfOk end (λ summary. summary.bytes < 2 ^ 31)
    → (end ≡ Err refusals.Device → (m : Machine) → Represents old.job m → IfSome job.bytes_written (λ bytes. IsProperFrontOf bytes (whole m.state.fonts m.pages)))
    → GoesOn (writing_of old.job) (writing_of job)
    → new.job ≡ job → new.lines ≡ old.lines → new.taken ≡ old.taken → EndsJob old new
ended_job old new job end finished same idle dvi closed file size count small part goes job_is lines_is taken_is = record {
  end = end;
  finished = subst (λ (j : JobView). FinishesTo old.job end j) (sym job_is) finished;
  same = subst (λ (j : JobView). IfErr end (λ refusal. refusal ≢ refusals.Device → j ≡ old.job)) (sym job_is) same;
  idle = λ over. job_is ∙ idle over;
  dvi = subst (λ (j : JobView). FilesPages old.job end j) (sym job_is) dvi;
  closed = subst (λ (j : JobView). ClosesFile old.job end j) (sym job_is) closed;
  file = subst (λ (j : JobView). (m : Machine) → Represents old.job m → OnOk end (IfSome j.bytes_written (λ bytes. bytes ≡ whole m.state.fonts m.pages))) (sym job_is) file;
  size = subst (λ (j : JobView). IfOk end (λ summary. (m : Machine) → Represents old.job m → IfSome j.bytes_written (λ bytes. summary.bytes ≡ length bytes))) (sym job_is) size;
  count = count;
  small = small;
  part = subst (λ (j : JobView). end ≡ Err refusals.Device → (m : Machine) → Represents old.job m → IfSome j.bytes_written (λ bytes. IsProperFrontOf bytes (whole m.state.fonts m.pages)))
      (sym job_is) part;
  goes_on = subst (λ (j : JobView). GoesOn (writing_of old.job) (writing_of j)) (sym job_is) goes;
  lines = lines_is;
  taken = taken_is;
}

-- The end was answered.
pub finished_kept : (old new : KeptState) (ended : EndsJob old new) (done status : ℕ) → Answers old.answers new.answers (end_line ended.end) done status → done ≡ reply_status ended.end
    → FinishesKept old new status
finished_kept old new ended done status answered done_is = record {
  ended = ended;
  answered = subst (λ (n : ℕ). Answers old.answers new.answers (end_line ended.end) n status) done_is answered;
}
