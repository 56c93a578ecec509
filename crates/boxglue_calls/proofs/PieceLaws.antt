-- Pieces of a script that are run one after the other (own).
use Rattle.std.proofs.Common.{◌≡◌, ◌++◌, ◌∷◌, ℕ, suc, List, [], length, refl, ap, ◌∙◌, arith}
use Rattle.std.proofs.lemmas.List.{append_assoc}
use Rattle.job_machine.specs.declared.command.Command.{Command}
use Rattle.job_machine.specs.Reply.{Reply}
use Rattle.boxglue_script.specs.declared.script.Line.{Line}
use Rattle.boxglue_program.specs.Runs.{commands_of, line_numbers}
use Rattle.boxglue_program.specs.Texts.{answer_line, answer_lines}
use Rattle.boxglue_calls.specs.Numbers.{number_after, numbered_lines}
use Rattle.boxglue_calls.specs.Rows.{reply_row, reply_rows}
use Rattle.boxglue_calls.specs.declared.jobs.rows.ReplyRow.{ReplyRow}

pub commands_joined : (front rest : List Line) → commands_of (front ++ rest) ≡ commands_of front ++ commands_of rest
commands_joined [] rest = refl
commands_joined (line ∷ front) rest = ap (λ (commands : List Command). line.command ∷ commands) (commands_joined front rest)

-- The numbers change no command.
pub commands_numbered : (before : ℕ) (lines : List Line) → commands_of (numbered_lines before lines) ≡ commands_of lines
commands_numbered before [] = refl
commands_numbered before (line ∷ lines) = ap (λ (commands : List Command). line.command ∷ commands) (commands_numbered before lines)

pub length_numbered : (before : ℕ) (lines : List Line) → length (numbered_lines before lines) ≡ length lines
length_numbered before [] = refl
length_numbered before (line ∷ lines) = ap suc (length_numbered before lines)

pub answers_joined : (before middle : ℕ) (front rest : List Line) (replies others : List Reply) → length replies ≡ length front
    → answer_lines (line_numbers (numbered_lines before front)) replies ++ answer_lines (line_numbers (numbered_lines middle rest)) others
    ≡ answer_lines (line_numbers (numbered_lines before front ++ numbered_lines middle rest)) (replies ++ others)
answers_joined before middle [] rest [] others h = refl
answers_joined before middle [] rest (reply ∷ replies) others h = absurd (omega arith)
answers_joined before middle (line ∷ front) rest [] others h = absurd (omega arith)
answers_joined before middle (line ∷ front) rest (reply ∷ replies) others h =
    append_assoc (answer_line (number_after before line.number) reply) (answer_lines (line_numbers (numbered_lines before front)) replies) (answer_lines (line_numbers (numbered_lines middle rest)) others)
    ∙ ap (λ (text : List ℕ). answer_line (number_after before line.number) reply ++ text) (answers_joined before middle front rest replies others (omega (arith, h)))

pub rows_joined : (before middle : ℕ) (front rest : List Line) (replies others : List Reply) → length replies ≡ length front
    → reply_rows (line_numbers (numbered_lines before front)) replies ++ reply_rows (line_numbers (numbered_lines middle rest)) others
    ≡ reply_rows (line_numbers (numbered_lines before front ++ numbered_lines middle rest)) (replies ++ others)
rows_joined before middle [] rest [] others h = refl
rows_joined before middle [] rest (reply ∷ replies) others h = absurd (omega arith)
rows_joined before middle (line ∷ front) rest [] others h = absurd (omega arith)
rows_joined before middle (line ∷ front) rest (reply ∷ replies) others h =
    ap (λ (rows : List ReplyRow). reply_row (number_after before line.number) reply ∷ rows) (rows_joined before middle front rest replies others (omega (arith, h)))
