-- Whole scripts that are replied to in rows (own).
use Rattle.std.proofs.Common.{◌≡◌, ◌++◌, ◌∷◌, ℕ, List, [], length, Result, Some, inl, inr, sym, ap, ◌∙◌, subst}
use Rattle.tfm_core.specs.NamedBytes.{NamedBytes}
use Rattle.job_machine.specs.declared.replies.Refusal.{Refusal}
use Rattle.page_core.specs.declared.summary.Summary.{Summary}
use Rattle.job_machine.specs.Reply.{Reply}
use Rattle.boxglue_script.specs.declared.script.Line.{Line}
use Rattle.boxglue_script.specs.Script.{IsScript}
use Rattle.job_core.specs.Headline.{WasRunAndSent}
use Rattle.boxglue_program.specs.Runs.{commands_of, line_numbers}
use Rattle.boxglue_calls.specs.RunStatus.{run_status}
use Rattle.boxglue_calls.proofs.StatusLaws.{IsDone, run_done}
use Rattle.boxglue_calls.specs.Rows.{end_row, reply_rows}
use Rattle.boxglue_calls.specs.Whole.{IsReplied}
use Rattle.boxglue_calls.specs.declared.jobs.rows.ReplyRow.{ReplyRow}

-- The replies to the lines of a script are those to the script.
pub replied_script : (script : List ℕ) (files given : List NamedBytes) (lines ran : List Line) (replies : List Reply) (end : Result Summary Refusal) (failures : ℕ) (rows : List ReplyRow) (dvi : List ℕ)
    (status : ℕ) → IsScript script lines → ran ≡ lines → given ≡ files → WasRunAndSent given 0 (commands_of ran) replies end failures (Some dvi) → length replies ≡ length ran
    → rows ≡ reply_rows (line_numbers ran) replies ++ end_row end ∷ [] → status ≡ run_status replies end → IsReplied script files rows dvi status
replied_script script files given lines ran replies end failures rows dvi status is_script lines_are files_are run each rows_are status_is =
    let kept = subst (λ (fs : List NamedBytes). WasRunAndSent fs 0 (commands_of lines) replies end failures (Some dvi)) files_are
    (subst (λ (ls : List Line). WasRunAndSent given 0 (commands_of ls) replies end failures (Some dvi)) lines_are run) in
    inl (record {
      lines = lines;
      replies = replies;
      end = end;
      is_script = is_script;
      failures = failures;
      run = kept.0;
      sent = kept.1;
      each = each ∙ ap length lines_are;
      rows_are = subst (λ (ls : List Line). rows ≡ reply_rows (line_numbers ls) replies ++ end_row end ∷ []) lines_are rows_are;
      status_is = status_is;
    })

pub is_done : (script : List ℕ) (files : List NamedBytes) (rows : List ReplyRow) (dvi : List ℕ) (status : ℕ) → IsReplied script files rows dvi status → IsDone status
is_done script files rows dvi status (inl ran) = subst IsDone (sym ran.status_is) (run_done ran.replies ran.end)
is_done script files rows dvi status (inr refused) = inr (inl refused.status_is)
