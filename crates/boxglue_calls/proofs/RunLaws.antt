-- A run that is handed over.
use Rattle.std.proofs.Common.{◌≡◌, ◌∙◌, ℕ, List, length, Result, Ok, Err, IfOk, Some, inl, inr, refl, sym, ap, subst}
use Rattle.tfm_core.specs.NamedBytes.{NamedBytes}
use Rattle.job_machine.specs.declared.replies.Refusal.{Refusal}
use Rattle.page_core.specs.declared.summary.Summary.{Summary}
use Rattle.job_machine.specs.Reply.{Reply}
use Rattle.boxglue_script.specs.declared.script.Line.{Line}
use Rattle.boxglue_script.specs.Script.{IsScript}
use Rattle.job_core.specs.Headline.{WasRunAndSent}
use Rattle.boxglue_program.specs.Reports.{any_bytes, written_bytes}
use Rattle.boxglue_program.specs.Runs.{commands_of, is_accepted, line_numbers}
use Rattle.boxglue_program.specs.Texts.{answers_text}
use Rattle.boxglue_program.proofs.RunLaws.{script_unsaid}
use Rattle.boxglue_calls.specs.Buffers.{HandsOverBoth}
use Rattle.boxglue_calls.specs.RunStatus.{run_status}
use Rattle.boxglue_calls.specs.Runs.{HandsOverRun, IsRun}
use Rattle.boxglue_calls.proofs.StatusLaws.{IsDone, run_done}

pub handed_run : {A : Type 0} (Is : (answers : List A) → (dvi : List ℕ) → (done : ℕ) → Type 0) (old new : List A) (dvi_old dvi_new : List ℕ) (sizes : ℕ × ℕ) (done status : ℕ)
    (answers : List A) (dvi : List ℕ) (put : List A) (sent : List ℕ) → Is answers dvi done → put ≡ answers → sent ≡ dvi
    → HandsOverBoth (record { old = old; new = new; items = put }) (record { old = dvi_old; new = dvi_new; items = sent }) done status → sizes.0 ≡ length answers → sizes.1 ≡ length sent
    → HandsOverRun Is old new dvi_old dvi_new sizes status
handed_run {A = A} Is old new dvi_old dvi_new sizes done status answers dvi put sent run put_is sent_is handed answers_size dvi_size =
    record {
      answers = answers;
      dvi = dvi;
      done = done;
      run = run;
      handed =
          subst (λ (items : List A). HandsOverBoth (record { old = old; new = new; items = items }) (record { old = dvi_old; new = dvi_new; items = dvi }) done status) put_is
          (subst (λ (bytes : List ℕ). HandsOverBoth (record { old = old; new = new; items = put }) (record { old = dvi_old; new = dvi_new; items = bytes }) done status) sent_is handed);
      answers_size = answers_size;
      dvi_size = dvi_size ∙ ap (λ (bytes : List ℕ). length bytes) sent_is;
    }

pub if_ok : {A E : Type 0} {P Q : A → Type 0} (result : Result A E) → ((x : A) → P x → Q x) → IfOk result P → IfOk result Q
if_ok (Ok x) f h = f x h
if_ok (Err error) f h = h

-- A run of the lines of a script is a run of the script.
pub ran_script : (text : List ℕ) (files given : List NamedBytes) (lines ran : List Line) (replies : List Reply) (end : Result Summary Refusal) (failures : ℕ) (answers dvi : List ℕ) (status : ℕ)
    → IsScript text lines → ran ≡ lines → given ≡ files → WasRunAndSent given 0 (commands_of ran) replies end failures (Some dvi) → answers ≡ answers_text (line_numbers ran) replies end
    → status ≡ run_status replies end → IsRun written_bytes text files answers dvi status
ran_script text files given lines ran replies end failures answers dvi status script lines_are files_are run answer_is status_is =
    let kept = subst (λ (fs : List NamedBytes). WasRunAndSent fs 0 (commands_of lines) replies end failures (Some dvi)) files_are
    (subst (λ (ls : List Line). WasRunAndSent given 0 (commands_of ls) replies end failures (Some dvi)) lines_are run) in
    inl (
      failures,
      is_accepted replies end,
      record {
        lines = lines;
        replies = replies;
        end = end;
        script = script;
        run = kept.0;
        sent = kept.1;
        answer_is = subst (λ (ls : List Line). answers ≡ answers_text (line_numbers ls) replies end) lines_are answer_is;
        fine_is = refl;
      },
      status_is,
    )

-- A run of which the rules of the writer say more is one of which nothing more is said.
pub run_unsaid : (text : List ℕ) (files : List NamedBytes) (answers dvi : List ℕ) (status : ℕ) → IsRun written_bytes text files answers dvi status
    → IsRun any_bytes text files answers dvi status
run_unsaid text files answers dvi status (inl (failures, accepted, ran, is)) =
    inl (failures, accepted, script_unsaid text files 0 failures (Some dvi) answers accepted ran, is)
run_unsaid text files answers dvi status (inr refused) = inr refused

-- The status of a run is that of one that was done.
pub is_done : (text : List ℕ) (files : List NamedBytes) (answers dvi : List ℕ) (status : ℕ) → IsRun written_bytes text files answers dvi status → IsDone status
is_done text files answers dvi status (inl (failures, accepted, ran, is)) = subst IsDone (sym is) (run_done ran.replies ran.end)
is_done text files answers dvi status (inr (accepted, refused, none, is)) = inr (inl is)
