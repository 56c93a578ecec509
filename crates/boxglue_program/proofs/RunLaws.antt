-- A job that runs the commands of a script and is finished.
use Rattle.std.proofs.Common.{◌≡◌, ◌⊎◌, ◌+◌, ◌∷◌, inl, inr, ℕ, Bool, true, false, List, [], ◌++◌, length, map, take, drop, Option, Some, None, IfSome, Result, Ok, Err, IfOk, OnOk, OnErr, is_err, refl, sym, append_assoc, arith, ◌∙◌, ap, subst, ⊎_elim}
use Rattle.job_machine.specs.declared.command.Command.{Command}
use Rattle.job_machine.specs.declared.replies.Refusal.{Refusal}
use Rattle.job_machine.specs.declared.replies.Refusal.TheVariants as refusals
use Rattle.page_core.specs.declared.summary.Summary.{Summary}
use Rattle.job_machine.specs.Reply.{Reply}
use Rattle.tfm_core.specs.NamedBytes.{NamedBytes}
use Rattle.dvi_device.specs.Written.{written_then, IsFrontOf}
use Rattle.dvi_device.specs.Beginnings.{Beginning}
use Rattle.dvi_device.specs.Pasts.{Past, Differs, KeepsPast, no_past}
use Rattle.dvi_device.specs.Seen.{DeviceView, device_view}
use Rattle.dvi_device.specs.Resumed.{RestState, written_by, began_by, past_by, GoesOnAs, PassesOn}
use Rattle.dvi_device.proofs.PastLaws.{no_difference}
use Rattle.tfm_core.specs.FileWidths.{file_widths}
use Rattle.page_core.specs.Marks.{ShippedPage, read_page}
use Rattle.dvi_ops.specs.File.{IsFileOfPages}
use Rattle.dvi_write.specs.Layout.{whole}
use Rattle.job_machine.specs.Machine.{Machine, first_machine}
use Rattle.job_core.specs.Headline.{WasRun, WasRunAndSent}
use Rattle.job_core.specs.Jobs.{JobView, due_bytes, KeepsTo, RunsTo}
use Rattle.job_core.proofs.Moves.{runs_more}
use Rattle.dvi_device.specs.Held.{MemoryState, new_memory}
use Rattle.job_core.proofs.RestsOfFiles.{beginning, completed, rest_completed, passed_on}
use Rattle.job_core.proofs.LosslessRuns.{run_rises, end_rises, run_kept, end_kept}
use Rattle.std.proofs.lemmas.List.{append-nil, length-append}
use Rattle.std.proofs.Math.Seq.{take-append_seam}
use Rattle.boxglue_script.specs.declared.script.Line.{Line}
use Rattle.boxglue_program.specs.Reports.{Reports, any_bytes, written_bytes}
use Rattle.boxglue_program.specs.Texts.{hexadecimal_text, answer_line, answer_lines}
use Rattle.boxglue_program.specs.Runs.{commands_of, line_numbers, RanOn, IsUntouched, IsAnswered, IsUnanswered, RanScript, RefusedScript, IsAnsweredInMemory, IsUnansweredInMemory, CompletesFile, IsAnswerOfRest, RanOverRest, IsAnsweredOverRest, IsUnansweredOverRest}

pub on_err : {A E : Type 0} {P : Type 0} (r : Result A E) → is_err r ≡ true → OnErr r P → P
on_err (Ok x) e h = absurd (cc)
on_err (Err x) e h = h

pub on_ok : {A E : Type 0} {P : Type 0} (r : Result A E) → is_err r ≡ false → OnOk r P → P
on_ok (Ok x) e h = h
on_ok (Err x) e h = absurd (cc)

-- What holds of the value that is there.
pub if_some : {A : Type 0} (o : Option A) (x : A) (P : A → Type 0) → o ≡ Some x → IfSome o P → P x
if_some {A = A} o x P is holds = subst (λ (o : Option A). IfSome o P) is holds

-- A run stays one, with what was sent of it, if its numbers, lists and bytes are replaced by equal ones.
pub same_run : (files : List NamedBytes) (n n' : ℕ) (commands commands' : List Command) (replies replies' : List Reply) (end : Result Summary Refusal) (k k' : ℕ) (bytes_written bytes_written' : Option (List ℕ))
    → n' ≡ n → commands' ≡ commands → replies' ≡ replies → k' ≡ k → bytes_written' ≡ bytes_written
    → WasRunAndSent files n commands replies end k bytes_written → WasRunAndSent files n' commands' replies' end k' bytes_written'
same_run files n n' commands commands' replies replies' end k k' bytes_written bytes_written' a b c d e h = rw (a, b, c, d, e) h

-- A run of which the rules of the writer say more is one of which nothing more is said.
abbrev pub script_unsaid : (text : List ℕ) (files : List NamedBytes) (n k : ℕ) (bytes_written : Option (List ℕ)) (answer : List ℕ) (fine : Bool)
    → RanScript written_bytes text files n k bytes_written answer fine → RanScript any_bytes text files n k bytes_written answer fine
script_unsaid text files n k bytes_written answer fine ran = record {
  lines = ran.lines;
  replies = ran.replies;
  end = ran.end;
  script = ran.script;
  run = ran.run;
  sent = tt;
  answer_is = ran.answer_is;
  fine_is = ran.fine_is;
}

on_unsaid : {D : Type 0} (text : List ℕ) (files : List NamedBytes) (device back : DeviceView D) (answer : List ℕ) (fine : Bool)
    → RanOn written_bytes text files device back answer fine → RanOn any_bytes text files device back answer fine
on_unsaid text files device back answer fine on = record { ran = script_unsaid text files device.failed back.failed back.bytes_written answer fine on.ran; past = tt }

pub answered_unsaid : {D : Type 0} (text : List ℕ) (files : List NamedBytes) (device back : DeviceView D) (answer : List ℕ) (fine : Bool)
    → IsAnswered written_bytes text files device back answer fine → IsAnswered any_bytes text files device back answer fine
answered_unsaid text files device back answer fine (inl on) = inl (on_unsaid text files device back answer fine on)
answered_unsaid text files device back answer fine (inr refused) = inr refused

pub unanswered_unsaid : {D : Type 0} (text : List ℕ) (files : List NamedBytes) (device back : DeviceView D)
    → IsUnanswered written_bytes text files device back → IsUnanswered any_bytes text files device back
unanswered_unsaid text files device back (inl same) = inl same
unanswered_unsaid text files device back (inr (answer, fine, on)) = inr (answer, fine, on_unsaid text files device back answer fine on)

no_lines : hexadecimal_text [] ≡ []
unfolding hexadecimal_text
no_lines = refl

-- A device in memory as contracts see it.
abbrev pub memory_view : MemoryState → DeviceView MemoryState
memory_view = device_view (λ m. Some m.bytes) (λ m. m.failures) (λ m. no_past)

-- An answer without the past of the device.
pub answered_alone : {D : Type 0} (reports : Reports) (text : List ℕ) (files : List NamedBytes) (device back : DeviceView D) (answer : List ℕ) (fine : Bool)
    → IsAnswered reports text files device back answer fine
    → RanScript reports text files device.failed back.failed back.bytes_written answer fine ⊎ (RefusedScript text answer fine × (back.itself ≡ device.itself))
answered_alone reports text files device back answer fine (inl on) = inl on.ran
answered_alone {D = D} reports text files device back answer fine (inr (bad, same)) = inr (bad, ap (λ (v : DeviceView D). v.itself) same)

-- What a device was made with stays in a run.
pub answered_made : {D : Type 0} (text : List ℕ) (files : List NamedBytes) (device back : DeviceView D) (answer : List ℕ) (fine : Bool) → IsAnswered written_bytes text files device back answer fine
    → back.past.made ≡ device.past.made
answered_made text files device back answer fine (inl on) = on.past.made
answered_made {D = D} text files device back answer fine (inr (bad, same)) = ap (λ (v : DeviceView D). v.past.made) same

-- The same if there is no answer.
pub unanswered_made : {D : Type 0} (text : List ℕ) (files : List NamedBytes) (device back : DeviceView D) → IsUnanswered written_bytes text files device back → back.past.made ≡ device.past.made
unanswered_made {D = D} text files device back (inl same) = ap (λ (v : DeviceView D). v.past.made) same
unanswered_made text files device back (inr (answer, fine, on)) = on.past.made

-- No answer, without the past of a device that had reported no byte.
pub unanswered_alone : {D : Type 0} (reports : Reports) (text : List ℕ) (files : List NamedBytes) (device back : DeviceView D) → IfSome device.bytes_written (λ bytes. bytes ≡ [])
    → IsUnanswered reports text files device back
    → IsUntouched device.failed back.failed back.bytes_written
    ⊎ ((answer : List ℕ) × (fine : Bool) × RanScript reports text files device.failed back.failed back.bytes_written answer fine)
unanswered_alone {D = D} reports text files device back silent (inl same) = inl (record {
  silent = subst (λ (v : DeviceView D). IfSome v.bytes_written (λ bytes. bytes ≡ [])) (sym same) silent;
  failed_is = ap (λ (v : DeviceView D). v.failed) same;
})
unanswered_alone reports text files device back silent (inr (answer, fine, on)) = inr (answer, fine, on.ran)

-- The answers, and then the bytes of the memory.
pub answered_in_memory : (reports : Reports) (text : List ℕ) (files : List NamedBytes) (start memory : MemoryState) (answer whole : List ℕ) (fine : Bool) → start ≡ record { bytes = []; capacity = 0; failures = 0 }
    → IsAnswered reports text files (memory_view start) (memory_view memory) answer fine
    → whole ≡ answer ++ hexadecimal_text memory.bytes → IsAnsweredInMemory reports text files memory whole fine
answered_in_memory reports text files start memory answer whole fine fresh answered is = ⊎_elim
    (λ (ran : RanScript reports text files start.failures memory.failures (Some memory.bytes) answer fine).
    let P : ℕ → Type 0 = λ n. RanScript reports text files n memory.failures (Some memory.bytes) answer fine in
    inl (record { answers = answer; ran = subst P (ap (λ (m : MemoryState). m.failures) fresh) ran; answer_is = is }))
    (λ (refused : RefusedScript text answer fine × (memory ≡ start)).
    let nothing : hexadecimal_text memory.bytes ≡ [] = ap (λ (m : MemoryState). hexadecimal_text m.bytes) (refused.1 ∙ fresh) ∙ no_lines in
    let same : whole ≡ answer = is ∙ (ap (λ (more : List ℕ). answer ++ more) nothing ∙ append-nil answer) in
    inr (record { number = refused.0.number; cause = refused.0.cause; bad = refused.0.bad; answer_is = same ∙ refused.0.answer_is; fine_is = refused.0.fine_is }))
    (answered_alone reports text files (memory_view start) (memory_view memory) answer fine answered)

-- If memory is refused after the run, the whole script was run, or it is bad and the device is new.
pub lacking_in_memory : (reports : Reports) (text : List ℕ) (files : List NamedBytes) (start memory : MemoryState) (answer : List ℕ) (fine : Bool) → start ≡ new_memory
    → IsAnswered reports text files (memory_view start) (memory_view memory) answer fine → IsUnansweredInMemory reports text files memory
lacking_in_memory reports text files start memory answer fine fresh answered = ⊎_elim
    (λ (ran : RanScript reports text files start.failures memory.failures (Some memory.bytes) answer fine).
    inr (answer, fine, subst (λ (n : ℕ). RanScript reports text files n memory.failures (Some memory.bytes) answer fine) (ap (λ (m : MemoryState). m.failures) fresh) ran))
    (λ (refused : RefusedScript text answer fine × (memory ≡ start)). inl (refused.1 ∙ fresh))
    (answered_alone reports text files (memory_view start) (memory_view memory) answer fine answered)

-- The same if memory is refused before.
pub unanswered_in_memory : (reports : Reports) (text : List ℕ) (files : List NamedBytes) (start memory : MemoryState) → start ≡ new_memory
    → IsUnanswered reports text files (memory_view start) (memory_view memory) → IsUnansweredInMemory reports text files memory
unanswered_in_memory reports text files start memory fresh (inl same) = inl (ap (λ (v : DeviceView MemoryState). v.itself) same ∙ fresh)
unanswered_in_memory reports text files start memory fresh (inr (answer, fine, on)) =
    inr (answer, fine, subst (λ (n : ℕ). RanScript reports text files n memory.failures (Some memory.bytes) answer fine) (ap (λ (m : MemoryState). m.failures) fresh) on.ran)

-- If what was sent before is no beginning of the file, an end that succeeds has sent nothing.
not_completed : (end : Result Summary Refusal) (reported inner : Option (List ℕ)) (sent all : List ℕ) → OnOk end (IfSome reported (λ bytes. bytes ≡ all))
    → PassesOn sent (Some sent) inner reported → (IsFrontOf sent all → ⊥) → OnOk end (inner ≡ Some sent)
not_completed (Err refusal) reported inner sent all file passes other = tt
not_completed (Ok summary) None inner sent all file passes other = absurd passes
not_completed (Ok summary) (Some bytes) inner sent all file passes other = by_parts passes where
  by_parts : GoesOnAs sent (Some sent) inner bytes → inner ≡ Some sent
  by_parts (inl p) = p.1
  by_parts (inr p) = absurd (other (length sent, sym (ap (take (length sent)) (sym file ∙ p.1) ∙ take-append_seam sent p.0)))

-- A script that was run over the rest of a file completes it.
pub script_completes : (text : List ℕ) (files : List NamedBytes) (n k start_failed at_first : ℕ) (sent before : List ℕ) (start bytes_written inner : Option (List ℕ)) (answer : List ℕ) (fine : Bool) (began : Beginning)
    → RanScript written_bytes text files n k bytes_written answer fine → beginning sent start start_failed ≡ began → began ≡ beginning before (Some before) at_first
    → ((whole : List ℕ) → IfSome bytes_written (λ bytes. bytes ≡ whole) → IsFrontOf sent whole → start ≡ Some sent → inner ≡ Some whole)
    → PassesOn sent start inner bytes_written → CompletesFile text files before inner answer fine
script_completes text files n k start_failed at_first sent before start bytes_written inner answer fine began ran is had got passes =
    let m = ran.run.middle in
    let all = whole m.state.fonts m.pages in
    let sent_is : began.sent ≡ before = ap (λ (b : Beginning). b.sent) had in
    let written_is : began.bytes_written ≡ Some began.sent = ap (λ (b : Beginning). b.bytes_written) had ∙ ap Some (sym sent_is) in
    let passed = passed_on bytes_written bytes_written start inner sent start_failed (beginning before (Some before) at_first) refl (is ∙ had) passes in
    record {
      lines = ran.lines;
      replies = ran.replies;
      end = ran.end;
      script = ran.script;
      before = n;
      middle = m;
      failed = ran.run.failed;
      ran = ran.run.ran;
      last = ran.run.last;
      after = k;
      finished = ran.run.finished;
      answer_is = ran.answer_is;
      fine_is = ran.fine_is;
      file = λ front. completed ran.end bytes_written bytes_written start inner sent all start_failed began ran.sent.file refl is written_is (subst (λ (s : List ℕ). IsFrontOf s all) (sym sent_is) front) (got all);
      other = not_completed ran.end bytes_written inner before all ran.sent.file passed;
    }

-- A device for the rest of a file as contracts see it.
abbrev pub rest_view : {D : Type 0} → (D → Option (List ℕ)) → (D → ℕ) → RestState D → DeviceView (RestState D)
rest_view bytes_written failed = device_view (written_by bytes_written) (λ r. failed r.device + r.failures) (past_by bytes_written failed)

-- A run over a new device for the rest of a file, around a device that reports and counts so: that device, the one around it before and after the run, and the
-- inner device that was returned.
module _ {D : Type 0} (bytes_written : D → Option (List ℕ)) (failed : D → ℕ) (past : D → Past) (device : D) (sent : List ℕ) (start rest : RestState D) (inner : D)
    (new : start ≡ record { device = device; start = device; sent = sent; met = 0; failures = 0 })
    (began : began_by bytes_written failed rest ≡ began_by bytes_written failed start) (same : inner ≡ rest.device)
    (passes : PassesOn rest.sent (bytes_written rest.start) (bytes_written inner) (written_by bytes_written rest)) where
  abbrev seen : D → DeviceView D
  seen = device_view bytes_written failed past

  -- The inner device is as it was if the one around it is.
  untouched : rest_view bytes_written failed rest ≡ rest_view bytes_written failed start → seen inner ≡ seen device
  untouched back = ap seen (same ∙ ap (λ (v : DeviceView (RestState D)). v.itself.device) back ∙ ap (λ (r : RestState D). r.device) new)

  began_so : began_by bytes_written failed rest ≡ beginning sent (bytes_written device) (failed device)
  began_so = began ∙ ap (began_by bytes_written failed) new

  -- What a run over the rest of a file passed on, by what was sent before.
  over_rest : PassesOn sent (bytes_written device) (bytes_written inner) (written_by bytes_written rest)
  over_rest = subst (λ (b : Beginning). PassesOn b.sent b.bytes_written (bytes_written inner) (written_by bytes_written rest)) began_so passes

  -- A new device around another one has failed as often as that one.
  first_count : failed start.device + start.failures ≡ failed device
  first_count =
      let none : failed start.device + start.failures ≡ failed device + 0 = ap (λ (r : RestState D). failed r.device + r.failures) new in
      omega (arith, none)

  -- Later it has failed as often as that one and by itself.
  last_count : failed rest.device + rest.failures ≡ failed inner + rest.failures
  last_count = ap (λ (d : D). failed d + rest.failures) (sym same)

  -- Its own failures, if all bytes of the run are these.
  own_failures : (bytes : List ℕ) → KeepsPast (past_by bytes_written failed start) bytes (past_by bytes_written failed rest) → (rest.failures ≡ 0) ⊎ ((rest.failures ≡ 1) × Differs sent bytes)
  own_failures bytes keeps =
      by_case (subst (λ (r : RestState D). (rest.failures ≡ r.failures) ⊎ ((rest.failures ≡ r.failures + 1) × Differs (drop r.met r.sent) bytes)) new keeps.own)
    where
      by_case : (rest.failures ≡ 0) ⊎ ((rest.failures ≡ 0 + 1) × Differs (drop 0 sent) bytes) → (rest.failures ≡ 0) ⊎ ((rest.failures ≡ 1) × Differs sent bytes)
      by_case (inl none) = inl none
      by_case (inr (one, apart)) = inr (omega (arith, one), apart)

  -- If the bytes sent before and those of the run begin one file, there is no such failure.
  none_own : (bytes file : List ℕ) → (rest.failures ≡ 0) ⊎ ((rest.failures ≡ 1) × Differs sent bytes) → IsFrontOf sent file → IsFrontOf bytes file → rest.failures ≡ 0
  none_own bytes file (inl none) front goes = none
  none_own bytes file (inr (one, apart)) front goes = absurd (no_difference sent bytes file front goes apart)

  -- A script that was run over it.
  ran_over_rest : (text : List ℕ) (files : List NamedBytes) (answer : List ℕ) (fine : Bool)
      → ((all : List ℕ) → IfSome (written_by bytes_written rest) (λ bytes. bytes ≡ all) → IsFrontOf rest.sent all
      → bytes_written inner ≡ written_then (bytes_written rest.start) (drop (length rest.sent) all))
      → (ran : RanScript written_bytes text files (failed device) (failed inner + rest.failures) (written_by bytes_written rest) answer fine)
      → KeepsPast (past_by bytes_written failed start) (due_bytes ran.run.last) (past_by bytes_written failed rest) → RanOverRest text files sent (seen device) (seen inner) answer fine
  ran_over_rest text files answer fine got ran keeps =
      let own = own_failures (due_bytes ran.run.last) keeps in
      let m = ran.run.middle in
      let all = whole m.state.fonts m.pages in
      record {
        reported = written_by bytes_written rest;
        differing = rest.failures;
        passes_on = over_rest;
        ran = ran;
        own = own;
        lossless = λ file front goes unfailed.
            let none = none_own (due_bytes ran.run.last) file own front goes in
            let first = run_rises (first_machine files) (failed device) (commands_of ran.lines) ran.replies m ran.run.failed ran.run.ran in
            let last = end_rises m ran.run.failed ran.end ran.run.last (failed inner + rest.failures) ran.run.finished in
            let runs = run_kept (first_machine files) (failed device) (commands_of ran.lines) ran.replies m ran.run.failed ran.run.ran (omega (arith, last, none, unfailed)) refl in
            (runs.0, end_kept m ran.run.failed ran.end ran.run.last (failed inner + rest.failures) ran.run.finished (omega (arith, first, none, unfailed)) runs.1);
        rest = λ front. rest_completed ran.end (written_by bytes_written rest) (written_by bytes_written rest) (bytes_written rest.start) (bytes_written inner) rest.sent all (failed rest.start)
            (beginning sent (bytes_written device) (failed device)) ran.sent.file refl began_so front (got all);
      }

  -- The same for a run whose device counts from n to k.
  abbrev Counted : (text : List ℕ) → (files : List NamedBytes) → (answer : List ℕ) → (fine : Bool) → (n k : ℕ) → Type 0
  Counted text files answer fine n k = (ran : RanScript written_bytes text files n k (written_by bytes_written rest) answer fine)
      → KeepsPast (past_by bytes_written failed start) (due_bytes ran.run.last) (past_by bytes_written failed rest) → RanOverRest text files sent (seen device) (seen inner) answer fine

  -- A script that was run on it was run over the rest of a file.
  over_rest_on : (text : List ℕ) (files : List NamedBytes) (answer : List ℕ) (fine : Bool)
      → RanOn written_bytes text files (rest_view bytes_written failed start) (rest_view bytes_written failed rest) answer fine
      → ((all : List ℕ) → IfSome (written_by bytes_written rest) (λ bytes. bytes ≡ all) → IsFrontOf rest.sent all
      → bytes_written inner ≡ written_then (bytes_written rest.start) (drop (length rest.sent) all))
      → RanOverRest text files sent (seen device) (seen inner) answer fine
  over_rest_on text files answer fine on got =
      let last = subst (λ (k : ℕ). Counted text files answer fine (failed device) k) (sym last_count) (ran_over_rest text files answer fine got) in
      let counted = subst (λ (n : ℕ). Counted text files answer fine n (failed rest.device + rest.failures)) (sym first_count) last in
      counted on.ran on.past

  -- The answer to a script that was run over it, whatever the inner device reports.
  pub answered_over_rest : (text : List ℕ) (files : List NamedBytes) (answer : List ℕ) (fine : Bool)
      → IsAnswered written_bytes text files (rest_view bytes_written failed start) (rest_view bytes_written failed rest) answer fine
      → ((all : List ℕ) → IfSome (written_by bytes_written rest) (λ bytes. bytes ≡ all) → IsFrontOf rest.sent all
      → bytes_written inner ≡ written_then (bytes_written rest.start) (drop (length rest.sent) all))
      → IsAnsweredOverRest text files sent (seen device) (seen inner) answer fine
  answered_over_rest text files answer fine (inl on) got = inl (over_rest_on text files answer fine on got)
  answered_over_rest text files answer fine (inr (bad, back)) got = inr (bad, untouched back)

  -- The same without an answer.
  pub unanswered_over_rest : (text : List ℕ) (files : List NamedBytes)
      → IsUnanswered written_bytes text files (rest_view bytes_written failed start) (rest_view bytes_written failed rest)
      → ((all : List ℕ) → IfSome (written_by bytes_written rest) (λ bytes. bytes ≡ all) → IsFrontOf rest.sent all
      → bytes_written inner ≡ written_then (bytes_written rest.start) (drop (length rest.sent) all))
      → IsUnansweredOverRest text files sent (seen device) (seen inner)
  unanswered_over_rest text files (inl back) got = inl (untouched back)
  unanswered_over_rest text files (inr (answer, fine, on)) got = inr (answer, fine, over_rest_on text files answer fine on got)

  -- The same where the inner device had reported exactly what was sent before.
  pub resumed : (text : List ℕ) (files : List NamedBytes) (answer : List ℕ) (fine : Bool)
      → IsAnswered written_bytes text files (rest_view bytes_written failed start) (rest_view bytes_written failed rest) answer fine → bytes_written device ≡ Some sent
      → ((whole : List ℕ) → IfSome (written_by bytes_written rest) (λ bytes. bytes ≡ whole) → IsFrontOf rest.sent whole → bytes_written rest.start ≡ Some rest.sent → bytes_written inner ≡ Some whole)
      → IsAnswerOfRest text files sent (bytes_written inner) answer fine
  resumed text files answer fine (inl on) had got =
      inl (script_completes text files _ _ (failed rest.start) (failed device) rest.sent sent (bytes_written rest.start) (written_by bytes_written rest) (bytes_written inner) answer fine
      (beginning sent (Some sent) (failed device)) on.ran (began_so ∙ ap (λ (t : Option (List ℕ)). beginning sent t (failed device)) had) refl got passes)
  resumed text files answer fine (inr (bad, back)) had got = inr (bad, ap (λ (v : DeviceView D). v.bytes_written) (untouched back) ∙ had)

-- A run without a page has sent nothing, if its end succeeded.
pub silent_run : (files : List NamedBytes) (n k : ℕ) (commands : List Command) (replies : List Reply) (end : Result Summary Refusal) (bytes_written : Option (List ℕ))
    (run : WasRun files n commands replies end k bytes_written) → run.middle.pages ≡ [] → OnOk end (IfSome bytes_written (λ bytes. bytes ≡ []))
silent_run files n k commands replies end bytes_written run none =
    subst (λ (pages : List ShippedPage). OnOk end (IfSome bytes_written (λ bytes. IsFileOfPages (file_widths files) bytes (map read_page pages)))) none
    (run.dvi (file_widths files) (λ name size widths is. is))

pub commands_more : (front : List Line) (line : Line) → commands_of (front ++ line ∷ []) ≡ commands_of front ++ line.command ∷ []
commands_more [] line = refl
commands_more (first ∷ front) line = ap (λ (rest : List Command). first.command ∷ rest) (commands_more front line)

pub numbers_more : (front : List Line) (line : Line) → line_numbers (front ++ line ∷ []) ≡ line_numbers front ++ line.number ∷ []
numbers_more [] line = refl
numbers_more (first ∷ front) line = ap (λ (rest : List ℕ). first.number ∷ rest) (numbers_more front line)

-- The text of one more answer.
pub answers_more : (lines : List Line) (replies : List Reply) (line : Line) (reply : Reply) → length replies ≡ length lines
    → answer_lines (line_numbers (lines ++ line ∷ [])) (replies ++ reply ∷ []) ≡ answer_lines (line_numbers lines) replies ++ answer_line line.number reply
answers_more [] [] line reply h = append-nil (answer_line line.number reply)
answers_more [] (first ∷ replies) line reply h = absurd (omega arith)
answers_more (front ∷ lines) [] line reply h = absurd (omega arith)
answers_more (front ∷ lines) (first ∷ replies) line reply h =
    ap (λ (rest : List ℕ). answer_line front.number first ++ rest) (answers_more lines replies line reply (omega (arith, h)))
    ∙ sym (append_assoc (answer_line front.number first) (answer_lines (line_numbers lines) replies) (answer_line line.number reply))

-- A run with one more line.
pub ran_one_more : (old now new : JobView) (front more : List Line) (line : Line) (replies : List Reply) (reply : Reply) → more ≡ front ++ line ∷ []
    → RunsTo old (commands_of front) replies now → KeepsTo now line.command reply new → RunsTo old (commands_of more) (replies ++ reply ∷ []) new
ran_one_more old now new front more line replies reply is ran keeps =
    subst (λ (xs : List Command). RunsTo old xs (replies ++ reply ∷ []) new) (sym (ap commands_of is ∙ commands_more front line))
    (runs_more old now new (commands_of front) replies line.command reply ran keeps)

pub length_more : (front more : List Line) (line : Line) (replies : List Reply) (reply : Reply) → more ≡ front ++ line ∷ [] → length replies ≡ length front
    → length (replies ++ reply ∷ []) ≡ length more
length_more front more line replies reply is h = length-append replies (reply ∷ []) ∙ (ap (λ (n : ℕ). n + 1) h ∙ (sym (length-append front (line ∷ [])) ∙ ap length (sym is)))

-- The answers with one more, where the memory for it was there.
pub answers_one_more : (start now new : List ℕ) (front more : List Line) (line : Line) (replies : List Reply) (reply : Reply) (are_answers_kept fine : Bool) → more ≡ front ++ line ∷ []
    → length replies ≡ length front → (are_answers_kept ≡ true → now ≡ start ++ answer_lines (line_numbers front) replies)
    → (fine ≡ true → (are_answers_kept ≡ true) × (new ≡ now ++ answer_line line.number reply))
    → fine ≡ true → new ≡ start ++ answer_lines (line_numbers more) (replies ++ reply ∷ [])
answers_one_more start now new front more line replies reply are_answers_kept fine is h had added given =
    let here = added given in
    here.1
    ∙ (ap (λ (text : List ℕ). text ++ answer_line line.number reply) (had here.0)
    ∙ (append_assoc start (answer_lines (line_numbers front) replies) (answer_line line.number reply)
    ∙ ap (λ (text : List ℕ). start ++ text)
    (sym (answers_more front replies line reply h) ∙ ap (λ (xs : List Line). answer_lines (line_numbers xs) (replies ++ reply ∷ [])) (sym is))))

-- What was there is still there, whether a text was added or not.
pub begun_further : (start now new text : List ℕ) (fine : Bool) → (more : List ℕ) × (now ≡ start ++ more) → (fine ≡ true → new ≡ now ++ text) → (fine ≡ false → new ≡ now)
    → (more : List ℕ) × (new ≡ start ++ more)
begun_further start now new text true (more, is) added cut = (more ++ text, added refl ∙ (ap (λ (l : List ℕ). l ++ text) is ∙ append_assoc start more text))
begun_further start now new text false (more, is) added cut = (more, cut refl ∙ is)

-- What was there is left if the rest is cut off.
pub cut_back : (start now new : List ℕ) (size : ℕ) → size ≡ length start → (more : List ℕ) × (now ≡ start ++ more) → new ≡ take size now → new ≡ start
cut_back start now new size is (more, begun) cut =
    cut ∙ (ap (λ (l : List ℕ). take size l) begun ∙ (ap (λ (n : ℕ). take n (start ++ more)) is ∙ take-append_seam start more))
