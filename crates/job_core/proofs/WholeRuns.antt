-- Consecutive runs, and a job from its beginning to its end.
use Rattle.std.proofs.Common.{◌≡◌, ◌≢◌, ℕ, List, [], ◌∷◌, ◌++◌, length, Option, Result, Ok, Err, refl, sym, subst}
use Rattle.std.specs.Prelude.{IfOk, OnOk, IfSome}
use Rattle.job_machine.specs.declared.command.Command.{Command}
use Rattle.job_machine.specs.declared.replies.Refusal.{Refusal}
use Rattle.job_machine.specs.declared.replies.Refusal.TheVariants.{Device}
use Rattle.page_core.specs.declared.summary.Summary.{Summary}
use Rattle.job_machine.specs.Reply.{Reply}
use Rattle.tfm_core.specs.NamedBytes.{NamedBytes}
use Rattle.dvi_device.specs.Pasts.{Past, KeepsPast}
use Rattle.job_machine.proofs.RunLaws.{files_kept}
use Rattle.job_machine.proofs.OneRun.{runs_agree, ends_agree}
use Rattle.dvi_write.specs.Layout.{whole}
use Rattle.job_machine.specs.Machine.{Machine, first_machine}
use Rattle.job_machine.specs.Runs.{Run, Finishes, Finished, Refuses, WantsMemory, LostDevice}
use Rattle.job_core.specs.Jobs.{JobView, IsProperFrontOf, due_bytes, Represents, KeepsTo, RunsTo, FinishesTo}
use Rattle.job_core.specs.Closing.{ClosesFile}
use Rattle.job_core.specs.Shown.{FilesPages, GivesFiles}
use Rattle.job_core.specs.Headline.{IsDone, WasRun}
use Rattle.job_core.specs.Sent.{WasSent}

run_joined :
    (m : Machine) (n : ℕ) (commands : List Command) (replies : List Reply) (middle : Machine) (i : ℕ) (more : List Command) (others : List Reply)
    (next : Machine) (k : ℕ)
    → Run m n commands replies middle i → Run middle i more others next k → Run m n (commands ++ more) (replies ++ others) next k
run_joined m n [] [] middle i more others next k (same, count) later =
    subst (λ x. Run x n more others next k) same (subst (λ j. Run middle j more others next k) count later)
run_joined m n [] (r ∷ replies) middle i more others next k run later = absurd run
run_joined m n (c ∷ commands) [] middle i more others next k run later = absurd run
run_joined m n (c ∷ commands) (r ∷ replies) middle i more others next k run later =
    (run.0, run.1, run.2, run_joined run.0 run.1 commands replies middle i more others next k run.3 later)

pub runs_joined :
    (old middle new : JobView) (commands more : List Command) (replies others : List Reply)
    → RunsTo old commands replies middle → RunsTo middle more others new → RunsTo old (commands ++ more) (replies ++ others) new
runs_joined old middle new commands more replies others ran later m holds =
    let first = ran m holds in
    let last = later first.0 first.2 in
    (last.0, run_joined m old.failed commands replies first.0 middle.failed more others last.0 new.failed first.1 last.1, last.2)

pub no_run : (job : JobView) → RunsTo job [] [] job
no_run job m holds = (m, (refl, refl), holds)

pub one_run : (old new : JobView) (command : Command) (reply : Reply) → KeepsTo old command reply new → RunsTo old (command ∷ []) (reply ∷ []) new
one_run old new command reply keeps m holds =
    let next = keeps m holds in
    (next.0, (next.0, new.failed, next.1, (refl, refl)), next.2)

abbrev refused_with : Refusal → Result Summary Refusal
refused_with refusal = Err refusal

same_refusal : {a b : Refusal} → refused_with a ≡ refused_with b → a ≡ b
same_refusal e = cc

-- An end that is refused for another cause than the device is a run of no command.
unfinished : (m next : Machine) (n k : ℕ) (refusal : Refusal) → refusal ≢ Device → Finishes m n (Err refusal) next k → Run m n [] [] next k
unfinished m next n k refusal other (Finished summary says may pages goes counts) = cc
unfinished m next n k refusal other (Refuses r says is goes counts) = (goes, counts)
unfinished m next n k refusal other (WantsMemory says may some goes counts) = (goes, counts)
unfinished m next n k refusal other (LostDevice says may some goes counts) = absurd (other (same_refusal says))

pub refused_end : (old new : JobView) (refusal : Refusal) → refusal ≢ Device → FinishesTo old (Err refusal) new → RunsTo old [] [] new
refused_end old new refusal other finishes m holds =
    let next = finishes m holds in
    (next.0, unfinished m next.0 old.failed new.failed refusal other next.1, next.2)

-- What a clause says of each machine that a job represents, for one of them.
pub size_at : (end : Result Summary Refusal) (bytes_written : Option (List ℕ)) (run : JobView) (m : Machine) → Represents run m
    → IfOk end (λ summary. (m : Machine) → Represents run m → IfSome bytes_written (λ bytes. summary.bytes ≡ length bytes))
    → IfOk end (λ summary. IfSome bytes_written (λ bytes. summary.bytes ≡ length bytes))
size_at (Ok summary) bytes_written run m holds size = size m holds
size_at (Err refusal) bytes_written run m holds size = tt

count_at : (end : Result Summary Refusal) (run : JobView) (m : Machine) → Represents run m
    → IfOk end (λ summary. (m : Machine) → Represents run m → summary.bytes ≡ length (whole m.state.fonts m.pages))
    → IfOk end (λ summary. summary.bytes ≡ length (whole m.state.fonts m.pages))
count_at (Ok summary) run m holds count = count m holds
count_at (Err refusal) run m holds count = tt

-- A job from its beginning to its end, by what its calls say.
abbrev pub was_run : (files : List NamedBytes) (commands : List Command) (replies : List Reply) (end : Result Summary Refusal)
    (new run ended : JobView)
    → Represents new (first_machine files) → RunsTo new commands replies run → FinishesTo run end ended → FilesPages run end ended
    → IfOk end (λ summary. (m : Machine) → Represents run m → IfSome ended.bytes_written (λ bytes. summary.bytes ≡ length bytes))
    → WasRun files new.failed commands replies end ended.failed ended.bytes_written
was_run files commands replies end new run ended begins runs finishes dvi size =
    let middle = runs (first_machine files) begins in
    let last = finishes middle.0 middle.2 in
    let same : middle.0.state.files ≡ files = files_kept (first_machine files) new.failed commands replies middle.0 run.failed middle.1 in
    record {
      middle = middle.0;
      failed = run.failed;
      ran = middle.1;
      last = last.0;
      finished = last.1;
      dvi = λ metrics gives. dvi middle.0 metrics middle.2
          (let P : List NamedBytes → Type 0 = λ all. GivesFiles metrics all in subst P (sym same) gives);
      size = size_at end ended.bytes_written run middle.0 middle.2 size;
    }

-- What its device then reports.
pub was_sent : (files : List NamedBytes) (commands : List Command) (replies : List Reply) (end : Result Summary Refusal) (new run ended : JobView)
    → (begins : Represents new (first_machine files)) → (runs : RunsTo new commands replies run) → (finishes : FinishesTo run end ended)
    → ((m : Machine) → Represents run m → OnOk end (IfSome ended.bytes_written (λ bytes. bytes ≡ whole m.state.fonts m.pages)))
    → ClosesFile run end ended
    → IfOk end (λ summary. (m : Machine) → Represents run m → summary.bytes ≡ length (whole m.state.fonts m.pages))
    → (end ≡ Err Device → (m : Machine) → Represents run m
    → IfSome ended.bytes_written (λ bytes. IsProperFrontOf bytes (whole m.state.fonts m.pages)))
    → let middle = runs (first_machine files) begins in
    WasSent middle.0 (finishes middle.0 middle.2).0 end ended.bytes_written
was_sent files commands replies end new run ended begins runs finishes file closes count front =
    let middle = runs (first_machine files) begins in
    let last = finishes middle.0 middle.2 in
    record {
      file = file middle.0 middle.2;
      count = count_at end run middle.0 middle.2 count;
      closed = closes middle.0 middle.2;
      sent = λ running. (last.2.written running).bytes_written;
      held = last.2.held;
      front = λ is. front is middle.0 middle.2;
      part = last.2.sent;
    }

-- What its device made of the bytes that it was to meet.
pub was_past : (files : List NamedBytes) (commands : List Command) (replies : List Reply) (end : Result Summary Refusal) (new run ended : JobView)
    → (begins : Represents new (first_machine files)) → (runs : RunsTo new commands replies run) → (finishes : FinishesTo run end ended)
    → ended.began ≡ new.began
    → let middle = runs (first_machine files) begins in
    KeepsPast new.began (due_bytes (finishes middle.0 middle.2).0) ended.past
was_past files commands replies end new run ended begins runs finishes began =
    let middle = runs (first_machine files) begins in
    let last = finishes middle.0 middle.2 in
    subst (λ (p : Past). KeepsPast p (due_bytes last.0) ended.past) began last.2.past

pub done :
    (files : List NamedBytes) (commands : List Command) (replies : List Reply) (result : Result Summary Refusal) (new run ended : JobView)
    → Represents new (first_machine files) → RunsTo new commands replies run → FinishesTo run result ended
    → ((m : Machine) → Represents run m → OnOk result (IfSome ended.bytes_written (λ bytes. bytes ≡ whole m.state.fonts m.pages)))
    → FilesPages run result ended → ClosesFile run result ended
    → IfOk result (λ summary. (m : Machine) → Represents run m → IfSome ended.bytes_written (λ bytes. summary.bytes ≡ length bytes))
    → IfOk result (λ summary. (m : Machine) → Represents run m → summary.bytes ≡ length (whole m.state.fonts m.pages))
    → (result ≡ Err Device → (m : Machine) → Represents run m
    → IfSome ended.bytes_written (λ bytes. IsProperFrontOf bytes (whole m.state.fonts m.pages)))
    → IsDone files commands replies result new run ended
done files commands replies result new run ended begins runs finishes file dvi closes size count front =
    let middle = runs (first_machine files) begins in
    let last = finishes middle.0 middle.2 in
    record {
      job = was_run files commands replies result new run ended begins runs finishes dvi size;
      state = middle.2.state;
      over = last.2.state;
      failed = refl;
      sent = was_sent files commands replies result new run ended begins runs finishes file closes count front;
    }

-- A run of which this is known stays one if the numbers and bytes of its device are replaced by equal ones.
pub same_run_with : (files : List NamedBytes) (n n' : ℕ) (commands : List Command) (replies : List Reply) (end : Result Summary Refusal) (k k' : ℕ)
    (bytes_written bytes_written' : Option (List ℕ))
    (P : Machine → Machine → Option (List ℕ) → Type 0) → n' ≡ n → k' ≡ k → bytes_written' ≡ bytes_written
    → (run : WasRun files n commands replies end k bytes_written) → P run.middle run.last bytes_written
    → (run : WasRun files n' commands replies end k' bytes_written') × P run.middle run.last bytes_written'
same_run_with files n n' commands replies end k k' bytes_written bytes_written' P a b c run known = rw (a, b, c) (run, known)

-- The replies and the result leave one machine before the end and one after it, so what is known of them in one run is known in each.
pub known_in_each : (files : List NamedBytes) (n : ℕ) (commands : List Command) (replies : List Reply) (end : Result Summary Refusal) (k : ℕ)
    (bytes_written : Option (List ℕ)) (P : Machine → Machine → Type 0)
    (one other : WasRun files n commands replies end k bytes_written) → P one.middle one.last → P other.middle other.last
known_in_each files n commands replies end k bytes_written P one other known =
    let same = runs_agree (first_machine files) one.middle other.middle n one.failed other.failed commands replies one.ran other.ran in
    let counted : Finishes one.middle other.failed end one.last k = subst (λ (i : ℕ). Finishes one.middle i end one.last k) same.1 one.finished in
    let finished : Finishes other.middle other.failed end one.last k =
    subst (λ (m : Machine). Finishes m other.failed end one.last k) same.0 counted in
    let ended = ends_agree other.middle one.last other.last other.failed k k end finished other.finished in
    subst (λ (m : Machine). P other.middle m) ended.0 (subst (λ (m : Machine). P m one.last) same.0 known)

-- A whole job and its device, by what its calls say.
pub job_run : (files : List NamedBytes) (commands : List Command) (replies : List Reply) (end : Result Summary Refusal) (new run ended : JobView)
    (n k : ℕ) (bytes_written : Option (List ℕ)) (start last : Past)
    → Represents new (first_machine files) → RunsTo new commands replies run → FinishesTo run end ended
    → ((m : Machine) → Represents run m → OnOk end (IfSome ended.bytes_written (λ bytes. bytes ≡ whole m.state.fonts m.pages)))
    → FilesPages run end ended → ClosesFile run end ended
    → IfOk end (λ summary. (m : Machine) → Represents run m → IfSome ended.bytes_written (λ bytes. summary.bytes ≡ length bytes))
    → IfOk end (λ summary. (m : Machine) → Represents run m → summary.bytes ≡ length (whole m.state.fonts m.pages))
    → (end ≡ Err Device → (m : Machine) → Represents run m
    → IfSome ended.bytes_written (λ bytes. IsProperFrontOf bytes (whole m.state.fonts m.pages)))
    → ended.began ≡ new.began → n ≡ new.failed → k ≡ ended.failed → bytes_written ≡ ended.bytes_written → new.began ≡ start → last ≡ ended.past
    → (run : WasRun files n commands replies end k bytes_written)
    × (WasSent run.middle run.last end bytes_written × KeepsPast start (due_bytes run.last) last)
job_run files commands replies end new run ended n k bytes_written start last begins runs finishes file dvi closes size count front began n_is k_is
    bytes_are start_is last_is =
    let ran = was_run files commands replies end new run ended begins runs finishes dvi size in
    let sent = was_sent files commands replies end new run ended begins runs finishes file closes count front in
    let past = was_past files commands replies end new run ended begins runs finishes began in
    let kept = subst (λ (p : Past). KeepsPast start (due_bytes ran.last) p) (sym last_is)
    (subst (λ (p : Past). KeepsPast p (due_bytes ran.last) ended.past) start_is past) in
    same_run_with files new.failed n commands replies end ended.failed k ended.bytes_written bytes_written
    (λ (m l : Machine) (bytes : Option (List ℕ)). WasSent m l end bytes × KeepsPast start (due_bytes l) last) n_is k_is bytes_are ran (sent, kept)
