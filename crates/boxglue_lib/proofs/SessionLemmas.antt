-- How a session ended, by what was read, what its device reports and what was sent.
use Rattle.std.proofs.Common.{◌≡◌, ◌⊎◌, ap, append-nil, false, true, ◌++◌, ℕ, Bool, List, Option, Some, None, Result, Ok, Err, inl, inr, refl, sym, ◌∙◌, subst}
use Rattle.std.specs.Prelude.{◌==◌, ◌≤◌, length, IfOk}
use Rattle.std.specs.Io.KnownBytes.{Consumes, IsAtEnd}
use Rattle.boxglue_words.specs.Hosts.{AreFilesOf, IsUnread, written_to_file}
use Rattle.boxglue_words.specs.Readings.{Files, IsBeginning, IsReading}
use Rattle.boxglue_words.specs.declared.input_fault.InputFault.{InputFault}
use Rattle.boxglue_words.specs.declared.input_fault.InputFault.TheVariants.{OutOfMemory as WantsMemory, Unreadable as UnreadableInput}
use Rattle.boxglue_words.specs.declared.host.TheConstants.{READ_LIMIT}
use Rattle.tfm_core.specs.NamedBytes.{NamedBytes}
use Rattle.boxglue_program.specs.Reports.{written_bytes}
use Rattle.boxglue_program.specs.Sessions.{IsCutOff, IsSent, IsUnreadable, LacksSessionMemory, RanSession}
use Rattle.boxglue_program.specs.declared.session.SessionFault.{SessionFault}
use Rattle.boxglue_program.specs.declared.session.SessionFault.TheVariants.{OutOfMemory as RefusesMemory, Unreadable as LosesInput}
use Rattle.boxglue_lib.specs.Ends.{TaskEnd, TellsErrors, TellsOutput, status_of}
use Rattle.boxglue_lib.specs.Private.Parts.{IsSessionEnd}
use Rattle.boxglue_lib.specs.Faults.{of_input}
use Rattle.boxglue_lib.specs.Sessions.{EndsSession, HasSession, HoldsOfFile, LeftToFile}
use Rattle.boxglue_lib.specs.Typesets.{IsUsed, LeavesHost, OutFile, TellsUnwritten}
use Rattle.boxglue_lib.specs.Views.{HostView, Streams, view_of}
use Rattle.boxglue_words.specs.declared.fonts.NamedPath.{NamedPath}
use Rattle.boxglue_lib.specs.declared.task_fault.TaskFault.{TaskFault}
use Rattle.boxglue_lib.specs.declared.task_fault.TaskFault.TheVariants.{Unwritten, OutOfMemory, Unreadable, NoSuchPage}

-- A reader that was read to its end gave all that it had.
pub all_read : (old new : Option (List ℕ)) (text : List ℕ) → Consumes old new text → IsAtEnd new → length text ≤ READ_LIMIT → IsReading old text
all_read None new text taken end within = record { all = tt; within = within }
all_read (Some xs) None text taken end within = absurd taken
all_read (Some xs) (Some ys) text taken end within =
    record { all = sym (taken ∙ (ap (λ (rest : List ℕ). text ++ rest) end ∙ append-nil text)); within = within }

-- What a reader gave is a beginning of what it had.
pub is_beginning : (old new : Option (List ℕ)) (text : List ℕ) → Consumes old new text → IsBeginning old text
is_beginning None new text taken = tt
is_beginning (Some xs) None text taken = absurd taken
is_beginning (Some xs) (Some ys) text taken = (ys, taken)

-- What is known of a device that writes a file, in terms of the file.
pub holds_of_file : (Holds : ℕ → Option (List ℕ) → Type 0) (begun : Bool) (failures : ℕ) (back : Option (List ℕ)) (file : OutFile)
    → file.is_created ≡ begun → file.done ≡ (failures == 0) → file.written ≡ back → IsUsed file → Holds failures (written_to_file begun back) → HoldsOfFile Holds file
holds_of_file Holds begun failures back file opened counted kept used holds =
    let at_open = subst (λ (is : Bool). Holds failures (written_to_file is back)) (sym opened) holds in
    (failures, subst (λ (bytes : Option (List ℕ)). Holds failures (written_to_file file.is_created bytes)) (sym kept) at_open, counted, used)

-- The whole input was run.
abbrev pub SessionRun : (input left : Option (List ℕ)) → List NamedBytes → (reads : Bool) → (old new : Option (List ℕ)) → (k : ℕ) → Option (List ℕ) → Bool → Type 0
SessionRun input left files reads old new k bytes accepted =
    (text answer : List ℕ) × Consumes input left text × IsAtEnd left × (length text ≤ READ_LIMIT) × RanSession written_bytes text files 0 k bytes answer accepted
    × IsSent true reads old new answer

-- Memory was refused.
abbrev pub Lacks : (input left : Option (List ℕ)) → List NamedBytes → (reads : Bool) → (old new : Option (List ℕ)) → (k : ℕ) → Option (List ℕ) → Type 0
Lacks input left files reads old new k bytes =
    (text answer : List ℕ) × Consumes input left text × (length text ≤ READ_LIMIT)
    × LacksSessionMemory written_bytes (IsAtEnd left) text files 0 k bytes answer × IsSent true reads old new answer

-- A reading failed.
abbrev pub Loses : (input left : Option (List ℕ)) → List NamedBytes → (reads : Bool) → (old new : Option (List ℕ)) → (k : ℕ) → Option (List ℕ) → Type 0
Loses input left files reads old new k bytes =
    (text lost answer : List ℕ) × Consumes input left (text ++ lost) × IsUnreadable READ_LIMIT text lost × IsCutOff written_bytes text files 0 k bytes answer × IsSent true reads old new answer

-- What is known where the whole input was read.
lacks_where : (Before After : Type 0) (text : List ℕ) (files : List NamedBytes) (k : ℕ) (bytes : Option (List ℕ)) (answer : List ℕ) → (Before → After)
    → LacksSessionMemory written_bytes Before text files 0 k bytes answer → LacksSessionMemory written_bytes After text files 0 k bytes answer
lacks_where Before After text files k bytes answer f (inl none) = inl none
lacks_where Before After text files k bytes answer f (inr (stopped, inl whole)) = inr (stopped, inl whole)
lacks_where Before After text files k bytes answer f (inr (stopped, inr end)) = inr (stopped, inr (f end))

-- Memory was refused, in terms of the input and of a file.
left_to_file : (input left : Option (List ℕ)) (files : List NamedBytes) (text answer : List ℕ) (k : ℕ) (bytes : Option (List ℕ)) (file : OutFile)
    → Consumes input left text → length text ≤ READ_LIMIT → LacksSessionMemory written_bytes (IsAtEnd left) text files 0 k bytes answer
    → ((Holds : ℕ → Option (List ℕ) → Type 0) → Holds k bytes → HoldsOfFile Holds file) → LeftToFile written_bytes input files file answer
left_to_file input left files text answer k bytes file taken within lacks known = (
  text,
  is_beginning input left text taken,
  within,
  known (λ failed bytes_written. LacksSessionMemory written_bytes (IsReading input text) text files 0 failed bytes_written answer)
      (lacks_where (IsAtEnd left) (IsReading input text) text files k bytes answer (λ end. all_read input left text taken end within) lacks),
)

-- How a session ended, by its outcome.
pub session_ends : (input left : Option (List ℕ)) (files : List NamedBytes) (outcome : Result Bool SessionFault) (reads : Bool) (end : TaskEnd) (old new : Option (List ℕ))
    (k : ℕ) (bytes : Option (List ℕ)) (file : OutFile)
    → IsSessionEnd outcome reads end → IfOk outcome (SessionRun input left files reads old new k bytes)
    → (outcome ≡ Err RefusesMemory → Lacks input left files reads old new k bytes)
    → (outcome ≡ Err LosesInput → Loses input left files reads old new k bytes)
    → ((Holds : ℕ → Option (List ℕ) → Type 0) → Holds k bytes → HoldsOfFile Holds file) → EndsSession written_bytes input files file end old new
session_ends input left files (Ok accepted) true end old new k bytes file is ran lacks loses known =
    let ended : EndsSession written_bytes input files file (Ok accepted) old new = (
      ran.1,
      (ran.0, all_read input left ran.0 ran.2 ran.3 ran.4, known (λ failed bytes_written. RanSession written_bytes ran.0 files 0 failed bytes_written ran.1 accepted) ran.5),
      ran.6,
    ) in
    subst (λ (it : TaskEnd). EndsSession written_bytes input files file it old new) (sym is) ended
session_ends input left files (Ok accepted) false end old new k bytes file is ran lacks loses known =
    let ended : EndsSession written_bytes input files file (Err Unwritten) old new = (
      ran.1,
      inl (accepted, (ran.0, all_read input left ran.0 ran.2 ran.3 ran.4, known (λ failed bytes_written. RanSession written_bytes ran.0 files 0 failed bytes_written ran.1 accepted) ran.5)),
      ran.6,
    ) in
    subst (λ (it : TaskEnd). EndsSession written_bytes input files file it old new) (sym is) ended
session_ends input left files (Err RefusesMemory) true end old new k bytes file is ran lacks loses known =
    let lack = lacks refl in
    let ended : EndsSession written_bytes input files file (Err OutOfMemory) old new = (
      lack.1,
      left_to_file input left files lack.0 lack.1 k bytes file lack.2 lack.3 lack.4 known,
      lack.5,
    ) in
    subst (λ (it : TaskEnd). EndsSession written_bytes input files file it old new) (sym is) ended
session_ends input left files (Err RefusesMemory) false end old new k bytes file is ran lacks loses known =
    let lack = lacks refl in
    let ended : EndsSession written_bytes input files file (Err Unwritten) old new = (
      lack.1,
      inr (left_to_file input left files lack.0 lack.1 k bytes file lack.2 lack.3 lack.4 known),
      lack.5,
    ) in
    subst (λ (it : TaskEnd). EndsSession written_bytes input files file it old new) (sym is) ended
session_ends input left files (Err LosesInput) reads end old new k bytes file (path, is, dash) ran lacks loses known =
    let lose = loses refl in
    let ended : EndsSession written_bytes input files file (Err (Unreadable path)) old new = (
      lose.2,
      reads,
      dash,
      (
        lose.0,
        lose.1,
        is_beginning input left (lose.0 ++ lose.1) lose.3,
        lose.4,
        known (λ failed bytes_written. IsCutOff written_bytes lose.0 files 0 failed bytes_written lose.2) lose.5,
      ),
      lose.6,
    ) in
    subst (λ (it : TaskEnd). EndsSession written_bytes input files file it old new) (sym is) ended

-- The files of fonts were not read, and that was reported.
pub not_held : {H : Type 0} (known : H → Files) (created : H → List (List ℕ)) (written : H → Option (List ℕ)) (failures : H → ℕ) (input left : Option (List ℕ)) (host : H)
    (fonts : List NamedPath) (out : List ℕ) (fault : InputFault) (before after : Streams) (status : ℕ)
    → IsUnread (known host) fonts fault → TellsOutput (Err (of_input fault)) before.output after.output → TellsErrors (Err (of_input fault)) before.errors after.errors
    → status ≡ status_of (Err (of_input fault))
    → HasSession written_bytes out fonts (view_of known created written failures input host) (view_of known created written failures left host) before after status
not_held known created written failures input left host fonts out WantsMemory before after status unread said output_is is =
    inl (refl, record { end = Err OutOfMemory; printed = said; memory = λ _. unread; reported = output_is; status_is = is })
not_held known created written failures input left host fonts out (UnreadableInput path) before after status unread said output_is is =
    inl (refl, record { end = Err (Unreadable path); printed = (unread, said); memory = λ wants. absurd (cc); reported = output_is; status_is = is })

-- A session was held, and its end was reported.
pub held : {H : Type 0} (fonts : List NamedPath) (out : List ℕ) (old new : HostView H) (file : OutFile) (files : List NamedBytes) (end : TaskEnd)
    (mid between : Option (List ℕ)) (before after : Streams) (status : ℕ)
    → AreFilesOf old.files fonts files → EndsSession written_bytes old.input files file end before.output mid → LeavesHost out old new file
    → TellsUnwritten file.done out before.errors between → TellsOutput end mid after.output → TellsErrors end between after.errors → status ≡ status_of end
    → HasSession written_bytes out fonts old new before after status
held fonts out old new file files end mid between before after status filed ended leaves unwritten said output_is is =
    inr (
      files,
      filed,
      record {
        end = end;
        file = file;
        leaves = leaves;
        middle = mid;
        printed = ended;
        output_is = said;
        reported = record { middle = between; unwritten = unwritten; ended = output_is };
        status_is = is;
      },
    )
