-- What was done, without what the rules of the writer say of the bytes.
use Rattle.std.proofs.Common.{ℕ, Bool, List, [], Option, Some, Ok, Err, inl, inr}
use Rattle.std.specs.Borrow.{Bor}
use Rattle.dvi_device.specs.Held.{MemoryState}
use Rattle.tfm_core.specs.NamedBytes.{NamedBytes}
use Rattle.boxglue_program.specs.Reports.{any_bytes, written_bytes}
use Rattle.boxglue_program.specs.Runs.{IsAnsweredInMemory}
use Rattle.boxglue_program.specs.Sessions.{RanSession, StoppedSession, LacksSessionMemory, IsCutOff}
use Rattle.boxglue_program.proofs.RunLaws.{script_unsaid}
use Rattle.boxglue_words.specs.Hosts.{written_to_file}
use Rattle.boxglue_words.specs.Readings.{IsReading}
use Rattle.boxglue_words.specs.declared.fonts.NamedPath.{NamedPath}
use Rattle.boxglue_words.specs.declared.task.Task.{Task}
use Rattle.boxglue_words.specs.declared.task.Task.TheVariants as tasks
use Rattle.boxglue_lib.specs.Ends.{EndsOutput, TaskEnd, TaskHasEnded, TaskRules}
use Rattle.boxglue_lib.specs.Programs.{HasDone, input_rules}
use Rattle.boxglue_lib.specs.Sessions.{EndsSession, HasSession, HoldsOfFile, LeftToFile}
use Rattle.boxglue_lib.specs.Typesets.{HasTypeset, IsLeftToFile, IsToFile, LacksMemoryForTask, OutFile, typesetting_rules}
use Rattle.boxglue_lib.specs.Views.{HostView, Streams}
use Rattle.boxglue_lib.specs.declared.task_fault.TaskFault.TheVariants.{Unwritten, OutOfMemory, Unreadable, NoSuchPage}

-- An end under rules of which the answers are weaker.
output_weaker : (rules weaker : TaskRules) (end : TaskEnd) (old new : Option (List ℕ))
    → ((text : List ℕ) (fine : Bool) → rules.IsAnswer text fine → weaker.IsAnswer text fine) → ((path : Bor (List ℕ)) → rules.IsUnread path → weaker.IsUnread path)
    → (rules.LacksPage → weaker.LacksPage) → EndsOutput rules end old new → EndsOutput weaker end old new
output_weaker rules weaker (Ok fine) old new f u l h = (h.0, f h.0 fine h.1, h.2)
output_weaker rules weaker (Err Unwritten) old new f u l h = (h.0, h.1, f h.0 h.1 h.2, h.3)
output_weaker rules weaker (Err OutOfMemory) old new f u l h = h
output_weaker rules weaker (Err (Unreadable path)) old new f u l h = (u path h.0, h.1)
output_weaker rules weaker (Err NoSuchPage) old new f u l h = (l h.0, h.1)

-- A script.
to_file_unsaid : (text : List ℕ) (files : List NamedBytes) (Same : Type 0) (file : OutFile) (answer : List ℕ) (fine : Bool)
    → IsToFile written_bytes text files Same file answer fine → IsToFile any_bytes text files Same file answer fine
to_file_unsaid text files Same file answer fine (inl (failed, ran, done, used)) =
    inl (failed, script_unsaid text files 0 failed (written_to_file file.is_created file.written) answer fine ran, done, used)
to_file_unsaid text files Same file answer fine (inr refused) = inr refused

left_unsaid : (text : List ℕ) (files : List NamedBytes) (file : OutFile) → IsLeftToFile written_bytes text files file → IsLeftToFile any_bytes text files file
left_unsaid text files file (failed, inl none, done, used) = (failed, inl none, done, used)
left_unsaid text files file (failed, inr (answer, fine, ran), done, used) =
    (failed, inr (answer, fine, script_unsaid text files 0 failed (written_to_file file.is_created file.written) answer fine ran), done, used)

lacks_unsaid : {H : Type 0} (fonts : List NamedPath) (old new : HostView H) (file : OutFile) → LacksMemoryForTask written_bytes fonts old new file
    → LacksMemoryForTask any_bytes fonts old new file
lacks_unsaid fonts old new file (inl alone) = inl alone
lacks_unsaid fonts old new file (inr (text, files, read, filed, left)) = inr (text, files, read, filed, left_unsaid text files file left)

typeset_unsaid : {H : Type 0} (out : List ℕ) (fonts : List NamedPath) (old new : HostView H) (before after : Streams) (status : ℕ)
    → HasTypeset written_bytes out fonts old new before after status → HasTypeset any_bytes out fonts old new before after status
typeset_unsaid out fonts old new before after status has = record {
  end = has.end;
  file = has.file;
  leaves = has.leaves;
  printed = output_weaker (typesetting_rules written_bytes fonts old new has.file) (typesetting_rules any_bytes fonts old new has.file) has.end before.output after.output
      (λ answer fine is. (is.0, is.1, is.2, is.3, to_file_unsaid is.0 is.1 _ has.file answer fine is.4)) (λ path unread. unread) (λ none. none) has.printed;
  memory = λ wants. lacks_unsaid fonts old new has.file (has.memory wants);
  reported = has.reported;
  status_is = has.status_is;
}

-- A session.
session_unsaid : (text : List ℕ) (files : List NamedBytes) (n k : ℕ) (bytes_written : Option (List ℕ)) (answer : List ℕ) (accepted : Bool)
    → RanSession written_bytes text files n k bytes_written answer accepted → RanSession any_bytes text files n k bytes_written answer accepted
session_unsaid text files n k bytes_written answer accepted ran = record {
  contents = ran.contents;
  replies = ran.replies;
  end = ran.end;
  says = ran.says;
  run = ran.run;
  sent = tt;
  answer_is = ran.answer_is;
  accepted_is = ran.accepted_is;
}

stopped_unsaid : (text : List ℕ) (files : List NamedBytes) (n k : ℕ) (bytes_written : Option (List ℕ)) (answer : List ℕ)
    → StoppedSession written_bytes text files n k bytes_written answer → StoppedSession any_bytes text files n k bytes_written answer
stopped_unsaid text files n k bytes_written answer stopped = record {
  whole = stopped.whole;
  rest = stopped.rest;
  split = stopped.split;
  ends = stopped.ends;
  contents = stopped.contents;
  replies = stopped.replies;
  says = stopped.says;
  machine = stopped.machine;
  ran = stopped.ran;
  sent = tt;
  answer_is = stopped.answer_is;
}

wanting_unsaid : (AtEnd : Type 0) (text : List ℕ) (files : List NamedBytes) (n k : ℕ) (bytes_written : Option (List ℕ)) (answer : List ℕ)
    → LacksSessionMemory written_bytes AtEnd text files n k bytes_written answer → LacksSessionMemory any_bytes AtEnd text files n k bytes_written answer
unfolding stopped_unsaid
wanting_unsaid AtEnd text files n k bytes_written answer (inl none) = inl none
wanting_unsaid AtEnd text files n k bytes_written answer (inr (stopped, whole)) =
    inr (stopped_unsaid text files n k bytes_written answer stopped, whole)

cut_unsaid : (text : List ℕ) (files : List NamedBytes) (n k : ℕ) (bytes_written : Option (List ℕ)) (answer : List ℕ)
    → IsCutOff written_bytes text files n k bytes_written answer → IsCutOff any_bytes text files n k bytes_written answer
unfolding stopped_unsaid
cut_unsaid text files n k bytes_written answer (stopped, whole, none) = (stopped_unsaid text files n k bytes_written answer stopped, whole, none)

held_of_file : (P Q : ℕ → Option (List ℕ) → Type 0) (file : OutFile) → ((failed : ℕ) (bytes_written : Option (List ℕ)) → P failed bytes_written → Q failed bytes_written)
    → HoldsOfFile P file → HoldsOfFile Q file
held_of_file P Q file f (failed, holds, done, used) = (failed, f failed (written_to_file file.is_created file.written) holds, done, used)

unfinished_unsaid : (input : Option (List ℕ)) (files : List NamedBytes) (file : OutFile) (answer : List ℕ)
    → LeftToFile written_bytes input files file answer → LeftToFile any_bytes input files file answer
unfinished_unsaid input files file answer (text, read, within, holds) =
    (text, read, within, held_of_file _ _ file (λ failed bytes. wanting_unsaid (IsReading input text) text files 0 failed bytes answer) holds)

ended_unsaid : (input : Option (List ℕ)) (files : List NamedBytes) (file : OutFile) (end : TaskEnd) (old new : Option (List ℕ))
    → EndsSession written_bytes input files file end old new → EndsSession any_bytes input files file end old new
ended_unsaid input files file (Ok fine) old new (answer, (text, read, holds), all) =
    (answer, (text, read, held_of_file _ _ file (λ failed bytes. session_unsaid text files 0 failed bytes answer fine) holds), all)
ended_unsaid input files file (Err Unwritten) old new (answer, inl (fine, (text, read, holds)), front) =
    (answer, inl (fine, (text, read, held_of_file _ _ file (λ failed bytes. session_unsaid text files 0 failed bytes answer fine) holds)), front)
ended_unsaid input files file (Err Unwritten) old new (answer, inr left, front) = (answer, inr (unfinished_unsaid input files file answer left), front)
ended_unsaid input files file (Err OutOfMemory) old new (answer, left, all) = (answer, unfinished_unsaid input files file answer left, all)
ended_unsaid input files file (Err (Unreadable path)) old new (answer, reads, dash, (text, lost, read, unread, holds), sent) =
    (answer, reads, dash, (text, lost, read, unread, held_of_file _ _ file (λ failed bytes. cut_unsaid text files 0 failed bytes answer) holds), sent)
ended_unsaid input files file (Err NoSuchPage) old new none = none

had_session_unsaid : {H : Type 0} (out : List ℕ) (fonts : List NamedPath) (old new : HostView H) (before after : Streams) (status : ℕ)
    → HasSession written_bytes out fonts old new before after status → HasSession any_bytes out fonts old new before after status
had_session_unsaid out fonts old new before after status (inl unread) = inl unread
had_session_unsaid out fonts old new before after status (inr (files, filed, has)) = inr (
  files,
  filed,
  record {
    end = has.end;
    file = has.file;
    leaves = has.leaves;
    middle = has.middle;
    printed = ended_unsaid old.input files has.file has.end before.output has.middle has.printed;
    output_is = has.output_is;
    reported = has.reported;
    status_is = has.status_is;
  },
)

-- A script in memory.
memory_unsaid : (text : List ℕ) (files : List NamedBytes) (memory : MemoryState) (answer : List ℕ) (fine : Bool)
    → IsAnsweredInMemory written_bytes text files memory answer fine → IsAnsweredInMemory any_bytes text files memory answer fine
memory_unsaid text files memory answer fine (inl ran) = inl (record {
  answers = ran.answers;
  ran = script_unsaid text files 0 memory.failures (Some memory.bytes) ran.answers fine ran.ran;
  answer_is = ran.answer_is;
})
memory_unsaid text files memory answer fine (inr refused) = inr refused

input_unsaid : (input : Option (List ℕ)) (before after : Streams) (status : ℕ) → TaskHasEnded (input_rules written_bytes input) before after status
    → TaskHasEnded (input_rules any_bytes input) before after status
input_unsaid input before after status ended = record {
  end = ended.end;
  printed = output_weaker (input_rules written_bytes input) (input_rules any_bytes input) ended.end before.output after.output
      (λ answer fine is. (is.0, is.1, (is.2.0, memory_unsaid is.0 [] is.2.0 answer fine is.2.1))) (λ path unread. unread) (λ none. none) ended.printed;
  memory = ended.memory;
  reported = ended.reported;
  status_is = ended.status_is;
}

-- A task, and the program.
pub done_unsaid : {H : Type 0} (task : Task) (old new : HostView H) (before after : Streams) (status : ℕ) → HasDone written_bytes task old new before after status
    → HasDone any_bytes task old new before after status
done_unsaid tasks.Version old new before after status has = has
done_unsaid tasks.Memory old new before after status (same, has) = (same, input_unsaid old.input before after status has)
done_unsaid (tasks.Typeset out fonts) old new before after status has = typeset_unsaid out.now fonts.items old new before after status has
done_unsaid (tasks.Session out fonts) old new before after status has = had_session_unsaid out.now fonts.items old new before after status has
done_unsaid (tasks.Listing dvi fonts) old new before after status has = has
done_unsaid (tasks.Fonts dvi) old new before after status has = has
done_unsaid (tasks.Painting options dvi fonts) old new before after status has = has
