-- Texts that are written one after the other, and messages after a task.
use Rattle.std.proofs.Common.{◌≡◌, ◌⊎◌, ap, append_assoc, false, true, ◌++◌, ◌+◌, ℕ, Bool, List, length, take, Option, Some, None, Result, Ok, Err, OnOk, OnErr, inl, inr, refl, sym, ◌∙◌, subst, arith}
use Rattle.std.proofs.Math.Seq.{take-append-add}
use Rattle.std.proofs.lemmas.List.{take-append-le, length-append}
use Rattle.std.specs.Borrow.{Bor}
use Rattle.std.specs.Io.KnownBytes.{Appends, Keeps}
use Rattle.std.specs.Prelude.{◌==◌, not, [], codes, IfOk, IfSome, IsSome, MatchResult}
use Rattle.std.specs.Result.{IsErrAnd}
use Rattle.dvi_device.specs.Held.{MemoryState}
use Rattle.boxglue_print.specs.declared.output.PaintFault.{PaintFault}
use Rattle.boxglue_print.specs.declared.output.PaintFault.TheVariants as paints
use Rattle.boxglue_program.specs.declared.run.RunFault.{RunFault}
use Rattle.boxglue_program.specs.declared.run.RunFault.TheVariants as runs
use Rattle.std.proofs.lemmas.Bool.{eq-eqb, eqb-true}
use Rattle.boxglue_words.specs.Hosts.{AreFilesOf, IsUnread, begun_for, created_after, has_failed, written_to_file}
use Rattle.std.specs.Coded.{Coded}
use Rattle.boxglue_words.proofs.HostLemmas.{begun_alike}
use Rattle.tfm_core.specs.NamedBytes.{NamedBytes}
use Rattle.boxglue_words.specs.declared.input_fault.InputFault.{InputFault}
use Rattle.boxglue_words.specs.declared.input_fault.InputFault.TheVariants.{OutOfMemory as WantsMemory, Unreadable as UnreadableInput}
use Rattle.boxglue_words.specs.declared.fonts.NamedPath.{NamedPath}
use Rattle.boxglue_lib.specs.Inputs.{IsUnreadDvi, IsUnreadScript}
use Rattle.boxglue_lib.specs.Faults.{of_input, of_paint, of_print, of_run}
use Rattle.boxglue_lib.specs.declared.printing.PrintFault.{PrintFault}
use Rattle.boxglue_lib.specs.declared.printing.PrintFault.TheVariants as prints
use Rattle.boxglue_words.specs.Readings.{Files, IsFileReading, IsReadable, IsReading}
use Rattle.boxglue_lib.specs.Printed.{LacksMemoryForDvi}
use Rattle.boxglue_lib.specs.Views.{HostView, IsSame, Streams, view_of}
use Rattle.boxglue_lib.specs.Typesets.{HasTypeset, IsLeftAlone, IsLeftToFile, IsToFile, IsUsed, LeavesHost, OutFile, TellsUnwritten, script_rules, typesetting_rules}
use Rattle.boxglue_program.specs.Reports.{written_bytes}
use Rattle.boxglue_program.specs.Runs.{IsAnswerInMemory, IsLeftInMemory, IsUntouched, RanScript, RefusedScript, WritesFront, memory_line}
use Rattle.boxglue_program.proofs.WritingLemmas.{appends_both, appends_keeps, keeps_appends, keeps_front}
use Rattle.boxglue_lib.specs.Ends.{EndsOutput, EndsTask, TaskEnd, TaskHasEnded, TaskRules, TakesText, TellsErrors, TellsOutput, message_line, status_of}
use Rattle.boxglue_lib.specs.declared.task_fault.TaskFault.{TaskFault}
use Rattle.boxglue_lib.specs.declared.task_fault.TaskFault.TheVariants.{Unwritten, OutOfMemory, Unreadable, NoSuchPage}

pub ok_then : {A E : Type 0} {P Q : Type 0} (r : Result A E) → OnOk r P → (P → Q) → OnOk r Q
ok_then (Ok x) h f = f h
ok_then (Err e) h f = tt

pub err_then : {A E : Type 0} {P Q : Type 0} (r : Result A E) → OnErr r P → (P → Q) → OnErr r Q
err_then (Ok x) h f = tt
err_then (Err e) h f = f h

pub said_of_err : {A E : Type 0} {P : Type 0} (r : Result A E) → P → OnErr r P
said_of_err (Ok x) h = tt
said_of_err (Err e) h = h

-- A beginning of a text is one of a longer text.
pub front_more : (old new : Option (List ℕ)) (a b : List ℕ) → WritesFront old new a → WritesFront old new (a ++ b)
front_more old new a b front = (
  front.0,
  omega (arith, length-append a b, front.1),
  subst (λ (text : List ℕ). Appends old new text) (sym (take-append-le front.0 a b (omega (arith, front.1)))) front.2,
)

-- A beginning of a text, after another text.
pub front_after : (old mid new : Option (List ℕ)) (a b : List ℕ) → Appends old mid a → WritesFront mid new b → WritesFront old new (a ++ b)
front_after old mid new a b h front = (
  length a + front.0,
  omega (arith, length-append a b, front.1),
  subst (λ (text : List ℕ). Appends old new text) (sym (take-append-add a b front.0)) (appends_both old mid new a (take front.0 b) h front.2),
)

-- A beginning of a piece, after what was written before it.
pub front_of_pieces : (old mid new : Option (List ℕ)) (taken piece rest whole : List ℕ) → taken ++ (piece ++ rest) ≡ whole → Appends old mid taken → WritesFront mid new piece
    → WritesFront old new whole
front_of_pieces old mid new taken piece rest whole is before front =
    subst (λ (text : List ℕ). WritesFront old new text) is (front_after old mid new taken (piece ++ rest) before (front_more mid new piece rest front))

-- A piece was written, and the rest is still to come.
pub piece_written : (old mid new : Option (List ℕ)) (piece remaining rest whole : List ℕ) → remaining ≡ piece ++ rest → Appends mid new piece
    → (taken : List ℕ) × Appends old mid taken × (taken ++ remaining ≡ whole) → (taken : List ℕ) × Appends old new taken × (taken ++ rest ≡ whole)
piece_written old mid new piece remaining rest whole is written (taken, before, same) = (
  taken ++ piece,
  appends_both old mid new taken piece before written,
  append_assoc taken piece rest ∙ (ap (λ (text : List ℕ). taken ++ text) (sym is) ∙ same),
)

-- Known bytes that stay twice.
pub keeps_twice : (old mid new : Option (List ℕ)) → Keeps old mid → Keeps mid new → Keeps old new
keeps_twice None mid new h i = tt
keeps_twice (Some xs) None new h i = absurd h
keeps_twice (Some xs) (Some ys) None h i = absurd i
keeps_twice (Some xs) (Some ys) (Some zs) h i = i ∙ h

-- A beginning of a text, and then nothing.
pub front_keeps : (old mid new : Option (List ℕ)) (a : List ℕ) → WritesFront old mid a → Keeps mid new → WritesFront old new a
front_keeps old mid new a front h = (front.0, front.1, appends_keeps old mid new (take front.0 a) front.2 h)

-- Nothing, and then a text or a beginning of it.
pub keeps_takes : (old mid new : Option (List ℕ)) (a : List ℕ) → Keeps old mid → TakesText mid new a → TakesText old new a
keeps_takes old mid new a h (inl all) = inl (keeps_appends old mid new a h all)
keeps_takes old mid new a h (inr front) = inr (keeps_front old mid new a h front)

-- What a task has printed, and what the output takes after it.
pub output_then : (rules : TaskRules) (end : TaskEnd) (old mid new : Option (List ℕ))
    → EndsTask rules end old mid → TellsOutput end mid new → EndsOutput rules end old new
output_then rules (Ok fine) old mid new ended reported = (ended.0, ended.1, appends_keeps old mid new ended.0 ended.2 reported)
output_then rules (Err Unwritten) old mid new ended reported = (ended.0, ended.1, ended.2, front_keeps old mid new ended.0 ended.3 reported)
output_then rules (Err OutOfMemory) old mid new ended reported = keeps_takes old mid new memory_line ended reported
output_then rules (Err (Unreadable path)) old mid new ended reported = (ended.0, keeps_twice old mid new ended.1 reported)
output_then rules (Err NoSuchPage) old mid new ended reported = (ended.0, keeps_twice old mid new ended.1 reported)

-- What is known of a device that writes a file, in terms of a script that was typeset.
pub answered_to_file : (text : List ℕ) (files : List NamedBytes) (start : ℕ) (begun : Bool) (failures : ℕ) (back : Option (List ℕ)) (Same Kept : Type 0) (answer : List ℕ) (fine : Bool) (file : OutFile)
    → start ≡ 0 → file.is_created ≡ begun → file.done ≡ (failures == 0) → file.written ≡ back → (Same → begun ≡ false) → (Same → failures ≡ 0) → (Same → Kept)
    → IsUsed file → RanScript written_bytes text files start failures (written_to_file begun back) answer fine ⊎ (RefusedScript text answer fine × Same) → IsToFile written_bytes text files Kept file answer fine
answered_to_file text files start begun failures back Same Kept answer fine file fresh opened counted kept closed none same used (inl ran) =
    let at_start = subst (λ (n : ℕ). RanScript written_bytes text files n failures (written_to_file begun back) answer fine) fresh ran in
    let at_open = subst (λ (is : Bool). RanScript written_bytes text files 0 failures (written_to_file is back) answer fine) (sym opened) at_start in
    inl (failures, subst (λ (bytes : Option (List ℕ)). RanScript written_bytes text files 0 failures (written_to_file file.is_created bytes) answer fine) (sym kept) at_open, counted, used)
answered_to_file text files start begun failures back Same Kept answer fine file fresh opened counted kept closed none same used (inr refused) =
    inr (
      refused.0,
      record { same = same refused.1; closed = opened ∙ closed refused.1; silent = counted ∙ ap (λ (n : ℕ). n == 0) (none refused.1) },
    )

-- A file that was not created has reported no byte.
pub unopened_silent : (begun : Bool) (written : Option (List ℕ)) → begun ≡ false → IfSome (written_to_file begun written) (λ bytes. bytes ≡ [])
unopened_silent begun None closed = rw closed tt
unopened_silent begun (Some bytes) closed = rw closed refl

-- A script was run, with some answer.
abbrev RanUnanswered : List ℕ → List NamedBytes → (n k : ℕ) → Option (List ℕ) → Type 0
RanUnanswered text files n k bytes_written = (answer : List ℕ) × (fine : Bool) × RanScript written_bytes text files n k bytes_written answer fine

-- What is known of such a device if memory was refused.
pub left_to_file : (text : List ℕ) (files : List NamedBytes) (start : ℕ) (begun : Bool) (failures : ℕ) (back : Option (List ℕ)) (file : OutFile)
    → start ≡ 0 → file.is_created ≡ begun → file.done ≡ (failures == 0) → file.written ≡ back → IsUsed file
    → IsUntouched start failures (written_to_file begun back) ⊎ RanUnanswered text files start failures (written_to_file begun back) → IsLeftToFile written_bytes text files file
left_to_file text files start begun failures back file fresh opened counted kept used left =
    let at_start = subst
    (λ (n : ℕ). IsUntouched n failures (written_to_file begun back) ⊎ RanUnanswered text files n failures (written_to_file begun back)) fresh left in
    let at_open = subst
    (λ (is : Bool). IsUntouched 0 failures (written_to_file is back) ⊎ RanUnanswered text files 0 failures (written_to_file is back)) (sym opened) at_start in (
      failures,
      subst (λ (bytes : Option (List ℕ)). IsUntouched 0 failures (written_to_file file.is_created bytes) ⊎ RanUnanswered text files 0 failures (written_to_file file.is_created bytes)) (sym kept) at_open,
      counted,
      used,
    )

-- A task has ended, and its end was reported.
pub has_ended : (rules : TaskRules) (end : TaskEnd) (mid : Option (List ℕ)) (before after : Streams) (status : ℕ)
    → EndsTask rules end before.output mid → (end ≡ Err OutOfMemory → rules.LacksMemory) → TellsOutput end mid after.output → TellsErrors end before.errors after.errors
    → status ≡ status_of end → TaskHasEnded rules before after status
has_ended rules end mid before after status ended memory said reported is = record {
  end = end;
  printed = output_then rules end before.output mid after.output ended said;
  memory = memory;
  reported = reported;
  status_is = is;
}

-- An end under weaker rules.
pub ends_weaker : (rules weaker : TaskRules) (end : TaskEnd) (old new : Option (List ℕ))
    → ((text : List ℕ) (fine : Bool) → rules.IsAnswer text fine → weaker.IsAnswer text fine) → ((path : Bor (List ℕ)) → rules.IsUnread path → weaker.IsUnread path)
    → (rules.LacksPage → weaker.LacksPage) → EndsTask rules end old new → EndsTask weaker end old new
ends_weaker rules weaker (Ok fine) old new f u l h = (h.0, f h.0 fine h.1, h.2)
ends_weaker rules weaker (Err Unwritten) old new f u l h = (h.0, h.1, f h.0 h.1 h.2, h.3)
ends_weaker rules weaker (Err OutOfMemory) old new f u l h = h
ends_weaker rules weaker (Err (Unreadable path)) old new f u l h = (u path h.0, h.1)
ends_weaker rules weaker (Err NoSuchPage) old new f u l h = (l h.0, h.1)

-- Files that were not read, and the report of it.
pub unread_output : {H : Type 0} (fonts : List NamedPath) (host back : HostView H) (file : OutFile) (fault : InputFault)
    (old new : Option (List ℕ))
    → IsLeftAlone (IsSame host back) file → IsUnreadScript host.files host.input fonts fault → TellsOutput (Err (of_input fault)) old new
    → EndsOutput (typesetting_rules written_bytes fonts host back file) (Err (of_input fault)) old new
unread_output fonts host back file WantsMemory old new alone unread said = said
unread_output fonts host back file (UnreadableInput path) old new alone unread said = ((unread, alone), said)

-- Known bytes stay the same if nothing happens.
pub keeps_same : (known : Option (List ℕ)) → Keeps known known
keeps_same None = tt
keeps_same (Some bytes) = refl

-- A script was typeset, and its end was reported.
pub typeset_ended : {H : Type 0} (fonts : List NamedPath) (out : List ℕ) (old new : HostView H) (file : OutFile)
    (text : List ℕ) (files : List NamedBytes) (end : TaskEnd) (mid between : Option (List ℕ)) (before after : Streams) (status : ℕ)
    → IsReading old.input text → AreFilesOf old.files fonts files → EndsTask (script_rules written_bytes text files (IsSame old new) file) end before.output mid
    → (end ≡ Err OutOfMemory → IsLeftToFile written_bytes text files file) → LeavesHost out old new file → TellsUnwritten file.done out before.errors between
    → TellsOutput end mid after.output → TellsErrors end between after.errors → status ≡ status_of end → HasTypeset written_bytes out fonts old new before after status
typeset_ended fonts out old new file text files end mid between before after status read filed ended left leaves unwritten said output_is is =
    record {
      end = end;
      file = file;
      leaves = leaves;
      printed = output_then (typesetting_rules written_bytes fonts old new file) end before.output mid after.output
          (ends_weaker (script_rules written_bytes text files (IsSame old new) file) (typesetting_rules written_bytes fonts old new file) end before.output mid
          (λ answer fine to. (text, files, read, filed, to)) (λ path none. absurd none) (λ none. none) ended) said;
      memory = λ wants. inr (text, files, read, filed, left wants);
      reported = record { middle = between; unwritten = unwritten; ended = output_is };
      status_is = is;
    }

-- Truth values that follow from each other are equal.
same_truth : (a b : Bool) → (a ≡ true → b ≡ true) → (b ≡ true → a ≡ true) → a ≡ b
same_truth true true f g = refl
same_truth true false f g = sym (f refl)
same_truth false true f g = g refl
same_truth false false f g = refl

-- A host has failed since a count if and only if its count has grown.
grown_count : (start k : ℕ) → (start + k == start) ≡ (k == 0)
grown_count start k =
    same_truth (start + k == start) (k == 0) (λ is. eq-eqb k 0 (omega (arith, eqb-true (start + k) start is)))
    (λ is. eq-eqb (start + k) start (omega (arith, eqb-true k 0 is)))

-- A host that is as it was has not failed since.
pub unfailed : (count : ℕ) → has_failed count count ≡ false
unfailed count = ap not (eq-eqb count count refl)

-- A file did not take all if its host has failed since its device was made.
pub failed_since : (before now start k : ℕ) (done : Bool) → start ≡ before → now ≡ start + k → done ≡ (k == 0) → has_failed before now ≡ not done
failed_since before now start k done same counted is =
    ap (λ (n : ℕ). not (n == before)) (counted ∙ ap (λ (n : ℕ). n + k) same) ∙ (ap not (grown_count before k) ∙ ap not (sym is))

-- The device that a run returns is for the path and the host of the one that was passed.
pub back_alike : {H : Type 0} (coded : Coded H) (written : H → Option (List ℕ)) (failures : H → ℕ) (path made out : Bor (List ℕ)) (start first host : H)
    → begun_for path.now (coded.code start) (written start) (failures start) ≡ begun_for made.now (coded.code first) (written first) (failures first) → made ≡ out → first ≡ host
    → (path.now ≡ out.now) × (start ≡ host)
back_alike coded written failures path made out start first host began same alike =
    let (paths, hosts) = begun_alike coded path.now made.now start first (written start) (written first) (failures start) (failures first) began in
    (paths ∙ ap (λ (p : Bor (List ℕ)). p.now) same, hosts ∙ alike)

-- What a host has created since its device was made.
pub placed_since : (path out : List ℕ) (paths before now : List (List ℕ)) (created : Bool) → path ≡ out → paths ≡ before → now ≡ created_after created path paths → now ≡ created_after created out before
placed_since path out paths before now created same alike is = is ∙ (ap (λ (p : List ℕ). created_after created p paths) same ∙ ap (λ (ps : List (List ℕ)). created_after created out ps) alike)

-- Fonts that were not read, before standard input.
pub unread_script : (reported : List ℕ → Option (Option (List ℕ))) (input : Option (List ℕ)) (fonts : List NamedPath) (fault : InputFault)
    → IsUnread reported fonts fault → IsUnreadScript reported input fonts fault
unread_script reported input fonts WantsMemory unread = inl unread
unread_script reported input fonts (UnreadableInput path) unread = inl unread

-- Fonts that were not read, after the DVI file.
pub unread_dvi : (reported : List ℕ → Option (Option (List ℕ))) (dvi bytes : List ℕ) (fonts : List NamedPath) (fault : InputFault)
    → IsFileReading (reported dvi) bytes → IsUnread reported fonts fault → IsUnreadDvi reported dvi fonts fault
unread_dvi reported dvi bytes fonts WantsMemory read unread = inr ((bytes, read), unread)
unread_dvi reported dvi bytes fonts (UnreadableInput path) read unread = inr ((bytes, read), unread)

-- What is known of the input of `typeset` if memory was refused for it.
wanting_script : (reported : List ℕ → Option (Option (List ℕ))) (input : Option (List ℕ)) (fonts : List NamedPath) (fault : InputFault)
    → of_input fault ≡ OutOfMemory → IsUnreadScript reported input fonts fault → IsUnreadScript reported input fonts WantsMemory
wanting_script reported input fonts WantsMemory wants unread = unread
wanting_script reported input fonts (UnreadableInput path) wants unread = absurd (cc)

-- The input of `typeset` was not read, and that was reported.
pub not_typeset : {H : Type 0} (known : H → Files) (created : H → List (List ℕ)) (written : H → Option (List ℕ)) (failures : H → ℕ) (input left : Option (List ℕ)) (host : H)
    (fonts : List NamedPath) (out : List ℕ) (fault : InputFault) (before after : Streams) (status : ℕ)
    → IsUnreadScript (known host) input fonts fault → TellsOutput (Err (of_input fault)) before.output after.output → TellsErrors (Err (of_input fault)) before.errors after.errors
    → status ≡ status_of (Err (of_input fault))
    → HasTypeset written_bytes out fonts (view_of known created written failures input host) (view_of known created written failures left host) before after status
not_typeset known created written failures input left host fonts out fault before after status unread said output_is is =
    let old = view_of known created written failures input host in
    let new = view_of known created written failures left host in
    let file : OutFile = record { is_created = false; done = true; written = written host } in
    let alone : IsLeftAlone (IsSame old new) file = record { same = refl; closed = refl; silent = refl } in
    record {
      end = Err (of_input fault);
      file = file;
      leaves = record { written = refl; placed = refl; untouched = λ _. refl; unchanged = λ _ _. refl; blamed = unfailed (failures host) };
      printed = unread_output fonts old new file fault before.output after.output alone unread said;
      memory = λ wants. inl (alone, wanting_script (known host) input fonts fault (cc) unread);
      reported = record { middle = before.errors; unwritten = keeps_same before.errors; ended = output_is };
      status_is = is;
    }

-- A file whose script made no page, or for which nothing was run, was not created, if it is known what it took and no write failed.
pub not_created : (created done : Bool) (written : Option (List ℕ)) → IsUsed (record { is_created = created; done = done; written = written }) → done ≡ true → IsSome written
    → IfSome (written_to_file created written) (λ bytes. bytes ≡ []) → created ≡ false
not_created false done written used fine reported empty = refl
not_created true done None used fine reported empty = cc
not_created true done (Some bytes) used fine reported empty = absurd (used refl fine bytes refl empty)

-- Inputs that were not read, for a task whose memory was refused.
pub wanting_dvi : (reported : List ℕ → Option (Option (List ℕ))) (dvi : List ℕ) (fonts : List NamedPath) (fault : InputFault) (end : TaskEnd)
    → IsUnreadDvi reported dvi fonts fault → IsErrAnd end (λ other. other ≡ of_input fault) → end ≡ Err OutOfMemory → LacksMemoryForDvi reported dvi fonts
wanting_dvi reported dvi fonts WantsMemory end unread handed wants = inl unread
wanting_dvi reported dvi fonts (UnreadableInput path) (Ok fine) unread handed wants = absurd handed
wanting_dvi reported dvi fonts (UnreadableInput path) (Err other) unread handed wants = absurd (cc)

-- Inputs that were read, before memory was refused.
pub wanting_after : (reported : List ℕ → Option (Option (List ℕ))) (dvi bytes : List ℕ) (fonts : List NamedPath) (files : List NamedBytes)
    → IsFileReading (reported dvi) bytes → AreFilesOf reported fonts files → LacksMemoryForDvi reported dvi fonts
wanting_after reported dvi bytes fonts files read filed = inr (bytes, files, record { bytes_are = read; files_are = filed })

-- An input that was read can be read.
pub was_readable : (input : Option (List ℕ)) (text : List ℕ) → IsReading input text → IsReadable input
was_readable None text read = tt
was_readable (Some known) text read = rw (← read.all) read.within

-- What is known of the inputs of a task whose memory was refused.
pub ruleset memory = (wanting_dvi, wanting_after, was_readable)

-- The message about a file that could not be read was written.
pub tells_unreadable : (end : TaskEnd) (fault : TaskFault) (path : Bor (List ℕ)) (old new : Option (List ℕ)) → end ≡ Err fault → fault ≡ Unreadable path
    → TakesText old new (message_line (codes "boxglue: cannot read ") path.now) → TellsErrors end old new
tells_unreadable end fault path old new is unread text =
    subst (λ (it : TaskEnd). TellsErrors it old new) (sym (is ∙ ap (λ (f : TaskFault). Err f) unread)) text

-- What is known of a value that a call gave, where only its fault was mapped.
pub mapped_ok : {A E D : Type 0} (P : A → Type 0) (r : Result A E) (m : Result A D) (x : A) → m ≡ Ok x → IfOk r P
    → MatchResult r (λ y. m ≡ Ok y) (λ e. ⊥) → P x
mapped_ok P (Ok y) m x is holds same = let back : y ≡ x = cc in subst P back holds
mapped_ok P (Err e) m x is holds none = absurd none

-- A fault that was handed on is the end of the task.
pub handed_end : (end : TaskEnd) (fault : TaskFault) → IsErrAnd end (λ other. other ≡ fault) → end ≡ Err fault
handed_end (Ok fine) fault handed = absurd handed
handed_end (Err other) fault handed = ap Err handed

-- A task whose input was not read.
unread_ends : (rules : TaskRules) (fault : InputFault) (bytes : Option (List ℕ)) → ((path : Bor (List ℕ)) → fault ≡ UnreadableInput path → rules.IsUnread path)
    → EndsTask rules (Err (of_input fault)) bytes bytes
unread_ends rules WantsMemory bytes unread = keeps_same bytes
unread_ends rules (UnreadableInput path) bytes unread = (unread path refl, keeps_same bytes)

pub ends_unread : (rules : TaskRules) (fault : InputFault) (end : TaskEnd) (bytes : Option (List ℕ)) → IsErrAnd end (λ other. other ≡ of_input fault)
    → ((path : Bor (List ℕ)) → fault ≡ UnreadableInput path → rules.IsUnread path) → EndsTask rules end bytes bytes
ends_unread rules fault end bytes handed unread =
    subst (λ (it : TaskEnd). EndsTask rules it bytes bytes) (sym (handed_end end (of_input fault) handed)) (unread_ends rules fault bytes unread)

-- A task whose text was not printed.
print_ends : (rules : TaskRules) (fault : PrintFault) (old new : Option (List ℕ))
    → (fault ≡ prints.Unwritten → (text : List ℕ) × (fine : Bool) × rules.IsAnswer text fine × WritesFront old new text)
    → (fault ≡ prints.OutOfMemory → Keeps old new) → (fault ≡ prints.NoSuchPage → rules.LacksPage × Keeps old new)
    → EndsTask rules (Err (of_print fault)) old new
print_ends rules prints.Unwritten old new front silent missing = front refl
print_ends rules prints.OutOfMemory old new front silent missing = silent refl
print_ends rules prints.NoSuchPage old new front silent missing = missing refl

pub ends_unprinted : (rules : TaskRules) (fault : PrintFault) (end : TaskEnd) (old new : Option (List ℕ)) → IsErrAnd end (λ other. other ≡ of_print fault)
    → (fault ≡ prints.Unwritten → (text : List ℕ) × (fine : Bool) × rules.IsAnswer text fine × WritesFront old new text)
    → (fault ≡ prints.OutOfMemory → Keeps old new) → (fault ≡ prints.NoSuchPage → rules.LacksPage × Keeps old new) → EndsTask rules end old new
ends_unprinted rules fault end old new handed front silent missing =
    subst (λ (it : TaskEnd). EndsTask rules it old new) (sym (handed_end end (of_print fault) handed)) (print_ends rules fault old new front silent missing)

-- A task whose script was run in memory, and not answered.
run_ends : (rules : TaskRules) (text : List ℕ) (fault : RunFault MemoryState) (old new : Option (List ℕ))
    → ((answer : List ℕ) (fine : Bool) → IsAnswerInMemory written_bytes text [] answer fine → rules.IsAnswer answer fine)
    → IsLeftInMemory written_bytes text [] fault old new → EndsTask rules (Err (of_run fault)) old new
run_ends rules text (runs.Memory memory) old new answers left = left.1
run_ends rules text (runs.Answers memory) old new answers left = (left.0, left.1, answers left.0 left.1 (memory, left.2), left.3)

pub ends_unrun : (rules : TaskRules) (text : List ℕ) (fault : RunFault MemoryState) (end : TaskEnd) (old new : Option (List ℕ))
    → IsErrAnd end (λ other. other ≡ of_run fault)
    → ((answer : List ℕ) (fine : Bool) → IsAnswerInMemory written_bytes text [] answer fine → rules.IsAnswer answer fine)
    → IsLeftInMemory written_bytes text [] fault old new → EndsTask rules end old new
ends_unrun rules text fault end old new handed answers left =
    subst (λ (it : TaskEnd). EndsTask rules it old new) (sym (handed_end end (of_run fault) handed)) (run_ends rules text fault old new answers left)

-- A page that was not painted.
pub missing_page : (fault : PaintFault) (end : Result Bool PrintFault) → IsErrAnd end (λ other. other ≡ of_paint fault) → end ≡ Err prints.NoSuchPage
    → fault ≡ paints.NoSuchPage
missing_page fault (Ok fine) handed is = absurd handed
missing_page paints.OutOfMemory (Err other) handed is = absurd (cc)
missing_page paints.NoSuchPage (Err other) handed is = refl

pub painting_is_written : (fault : PaintFault) (end : Result Bool PrintFault) → IsErrAnd end (λ other. other ≡ of_paint fault) → end ≡ Err prints.Unwritten → ⊥
painting_is_written fault (Ok fine) handed is = absurd handed
painting_is_written paints.OutOfMemory (Err other) handed is = cc
painting_is_written paints.NoSuchPage (Err other) handed is = cc

pub not_painted : {A : Type 0} (painted : Result A PaintFault) (fault : PaintFault) (end : Result Bool PrintFault) → painted ≡ Err fault
    → IsErrAnd end (λ other. other ≡ of_paint fault) → (painted ≡ Err paints.NoSuchPage) ⊎ (painted ≡ Err paints.OutOfMemory)
    → (end ≡ Err prints.NoSuchPage) ⊎ (end ≡ Err prints.OutOfMemory)
not_painted painted fault (Ok fine) is handed found = absurd handed
not_painted painted paints.NoSuchPage (Err other) is handed found = inl (ap Err handed)
not_painted painted paints.OutOfMemory (Err other) is handed found = inr (ap Err handed)

-- A device that took all has not failed.
pub none_failed : (k : ℕ) (done : Bool) → done ≡ (k == 0) → done ≡ true → k ≡ 0
none_failed k done is fine = eqb-true k 0 (sym is ∙ fine)
