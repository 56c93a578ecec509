-- What the calls promise: `boxglue_c` states of each export what `boxglue_calls` proves of the call (own).
use Rattle.std.specs.Prelude.{◌≡◌, ◌≢◌, ◌≤◌, ◌↔◌, ◌⊎◌, ◌/◌, ℕ, ℤ, pos, true, false, if◌then◌else◌, List, [], length, Option, Some, None}
use Rattle.std.specs.Ordering.{int_eq}
use Rattle.boxglue_program.specs.Reports.{Reports}
use Rattle.boxglue_print.specs.Outputs.{IsListed, IsPainted, LacksPage}
use Rattle.dvi_read.specs.Opening.{IsDviFault}
use Rattle.dvi_read.specs.declared.fault.DviFault.TheVariants.{OutOfMemory}
use Rattle.raster_core.specs.PaintOptions.{options_of, PaintOptionsView}
use Rattle.tfm_core.specs.Scaling.{IsFontSize}
use Rattle.boxglue_calls.specs.FileFaults.{ChecksFile, fault_numbers}
use Rattle.boxglue_calls.specs.Fonts.{are_named, files_of}
use Rattle.boxglue_calls.specs.FontTables.{HandsOverFonts}
use Rattle.boxglue_calls.specs.Jobs.{IsNewJob, KeptState}
use Rattle.boxglue_calls.specs.MarkTables.{HandsOverMarks, MarkOutputs}
use Rattle.boxglue_calls.specs.Metrics.{MeasuresFont, MetricOutputs}
use Rattle.boxglue_calls.specs.Pages.{HandsOverPages, IsPaintedInBits, is_in_range}
use Rattle.boxglue_calls.specs.Runs.{HandsOverRun, IsRun}
use Rattle.boxglue_calls.specs.Whole.{IsReplied}
use Rattle.boxglue_calls.specs.declared.faults.Fault.{Fault}
use Rattle.boxglue_calls.specs.declared.font_table.DviFont.{DviFont}
use Rattle.boxglue_calls.specs.declared.font_table.FontSizes.{FontSizes}
use Rattle.boxglue_calls.specs.declared.given.Font.{Font}
use Rattle.boxglue_calls.specs.declared.jobs.rows.ReplyRow.{ReplyRow}
use Rattle.boxglue_calls.specs.declared.jobs.whole.ReplySizes.{ReplySizes}
use Rattle.boxglue_calls.specs.declared.mark_table.MarkSizes.{MarkSizes}
use Rattle.boxglue_calls.specs.declared.runs.Lengths.{Lengths}

-- A call with fonts says 3 exactly if a font has no name.
abbrev pub RefusesNames : List Font → (status : ℕ) → Type 0
RefusesNames fonts status = status ≡ 3 ↔ are_named fonts ≡ false

-- A call with fonts that does nothing, since memory was refused or a font has no name, leaves this as it was.
abbrev pub KeepsUndone : {A : Type 0} → (status : ℕ) → (old new : A) → Type 0
KeepsUndone status old new = (status ≡ 2) ⊎ (status ≡ 3) → new ≡ old

-- A script with these fonts is run, and its answers and its bytes are handed over, unless nothing is done. Each pair is a buffer before and after.
abbrev pub Runs : Reports → (script : List ℕ) → List Font → (answers dvi : List ℕ × List ℕ) → Lengths → (status : ℕ) → Type 0
Runs reports script fonts answers dvi lengths status =
    (status ≡ 2) ⊎ (status ≡ 3)
    ⊎ HandsOverRun (IsRun reports script (files_of fonts)) answers.0 answers.1 dvi.0 dvi.1 (lengths.answers, lengths.dvi) status

-- The same of a run whose replies are rows.
abbrev pub RunsInRows : (script : List ℕ) → List Font → (rows : List ReplyRow × List ReplyRow) → (dvi : List ℕ × List ℕ) → ReplySizes
    → (status : ℕ) → Type 0
RunsInRows script fonts rows dvi sizes status =
    (status ≡ 2) ⊎ (status ≡ 3)
    ⊎ HandsOverRun (IsReplied script (files_of fonts)) rows.0 rows.1 dvi.0 dvi.1 (sizes.replies, sizes.dvi) status

-- The listing of a DVI file with these fonts, or the line of its refusal, is handed over, unless nothing is done.
abbrev pub Lists : (dvi : List ℕ) → List Font → (text : List ℕ × List ℕ) → (size status : ℕ) → Type 0
Lists dvi fonts text size status =
    (status ≡ 2) ⊎ (status ≡ 3) ⊎ HandsOverPages (IsListed (files_of fonts) dvi) text.0 text.1 size status

-- A call says 6 exactly if each font has a name and a number of the page is out of its range.
abbrev pub RefusesNumbers : List Font → (page dpi width height status : ℕ) → Type 0
RefusesNumbers fonts page dpi width height status =
    status ≡ 6 ↔ ((are_named fonts ≡ true) × (is_in_range page dpi width height ≡ false))

-- A call says 5 only if the file does not have the page.
abbrev pub RefusesPage : (dvi : List ℕ) → List Font → (page status : ℕ) → Type 0
RefusesPage dvi fonts page status = status ≡ 5 → LacksPage (files_of fonts) dvi page

-- If the file does not have the page, and each font has a name and each number is in its range, a call says 5, or 2 if memory was refused.
abbrev pub NoticesNoPage : (dvi : List ℕ) → List Font → (page dpi width height status : ℕ) → Type 0
NoticesNoPage dvi fonts page dpi width height status =
    LacksPage (files_of fonts) dvi page → are_named fonts ≡ true → is_in_range page dpi width height ≡ true → (status ≡ 2) ⊎ (status ≡ 5)

-- The bitmap of a page of a DVI file with these fonts, or the line of the file's refusal, is handed over, unless nothing is done.
abbrev pub Paints : (dvi : List ℕ) → List Font → PaintOptionsView → (text : List ℕ × List ℕ) → (size status : ℕ) → Type 0
Paints dvi fonts options text size status =
    (status ≡ 2) ⊎ (status ≡ 3) ⊎ (status ≡ 5) ⊎ (status ≡ 6) ⊎ HandsOverPages (IsPainted (files_of fonts) dvi options) text.0 text.1 size status

-- The bitmap of a page as bytes, or the line of the file's refusal, is handed over, unless nothing is done.
abbrev pub PaintsBits : (dvi : List ℕ) → List Font → PaintOptionsView → (bits : List ℕ × List ℕ) → (size status : ℕ) → Type 0
PaintsBits dvi fonts options bits size status =
    (status ≡ 2) ⊎ (status ≡ 3) ⊎ (status ≡ 5) ⊎ (status ≡ 6)
    ⊎ HandsOverPages (IsPaintedInBits (files_of fonts) dvi options) bits.0 bits.1 size status

-- A call that paints no page leaves this as it was.
abbrev pub KeepsUnpainted : {A : Type 0} → (status : ℕ) → (old new : A) → Type 0
KeepsUnpainted status old new = (status ≡ 2) ⊎ (status ≡ 3) ⊎ (status ≡ 5) ⊎ (status ≡ 6) → new ≡ old

-- The fonts that a DVI file defines, or the line of its refusal, are handed over, unless memory is refused.
abbrev pub ReadsFonts : (dvi : List ℕ) → (fonts : List DviFont × List DviFont) → (text : List ℕ × List ℕ) → FontSizes → (status : ℕ) → Type 0
ReadsFonts dvi fonts text sizes status = (status ≡ 2) ⊎ HandsOverFonts dvi fonts.0 fonts.1 text.0 text.1 sizes status

-- A call without fonts that does nothing, since memory was refused, leaves this as it was.
abbrev pub KeepsUnread : {A : Type 0} → (status : ℕ) → (old new : A) → Type 0
KeepsUnread status old new = status ≡ 2 → new ≡ old

-- The marks of a DVI file with these fonts, or the line of its refusal, are handed over, unless nothing is done.
abbrev pub ReadsMarks : (dvi : List ℕ) → List Font → (old new : MarkOutputs) → MarkSizes → (status : ℕ) → Type 0
ReadsMarks dvi fonts old new sizes status = (status ≡ 2) ⊎ (status ≡ 3) ⊎ HandsOverMarks (files_of fonts) dvi old new sizes status

-- Memory is refused for a check: for a copy of the fonts, which takes none where no font is given, or for the file, as `IsDviFault` allows.
abbrev pub MayLackMemory : (dvi : List ℕ) → List Font → Type 0
MayLackMemory dvi fonts = fonts ≢ [] ⊎ IsDviFault (files_of fonts) dvi OutOfMemory

-- A DVI file with these fonts is checked. `name` is the buffer for the name of a missing font, before and after. If memory is refused, the fault says
-- so.
abbrev pub Checks : (dvi : List ℕ) → List Font → (name : List ℕ × List ℕ) → Fault → (status : ℕ) → Type 0
Checks dvi fonts name fault status =
    ((status ≡ 2) × (fault ≡ fault_numbers OutOfMemory) × MayLackMemory dvi fonts) ⊎ (status ≡ 3)
    ⊎ ChecksFile (files_of fonts) dvi name fault status

-- A call that does nothing, since a font has no name, leaves this as it was.
abbrev pub KeepsUnnamed : {A : Type 0} → (status : ℕ) → (old new : A) → Type 0
KeepsUnnamed status old new = status ≡ 3 → new ≡ old

-- A call may be asked for the design size, by 0, or for another size of a font.
abbrev pub IsAskedSize : (size : ℤ) → Type 0
IsAskedSize size = (size ≡ pos 0) ⊎ IsFontSize size

-- A call says 6 exactly if no size of a font is asked for.
abbrev pub RefusesSize : (size : ℤ) → (status : ℕ) → Type 0
RefusesSize size status = status ≡ 6 ↔ ¬ IsAskedSize size

-- The size that is asked for; none for the design size.
abbrev pub asked_size : ℤ → Option ℤ
asked_size size = if int_eq size (pos 0) then None else Some size

-- The metrics of a file at a size are written, or the file is refused, unless nothing is done.
abbrev pub ReadsMetrics : (tfm : List ℕ) → (size : ℤ) → (old new : MetricOutputs) → (status : ℕ) → Type 0
ReadsMetrics tfm size old new status = ((status ≡ 6) × (new ≡ old)) ⊎ MeasuresFont tfm (asked_size size) old new status

-- These buffers are large enough for the marks of any file of this size.
abbrev pub HasSpaceForMarks : (dvi : List ℕ) → MarkOutputs → (status : ℕ) → Type 0
HasSpaceForMarks dvi old status =
    length dvi / 46 ≤ length old.pages → length dvi ≤ length old.marks → 64 ≤ length old.text → status ≢ 4

-- A call that makes a job says 9 exactly if the handle has one.
abbrev pub RefusesJob : Option KeptState → (status : ℕ) → Type 0
RefusesJob old status = status ≡ 9 ↔ old ≢ None

-- It says 3 exactly if the handle is null and a font has no name.
abbrev pub RefusesNamesOfJob : Option KeptState → List Font → (status : ℕ) → Type 0
RefusesNamesOfJob old fonts status = status ≡ 3 ↔ ((old ≡ None) × (are_named fonts ≡ false))

-- Where it says 0, the handle has a new job with these fonts.
abbrev pub MakesJob : List Font → (new : Option KeptState) → (status : ℕ) → Type 0
MakesJob fonts new status = status ≡ 0 → (kept : KeptState) × (new ≡ Some kept) × IsNewJob (files_of fonts) kept

-- Its statuses.
abbrev pub IsStatusOfNew : (status : ℕ) → Type 0
IsStatusOfNew status = (status ≡ 0) ⊎ (status ≡ 2) ⊎ (status ≡ 3) ⊎ (status ≡ 9)

-- A call on a handle says 8 exactly if the handle has no job.
abbrev pub NeedsJob : Option KeptState → (status : ℕ) → Type 0
NeedsJob old status = status ≡ 8 ↔ old ≡ None

-- A call on a handle without a job leaves this as it was.
abbrev pub KeepsWithoutJob : {A : Type 0} → (status : ℕ) → (old new : A) → Type 0
KeepsWithoutJob status old new = status ≡ 8 → new ≡ old

-- A call on a handle: where there is no job, there is none after it; and where there is one, it is related to the one after it and the status.
abbrev pub OnJob : (KeptState → KeptState → ℕ → Type 0) → (old new : Option KeptState) → (status : ℕ) → Type 0
OnJob Does None None status = status ≡ 8
OnJob Does None (Some new) status = ⊥
OnJob Does (Some old) None status = ⊥
OnJob Does (Some old) (Some new) status = Does old new status
