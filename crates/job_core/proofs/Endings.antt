-- The end of a job and of its machine.
use Rattle.std.proofs.Common.{◌+◌, ◌≡◌, ◌≢◌, ◌⊎◌, inl, inr, ℕ, Bool, true, false, List, [], length, Option, Some, None, Ok, Err, refl, ap, subst, sym, ◌∙◌}
use Rattle.std.specs.Prelude.{◌==◌, not, map, IfSome}
use Rattle.std.proofs.lemmas.Option.{IfSome_then}
use Rattle.job_machine.specs.declared.replies.Refusal.TheVariants.{OutOfMemory, Device, JobOver, ListsOpen}
use Rattle.page_core.specs.declared.summary.Summary.{Summary}
use Rattle.dvi_device.specs.Written.{written_then, GrowsByFront}
use Rattle.dvi_device.specs.Pasts.{Past, KeepsPast}
use Rattle.dvi_ops.specs.Fonts.{WidthsByName}
use Rattle.tfm_core.specs.Slots.{Slots}
use Rattle.dvi_write.specs.Layout.{whole}
use Rattle.dvi_write.specs.SoFar.{ProgressView, last_bytes}
use Rattle.dvi_ops.specs.File.{IsFileOfPages}
use Rattle.page_core.specs.Marks.{read_page}
use Rattle.dvi_write.specs.Shippable.{GivesFonts}
use Rattle.dvi_write.specs.declared.fault.WriteFault.{WriteFault}
use Rattle.dvi_write.specs.declared.fault.WriteFault.TheVariants as faults
use Rattle.dvi_write.specs.Writing.{Writing, HasWritten, MayFail}
use Rattle.job_machine.specs.State.{State}
use Rattle.job_machine.specs.Checks.{first_refusal}
use Rattle.job_machine.specs.Machine.{Machine, stopped_machine}
use Rattle.job_machine.specs.Runs.{finish_checks, Finished, Refuses, WantsMemory, LostDevice}
use Rattle.dvi_write.proofs.Writings.{ended_count, ended_part}
use Rattle.job_state.specs.JobStateView.{JobStateView, state_of}
use Rattle.job_state.specs.Private.Loaded.{AreLoaded}
use Rattle.job_state.proofs.LoadedFonts.{loaded_in, widths-loaded}
use Rattle.tfm_core.specs.NamedBytes.{NamedBytes}
use Rattle.job_core.specs.Jobs.{JobView, writing_of, IsProperFrontOf, due_bytes, Represents, FinishesTo}
use Rattle.job_core.specs.Private.Sound.{view_of, write_refusal}
use Rattle.job_core.specs.Shown.{GivesFiles}
use Rattle.job_core.proofs.FreshDevices.{before_writing, said, said_part, writer_has}
use Rattle.job_core.proofs.Moves.{stops, due_landed}

-- If the job is not over and no list is open, no check refuses the end.
pub may_finish : (s : State) → s.over ≡ false → not (length s.nest == 0) ≡ false → first_refusal (finish_checks s) ≡ None
may_finish s running closed = rw (running, closed) refl

-- A job that is not over has written the pages of the machine that it represents.
pub has_written : (old : JobView) (m : Machine) → Represents old m → old.state.over ≡ false → HasWritten m.state.fonts (before_writing old.bytes_written) (writing_of old) m.pages
has_written old m holds running = writer_has old m running (holds.written (sym (ap (λ (s : State). s.over) holds.state) ∙ running))

-- It has written them with the fonts that it has.
pub has_written_by : (old : JobView) (m : Machine) (fonts : Slots) → Represents old m → old.state.over ≡ false → fonts ≡ old.state.fonts → HasWritten fonts (before_writing old.bytes_written) (writing_of old) m.pages
has_written_by old m fonts holds running same =
    subst (λ f. HasWritten f (before_writing old.bytes_written) (writing_of old) m.pages) (sym (same ∙ ap (λ (s : State). s.fonts) holds.state)) (has_written old m holds running)

-- The fonts of a job are those of its machine.
pub fonts_are : (old : JobView) (m : Machine) (fonts : Slots) → Represents old m → fonts ≡ old.state.fonts → fonts ≡ m.state.fonts
fonts_are old m fonts holds same = same ∙ ap (λ (s : State). s.fonts) holds.state

true_and_false : {b : Bool} → b ≡ true → b ≡ false → ⊥
true_and_false t f = cc

-- What the device reports after the end of a file, by the fonts of the machine.
pub sent_by : (old : JobView) (m : Machine) (fonts : Slots) (bytes_written : Option (List ℕ)) → Represents old m → fonts ≡ old.state.fonts → bytes_written ≡ written_then (before_writing old.bytes_written) (whole fonts m.pages)
    → IfSome bytes_written (λ bytes. bytes ≡ whole m.state.fonts m.pages)
sent_by old m fonts bytes_written holds same sent =
    said old.bytes_written bytes_written (whole fonts m.pages) (λ bytes. bytes ≡ whole m.state.fonts m.pages) sent (ap (λ (f : Slots). whole f m.pages) (fonts_are old m fonts holds same))

pub part_by : (old : JobView) (m : Machine) (fonts : Slots) (bytes_written : Option (List ℕ)) → Represents old m → old.state.over ≡ false → fonts ≡ old.state.fonts → old.so_far.pages ≢ 0
    → GrowsByFront old.bytes_written bytes_written (last_bytes fonts old.so_far) → IfSome bytes_written (λ bytes. IsProperFrontOf bytes (whole m.state.fonts m.pages))
part_by old m fonts bytes_written holds running same some since =
    let part = ended_part fonts (before_writing old.bytes_written) bytes_written (writing_of old) m.pages (has_written_by old m fonts holds running same) some since in
    subst (λ (f : Slots). IfSome bytes_written (λ bytes. IsProperFrontOf bytes (whole f m.pages))) (fonts_are old m fonts holds same) (said_part old.bytes_written bytes_written (whole fonts m.pages) part)

-- The number of bytes, by the fonts of the machine.
pub count_by : (old : JobView) (m : Machine) (fonts : Slots) (count : ℕ) → Represents old m → fonts ≡ old.state.fonts → count ≡ length (whole fonts m.pages) → count ≡ length (whole m.state.fonts m.pages)
count_by old m fonts count holds same is = is ∙ ap (λ (f : Slots). length (whole f m.pages)) (fonts_are old m fonts holds same)

pub size_by : (bytes_written new : Option (List ℕ)) (all : List ℕ) (count : ℕ) → new ≡ written_then (before_writing bytes_written) all → count ≡ length all → IfSome new (λ bytes. count ≡ length bytes)
size_by bytes_written new all count is size = said bytes_written new all (λ bytes. count ≡ length bytes) is size

-- What the device made of the end of a file, by the fonts of the machine.
pub kept_by : (old : JobView) (m : Machine) (fonts : Slots) (began new past : Past) → Represents old m → fonts ≡ old.state.fonts → new ≡ began → KeepsPast began (whole fonts m.pages) past
    → KeepsPast new (whole m.state.fonts m.pages) past
kept_by old m fonts began new past holds same is keeps =
    subst (λ (p : Past). KeepsPast p (whole m.state.fonts m.pages) past) (sym is) (subst (λ (f : Slots). KeepsPast began (whole f m.pages) past) (fonts_are old m fonts holds same) keeps)

-- If the end of a file that is not over fails, there are pages.
pub some_where : (w : Writing) (fault : WriteFault) → w.over ≡ false → MayFail w fault → w.so_far.pages ≢ 0
some_where w fault running (inl h) = absurd (true_and_false h.0 running)
some_where w fault running (inr h) = h.1

some_pages : (old : JobView) (m : Machine) → Represents old m → old.state.over ≡ false → old.so_far.pages ≢ 0 → m.pages ≢ []
some_pages old m holds running some none =
    some (ended_count m.state.fonts _ (writing_of old) m.pages (has_written old m holds running) ∙ ap length none)

pub over_refused : (old : JobView) → old.state.over ≡ true → FinishesTo old (Err JobOver) old
over_refused old over m holds =
    let m_over : m.state.over ≡ true = sym (ap (λ (s : State). s.over) holds.state) ∙ over in
    (m, Refuses JobOver refl (rw m_over refl) refl refl, holds)

pub open_refused : (old : JobView) → old.state.over ≡ false → not (length old.state.nest == 0) ≡ true → FinishesTo old (Err ListsOpen) old
open_refused old running nested m holds =
    let m_runs : m.state.over ≡ false = sym (ap (λ (s : State). s.over) holds.state) ∙ running in
    let m_nested : not (length m.state.nest == 0) ≡ true = sym (ap (λ (s : State). not (length s.nest == 0)) holds.state) ∙ nested in
    (m, Refuses ListsOpen refl (rw (m_runs, m_nested) refl) refl refl, holds)

accepted : (old : JobView) (m : Machine) → Represents old m → first_refusal (finish_checks old.state) ≡ None → first_refusal (finish_checks m.state) ≡ None
accepted old m holds may = sym (ap (λ s. first_refusal (finish_checks s)) holds.state) ∙ may

-- If the end is not refused, the job is not over, so no page is being sent.
pub runs_by : (s : State) (over : Bool) → s.over ≡ over → first_refusal (finish_checks s) ≡ None → over ≡ false
runs_by s true is may =
    let refused : first_refusal (finish_checks s) ≡ Some JobOver = rw is refl in
    cc
runs_by s false is may = refl

none_flies : (old : JobView) (m : Machine) → Represents old m → first_refusal (finish_checks old.state) ≡ None → m.flight ≡ []
none_flies old m holds may = holds.none (runs_by m.state m.state.over refl (accepted old m holds may))

-- What the device made of the end, by all bytes of the machine.
ended_past : (old new : JobView) (m : Machine) → Represents old m → first_refusal (finish_checks old.state) ≡ None → KeepsPast new.began (whole m.state.fonts m.pages) new.past
    → KeepsPast new.began (due_bytes (record (stopped_machine m) { flight = m.flight })) new.past
ended_past old new m holds may keeps = subst (λ (bytes : List ℕ). KeepsPast new.began bytes new.past) (due_landed m m.flight (none_flies old m holds may)) keeps

pub finished :
    (old new : JobView) (summary : Summary)
    → first_refusal (finish_checks old.state) ≡ None
    → new.state ≡ record (old.state) { over = true }
    → ((m : Machine) → Represents old m → summary.pages ≡ length m.pages)
    → new.failed ≡ old.failed
    → ((more : List ℕ) × (new.bytes_written ≡ written_then old.bytes_written more))
    → ((m : Machine) → Represents old m → IfSome new.bytes_written (λ bytes. bytes ≡ whole m.state.fonts m.pages))
    → ((m : Machine) → Represents old m → KeepsPast new.began (whole m.state.fonts m.pages) new.past)
    → FinishesTo old (Ok summary) new
finished old new summary may goes counts fails grows sent keeps m holds = (
  stopped_machine m,
  Finished summary refl (accepted old m holds may) (counts m holds) refl fails,
  stops old new m m.flight holds goes grows (IfSome_then new.bytes_written (sent m holds) (λ bytes is. inl (none_flies old m holds may, inl is)))
      (ended_past old new m holds may (keeps m holds)),
)

pub wanting : (old : JobView) → first_refusal (finish_checks old.state) ≡ None → old.state.over ≡ false → old.so_far.pages ≢ 0 → FinishesTo old (Err OutOfMemory) old
wanting old may running some m holds = (m, WantsMemory refl (accepted old m holds may) (some_pages old m holds running some) refl refl, holds)

pub losing :
    (old new : JobView)
    → first_refusal (finish_checks old.state) ≡ None
    → old.state.over ≡ false
    → old.so_far.pages ≢ 0
    → new.state ≡ record (old.state) { over = true }
    → new.failed ≡ old.failed + 1
    → ((more : List ℕ) × (new.bytes_written ≡ written_then old.bytes_written more))
    → ((m : Machine) → Represents old m → IfSome new.bytes_written (λ bytes. IsProperFrontOf bytes (whole m.state.fonts m.pages)))
    → ((m : Machine) → Represents old m → KeepsPast new.began (whole m.state.fonts m.pages) new.past)
    → FinishesTo old (Err Device) new
losing old new may running some goes fails grows part keeps m holds = (
  stopped_machine m,
  LostDevice refl (accepted old m holds may) (some_pages old m holds running some) refl fails,
  stops old new m m.flight holds goes grows (IfSome_then new.bytes_written (part m holds) (λ bytes front. inl (none_flies old m holds may, inr front)))
      (ended_past old new m holds may (keeps m holds)),
)

by_fault : (old new : JobView) (fault : WriteFault) → (fault ≡ faults.OutOfMemory) ⊎ (fault ≡ faults.Device) → (fault ≢ faults.Device → FinishesTo old (Err OutOfMemory) new)
    → (fault ≡ faults.Device → FinishesTo old (Err Device) new) → FinishesTo old (Err (write_refusal fault)) new
by_fault old new fault (inl is) memory lost =
    subst (λ (f : WriteFault). FinishesTo old (Err (write_refusal f)) new) (sym is) (memory (λ device. absurd (cc)))
by_fault old new fault (inr is) memory lost = subst (λ (f : WriteFault). FinishesTo old (Err (write_refusal f)) new) (sym is) (lost is)

-- The end of a file that is not over fails for want of memory or by the device.
pub unfinished : (old new : JobView) (w : Writing) (fault : WriteFault) → w.over ≡ false → MayFail w fault → (fault ≢ faults.Device → FinishesTo old (Err OutOfMemory) new)
    → (fault ≡ faults.Device → FinishesTo old (Err Device) new) → FinishesTo old (Err (write_refusal fault)) new
unfinished old new w fault running (inl h) memory lost = absurd (true_and_false h.0 running)
unfinished old new w fault running (inr h) memory lost = by_fault old new fault h.2 memory lost

-- A job whose writer has ended is stopped.
pub stopped : (kept : JobStateView) (w now : Writing) → now.so_far ≡ w.so_far → now.over ≡ true → (view_of kept now).state ≡ record ((view_of kept w).state) { over = true }
stopped kept w now same over =
    ap (λ (x : ProgressView). state_of kept x.load x.pages now.over) same ∙ ap (λ over. state_of kept w.so_far.load w.so_far.pages over) over

-- Metrics that give what the font files give also give the fonts of the job.
gives_fonts : (metrics : WidthsByName) (files : List NamedBytes) (fonts : Slots) → AreLoaded files fonts → GivesFiles metrics files → GivesFonts metrics fonts
gives_fonts metrics files fonts loaded gives slot l has = gives l.name l.font.size _ (widths-loaded files l (loaded_in files fonts slot l loaded has).0)

-- A file of the pages by the fonts of a job is one by its font files.
pub filed : (old : JobView) (m : Machine) (metrics : WidthsByName) (bytes : List ℕ) → Represents old m → AreLoaded old.state.files old.state.fonts → GivesFiles metrics m.state.files
    → (GivesFonts metrics m.state.fonts → IsFileOfPages metrics bytes (map read_page m.pages)) → IsFileOfPages metrics bytes (map read_page m.pages)
filed old m metrics bytes holds loaded gives file =
    file (gives_fonts metrics m.state.files m.state.fonts (subst (λ (s : State). AreLoaded s.files s.fonts) holds.state loaded) gives)
