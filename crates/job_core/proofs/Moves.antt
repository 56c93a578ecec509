-- How a job and the machine that it represents move together.
use Rattle.std.proofs.Common.{◌≡◌, ℕ, ◌+◌, Bool, true, false, List, [], ◌∷◌, ◌++◌, Option, Some, None, Err, refl, ap, sym, ◌∙◌, subst, inr, arith, append-nil}
use Rattle.std.specs.Prelude.{◌≢◌, Ok, is_none, if◌then◌else◌, IfOk, IfErr, IfSome}
use Rattle.std.proofs.lemmas.Option.{IfSome_then}
use Rattle.node_core.specs.declared.tree.BoxNode.{BoxNode}
use Rattle.job_machine.specs.declared.command.Command.{Command}
use Rattle.job_machine.specs.declared.command.Command.TheVariants.{Ship}
use Rattle.job_machine.specs.declared.replies.Answer.{Answer}
use Rattle.job_machine.specs.declared.replies.Refusal.{Refusal}
use Rattle.job_machine.specs.declared.replies.Refusal.TheVariants.{OutOfMemory, Device, JobOver}
use Rattle.job_machine.specs.Reply.{Reply}
use Rattle.page_core.specs.Marks.{ShippedPage}
use Rattle.dvi_device.specs.Written.{written_then, IsFrontOf}
use Rattle.dvi_device.specs.Pasts.{Past, past_after, KeepsPast}
use Rattle.dvi_device.proofs.PastLaws.{keeps_taken}
use Rattle.dvi_write.specs.Layout.{unfinished_file, whole}
use Rattle.dvi_write.specs.Writing.{Writing, HasWritten}
use Rattle.dvi_write.proofs.Writings.{written_with_more}
use Rattle.job_machine.specs.State.{State, held_in}
use Rattle.job_machine.specs.Checks.{checks, own_checks, first_refusal}
use Rattle.job_machine.specs.NextPages.{shipped_pages}
use Rattle.job_machine.specs.Answers.{answer_of}
use Rattle.job_machine.specs.Effects.{state_after_command, new_pages}
use Rattle.job_machine.specs.Machine.{Machine, reply_by, reply_to, state_by, state_after, step, stopped_machine, lost_machine}
use Rattle.job_machine.specs.Runs.{IsShip, MayRunOutOfMemory, early_checks, StepsTo, Replies, LacksMemory, LosesDevice, Run}
use Rattle.job_core.specs.Jobs.{JobView, writing_of, IsProperFrontOf, IsSentPart, HasWrittenPages, due_bytes, Represents, KeepsTo, RunsTo}
use Rattle.job_core.specs.Private.Jobs.{AppendsPagesOf, pages_after}
use Rattle.job_core.specs.Private.Sound.{IsSound, IsBoundedFile, view_of}
use Rattle.job_core.proofs.FreshDevices.{before_writing, begins, begins_on, writer_has, job_has}
use Rattle.job_state.specs.Loaded.{GivesNumbersFor}
use Rattle.job_state.specs.JobStateView.{JobStateView, state_of, before_shipping}
use Rattle.job_machine.proofs.Refusals.{counted_fault}
use Rattle.job_machine.proofs.KeptRest.{job_kept}
use Rattle.job_machine.proofs.RunLaws.{box_is_held, counted}
use Rattle.job_machine.proofs.Numbers.{numbered, apart, reply_apart, state_apart}
use Rattle.job_state.proofs.SizedGlyphs.{sized_after, stays_loaded}
use Rattle.job_state.proofs.LoadedFonts.{loaded_after}

-- What was written stays written with the fonts after a command.
with_fonts : (s : State) (command : Command) (refused : Option Refusal) → first_refusal (checks s command) ≡ refused → (before : Option (List ℕ)) (w : Writing) (pages : List ShippedPage)
    → HasWritten s.fonts before w pages → HasWritten (state_by refused s (state_after_command s command)).fonts before w pages
with_fonts s command (Some refusal) is before w pages written = written
with_fonts s command None is before w pages written = written_with_more s.fonts (state_after_command s command).fonts before w pages (stays_loaded s command is) written

pub true_or_false : {b : Bool} → b ≡ true → b ≡ false → ⊥
true_or_false t f = cc

-- The machine after a command, by its refusal.
abbrev step_by : Machine → Command → Option Refusal → Machine
step_by m command r = record { state = state_by r m.state (state_after_command m.state command); pages = state_by r m.pages (m.pages ++ new_pages m.state command); flight = m.flight }

-- A machine that is over refuses each command.
over_refuses : (s : State) (command : Command) → s.over ≡ true → first_refusal (checks s command) ≡ Some JobOver
over_refuses s command over = ap (λ over. if over then Some JobOver else first_refusal (own_checks s command)) over

-- A machine that is over stays, and so does what was sent.
sent_stays : (m : Machine) (command : Command) (old new : Option (List ℕ)) → m.state.over ≡ true → new ≡ old → IfSome old (IsSentPart m) → IfSome new (IsSentPart (step m command))
sent_stays m command old new over same sent =
    subst (λ (r : Option Refusal). IfSome new (IsSentPart (step_by m command r))) (sym (over_refuses m.state command over))
    (subst (λ (bytes_written : Option (List ℕ)). IfSome bytes_written (IsSentPart m)) (sym same) sent)

-- All bytes of the machine's pages.
abbrev pages_of : Machine → List ℕ
pages_of m = unfinished_file m.state.fonts m.pages

-- The device has the pages of the next machine: until the job is over it has reported exactly them, and then nothing changes.
next_has_pages : (m : Machine) (command : Command) (old new : Option (List ℕ)) (over : Bool) → m.state.over ≡ over
    → (m.state.over ≡ false → IfSome new (λ bytes. bytes ≡ pages_of (step m command)))
    → (m.state.over ≡ true → new ≡ old) → IfSome old (λ bytes. IsFrontOf (pages_of m) bytes) → IfSome new (λ bytes. IsFrontOf (pages_of (step m command)) bytes)
next_has_pages m command old new false runs exact stays held = begins (pages_of (step m command)) new (exact runs)
next_has_pages m command old new true over exact stays held =
    subst (λ (r : Option Refusal). IfSome new (λ bytes. IsFrontOf (pages_of (step_by m command r)) bytes)) (sym (over_refuses m.state command over))
    (subst (λ (bytes_written : Option (List ℕ)). IfSome bytes_written (λ bytes. IsFrontOf (pages_of m) bytes)) (sym (stays over)) held)

-- A device has met the bytes of the next machine, until the job is over; and then nothing changes.
next_past : (m : Machine) (command : Command) (old new began : Past) (over : Bool) → m.state.over ≡ over
    → (m.state.over ≡ false → new ≡ past_after began (unfinished_file (step m command).state.fonts (step m command).pages))
    → (m.state.over ≡ true → new ≡ old) → KeepsPast began (due_bytes m) old → KeepsPast began (due_bytes (step m command)) new
next_past m command old new began false runs exact stays holds = keeps_taken began new (unfinished_file (step m command).state.fonts (step m command).pages) (due_bytes (step m command)) (exact runs)
next_past m command old new began true over exact stays holds =
    subst (λ (r : Option Refusal). KeepsPast began (due_bytes (step_by m command r)) new) (sym (over_refuses m.state command over)) (subst (KeepsPast began (due_bytes m)) (sym (stays over)) holds)

-- A job that replies as the machine's table follows the machine.
pub replied :
    (old new : JobView) (command : Command) (reply : Reply)
    → reply ≡ reply_to old.state command
    → new.state ≡ state_after old.state command
    → (old.state.over ≡ false → AppendsPagesOf old.state command (writing_of old) (writing_of new))
    → (old.state.over ≡ true → (new.bytes_written ≡ old.bytes_written) × (new.past ≡ old.past))
    → new.failed ≡ old.failed
    → new.began ≡ old.began
    → KeepsTo old command reply new
replied old new command reply says goes writes stays fails began m holds =
    let on = subst (λ (s : State). s.over ≡ false → AppendsPagesOf s command (writing_of old) (writing_of new)) holds.state writes in
    let written : m.state.over ≡ false → HasWrittenPages new (step m command) =
    λ ran. job_has old.bytes_written new (step m command)
    (with_fonts m.state command (first_refusal (checks m.state command)) refl (before_writing old.bytes_written) (writing_of new) (pages_after m.state m.pages command)
    (on ran (before_writing old.bytes_written) m.pages (writer_has old m (ap (λ (s : State). s.over) holds.state ∙ ran) (holds.written ran)))) in
    let same : m.state.over ≡ true → (new.bytes_written ≡ old.bytes_written) × (new.past ≡ old.past) = λ over. stays (ap (λ (s : State). s.over) holds.state ∙ over) in (
      step m command,
      Replies (says ∙ ap (λ s. reply_to s command) holds.state) refl fails,
      record {
        state = goes ∙ ap (λ s. state_after s command) holds.state;
        count = counted m.state command m.pages (first_refusal (checks m.state command)) refl holds.count;
        written = λ running. written (sym (job_kept m.state command).over ∙ running);
        none = λ running. holds.none (sym (job_kept m.state command).over ∙ running);
        held = next_has_pages m command old.bytes_written new.bytes_written m.state.over refl (λ ran. (written ran).bytes_written) (λ over. (same over).0) holds.held;
        sent = λ ended.
            let over : m.state.over ≡ true = sym (job_kept m.state command).over ∙ ended in
            sent_stays m command old.bytes_written new.bytes_written over (same over).0 (holds.sent over);
        past =
            next_past m command old.past new.past new.began m.state.over refl (λ ran. (written ran).past) (λ over. (same over).1)
            (subst (λ (p : Past). KeepsPast p (due_bytes m) old.past) (sym began) holds.past);
      },
    )

-- A job that runs out of memory in a command that is accepted follows the machine.
pub lacking :
    (old : JobView) (command : Command) (reply : Reply)
    → reply ≡ Err OutOfMemory
    → MayRunOutOfMemory old.state command
    → first_refusal (early_checks old.state command) ≡ None
    → KeepsTo old command reply old
lacking old command reply says takes accepted m holds =
    (m, LacksMemory says (subst (λ (s : State). MayRunOutOfMemory s command) holds.state takes) (sym (ap (λ s. first_refusal (early_checks s command)) holds.state) ∙ accepted) refl refl, holds)

-- No reply of the machine is that the device failed.
pub never_device : (s : State) (command : Command) (reply : Reply) → reply ≡ reply_to s command → reply ≡ Err Device → ⊥
never_device s command reply says is =
    let m : Machine = record { state = s; pages = []; flight = [] } in
    let less : 0 ≡ 0 + 1 = counted_fault m (step m command) 0 0 command (Replies (sym is ∙ says) refl refl) in
    omega (arith, less)

-- A job that refuses a command as the machine does stays as it is.
pub refuses : (old : JobView) (command : Command) (refusal : Refusal) → first_refusal (checks old.state command) ≡ Some refusal → KeepsTo old command (Err refusal) old
refuses old command refusal is =
    let s = old.state in
    replied old old command (Err refusal) (sym (ap (λ refused. reply_by refused (answer_of s command)) is))
    (sym (ap (λ refused. state_by refused s (state_after_command s command)) is))
    (λ running before pages written. subst (HasWritten s.fonts before (writing_of old)) (sym (ap (λ refused. state_by refused pages (pages ++ new_pages s command)) is)) written)
    (λ over. (refl, refl)) refl refl

-- A job that is over stays as it is.
pub over_replies : (old : JobView) (command : Command) → old.state.over ≡ true → KeepsTo old command (Err JobOver) old
over_replies old command over = refuses old command JobOver (ap (λ over. if over then Some JobOver else first_refusal (own_checks old.state command)) over)

-- A job that is stopped represents the stopped machine.
pub stops : (old new : JobView) (m : Machine) (flight : List ShippedPage) → Represents old m → new.state ≡ record (old.state) { over = true }
    → ((more : List ℕ) × (new.bytes_written ≡ written_then old.bytes_written more))
    → IfSome new.bytes_written (IsSentPart (record (stopped_machine m) { flight = flight })) → KeepsPast new.began (due_bytes (record (stopped_machine m) { flight = flight })) new.past
    → Represents new (record (stopped_machine m) { flight = flight })
stops old new m flight holds goes grows sent past =
    record {
      state = goes ∙ ap (λ (s : State). record s { over = true }) holds.state;
      count = holds.count;
      written = λ running. absurd (true_or_false refl running);
      none = λ running. absurd (true_or_false refl running);
      held = begins_on (pages_of m) old.bytes_written new.bytes_written holds.held grows;
      sent = λ over. sent;
      past = past;
    }

-- The bytes of a machine whose page is being sent.
due_flying : (m : Machine) (flight : List ShippedPage) → flight ≢ [] → unfinished_file m.state.fonts (m.pages ++ flight) ≡ due_bytes (record (stopped_machine m) { flight = flight })
due_flying m [] some = absurd (some refl)
due_flying m (page ∷ more) some = refl

-- The bytes of a machine without such a page.
pub due_landed : (m : Machine) (flight : List ShippedPage) → flight ≡ [] → whole m.state.fonts m.pages ≡ due_bytes (record (stopped_machine m) { flight = flight })
due_landed m [] none = refl
due_landed m (page ∷ more) none = cc

-- A ship that is accepted makes a page.
some_page : (s : State) (r : ℕ) → first_refusal (checks s (Ship r)) ≡ None → new_pages s (Ship r) ≢ []
some_page s r none = cases (held_in s.registers r) (box_is_held s r none)
  where
    cases : (held : Option BoxNode) → is_none held ≡ false → shipped_pages s held ≢ []
    cases None isnt = cc
    cases (Some b) isnt = λ empty. cc

-- A job whose device fails in a ship that is accepted follows the machine.
pub losing_page :
    (old new : JobView) (r : ℕ)
    → first_refusal (checks old.state (Ship r)) ≡ None
    → new.state ≡ record (old.state) { over = true }
    → new.failed ≡ old.failed + 1
    → ((more : List ℕ) × (new.bytes_written ≡ written_then old.bytes_written more))
    → ((m : Machine) → Represents old m → IfSome new.bytes_written (λ bytes. IsProperFrontOf bytes (unfinished_file m.state.fonts (m.pages ++ new_pages m.state (Ship r)))))
    → ((m : Machine) → Represents old m → KeepsPast new.began (unfinished_file m.state.fonts (m.pages ++ new_pages m.state (Ship r))) new.past)
    → KeepsTo old (Ship r) (Err Device) new
losing_page old new r accepted goes fails grows part keeps m holds =
    let s = m.state in
    let taken : first_refusal (checks s (Ship r)) ≡ None = sym (ap (λ s. first_refusal (checks s (Ship r))) holds.state) ∙ accepted in
    let sent : IfSome new.bytes_written (IsSentPart (lost_machine m (Ship r))) = IfSome_then new.bytes_written (part m holds) (λ bytes front. inr (some_page s r taken, front)) in
    let past = subst (λ (bytes : List ℕ). KeepsPast new.began bytes new.past) (due_flying m (new_pages s (Ship r)) (some_page s r taken)) (keeps m holds) in
    (lost_machine m (Ship r), LosesDevice refl tt taken refl fails, stops old new m (new_pages s (Ship r)) holds goes grows sent past)

-- What was written stays after a command that ships nothing.
pub goes_on_without : (old new : JobView) (command : Command) → (IsShip command → ⊥) → new.state ≡ state_after old.state command → new.so_far ≡ old.so_far → new.bytes_written ≡ old.bytes_written
    → new.past ≡ old.past → new.began ≡ old.began → AppendsPagesOf old.state command (writing_of old) (writing_of new)
goes_on_without old new command other goes keeps tells past began before pages written =
    let same : pages ≡ pages_after old.state pages command = kept_pages (first_refusal (checks old.state command)) in
    let over : old.state.over ≡ new.state.over = sym (ap (λ (s : State). s.over) goes ∙ (job_kept old.state command).over) in
    subst (HasWritten old.state.fonts before (writing_of new)) same
    (record {
      bytes_written = tells ∙ written.bytes_written;
      past = past ∙ (written.past ∙ ap (λ (p : Past). past_after p (unfinished_file old.state.fonts pages)) (sym began));
      so_far = keeps ∙ written.so_far;
      right = written.right;
      running = sym over ∙ written.running;
    })
  where
    kept_pages : (refused : Option Refusal) → pages ≡ state_by refused pages (pages ++ new_pages old.state command)
    kept_pages None = sym (append-nil pages) ∙ ap (λ more. pages ++ more) (sym (apart old.state old.state.shipped 0 command other).none)
    kept_pages (Some refusal) = refl

-- A command that is accepted loads only a font that a file of pages can define.
with_numbers : (s : State) (command : Command) (reply : Reply) → reply ≡ reply_to s command → IfOk reply (λ answer. GivesNumbersFor s command)
    → first_refusal (checks s command) ≡ None → GivesNumbersFor s command
with_numbers s command reply says numbers none =
    subst (λ (r : Reply). IfOk r (λ answer. GivesNumbersFor s command)) (says ∙ ap (λ refused. reply_by refused (answer_of s command)) none) numbers

-- Fonts and glyphs stay those of the font files.
sound_by : (s : State) (command : Command) (refused : Option Refusal) → first_refusal (checks s command) ≡ refused → (refused ≡ None → GivesNumbersFor s command) → IsSound s
    → IsSound (state_by refused s (state_after_command s command))
sound_by s command (Some refusal) is numbers sound = sound
sound_by s command None is numbers sound = record { fonts = loaded_after s command is (numbers refl) sound.fonts; glyphs = sized_after s command is sound.glyphs }

pub sound_after : (s : State) (command : Command) (reply : Reply) → reply ≡ reply_to s command → IfOk reply (λ answer. GivesNumbersFor s command) → IsSound s
    → IsSound (state_after s command)
sound_after s command reply says numbers sound = sound_by s command (first_refusal (checks s command)) refl (with_numbers s command reply says numbers) sound

-- The view of a job with this writer and this state of the rest.
abbrev view_at : Writing → State → JobView
view_at w s =
    record {
      state = record s { shipped = w.so_far.load; pages = w.so_far.pages; over = w.over };
      so_far = w.so_far;
      bytes_written = w.bytes_written;
      failed = w.failed;
      past = w.past;
      began = w.began;
    }

unmoved : (refusal : Refusal) (answer : Answer) (s t : State) (refused : Option Refusal) → reply_by refused answer ≡ Err refusal → state_by refused s t ≡ s
unmoved refusal answer s t None is = cc
unmoved refusal answer s t (Some other) is = refl

-- A job that refuses a command as the machine does stays as it is.
pub stays_refused : (kept now : JobStateView) (w : Writing) (command : Command) (reply : Reply) → reply ≡ reply_to (before_shipping kept) command
    → before_shipping now ≡ state_after (before_shipping kept) command → IfErr reply (λ refusal. refusal ≢ Device → view_of now w ≡ view_of kept w)
stays_refused kept now w command (Ok answer) says goes = tt
stays_refused kept now w command (Err refusal) says goes =
    let s = before_shipping kept in
    λ other. ap (view_at w) (goes ∙ unmoved refusal (answer_of s command) s (state_after_command s command) (first_refusal (checks s command)) (sym says))

-- A command that ships nothing leaves the file within the limits.
pub bounded_after : (s : State) (w : Writing) (command : Command) → IsBoundedFile s.fonts w → IsBoundedFile (state_after s command).fonts w
bounded_after s w command bounded =
    record {
      space = bounded.space;
      before = bounded.before;
      pages = bounded.pages;
      written = with_fonts s command (first_refusal (checks s command)) refl bounded.before w bounded.pages bounded.written;
    }

-- The effect of a command that ships nothing is the same under the numbers of any writer whose file is not over.
module _ (kept : JobStateView) (w : Writing) (command : Command) (other : IsShip command → ⊥) (running : w.over ≡ false) where
  abbrev s : State
  s = state_of kept w.so_far.load w.so_far.pages false

  runs : s ≡ (view_of kept w).state
  runs = ap (λ over. state_of kept w.so_far.load w.so_far.pages over) (sym running)

  pub seen_reply : (reply : Reply) → reply ≡ reply_to (before_shipping kept) command → reply ≡ reply_to (view_of kept w).state command
  seen_reply reply says =
      says ∙ (sym (reply_apart (before_shipping kept) w.so_far.load w.so_far.pages command other) ∙ ap (λ s. reply_to s command) runs)

  pub seen_state : (now : JobStateView) → before_shipping now ≡ state_after (before_shipping kept) command → (view_of now w).state ≡ state_after (view_of kept w).state command
  seen_state now goes =
      ap (λ over. state_of now w.so_far.load w.so_far.pages over) running
      ∙ (ap (λ t. numbered t w.so_far.load w.so_far.pages) goes
      ∙ (sym (state_apart (before_shipping kept) w.so_far.load w.so_far.pages command other) ∙ ap (λ s. state_after s command) runs))

  pub seen_early : first_refusal (early_checks (before_shipping kept) command) ≡ None → first_refusal (early_checks (view_of kept w).state command) ≡ None
  seen_early none =
      ap (λ s. first_refusal (early_checks s command)) (sym runs) ∙ ((apart (before_shipping kept) w.so_far.load w.so_far.pages command other).early ∙ none)

  pub seen_memory : MayRunOutOfMemory (before_shipping kept) command → MayRunOutOfMemory (view_of kept w).state command
  seen_memory takes = subst (λ (s : State). MayRunOutOfMemory s command) runs ((apart (before_shipping kept) w.so_far.load w.so_far.pages command other).memory takes)

  -- A job that replies so follows the machine.
  pub obeyed : (now : JobStateView) (reply : Reply) → reply ≡ reply_to (before_shipping kept) command → before_shipping now ≡ state_after (before_shipping kept) command
      → KeepsTo (view_of kept w) command reply (view_of now w)
  obeyed now reply says goes =
      let old = view_of kept w in
      let new = view_of now w in
      replied old new command reply (seen_reply reply says) (seen_state now goes) (λ runs. goes_on_without old new command other (seen_state now goes) refl refl refl refl) (λ over. (refl, refl)) refl refl

  -- So does a job that runs out of memory.
  pub wants : MayRunOutOfMemory (before_shipping kept) command → first_refusal (early_checks (before_shipping kept) command) ≡ None → KeepsTo (view_of kept w) command (Err OutOfMemory) (view_of kept w)
  wants takes none = lacking (view_of kept w) command (Err OutOfMemory) refl (seen_memory takes) (seen_early none)

-- A run with one more command.
pub run_more :
    (m : Machine) (n : ℕ) (commands : List Command) (replies : List Reply) (middle : Machine) (i : ℕ) (command : Command) (reply : Reply) (next : Machine) (k : ℕ)
    → Run m n commands replies middle i → StepsTo middle i command reply next k → Run m n (commands ++ command ∷ []) (replies ++ reply ∷ []) next k
run_more m n [] [] middle i command reply next k run goes =
    let P : Machine → ℕ → Type 0 = λ x j. StepsTo x j command reply next k in
    (next, k, subst (λ x. P x n) run.0 (subst (P middle) run.1 goes), (refl, refl))
run_more m n [] (r ∷ replies) middle i command reply next k run goes = absurd run
run_more m n (c ∷ commands) [] middle i command reply next k run goes = absurd run
run_more m n (c ∷ commands) (r ∷ replies) middle i command reply next k run goes =
    (run.0, run.1, run.2, run_more run.0 run.1 commands replies middle i command reply next k run.3 goes)

pub runs_more :
    (old middle new : JobView) (commands : List Command) (replies : List Reply) (command : Command) (reply : Reply)
    → RunsTo old commands replies middle → KeepsTo middle command reply new → RunsTo old (commands ++ command ∷ []) (replies ++ reply ∷ []) new
runs_more old middle new commands replies command reply ran keeps m holds =
    let first = ran m holds in
    let last = keeps first.0 first.2 in
    (last.0, run_more m old.failed commands replies first.0 middle.failed command reply last.0 new.failed first.1 last.1, last.2)
