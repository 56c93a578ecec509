-- A ship: the writer takes a page, or refuses it, as the machine does.
use Rattle.std.proofs.Common.{◌≡◌, ℕ, ◌+◌, Bool, true, false, inl, inr, List, [], ◌∷◌, ◌++◌, Option, Some, None, Ok, Err, refl, ap, sym, ◌∙◌, subst}
use Rattle.std.specs.Prelude.{◌≢◌, ◌⊎◌, ℤ, IfSome, if◌then◌else◌, is_none, nat_le, nat_lt, slice_set}
use Rattle.std.specs.Option.{option_map}
use Rattle.node_core.specs.declared.tree.BoxNode.{BoxNode}
use Rattle.node_core.specs.Loads.{Load, load_with_box}
use Rattle.node_core.specs.Nodes.{box_count, box_text}
use Rattle.job_machine.specs.declared.replies.Answer.TheVariants.{Shipped}
use Rattle.job_machine.specs.declared.command.Command.TheVariants.{Ship}
use Rattle.job_machine.specs.declared.replies.Refusal.{Refusal}
use Rattle.job_machine.specs.declared.replies.Refusal.TheVariants.{JobOver, VoidBox, TooManyPages, TooMuchShipped, TooMuchSpecial, HugePage, Device}
use Rattle.node_core.specs.declared.limits.TheConstants.{MAX_PAGES, MAX_SHIPPED_NODES, MAX_SHIPPED_TEXT}
use Rattle.job_machine.specs.Reply.{Reply}
use Rattle.dvi_device.specs.Written.{GrowsByFront}
use Rattle.dvi_device.specs.Pasts.{Past, KeepsPast}
use Rattle.page_core.specs.Marks.{ShippedPage, is_huge}
use Rattle.page_core.specs.declared.offsets.Offsets.{Offsets}
use Rattle.dvi_write.specs.declared.fault.WriteFault.{WriteFault}
use Rattle.dvi_write.specs.declared.fault.WriteFault.TheVariants as faults
use Rattle.tfm_core.specs.Slots.{Slots}
use Rattle.dvi_write.specs.Layout.{unfinished_file}
use Rattle.dvi_write.specs.SoFar.{ProgressView, next_bytes, with_next}
use Rattle.dvi_write.specs.Shippable.{IsShippable}
use Rattle.page_core.specs.Pages.{page_with}
use Rattle.dvi_write.specs.Writing.{Writing, HasWritten, EndsWith, GoesOn, refusal_of}
use Rattle.dvi_write.proofs.Writings.{part_more}
use Rattle.job_machine.specs.State.{State, held_in, shipped_with}
use Rattle.job_machine.specs.Checks.{checks, first_refusal, page_checks}
use Rattle.job_machine.specs.NextPages.{offsets_of, page_in, shipped_pages}
use Rattle.job_machine.specs.Effects.{state_after_command, new_pages}
use Rattle.job_machine.specs.Machine.{Machine, reply_by, state_by}
use Rattle.job_state.specs.JobStateView.{JobStateView, state_of, before_shipping}
use Rattle.job_state.proofs.SizedGlyphs.{sized_held}
use Rattle.job_core.specs.Jobs.{Represents, KeepsTo, IsProperFrontOf}
use Rattle.job_core.specs.Private.Jobs.{AppendsPagesOf}
use Rattle.job_core.specs.Private.Sound.{IsSound, IsBoundedFile, write_refusal, view_of}
use Rattle.job_core.proofs.FreshDevices.{before_writing, said_part}
use Rattle.job_core.proofs.Moves.{replied, refuses, lacking, losing_page, true_or_false}
use Rattle.job_core.proofs.Endings.{has_written, stopped}
use Rattle.job_core.proofs.PageFonts.{shippable}

-- The page that a job ships is that of its box, with its counts, moved by its offsets.
pub page_is : (s : State) (counts : List ℤ) (offsets : Offsets) (b : BoxNode) → counts ≡ s.counts → offsets ≡ offsets_of s.params → page_with counts offsets b ≡ page_in s b
page_is s counts offsets b counted moved = ap (λ counts. page_with counts offsets b) counted ∙ ap (λ offsets. page_with s.counts offsets b) moved

-- The box in a register may be shipped.
pub may_ship : (s : State) (r : ℕ) (b : BoxNode) → IsSound s → held_in s.registers r ≡ Some b → IsShippable s.fonts b
may_ship s r b sound is = shippable s.files s.fonts sound.fonts b (sized_held s r b sound.glyphs is)

-- The writer counts the page, its nodes and its texts.
next_pages : (fonts : Slots) (s : ProgressView) (page : ShippedPage) → (with_next fonts s page).pages ≡ s.pages + 1
unfolding with_next
next_pages fonts s page = refl

next_load : (fonts : Slots) (s : ProgressView) (page : ShippedPage) → (with_next fonts s page).load ≡ load_with_box s.load page.box_node
unfolding with_next
next_load fonts s page = refl

-- What a device that failed in a page has taken, by the fonts of the job.
pub part_since : (given fonts : Slots) (w : Writing) (new : Option (List ℕ)) (page : ShippedPage) → given ≡ fonts → GrowsByFront w.bytes_written new (next_bytes given w.so_far page)
    → (before : Option (List ℕ)) (pages : List ShippedPage) → HasWritten fonts before w pages → GrowsByFront before new (unfinished_file fonts (pages ++ page ∷ []))
part_since given fonts w new page same since before pages written =
    part_more fonts before new w pages page written (subst (λ (f : Slots). GrowsByFront w.bytes_written new (next_bytes f w.so_far page)) same since)

-- The refusals of the writer are those of the machine, in the same order.
by_tests : (over pages nodes text huge : Bool)
    → first_refusal ((over, JobOver) ∷ (false, VoidBox) ∷ (pages, TooManyPages) ∷ (nodes, TooMuchShipped) ∷ (text, TooMuchSpecial) ∷ (huge, HugePage) ∷ [])
    ≡ option_map write_refusal
    (if over then Some faults.JobOver else if pages then Some faults.TooManyPages else if nodes then Some faults.TooMuchShipped else if text then Some faults.TooMuchSpecial
    else if huge then Some faults.HugePage else None)
by_tests true pages nodes text huge = refl
by_tests false true nodes text huge = refl
by_tests false false true text huge = refl
by_tests false false false true huge = refl
by_tests false false false false true = refl
by_tests false false false false false = refl

-- None of them is OutOfMemory or Device.
never_by : (over pages nodes text huge : Bool) (fault : WriteFault) → (fault ≡ faults.OutOfMemory) ⊎ (fault ≡ faults.Device)
    → (if over then Some faults.JobOver else if pages then Some faults.TooManyPages else if nodes then Some faults.TooMuchShipped else if text then Some faults.TooMuchSpecial
    else if huge then Some faults.HugePage else None) ≡ Some fault → ⊥
never_by true pages nodes text huge fault (inl e) is = cc
never_by true pages nodes text huge fault (inr e) is = cc
never_by false true nodes text huge fault (inl e) is = cc
never_by false true nodes text huge fault (inr e) is = cc
never_by false false true text huge fault (inl e) is = cc
never_by false false true text huge fault (inr e) is = cc
never_by false false false true huge fault (inl e) is = cc
never_by false false false true huge fault (inr e) is = cc
never_by false false false false true fault (inl e) is = cc
never_by false false false false true fault (inr e) is = cc
never_by false false false false false fault (inl e) is = cc
never_by false false false false false fault (inr e) is = cc

never_lost : (w : Writing) (page : ShippedPage) → refusal_of w page ≡ Some faults.Device → ⊥
never_lost w page is =
    never_by w.over (nat_le MAX_PAGES w.so_far.pages) (nat_lt MAX_SHIPPED_NODES (w.so_far.load.nodes + box_count page.box_node))
    (nat_lt MAX_SHIPPED_TEXT (w.so_far.load.text + box_text page.box_node)) (is_huge page) faults.Device (inr refl) is

-- The file of a job that is not over stays within the limits if the page was not sent.
pub bounded_unshipped : (fonts : Slots) (old new : Writing) (page : ShippedPage) (fault : WriteFault) → EndsWith old page fault → (fault ≢ faults.Device → new ≡ old)
    → (fault ≡ faults.Device → new.over ≡ true) → IsBoundedFile fonts old → new.over ≡ false → IsBoundedFile fonts new
bounded_unshipped fonts old new page fault (inl (inl some)) stays over bounded running =
    subst (IsBoundedFile fonts) (sym (stays (λ lost. never_lost old page (some ∙ ap Some lost)))) bounded
bounded_unshipped fonts old new page fault (inl (inr (none, wants))) stays over bounded running =
    let other : fault ≢ faults.Device = λ lost. cc in
    subst (IsBoundedFile fonts) (sym (stays other)) bounded
bounded_unshipped fonts old new page fault (inr (none, lost)) stays over bounded running = absurd (true_or_false (over lost) running)

-- A void register is refused.
pub void_refused : (kept : JobStateView) (w : Writing) (r : ℕ) → w.over ≡ false → held_in kept.registers r ≡ None → KeepsTo (view_of kept w) (Ship r) (Err VoidBox) (view_of kept w)
void_refused kept w r running void = refuses (view_of kept w) (Ship r) VoidBox (rw (running, void) refl)

-- The page of the box in a register.
module _ (kept : JobStateView) (w : Writing) (r : ℕ) (b : BoxNode) (page : ShippedPage) (is : held_in kept.registers r ≡ Some b) (same : page ≡ page_in (before_shipping kept) b) where
  abbrev s : State
  s = (view_of kept w).state

  checked : first_refusal (checks s (Ship r)) ≡ option_map write_refusal (refusal_of w page)
  checked =
      ap (λ held. first_refusal ((w.over, JobOver) ∷ (is_none held, VoidBox) ∷ page_checks s held)) is
      ∙ (by_tests w.over (nat_le MAX_PAGES w.so_far.pages) (nat_lt MAX_SHIPPED_NODES (w.so_far.load.nodes + box_count b)) (nat_lt MAX_SHIPPED_TEXT (w.so_far.load.text + box_text b))
      (is_huge (page_in (before_shipping kept) b))
      ∙ ap (λ (p : ShippedPage). option_map write_refusal (refusal_of w p)) (sym same))

  accepted : refusal_of w page ≡ None → first_refusal (checks s (Ship r)) ≡ None
  accepted none = checked ∙ ap (option_map write_refusal) none

  adds : new_pages s (Ship r) ≡ page ∷ []
  adds = ap (shipped_pages s) is ∙ ap (λ page. page ∷ []) (sym same)

  -- The state after the page was sent and the register made void.
  module _ (now : JobStateView) (new : Writing) (fonts : Slots) (emptied : now ≡ record kept { registers = slice_set kept.registers r None }) (next : new.so_far ≡ with_next fonts w.so_far page)
      (old_runs : w.over ≡ false) (new_runs : new.over ≡ false) (none : refusal_of w page ≡ None) where
    load : new.so_far.load ≡ shipped_with w.so_far.load (held_in kept.registers r)
    load =
        ap (λ (x : ProgressView). x.load) next
        ∙ (next_load fonts w.so_far page ∙ (ap (λ (p : ShippedPage). load_with_box w.so_far.load p.box_node) same ∙ ap (shipped_with w.so_far.load) (sym is)))

    pages : new.so_far.pages ≡ w.so_far.pages + 1
    pages = ap (λ (x : ProgressView). x.pages) next ∙ next_pages fonts w.so_far page

    following : (view_of now new).state ≡ state_after_command s (Ship r)
    following =
        ap (λ kept. state_of kept new.so_far.load new.so_far.pages new.over) emptied
        ∙ (ap (λ (n : Load). state_of (record kept { registers = slice_set kept.registers r None }) n new.so_far.pages new.over) load
        ∙ (ap (λ n. state_of (record kept { registers = slice_set kept.registers r None }) (shipped_with w.so_far.load (held_in kept.registers r)) n new.over) pages
        ∙ ap (λ over. state_of (record kept { registers = slice_set kept.registers r None }) (shipped_with w.so_far.load (held_in kept.registers r)) (w.so_far.pages + 1) over)
        (new_runs ∙ sym old_runs)))

    goes_on : ((before : Option (List ℕ)) (pages : List ShippedPage) → HasWritten kept.fonts before w pages → HasWritten kept.fonts before new (pages ++ page ∷ [])) → AppendsPagesOf s (Ship r) w new
    goes_on on before pages written =
        subst (HasWritten kept.fonts before new)
        (ap (λ added. pages ++ added) (sym adds) ∙ ap (λ refused. state_by refused pages (pages ++ new_pages s (Ship r))) (sym (accepted none)))
        (on before pages written)

    pub shipped : (count : ℕ) → count ≡ new.so_far.pages → new.failed ≡ w.failed → GoesOn w new
        → ((before : Option (List ℕ)) (pages : List ShippedPage) → HasWritten kept.fonts before w pages → HasWritten kept.fonts before new (pages ++ page ∷ []))
        → KeepsTo (view_of kept w) (Ship r) (Ok (Shipped count)) (view_of now new)
    shipped count counts no_failure goes on =
        replied (view_of kept w) (view_of now new) (Ship r) (Ok (Shipped count))
        (ap (λ n. reply_by None (Shipped n)) (counts ∙ pages) ∙ ap (λ refused. reply_by refused (Shipped (w.so_far.pages + 1))) (sym (accepted none)))
        (following ∙ ap (λ refused. state_by refused s (state_after_command s (Ship r))) (sym (accepted none)))
        (λ running. goes_on on) (λ over. absurd (true_or_false over old_runs)) no_failure goes.began

  -- What holds of the bytes up to this page, by the fonts and pages of the machine.
  by_machine : (P : List ℕ → Type 0) → w.over ≡ false
      → ((pages : List ShippedPage) → HasWritten kept.fonts (before_writing w.bytes_written) w pages → P (unfinished_file kept.fonts (pages ++ page ∷ [])))
      → (m : Machine) → Represents (view_of kept w) m → P (unfinished_file m.state.fonts (m.pages ++ new_pages m.state (Ship r)))
  by_machine P running given m holds =
      subst (λ (t : State). HasWritten t.fonts (before_writing w.bytes_written) w m.pages → P (unfinished_file t.fonts (m.pages ++ new_pages t (Ship r)))) holds.state
      (λ written. subst (λ added. P (unfinished_file kept.fonts (m.pages ++ added))) (sym adds) (given m.pages written))
      (has_written (view_of kept w) m holds running)

  -- What the device reports if it failed.
  pub part_of : (new : Writing) → w.over ≡ false
      → ((before : Option (List ℕ)) (pages : List ShippedPage) → HasWritten kept.fonts before w pages → GrowsByFront before new.bytes_written (unfinished_file kept.fonts (pages ++ page ∷ [])))
      → (m : Machine) → Represents (view_of kept w) m → IfSome new.bytes_written (λ bytes. IsProperFrontOf bytes (unfinished_file m.state.fonts (m.pages ++ new_pages m.state (Ship r))))
  part_of new running part = by_machine (λ all. IfSome new.bytes_written (λ bytes. IsProperFrontOf bytes all)) running
      (λ pages written. said_part w.bytes_written new.bytes_written (unfinished_file kept.fonts (pages ++ page ∷ [])) (part (before_writing w.bytes_written) pages written))

  -- What it then makes of the bytes that it was to meet.
  past_of : (new : Writing) → w.over ≡ false → new.began ≡ w.began
      → ((before : Option (List ℕ)) (pages : List ShippedPage) → HasWritten kept.fonts before w pages → KeepsPast w.began (unfinished_file kept.fonts (pages ++ page ∷ [])) new.past)
      → (m : Machine) → Represents (view_of kept w) m → KeepsPast new.began (unfinished_file m.state.fonts (m.pages ++ new_pages m.state (Ship r))) new.past
  past_of new running began keeps = by_machine (λ (bytes : List ℕ). KeepsPast new.began bytes new.past) running
      (λ pages written. subst (λ (p : Past). KeepsPast p (unfinished_file kept.fonts (pages ++ page ∷ [])) new.past) (sym began) (keeps (before_writing w.bytes_written) pages written))

  -- The reply if the page was not sent.
  pub unshipped_for : (new : Writing) (fault : WriteFault) → EndsWith w page fault → (fault ≢ faults.Device → new ≡ w) → (fault ≡ faults.Device → new.failed ≡ w.failed + 1)
      → (fault ≡ faults.Device → new.over ≡ true) → (fault ≡ faults.Device → new.so_far ≡ w.so_far) → w.over ≡ false
      → GoesOn w new
      → (fault ≡ faults.Device → (before : Option (List ℕ)) (pages : List ShippedPage) → HasWritten kept.fonts before w pages → GrowsByFront before new.bytes_written (unfinished_file kept.fonts (pages ++ page ∷ [])))
      → (fault ≡ faults.Device → (before : Option (List ℕ)) (pages : List ShippedPage) → HasWritten kept.fonts before w pages → KeepsPast w.began (unfinished_file kept.fonts (pages ++ page ∷ [])) new.past)
      → KeepsTo (view_of kept w) (Ship r) (Err (write_refusal fault)) (view_of kept new)
  unshipped_for new fault (inl (inl some)) stays fails over keeps running goes part past =
      let other : fault ≢ faults.Device = λ lost. never_lost w page (some ∙ ap Some lost) in
      subst (λ (x : Writing). KeepsTo (view_of kept w) (Ship r) (Err (write_refusal fault)) (view_of kept x)) (sym (stays other))
      (refuses (view_of kept w) (Ship r) (write_refusal fault) (checked ∙ ap (option_map write_refusal) some))
  unshipped_for new fault (inl (inr (none, wants))) stays fails over keeps running goes part past =
      let other : fault ≢ faults.Device = λ lost. cc in
      subst (λ (x : Writing). KeepsTo (view_of kept w) (Ship r) (Err (write_refusal fault)) (view_of kept x)) (sym (stays other))
      (lacking (view_of kept w) (Ship r) (Err (write_refusal fault)) (ap (λ fault. Err (write_refusal fault)) wants) tt (accepted none))
  unshipped_for new fault (inr (none, lost)) stays fails over keeps running goes part past =
      subst (λ (x : Refusal). KeepsTo (view_of kept w) (Ship r) (Err x) (view_of kept new)) (ap write_refusal (sym lost))
      (losing_page (view_of kept w) (view_of kept new) r (accepted none) (stopped kept w new (keeps lost) (over lost)) (fails lost) (goes.more, goes.grows) (part_of new running (part lost))
      (past_of new running goes.began (past lost)))

-- Device is the reply only if the device failed.
pub is_lost : (fault : WriteFault) (reply : Reply) → reply ≡ Err (write_refusal fault) → reply ≡ Err Device → fault ≡ faults.Device
is_lost faults.JobOver reply is bytes_written = cc
is_lost faults.TooManyPages reply is bytes_written = cc
is_lost faults.TooMuchShipped reply is bytes_written = cc
is_lost faults.TooMuchSpecial reply is bytes_written = cc
is_lost faults.HugePage reply is bytes_written = cc
is_lost faults.OutOfMemory reply is bytes_written = cc
is_lost faults.Device reply is bytes_written = refl

pub is_other : (fault : WriteFault) → write_refusal fault ≢ Device → fault ≢ faults.Device
is_other fault other lost = other (ap write_refusal lost)
