-- A walk that drops the pages and the marks as they come: an instruction does there what it does where they are kept.
use Rattle.std.proofs.Common.{◌≡◌, ◌≤◌, ◌-◌, ◌++◌, if◌then◌else◌, [], ◌∷◌, Bool, true, false, List, drop, length, min, nat_lt, take, ℕ, ℤ, Option, Some, None, append-nil, arith, refl, sym, ◌∙◌, ap, subst, subst₂, inl, inr}
use Rattle.std.specs.Prelude.{IsSome}
use Rattle.std.specs.List.{AllByRecursion}
use Rattle.std.specs.Option.{option_map}
use Rattle.dvi_ops.specs.Body.{Position, DviState, Meaning, Acts, instruction_acts, bounded_acts, start}
use Rattle.dvi_ops.specs.File.{MarkedPage}
use Rattle.dvi_ops.specs.Fonts.{WidthsByName, IsRightAfter, definitions_in, selection_of, widths_of}
use Rattle.dvi_ops.specs.Instruction.{Definition, Nop, FontNum, FontDef, Instruction, Do, Push, Pop, Bop, Eop, Postamble}
use Rattle.dvi_ops.specs.Table.{Spells}
use Rattle.dvi_ops.specs.Tokens.{bop_place}
use Rattle.scaled_core.specs.Mark.{Mark}
use Rattle.scaled_core.proofs.EachOf.{all_append, all_weaker}
use Rattle.dvi_scan.specs.Execution.{BreaksTurn, IsAllowed, TakesMemory}
use Rattle.dvi_scan.specs.Pass.{PassStateView, Between, Inside, execute, with_marks}
use Rattle.dvi_scan.specs.Reached.{HasWidths, IsRightAt, PlacesLeft, after_bops, has_number}
use Rattle.dvi_scan.specs.declared.fault.DviCause.{DviCause}
use Rattle.dvi_scan.specs.declared.fault.DviCause.TheVariants.{Opcode, Stack, Glyph, Range, Truncated}
use Rattle.dvi_scan.specs.declared.widths.FontRefusal.{FontRefusal}
use Rattle.dvi_scan.proofs.ReachedLemmas.{reached_next}
use Rattle.dvi_read.specs.ReadFonts.{AreSound, FontIsRead, HasCurrent, IsCurrent, selected_in}
use Rattle.dvi_read.specs.Steps.{FontsAreRead, known_of, places_left, so_far, pass_state_of}
use Rattle.dvi_read.specs.WalkFaults.{PageBytes, page_bytes, BreaksAt, BreaksPages, BreaksRule, InstructionAllocates, IsPagesFault, LacksMemory}
use Rattle.dvi_read.specs.WalkFaults.{LacksWidths}
use Rattle.dvi_read.specs.Walks.{IsWalked, bare, read_in}
use Rattle.dvi_read.specs.Private.Walks.{Reads}
use Rattle.dvi_read.specs.declared.fault.DviFault.{DviFault}
use Rattle.dvi_read.specs.declared.fault.DviFault.TheVariants as faults
use Rattle.dvi_read.specs.declared.fonts.ReadFonts.{ReadFonts}
use Rattle.dvi_read.specs.declared.check.walk.Walk.{Walk}
use Rattle.tfm_core.specs.FileWidths.{file_widths}
use Rattle.tfm_core.specs.NamedBytes.{NamedBytes}

-- A state after an open page without pages and marks, with these pages and these marks of the page before it.
abbrev pub onto : List MarkedPage → List Mark → PassStateView → PassStateView
onto pages marks (Between (page ∷ [])) = Between (pages ++ record { counts = page.counts; marks = marks ++ page.marks } ∷ [])
onto pages marks (Inside [] counts more stack s) = Inside pages counts (marks ++ more) stack s
onto pages marks p = p

-- An instruction does the same in an open page, whatever pages and marks were before.
same_marks : (pages : List MarkedPage) (counts : List ℤ) (marks : List Mark) (stack : List Position) (s : DviState)
    → Inside pages counts marks stack s ≡ Inside pages counts (marks ++ []) stack s
same_marks pages counts marks stack s = ap (λ (ms : List Mark). Inside pages counts ms stack s) (sym (append-nil marks))

pub turn_onto : (does : Acts) (most : ℕ) (i : Instruction) (pages : List MarkedPage) (counts : List ℤ) (marks : List Mark) (stack : List Position) (s : DviState)
    → execute does most i (Inside pages counts marks stack s) ≡ option_map (onto pages marks) (execute does most i (Inside [] counts [] stack s))
turn_onto does most (Do leaf) pages counts marks stack s = by_meaning (does leaf s)
  where
    by_meaning : (m : Meaning) → with_marks pages counts marks stack m ≡ option_map (onto pages marks) (with_marks [] counts [] stack m)
    by_meaning None = refl
    by_meaning (Some (more, t)) = refl
turn_onto does most Push pages counts marks stack s = by_test (nat_lt (length stack) most)
  where
    by_test : (b : Bool) → (if b then Some (Inside pages counts marks (s.place ∷ stack) s) else None) ≡ option_map (onto pages marks) (if b then Some (Inside [] counts [] (s.place ∷ stack) s) else None)
    by_test true = ap (λ (p : PassStateView). Some p) (same_marks pages counts marks (s.place ∷ stack) s)
    by_test false = refl
turn_onto does most Pop pages counts marks [] s = refl
turn_onto does most Pop pages counts marks (p ∷ stack) s = ap (λ (p : PassStateView). Some p) (same_marks pages counts marks stack (record { place = p; font = s.font }))
turn_onto does most Eop pages counts marks [] s =
    ap (λ (ms : List Mark). Some (Between (pages ++ record { counts = counts; marks = ms } ∷ []))) (sym (append-nil marks))
turn_onto does most Eop pages counts marks (p ∷ stack) s = refl
turn_onto does most i pages counts marks stack s = refl

bare_onto : (pages : List MarkedPage) (marks : List Mark) (p : PassStateView) → bare (onto pages marks p) ≡ bare p
bare_onto pages marks (Between []) = refl
bare_onto pages marks (Between (page ∷ [])) = refl
bare_onto pages marks (Between (page ∷ more ∷ rest)) = refl
bare_onto pages marks (Inside [] counts more stack s) = refl
bare_onto pages marks (Inside (page ∷ rest) counts more stack s) = refl

-- Where an instruction is accepted in what a walk holds, it is accepted in the whole state, and the walk holds what it keeps of the state after it.
pub held_turn : (does : Acts) (most : ℕ) (i : Instruction) (p q : PassStateView) → execute does most i (bare p) ≡ Some q
    → (r : PassStateView) × (execute does most i p ≡ Some r) × (bare r ≡ bare q)
held_turn does most (Do Nop) (Between pages) q e = let same : Between [] ≡ q = cc in (Between pages, refl, ap bare same)
held_turn does most (Do (FontDef d)) (Between pages) q e = let same : Between [] ≡ q = cc in (Between pages, refl, ap bare same)
held_turn does most (Bop counts pointer) (Between pages) q e = let same : Inside [] counts [] [] start ≡ q = cc in (Inside pages counts [] [] start, refl, ap bare same)
held_turn does most i (Between pages) q e = absurd cc
held_turn does most i (Inside pages counts marks stack s) q e =
    (onto pages marks q, turn_onto does most i pages counts marks stack s ∙ ap (λ (o : Option PassStateView). option_map (onto pages marks) o) e, bare_onto pages marks q)

allowed_bare : (p : PassStateView) (i : Instruction) → IsAllowed p i → IsAllowed (bare p) i
allowed_bare (Between pages) (Do Nop) a = tt
allowed_bare (Between pages) (Do (FontDef d)) a = tt
allowed_bare (Between pages) (Bop counts pointer) a = tt
allowed_bare (Between pages) i a = a
allowed_bare (Inside pages counts marks stack s) (Do leaf) a = tt
allowed_bare (Inside pages counts marks stack s) Push a = tt
allowed_bare (Inside pages counts marks stack s) Pop a = tt
allowed_bare (Inside pages counts marks stack s) Eop a = tt
allowed_bare (Inside pages counts marks stack s) i a = a

-- A rule that is broken in what a walk holds is broken in the whole state.
bare_breaks : (does : Acts) (most : ℕ) (i : Instruction) (p : PassStateView) (cause : DviCause) → BreaksTurn does most i (bare p) cause → BreaksTurn does most i p cause
bare_breaks does most i (Between pages) Opcode b = λ a. b (allowed_bare (Between pages) i a)
bare_breaks does most i (Inside pages counts marks stack s) Opcode b = λ a. b (allowed_bare (Inside pages counts marks stack s) i a)
bare_breaks does most Push (Inside pages counts marks stack s) Stack b = b
bare_breaks does most Push (Between pages) cause b = absurd b
bare_breaks does most Pop (Inside pages counts marks stack s) Stack b = b
bare_breaks does most Pop (Between pages) cause b = absurd b
bare_breaks does most Eop (Inside pages counts marks stack s) Stack b = b
bare_breaks does most Eop (Between pages) cause b = absurd b
bare_breaks does most (Do leaf) (Inside pages counts marks stack s) Glyph b = b
bare_breaks does most (Do leaf) (Inside pages counts marks stack s) Range b = b
bare_breaks does most (Do leaf) (Between pages) cause b = absurd b
bare_breaks does most i (Inside pages counts marks stack s) cause b = absurd b
bare_breaks does most i (Between pages) cause b = absurd b

bare_space : (does : Acts) (most : ℕ) (i : Instruction) (p : PassStateView) → TakesMemory does most i (bare p) → TakesMemory does most i p
bare_space does most Push (Inside pages counts marks stack s) b = b
bare_space does most Push (Between pages) b = absurd b
bare_space does most Eop (Inside pages counts marks stack s) b = b
bare_space does most Eop (Between pages) b = absurd b
bare_space does most (Do leaf) (Inside pages counts marks stack s) b = b
bare_space does most (Do leaf) (Between pages) b = absurd b
bare_space does most i (Inside pages counts marks stack s) b = absurd b
bare_space does most i (Between pages) b = absurd b

held_goes : (does : Acts) (most : ℕ) (i : Instruction) (p : PassStateView) → IsSome (execute does most i (bare p)) → IsSome (execute does most i p)
held_goes does most i p some = by_turn (execute does most i (bare p)) refl some
  where
    by_turn : (o : Option PassStateView) → execute does most i (bare p) ≡ o → IsSome o → IsSome (execute does most i p)
    by_turn None e some = absurd cc
    by_turn (Some q) e some = let (r, turned, same) = held_turn does most i p q e in subst (λ (o : Option PassStateView). IsSome o) (sym turned) refl

-- The same for a fault of the pages.
module _ (files : List NamedBytes) (part : PageBytes) (at : ℕ) (pass : PassStateView) (selected : List ℤ) (walk : Walk) where
  lacks_held : (i : Instruction) → LacksMemory files part.after_post (read_in (bare pass) selected walk) i
      → LacksMemory files part.after_post (read_in pass selected walk) i
  lacks_held (Do (FontDef d)) b = b
  lacks_held (Do (FontNum f)) b = record { named = b.named; new = b.new; font = b.font; found = b.found; file = b.file }
  lacks_held i b = absurd b

  rule_held : (i : Instruction) (cause : DviCause)
      → BreaksRule (file_widths files) part.after_post part.most at (read_in (bare pass) selected walk) i cause
      → BreaksRule (file_widths files) part.after_post part.most at (read_in pass selected walk) i cause
  rule_held i cause (inl b) = inl (bare_breaks (instruction_acts (widths_of (file_widths files) (known_of walk))) part.most i pass cause b)
  rule_held i cause (inr (on, b)) = inr (held_goes (bounded_acts (instruction_acts (widths_of (file_widths files) (known_of walk)))) part.most i pass on, b)

  at_held : (cause : DviCause) → BreaksAt (file_widths files) part at (read_in (bare pass) selected walk) cause → BreaksAt (file_widths files) part at (read_in pass selected walk) cause
  at_held cause (i, spelled_at, b) = (i, spelled_at, rule_held i cause b)

  pages_held : (cause : DviCause) → BreaksPages (file_widths files) part at (read_in (bare pass) selected walk) cause → BreaksPages (file_widths files) part at (read_in pass selected walk) cause
  pages_held Truncated b = b
  pages_held Opcode (inl b) = inl b
  pages_held Opcode (inr b) = inr (at_held Opcode b)
  pages_held cause b = at_held cause b

  widths_held : (refusal : FontRefusal) → LacksWidths files part at (read_in (bare pass) selected walk) refusal → LacksWidths files part at (read_in pass selected walk) refusal
  widths_held refusal (f, spelled_at, selects) = (
    f,
    spelled_at,
    record {
      goes_on =
          held_goes (bounded_acts (instruction_acts (widths_of (file_widths files) (known_of walk)))) part.most (Do (FontNum f)) pass selects.goes_on;
      unread = selects.unread;
    },
  )

  allocates_held : (i : Instruction) → InstructionAllocates files part.after_post part.most (read_in (bare pass) selected walk) i
      → InstructionAllocates files part.after_post part.most (read_in pass selected walk) i
  allocates_held i (inl b) = inl (bare_space (instruction_acts (widths_of (file_widths files) (known_of walk))) part.most i pass b)
  allocates_held i (inr (on, b)) = inr (held_goes (bounded_acts (instruction_acts (widths_of (file_widths files) (known_of walk)))) part.most i pass on, lacks_held i b)

  by_fault : (fault : DviFault) → IsPagesFault files part at (read_in (bare pass) selected walk) fault → IsPagesFault files part at (read_in pass selected walk) fault
  by_fault faults.OutOfMemory (i, spelled_at, b) = (i, spelled_at, allocates_held i b)
  by_fault (faults.Bad bad) (place, b) = (place, pages_held bad.cause b)
  by_fault (faults.Font refusal) b = widths_held refusal b

  pub fault_held : (fault : DviFault) → pass_state_of walk ≡ bare pass → IsPagesFault files part at (so_far selected walk) fault
      → IsPagesFault files part at (read_in pass selected walk) fault
  fault_held fault pass_state b =
      by_fault fault (subst (λ (p : PassStateView). IsPagesFault files part at (read_in p selected walk) fault) pass_state b)

-- One more instruction of a walk.
pub walked_turn : (metrics : WidthsByName) (after_post : List ℤ) (bytes : List ℕ) (postamble : Postamble) (chain : List ℕ) (at next : ℕ)
    (old new : Walk) (i : Instruction) (q : PassStateView)
    → at ≤ next → next ≤ length bytes → (walked : IsWalked metrics after_post bytes postamble chain at old)
    → Spells i (take (next - at) (drop at bytes))
    → execute (bounded_acts (instruction_acts (widths_of metrics (known_of old)))) (min 1024 postamble.stack_depth) i (bare walked.pass) ≡ Some q
    → pass_state_of new ≡ bare q
    → after_bops (bop_place at i) (places_left old) ≡ Some (places_left new) → IsRightAfter (known_of old) i → known_of new ≡ known_of old ++ definitions_in i
    → AllByRecursion (HasWidths metrics (known_of old)) (selection_of i) → AllByRecursion (λ f. has_number after_post f ≡ true) (selection_of i)
    → FontsAreRead new.fonts (walked.selected ++ selection_of i)
    → AreSound metrics (known_of new) new.fonts → IsCurrent new.fonts new.pass_state → IsWalked metrics after_post bytes postamble chain next new
walked_turn metrics after_post bytes postamble chain at next old new i q forward high walked spelled goes pass_state bop fonts known closing named
    read sound current =
    let (pass, turned, same) =
    held_turn (bounded_acts (instruction_acts (widths_of metrics (known_of old)))) (min 1024 postamble.stack_depth) i walked.pass q goes in
    let selected : List ℤ = walked.selected ++ selection_of i in
    let right : IsRightAt metrics after_post postamble at (read_in walked.pass walked.selected old) i (read_in pass selected new) =
    record { goes_on = turned; bop = bop; fonts = fonts; known_is = known; selected_is = refl; closing = closing; named = named } in
    record {
      selected = selected;
      pass = pass;
      reached = reached_next metrics after_post bytes postamble chain at next (read_in walked.pass walked.selected old) (read_in pass selected new) i
          forward high walked.reached spelled right;
      pass_state = pass_state ∙ sym same;
      read = read;
      sound = sound;
      current = current;
    }

-- The same for what the walk has read of it.
pub walked_next : (metrics : WidthsByName) (after_post : List ℤ) (bytes : List ℕ) (postamble : Postamble) (chain : List ℕ) (at post next : ℕ)
    (old mid new : Walk) → post ≤ length bytes
    → IsWalked metrics after_post bytes postamble chain at old
    → Reads metrics (page_bytes after_post bytes (min 1024 postamble.stack_depth) post) at old mid next
    → pass_state_of new ≡ bare (pass_state_of mid)
    → selected_in new.pass_state ≡ selected_in mid.pass_state → new.fonts ≡ mid.fonts → known_of new ≡ known_of mid
    → places_left new ≡ places_left mid → IsWalked metrics after_post bytes postamble chain next new
walked_next metrics after_post bytes postamble chain at post next old mid new high walked reads pass_state chosen fonts known left =
    let steps = reads.steps in
    let forward = reads.forward in
    let within = reads.within in
    let does : Acts = bounded_acts (instruction_acts (widths_of metrics (known_of old))) in
    let goes : execute does (min 1024 postamble.stack_depth) reads.here (bare walked.pass) ≡ Some (pass_state_of mid) =
    subst (λ (p : PassStateView). execute does (min 1024 postamble.stack_depth) reads.here p ≡ Some (pass_state_of mid)) walked.pass_state
    steps.goes_on in
    walked_turn metrics after_post bytes postamble chain at next old new reads.here (pass_state_of mid) (omega arith) (omega arith) walked
    reads.spelled goes pass_state
    (steps.bop ∙ ap (λ (l : PlacesLeft). Some l) (sym left)) steps.right (known ∙ steps.known_is) steps.widths steps.named
    (subst (λ (fonts : ReadFonts). FontsAreRead fonts (walked.selected ++ selection_of reads.here)) (sym fonts)
    (all_append (λ f. FontIsRead f mid.fonts) walked.selected (selection_of reads.here)
    (all_weaker (λ f. FontIsRead f old.fonts) (λ f. FontIsRead f mid.fonts) walked.selected steps.kept walked.read) steps.read))
    (subst₂ (λ (ds : List Definition) (fonts : ReadFonts). AreSound metrics ds fonts) (sym known) (sym fonts) steps.sound)
    (λ f e. subst (λ (fonts : ReadFonts). HasCurrent f fonts) (sym fonts) (steps.current f (sym chosen ∙ e)))

-- The same walk.
pub walked_same : (metrics : WidthsByName) (after_post : List ℤ) (bytes : List ℕ) (postamble : Postamble) (chain : List ℕ) (at : ℕ)
    (old new : Walk) → new ≡ old
    → IsWalked metrics after_post bytes postamble chain at old → IsWalked metrics after_post bytes postamble chain at new
walked_same metrics after_post bytes postamble chain at old new same walked =
    subst (λ (walk : Walk). IsWalked metrics after_post bytes postamble chain at walk) (sym same) walked
