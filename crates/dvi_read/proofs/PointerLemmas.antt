-- The meaning of the fault Pointer: a bop is not in the chain, or the bops are not at its places.
use Rattle.std.proofs.Common.{◌≡◌, ◌≢◌, ◌≤◌, [], ◌∷◌, List, ℕ, ℤ, min, None, length, reverse, sym, ◌∙◌, subst, inl, inr, arith}
use Rattle.std.specs.Prelude.{◌⊎◌}
use Rattle.dvi_scan.specs.Chain.{IsPageAt, Links}
use Rattle.dvi_scan.specs.Ends.{IsSpelledAt}
use Rattle.dvi_scan.specs.declared.fault.BadDvi.{BadDvi}
use Rattle.dvi_scan.specs.declared.fault.DviCause.{DviCause}
use Rattle.dvi_scan.specs.declared.fault.DviCause.TheVariants.{Opcode, Pointer}
use Rattle.dvi_ops.specs.Body.{Acts, instruction_acts}
use Rattle.dvi_ops.specs.File.{MarkedPage}
use Rattle.dvi_ops.specs.Fonts.{WidthsByName, widths_of}
use Rattle.dvi_ops.specs.Instruction.{Instruction, Do, Push, Pop, Bop, Eop, Postamble}
use Rattle.dvi_ops.specs.Tokens.{bop_place, places}
use Rattle.dvi_scan.specs.Pass.{PassStateView, Between, Inside}
use Rattle.dvi_scan.specs.Reached.{IsIn, IsReached, PlacesLeft, ReadSoFar, all_left, after_bops}
use Rattle.dvi_scan.specs.Execution.{BreaksTurn}
use Rattle.dvi_scan.proofs.StrayLemmas.{all_met, later_left, stray}
use Rattle.dvi_read.specs.WalkFaults.{page_bytes, BreaksPages, BreaksRule, IsUnended, IsWalkFault}
use Rattle.dvi_read.specs.declared.fault.DviFault.TheVariants.{Bad}
use Rattle.tfm_core.specs.FileWidths.{file_widths}
use Rattle.tfm_core.specs.NamedBytes.{NamedBytes}

-- The pass itself breaks no rule of pointers.
no_pointer : (does : Acts) (most : ℕ) (i : Instruction) (p : PassStateView) → BreaksTurn does most i p Pointer → ⊥
no_pointer does most (Do leaf) (Inside pages counts marks stack s) b = b
no_pointer does most Push (Inside pages counts marks stack s) b = b
no_pointer does most Pop (Inside pages counts marks stack s) b = b
no_pointer does most Eop (Inside pages counts marks stack s) b = b
no_pointer does most i (Inside pages counts marks stack s) b = b
no_pointer does most i (Between pages) b = b

-- An instruction that leaves no places is a bop.
not_left : (at : ℕ) (i : Instruction) (left : PlacesLeft) → after_bops (bop_place at i) left ≡ None → after_bops (at ∷ []) left ≡ None
not_left at (Bop counts pointer) left e = e
not_left at i left e = absurd cc

bop_at : (bytes : List ℕ) (at post : ℕ) (i : Instruction) (left : PlacesLeft) → after_bops (bop_place at i) left ≡ None → IsSpelledAt bytes at post i
    → IsPageAt bytes at post
bop_at bytes at post (Bop counts pointer) left e spelled_at = (counts, pointer, spelled_at)
bop_at bytes at post i left e spelled_at = absurd cc

pub stray_bop : (files : List NamedBytes) (after_post : List ℤ) (bytes : List ℕ) (postamble : Postamble) (chain : List ℕ) (post : ℕ) (bad : BadDvi)
    → bad.cause ≡ Pointer → IsWalkFault files after_post bytes postamble chain post (Bad bad) → IsPageAt bytes bad.place post
stray_bop files after_post bytes postamble chain post bad cause (at, fault_is) =
    let metrics : WidthsByName = file_widths files in
    let (place, broken) = fault_is.fault_is in
    let (i, spelled_at, rule) =
    subst (λ (cause : DviCause). BreaksPages metrics (page_bytes after_post bytes (min 1024 postamble.stack_depth) post) at fault_is.seen
    cause) cause broken in
    subst (λ (n : ℕ). IsPageAt bytes n post) (sym place) (by_rule i spelled_at rule)
  where
    by_rule : (i : Instruction) → IsSpelledAt bytes at post i
        → BreaksRule (file_widths files) after_post (min 1024 postamble.stack_depth) at fault_is.seen i Pointer → IsPageAt bytes at post
    by_rule i spelled_at (inl b) =
        absurd (no_pointer (instruction_acts (widths_of (file_widths files) fault_is.seen.known)) (min 1024 postamble.stack_depth) i
        fault_is.seen.pass b)
    by_rule i spelled_at (inr (on, b)) = bop_at bytes at post i fault_is.seen.left b spelled_at

pub stray_pointer : (files : List NamedBytes) (after_post : List ℤ) (bytes : List ℕ) (postamble : Postamble) (chain : List ℕ) (post bound : ℕ)
    (pointer : ℤ) (bad : BadDvi)
    → post ≤ length bytes → Links bytes bound pointer chain → bad.cause ≡ Pointer → IsWalkFault files after_post bytes postamble chain post (Bad bad)
    → IsIn bad.place (reverse chain) → ⊥
stray_pointer files after_post bytes postamble chain post bound pointer bad high links cause (at, fault_is) there =
    let metrics : WidthsByName = file_widths files in
    let (place, broken) = fault_is.fault_is in
    let below = fault_is.before in
    let (i, spelled_at, rule) =
    subst (λ (cause : DviCause). BreaksPages metrics (page_bytes after_post bytes (min 1024 postamble.stack_depth) post) at fault_is.seen
    cause) cause broken in
    let here : IsIn at (reverse chain) = subst (λ (n : ℕ). IsIn n (reverse chain)) place there in
    by_rule i rule (later_left metrics after_post bytes postamble chain at fault_is.seen fault_is.reached bound pointer at (omega arith) links here
    (omega arith))
  where
    by_rule : (i : Instruction) → BreaksRule (file_widths files) after_post (min 1024 postamble.stack_depth) at fault_is.seen i Pointer
        → IsIn at fault_is.seen.left.places → ⊥
    by_rule i (inl b) left = no_pointer (instruction_acts (widths_of (file_widths files) fault_is.seen.known)) (min 1024 postamble.stack_depth) i
        fault_is.seen.pass b
    by_rule i (inr (on, b)) left = stray at fault_is.seen.left (not_left at i fault_is.seen.left b) left

pub unmet_pointer : (metrics : WidthsByName) (after_post : List ℤ) (bytes : List ℕ) (postamble : Postamble) (chain : List ℕ) (post : ℕ)
    (s : ReadSoFar) (bad : BadDvi)
    (r : IsReached metrics after_post bytes postamble chain post s) → bad.cause ≡ Pointer → IsUnended s.pass s.left post bad
    → places 0 r.before ≢ reverse chain
unmet_pointer metrics after_post bytes postamble chain post s bad r cause (place, broken) same =
    by_rule broken (all_met metrics after_post bytes postamble chain post s r same)
  where
    by_rule : (bad.cause ≡ Opcode) × ((pages : List MarkedPage) → s.pass ≡ Between pages → ⊥) ⊎ (bad.cause ≡ Pointer) × ((pages : List MarkedPage) × (s.pass ≡ Between pages)) × (s.left ≢ all_left []) → s.left ≡ all_left [] → ⊥
    by_rule (inl (other, inside)) met = let both : Opcode ≡ Pointer = sym other ∙ cause in absurd cc
    by_rule (inr (same, closed, some)) met = some met
