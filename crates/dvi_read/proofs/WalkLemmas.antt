-- The walk over the pages: one more instruction, and why it stops.
use Rattle.std.proofs.Common.{◌≡◌, ◌≢◌, ◌≤◌, ◌-◌, min, [], ◌∷◌, Bool, true, false, List, length, reverse, ℕ, ℤ, Option, Some, None, map, refl, sym, ◌∙◌, ap, ap₂, subst, inl, inr, arith}
use Rattle.std.specs.Prelude.{◌⊎◌, IsSome, slice_get, slice_index}
use Rattle.std.proofs.lemmas.List.{reverse-reverse}
use Rattle.std.specs.BTreeMap.{is_at}
use Rattle.std.specs.List.{AllByRecursion}
use Rattle.std.specs.Map.{lookup}
use Rattle.std.specs.Ordering.{int_cmp}
use Rattle.dvi_scan.proofs.ClosingLemmas.{sized_all}
use Rattle.dvi_scan.specs.declared.widths.FontRefusal.{FontRefusal}
use Rattle.dvi_scan.proofs.RefusalLemmas.{no_widths}
use Rattle.dvi_scan.specs.Ends.{IsSpelledAt, cause_of}
use Rattle.dvi_scan.specs.declared.fault.DviCause.{DviCause}
use Rattle.dvi_scan.specs.declared.fault.DviCause.TheVariants.{Opcode, Truncated, Pointer, Font}
use Rattle.dvi_scan.proofs.PlaceLemmas.{one_spelled_at}
use Rattle.dvi_ops.specs.Body.{Acts, instruction_acts}
use Rattle.dvi_ops.specs.declared.fault.OpFault.{OpFault}
use Rattle.dvi_ops.specs.declared.fault.OpFault.TheVariants as ops
use Rattle.dvi_ops.specs.File.{MarkedPage}
use Rattle.dvi_ops.specs.Fonts.{WidthsByName, IsFontSize, definitions, widths_in, selection_of, widths_of}
use Rattle.dvi_ops.specs.Instruction.{Definition, FontNum, Instruction, Do, Push, Pop, Eop, Postamble}
use Rattle.dvi_ops.specs.Tokens.{token_instructions}
use Rattle.dvi_scan.specs.Pass.{PassStateView, Between, Inside}
use Rattle.dvi_scan.specs.Passed.{file_framing, IsPassed}
use Rattle.dvi_scan.specs.Reached.{AreNumbersOf, HasWidths, IsReached, IsRightAt, PlacesLeft, ReadSoFar, all_left, before_pages, has_number}
use Rattle.dvi_scan.specs.Execution.{BreaksTurn, pass_at}
use Rattle.dvi_scan.specs.View.{marked_page}
use Rattle.dvi_scan.specs.declared.page.Page.{Page}
use Rattle.dvi_scan.specs.declared.executing.PassState.{PassState}
use Rattle.dvi_scan.specs.declared.executing.PassState.TheVariants as states
use Rattle.dvi_scan.proofs.ReachedLemmas.{next_right}
use Rattle.dvi_scan.proofs.TurnLemmas.{broken_turn}
use Rattle.dvi_read.specs.ReadFonts.{IsCurrent}
use Rattle.dvi_read.specs.Faults.{fault_in}
use Rattle.dvi_read.specs.Steps.{BreaksStep, IsStepFault, known_of, places_left, so_far, pass_state_of}
use Rattle.dvi_read.specs.WalkFaults.{PageBytes, page_bytes, BreaksPages, BreaksRest, BreaksRule, IsPagesFault, IsUnended, IsWalkFault, LacksWidths}
use Rattle.dvi_read.specs.Walks.{IsWalked, bare}
use Rattle.dvi_read.specs.Private.Walks.{IsBegun, IsReadingFault}
use Rattle.dvi_read.specs.declared.fault.DviFault.{DviFault}
use Rattle.dvi_read.specs.declared.fault.DviFault.TheVariants as faults
use Rattle.dvi_read.specs.declared.fault.StepFault.{StepFault}
use Rattle.dvi_read.specs.declared.fault.StepFault.TheVariants as steps
use Rattle.dvi_scan.specs.declared.executing.PassFault.TheVariants.{OutOfMemory, Broken}
use Rattle.dvi_read.specs.declared.check.walk.Walk.{Walk}
use Rattle.tfm_core.specs.FileWidths.{file_widths}
use Rattle.tfm_core.specs.Fonts.{SizedFont}
use Rattle.tfm_core.specs.NamedBytes.{NamedBytes}

-- An instruction that is there is not cut off.
no_cut : (does : Acts) (most : ℕ) (i : Instruction) (p : PassStateView) → BreaksTurn does most i p Truncated → ⊥
no_cut does most (Do leaf) (Inside pages counts marks stack s) b = b
no_cut does most Push (Inside pages counts marks stack s) b = b
no_cut does most Pop (Inside pages counts marks stack s) b = b
no_cut does most Eop (Inside pages counts marks stack s) b = b
no_cut does most i (Inside pages counts marks stack s) b = b
no_cut does most i (Between pages) b = b

-- A rule that an instruction breaks is one of the pages.
pages_break : (metrics : WidthsByName) (after_post : List ℤ) (bytes : List ℕ) (most at post : ℕ) (s : ReadSoFar) (cause : DviCause) (i : Instruction)
    → IsSpelledAt bytes at post i
    → BreaksRule metrics after_post most at s i cause → BreaksPages metrics (page_bytes after_post bytes most post) at s cause
pages_break metrics after_post bytes most at post s Truncated i states (inl b) =
    absurd (no_cut (instruction_acts (widths_of metrics s.known)) most i s.pass b)
pages_break metrics after_post bytes most at post s Truncated i states (inr (on, b)) = absurd b
pages_break metrics after_post bytes most at post s Opcode i states b = inr (i, states, b)
pages_break metrics after_post bytes most at post s cause i states b = (i, states, b)

-- The fault of an instruction that is there.
taken : (files : List NamedBytes) (after_post : List ℤ) (bytes : List ℕ) (most at post : ℕ) (s : ReadSoFar) (i : Instruction) (fault : StepFault)
    → IsSpelledAt bytes at post i
    → BreaksStep files after_post most at s i fault → IsPagesFault files (page_bytes after_post bytes most post) at s (fault_in at fault)
taken files after_post bytes most at post s i (steps.Pass OutOfMemory) states b = (i, states, b)
taken files after_post bytes most at post s i (steps.Pass (Broken cause)) states b =
    (refl, pages_break (file_widths files) after_post bytes most at post s cause i states b)
taken files after_post bytes most at post s i (steps.Font refusal) states (f, is, unread) =
    (f, subst (λ (i : Instruction). IsSpelledAt bytes at post i) is states, unread)

-- The fault where no instruction is there.
pub unspelled_fault : (files : List NamedBytes) (part : PageBytes) (at : ℕ) (walk : Walk) (fault : OpFault)
    → ((i : Instruction) → IsSpelledAt part.bytes at part.post i → ⊥)
    → (fault ≡ ops.Opcode → 250 ≤ slice_index part.bytes at) → (fault ≡ ops.Truncated → 250 ≤ slice_index part.bytes at → ⊥)
    → IsReadingFault files part at walk (steps.Pass (Broken (cause_of fault)))
unspelled_fault files part at walk ops.Opcode none begins cut selected read = (refl, inl (begins refl, none))
unspelled_fault files part at walk ops.Truncated none begins cut selected read = (refl, (cut refl, none))

pub taken_fault : (files : List NamedBytes) (after_post : List ℤ) (bytes : List ℕ) (postamble : Postamble) (at post : ℕ) (walk : Walk)
    (i : Instruction) (fault : StepFault) → IsSpelledAt bytes at post i
    → IsStepFault files after_post (min 1024 postamble.stack_depth) at i walk fault
    → IsReadingFault files (page_bytes after_post bytes (min 1024 postamble.stack_depth) post) at walk fault
taken_fault files after_post bytes postamble at post walk i fault states b selected read =
    taken files after_post bytes (min 1024 postamble.stack_depth) at post (so_far selected walk) i fault states (b selected read)

-- The known definitions have sizes.
pub known_sizes : (metrics : WidthsByName) (after_post : List ℤ) (bytes : List ℕ) (postamble : Postamble) (chain : List ℕ) (at : ℕ) (s : ReadSoFar)
    → IsReached metrics after_post bytes postamble chain at s
    → AllByRecursion (λ d. IsFontSize d.size) s.known
known_sizes metrics after_post bytes postamble chain at s r =
    subst (λ (ds : List Definition). AllByRecursion (λ d. IsFontSize d.size) ds) r.known_is (sized_all [] (token_instructions r.before) r.fonts)

-- A right instruction breaks no rule.
selected_has : (P : ℤ → Type 0) (f : ℤ) (i : Instruction) → i ≡ Do (FontNum f) → AllByRecursion P (selection_of i) → P f
selected_has P f i is all = let there : AllByRecursion P (f ∷ []) = subst (λ (i : Instruction). AllByRecursion P (selection_of i)) is all in there.0

module _ (metrics : WidthsByName) (after_post : List ℤ) (postamble : Postamble) (at : ℕ) (s : ReadSoFar) (i : Instruction) (t : ReadSoFar)
    (right : IsRightAt metrics after_post postamble at s i t) where
  rest_holds : (cause : DviCause) → BreaksRest after_post s.known at s.left i cause → ⊥
  rest_holds Pointer b = let both : Some t.left ≡ None = sym right.bop ∙ b in cc
  rest_holds Font (inl wrong) = wrong right.fonts
  rest_holds Font (inr (f, is, none)) =
      let both : true ≡ false = sym (selected_has (λ f. has_number after_post f ≡ true) f i is right.named) ∙ none in cc
  rest_holds cause b = b

  rule_holds : (cause : DviCause) → BreaksRule metrics after_post (min 1024 postamble.stack_depth) at s i cause → ⊥
  rule_holds cause (inl b) =
      let none = broken_turn (instruction_acts (widths_of metrics s.known)) (min 1024 postamble.stack_depth) i s.pass cause b in
      let both : Some t.pass ≡ None = sym right.goes_on ∙ none in cc
  rule_holds cause (inr (on, b)) = rest_holds cause b

-- Where a rule is broken, no right instruction is there.
pub nothing_right : (files : List NamedBytes) (after_post : List ℤ) (bytes : List ℕ) (postamble : Postamble) (at post : ℕ) (s : ReadSoFar)
    (i : Instruction) (t : ReadSoFar)
    (fault : DviFault) → fault ≢ faults.OutOfMemory → IsSpelledAt bytes at post i
    → IsRightAt (file_widths files) after_post postamble at s i t
    → IsPagesFault files (page_bytes after_post bytes (min 1024 postamble.stack_depth) post) at s fault → ⊥
nothing_right files after_post bytes postamble at post s i t fault other states right = by_fault fault other
  where
    rule : (cause : DviCause) (j : Instruction) → IsSpelledAt bytes at post j
        → BreaksRule (file_widths files) after_post (min 1024 postamble.stack_depth) at s j cause → ⊥
    rule cause j there b =
        rule_holds (file_widths files) after_post postamble at s i t right cause
        (subst (λ (i : Instruction). BreaksRule (file_widths files) after_post (min 1024 postamble.stack_depth) at s i cause)
        (one_spelled_at bytes at post post j i there states) b)

    pages : (cause : DviCause) → BreaksPages (file_widths files) (page_bytes after_post bytes (min 1024 postamble.stack_depth) post) at s cause → ⊥
    pages Truncated (begins, none) = none i states
    pages Opcode (inl (code, none)) = none i states
    pages Opcode (inr (j, there, b)) = rule Opcode j there b
    pages cause b = rule cause b.0 b.1 b.2

    widths : (refusal : FontRefusal) → LacksWidths files (page_bytes after_post bytes (min 1024 postamble.stack_depth) post) at s refusal → ⊥
    widths refusal (f, there, selects) =
        let unread = selects.unread in
        let is : i ≡ Do (FontNum f) = one_spelled_at bytes at post post i (Do (FontNum f)) states there in
        let some = selected_has (HasWidths (file_widths files) s.known) f i is right.closing in
        let found : IsSome (widths_in (file_widths files) (Some unread.font)) = subst (λ (o : Option Definition). IsSome (widths_in (file_widths files) o)) unread.found some in
        let nowhere : Option (ℤ → Option ℤ) = None in
        let none : IsSome nowhere = subst (λ (o : Option (ℤ → Option ℤ)). IsSome o) (no_widths files unread.font refusal unread.refused) found in
        cc

    by_fault : (fault : DviFault) → fault ≢ faults.OutOfMemory
        → IsPagesFault files (page_bytes after_post bytes (min 1024 postamble.stack_depth) post) at s fault → ⊥
    by_fault faults.OutOfMemory other b = other refl
    by_fault (faults.Bad bad) other (place, b) = pages bad.cause b
    by_fault (faults.Font refusal) other b = widths refusal b

-- In a file no walk stops.
pub walk_fault : (files : List NamedBytes) (after_post : List ℤ) (bytes : List ℕ) (post after last : ℕ) (postamble : Postamble) (chain : List ℕ)
    (pages : List MarkedPage) (fault : DviFault) → post ≤ length bytes
    → fault ≢ faults.OutOfMemory → IsWalkFault files after_post bytes postamble chain post fault
    → (f : IsPassed (file_widths files) bytes (file_framing post after last postamble chain) pages)
    → AreNumbersOf after_post (definitions (token_instructions f.tail)) → ⊥
walk_fault files after_post bytes post after last postamble chain pages fault high other (at, fault_is) f numbers =
    let below = fault_is.before in
    let next = next_right (file_widths files) bytes post after last postamble chain pages f high after_post numbers at fault_is.seen (omega arith)
    fault_is.reached below in
    let forward = next.forward in
    let within = next.within in
    nothing_right files after_post bytes postamble at post fault_is.seen next.here next.new fault other (next.next - at, omega arith, next.spelled)
    next.right fault_is.fault_is

-- The walk before the first page.
pub walked_first : (metrics : WidthsByName) (after_post : List ℤ) (bytes : List ℕ) (postamble : Postamble) (chain : List ℕ) (from : ℕ) (walk : Walk)
    → IsBegun chain walk
    → IsReached metrics after_post bytes postamble chain from (before_pages chain) → IsWalked metrics after_post bytes postamble chain from walk
walked_first metrics after_post bytes postamble chain from walk begun reached =
    let closed : pass_state_of walk ≡ Between [] =
    ap₂ (λ (pages : List Page) (pass_state : PassState). pass_at (map marked_page pages) pass_state) begun.done begun.pass_state in
    let pass : Between [] ≡ pass_state_of walk = sym closed in
    let left : all_left chain ≡ places_left walk = ap₂ (λ (missed : Bool) (ns : List ℕ). record { missed = missed; places = reverse ns }) (sym begun.missed) (sym begun.left_is) in
    let nothing : List ℤ = [] in
    let one : IsReached metrics after_post bytes postamble chain from
    (record { pass = pass_state_of walk; known = []; selected = []; left = all_left chain }) =
    subst (λ (p : PassStateView). IsReached metrics after_post bytes postamble chain from
    (record { pass = p; known = []; selected = nothing; left = all_left chain })) pass reached in
    let two : IsReached metrics after_post bytes postamble chain from
    (record { pass = pass_state_of walk; known = known_of walk; selected = []; left = all_left chain }) =
    subst (λ (ds : List Definition). IsReached metrics after_post bytes postamble chain from
    (record { pass = pass_state_of walk; known = ds; selected = nothing; left = all_left chain })) (sym begun.known) one in
    record {
      selected = [];
      pass = pass_state_of walk;
      pass_state = closed ∙ sym (ap bare closed);
      reached = subst (λ (l : PlacesLeft). IsReached metrics after_post bytes postamble chain from
          (record { pass = pass_state_of walk; known = known_of walk; selected = nothing; left = l })) left two;
      read = tt;
      sound = record {
        widths = λ f index there. (let none : None ≡ Some index = sym (ap (λ (indices : List (ℤ × ℕ)). lookup (is_at (int_cmp f)) indices) begun.indices) ∙ there in absurd cc);
        codes = λ index read there. (let none : None ≡ Some read = sym (ap (λ (fonts : List SizedFont). slice_get fonts index) begun.fonts) ∙ there in absurd cc);
      };
      current = subst (λ (pass_state : PassState). IsCurrent walk.fonts pass_state) (sym begun.pass_state) (λ f none. absurd cc);
    }

-- At the place of post no page is open, and some place of the chain was no bop.
pub left_over : (walk : Walk) (post : ℕ) → walk.pass_state ≡ states.Between → (walk.missed ≡ true) ⊎ (walk.left.now ≢ [])
    → IsUnended (pass_state_of walk) (places_left walk) post (record { place = post; cause = Pointer })
left_over walk post closed some = (
  refl,
  inr (
    refl,
    (map marked_page walk.done.items, ap (λ (pass_state : PassState). pass_at (map marked_page walk.done.items) pass_state) closed),
    λ same. by_rule some same,
  ),
)
  where
    by_rule : (walk.missed ≡ true) ⊎ (walk.left.now ≢ []) → places_left walk ≡ all_left [] → ⊥
    by_rule (inl missed) same = let both : true ≡ false = sym missed ∙ ap (λ (l : PlacesLeft). l.missed) same in cc
    by_rule (inr some) same = some (sym (reverse-reverse walk.left.now) ∙ ap (λ (l : PlacesLeft). reverse l.places) same)
