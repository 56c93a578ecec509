-- One instruction of the pages: the width is that of the file's font, and the font that is selected after it was read.
use Rattle.std.proofs.Common.{◌≡◌, ◌≢◌, ◌++◌, ◌&&◌, if◌then◌else◌, [], ◌∷◌, Bool, true, false, List, map, ℕ, ℤ, Option, Some, None, refl, sym, ◌∙◌, ap, ap₂, subst, subst₂, inl, inr}
use Rattle.std.specs.Prelude.{◌⊎◌, IsSome}
use Rattle.std.specs.List.{AllByRecursion}
use Rattle.dvi_scan.specs.declared.fault.DviCause.{DviCause}
use Rattle.dvi_scan.specs.declared.fault.DviCause.TheVariants.{Glyph, Range}
use Rattle.dvi_ops.specs.Body.{Position, DviState, Meaning, Widths, instruction_acts, glyph, glyph_of, in_range, bounded_acts, kept_in, put_glyph, set_glyph}
use Rattle.scaled_core.specs.Mark.{Mark}
use Rattle.dvi_ops.specs.File.{MarkedPage}
use Rattle.dvi_ops.specs.Fonts.{WidthsByName, IsRightAfter, definitions_in, font, selection_of, widths_of, width_in as width_of_font}
use Rattle.dvi_ops.specs.Tokens.{bop_place}
use Rattle.dvi_ops.specs.Instruction.{Definition, BodyLeaf, SetChar, PutChar, FontNum, FontDef, Instruction, Do}
use Rattle.dvi_scan.specs.Drawing.{constant_width}
use Rattle.dvi_scan.specs.Pass.{PassStateView, Between, Inside, with_marks, execute}
use Rattle.dvi_scan.specs.Reached.{PlacesLeft, after_bops}
use Rattle.dvi_scan.specs.Execution.{BreaksTurn, IsAsked, TakesMemory, pass_at}
use Rattle.dvi_scan.specs.View.{marked_page}
use Rattle.dvi_scan.specs.declared.executing.PassFault.{PassFault}
use Rattle.dvi_scan.specs.declared.executing.PassFault.TheVariants.{OutOfMemory, Broken}
use Rattle.dvi_scan.specs.declared.executing.PassState.{PassState}
use Rattle.dvi_scan.specs.declared.executing.PassState.TheVariants as states
use Rattle.dvi_scan.proofs.FontLemmas.{current_of, turn_font}
use Rattle.dvi_scan.proofs.WidthLemmas.{one_width}
use Rattle.dvi_read.specs.ReadFonts.{AreSound, HasCurrent, IsCurrent, FontIsRead, asked_width, code_in, selected_in, width_in}
use Rattle.dvi_read.specs.Private.ReadFonts.{Chooses}
use Rattle.dvi_read.specs.declared.fonts.ReadFonts.{ReadFonts}
use Rattle.dvi_read.specs.Steps.{FontsAreRead, LacksFont, IsWalkStep, IsStepFault, known_of, so_far, pass_state_of}
use Rattle.dvi_read.specs.Private.Steps.{BreaksNote, BreaksPass, LacksNote, Notes, PassesOn}
use Rattle.dvi_read.specs.WalkFaults.{BreaksRest, PassContinues, FontIsUnread, LacksMemory, LacksMemoryForFont}
use Rattle.dvi_read.specs.declared.fault.StepFault.{StepFault}
use Rattle.dvi_read.specs.declared.fault.StepFault.TheVariants.{Pass, Font}
use Rattle.dvi_read.specs.declared.check.walk.Walk.{Walk}
use Rattle.dvi_read.proofs.SelectLemmas.{not_read, sound_more}
use Rattle.tfm_core.specs.FileWidths.{file_widths}
use Rattle.tfm_core.specs.Fonts.{SizedFont}
use Rattle.tfm_core.specs.NamedBytes.{NamedBytes}

-- The width of a character in the font that was selected last is that of the file's font.
pub width_of_read : (metrics : WidthsByName) (table : List Definition) (fonts : ReadFonts) (c f : ℤ) → AreSound metrics table fonts → HasCurrent f fonts → asked_width fonts (Some c) ≡ widths_of metrics table f c
width_of_read metrics table fonts c f sound current =
    let (read, there, widths) = sound.widths f fonts.current current in
    ap (λ (o : Option SizedFont). width_in o c) there ∙ sym (ap (λ (o : Option (ℤ → Option ℤ)). width_of_font o c) widths)

pub asked_is : (metrics : WidthsByName) (table : List Definition) (fonts : ReadFonts) (pages : List MarkedPage) (i : Instruction)
    (pass_state : PassState) → AreSound metrics table fonts → IsCurrent fonts pass_state
    → IsAsked (widths_of metrics table) i (pass_at pages pass_state) (asked_width fonts (code_in i))
asked_is metrics table fonts pages (Do (SetChar c)) (states.Inside page) sound current =
    λ f e. width_of_read metrics table fonts c f sound (current f e)
asked_is metrics table fonts pages (Do (PutChar c)) (states.Inside page) sound current =
    λ f e. width_of_read metrics table fonts c f sound (current f e)
asked_is metrics table fonts pages i pass_state sound current = tt

-- A rule that is broken with the one width is broken with the widths of the fonts.
same_glyph : (widths : Widths) (width : Option ℤ) (c : ℤ) (p : Position) (font : Option ℤ) → ((f : ℤ) → font ≡ Some f → width ≡ widths f c) → glyph (constant_width width) c p font ≡ glyph widths c p font
same_glyph widths width c p None asked = refl
same_glyph widths width c p (Some f) asked = ap (λ (w : Option ℤ). glyph_of f c p w) (asked f refl)

same_act : (widths : Widths) (width : Option ℤ) (leaf : BodyLeaf) (pages : List MarkedPage) (counts : List ℤ) (marks : List Mark) (stack : List Position) (s : DviState)
    → IsAsked widths (Do leaf) (Inside pages counts marks stack s) width → instruction_acts (constant_width width) leaf s ≡ instruction_acts widths leaf s
same_act widths width (SetChar c) pages counts marks stack s asked = ap (λ (g : Option (Mark × ℤ)). set_glyph g s) (same_glyph widths width c s.place s.font asked)
same_act widths width (PutChar c) pages counts marks stack s asked = ap (λ (g : Option (Mark × ℤ)). put_glyph g s) (same_glyph widths width c s.place s.font asked)
same_act widths width leaf pages counts marks stack s asked = refl

breaks_same : (widths : Widths) (width : Option ℤ) (most : ℕ) (i : Instruction) (p : PassStateView) (cause : DviCause) → IsAsked widths i p width → BreaksTurn (instruction_acts (constant_width width)) most i p cause → BreaksTurn (instruction_acts widths) most i p cause
breaks_same widths width most (Do leaf) (Inside pages counts marks stack s) Glyph asked b =
    subst (λ (m : Meaning). m ≡ None) (same_act widths width leaf pages counts marks stack s asked) b
breaks_same widths width most (Do leaf) (Inside pages counts marks stack s) Range asked b =
    subst (λ (m : Meaning). IsSome m × (kept_in m ≡ None)) (same_act widths width leaf pages counts marks stack s asked) b
breaks_same widths width most i p cause asked b = b

space_same : (widths : Widths) (width : Option ℤ) (most : ℕ) (i : Instruction) (p : PassStateView) → IsAsked widths i p width
    → TakesMemory (instruction_acts (constant_width width)) most i p → TakesMemory (instruction_acts widths) most i p
space_same widths width most (Do leaf) (Inside pages counts marks stack s) asked (mark, t, e) =
    (mark, t, subst (λ (m : Meaning). kept_in m ≡ Some (mark ∷ [], t)) (same_act widths width leaf pages counts marks stack s asked) e)
space_same widths width most i p asked b = b

current_same : (pages : List MarkedPage) (pass_state : PassState) → current_of (pass_at pages pass_state) ≡ selected_in pass_state
current_same pages states.Between = refl
current_same pages (states.Inside page) = refl

-- A selection, or another instruction.
by_choice : (i : Instruction) (old new : ReadFonts) → Chooses i old new → ((g : ℤ) × (i ≡ Do (FontNum g)) × HasCurrent g new) ⊎ (((g : ℤ) → i ≢ Do (FontNum g)) × (new ≡ old))
by_choice (Do (FontNum g)) old new chosen = inl (g, refl, chosen)
by_choice i old new chosen = inr ((λ g e. absurd cc), chosen)

-- After a selection its font is the selected one.
selected_now : (widths : Widths) (most : ℕ) (g : ℤ) (p q : PassStateView) (f : ℤ) → execute (bounded_acts (instruction_acts widths)) most (Do (FontNum g)) p ≡ Some q → current_of q ≡ Some f → g ≡ f
selected_now widths most g (Between pages) q f e at = absurd cc
selected_now widths most g (Inside pages counts marks stack s) q f e at = go (in_range s.place.h && in_range s.place.v) e
  where
    go : (b : Bool) → with_marks pages counts marks stack (if b then Some ([], record s { font = Some g }) else None) ≡ Some q → g ≡ f
    go true e =
        let same : Inside pages counts (marks ++ []) stack (record s { font = Some g }) ≡ q = cc in
        let fonts : Some g ≡ Some f = ap current_of same ∙ at in cc
    go false e = absurd cc

-- The font that is selected after an instruction was read, and no other was selected since.
pub current_next : (widths : Widths) (most : ℕ) (i : Instruction) (p q : PassStateView) (f : ℤ) (old new : ReadFonts) → execute (bounded_acts (instruction_acts widths)) most i p ≡ Some q → current_of q ≡ Some f
    → ((g : ℤ) → current_of p ≡ Some g → HasCurrent g old) → Chooses i old new → HasCurrent f new
current_next widths most i p q f old new e at before chosen = by (by_choice i old new chosen)
  where
    by_font : ((g : ℤ) → i ≢ Do (FontNum g)) → new ≡ old → (current_of p ≡ Some f) ⊎ (i ≡ Do (FontNum f)) → HasCurrent f new
    by_font other same (inl here) = subst (λ (fonts : ReadFonts). HasCurrent f fonts) (sym same) (before f here)
    by_font other same (inr is) = absurd (other f is)

    by : ((g : ℤ) × (i ≡ Do (FontNum g)) × HasCurrent g new) ⊎ (((g : ℤ) → i ≢ Do (FontNum g)) × (new ≡ old)) → HasCurrent f new
    by (inl (g, is, current)) =
        let turned = subst (λ (i : Instruction). execute (bounded_acts (instruction_acts widths)) most i p ≡ Some q) is e in
        subst (λ (n : ℤ). HasCurrent n new) (selected_now widths most g p q f turned at) current
    by (inr (other, same)) = by_font other same (turn_font widths most i p q f e at)

-- One more instruction.
pub stepped : (files : List NamedBytes) (after_post : List ℤ) (most at : ℕ) (i : Instruction) (old mid new : Walk)
    → AreSound (file_widths files) (known_of old) old.fonts
    → IsCurrent old.fonts old.pass_state → PassesOn most i old mid → Notes (file_widths files) after_post at i mid new
    → IsWalkStep (file_widths files) after_post most at i old new
stepped files after_post most at i old mid new sound current passes notes =
    let metrics : WidthsByName = file_widths files in
    let table : List Definition = known_of old in
    let asked = asked_is metrics table old.fonts (map marked_page old.done.items) i old.pass_state sound current in
    let same_state : pass_state_of new ≡ pass_state_of mid =
    ap₂ (λ (pages : List MarkedPage) (pass_state : PassState). pass_at pages pass_state) notes.pages notes.pass_state in
    let goes_on : execute (bounded_acts (instruction_acts (widths_of metrics table))) most i (pass_state_of old) ≡ Some (pass_state_of new) =
    sym (one_width (widths_of metrics table) (asked_width old.fonts (code_in i)) most i (pass_state_of old) asked)
    ∙ (passes.goes_on ∙ ap (λ (p : PassStateView). Some p) (sym same_state)) in
    record {
      goes_on = goes_on;
      bop = ap (after_bops (bop_place at i)) (sym passes.left) ∙ notes.bop;
      right = subst (λ (ds : List Definition). IsRightAfter ds i) passes.known notes.right;
      known_is = notes.known_is ∙ ap (λ (ds : List Definition). ds ++ definitions_in i) passes.known;
      widths = subst (λ (ds : List Definition). AllByRecursion (λ f. IsSome (font metrics ds f)) (selection_of i)) passes.known notes.widths;
      named = notes.named;
      read = notes.read;
      kept = λ g some. notes.kept g (subst (λ (fonts : ReadFonts). FontIsRead g fonts) (sym passes.fonts) some);
      sound = subst (λ (ds : List Definition). AreSound metrics ds new.fonts) (sym notes.known_is) (sound_more metrics (known_of mid) (definitions_in i) new.fonts notes.sound);
      current = λ f at_new.
          current_next (widths_of metrics table) most i (pass_state_of old) (pass_state_of new) f mid.fonts new.fonts goes_on
          (current_same (map marked_page new.done.items) new.pass_state ∙ at_new)
          (λ g here. subst (λ (fonts : ReadFonts). HasCurrent g fonts) (sym passes.fonts)
          (current g (sym (current_same (map marked_page old.done.items) old.pass_state) ∙ here))) notes.chosen;
    }

-- A fault of the pass, and one of the recorded effect.
pub pass_fault : (files : List NamedBytes) (after_post : List ℤ) (most at : ℕ) (i : Instruction) (old : Walk) (fault : PassFault)
    → AreSound (file_widths files) (known_of old) old.fonts
    → IsCurrent old.fonts old.pass_state → BreaksPass most i old fault → IsStepFault files after_post most at i old (Pass fault)
pass_fault files after_post most at i old OutOfMemory sound current b selected read =
    inl (space_same (widths_of (file_widths files) (known_of old)) (asked_width old.fonts (code_in i)) most i (pass_state_of old)
    (asked_is (file_widths files) (known_of old) old.fonts (map marked_page old.done.items) i old.pass_state sound current) b)
pass_fault files after_post most at i old (Broken cause) sound current b selected read =
    inl (breaks_same (widths_of (file_widths files) (known_of old)) (asked_width old.fonts (code_in i)) most i (pass_state_of old) cause
    (asked_is (file_widths files) (known_of old) old.fonts (map marked_page old.done.items) i old.pass_state sound current) b)

-- After the pass the fonts are unchanged.
wants_of : (files : List NamedBytes) (after_post : List ℤ) (selected : List ℤ) (f : ℤ) (old : Walk) → FontsAreRead old.fonts selected
    → LacksFont files after_post (known_of old) f old.fonts → LacksMemoryForFont files after_post (so_far selected old) f
wants_of files after_post selected f old read lacks =
    record { named = lacks.named; new = not_read f old.fonts selected lacks.new read; font = lacks.font; found = lacks.found; file = lacks.file }

lacks_same : (files : List NamedBytes) (after_post : List ℤ) (selected : List ℤ) (most : ℕ) (i : Instruction) (old mid : Walk)
    → FontsAreRead old.fonts selected → PassesOn most i old mid → LacksNote files after_post i mid
    → LacksMemory files after_post (so_far selected old) i
lacks_same files after_post selected most (Do (FontDef d)) old mid read passes right =
    subst (λ (ds : List Definition). IsRightAfter ds (Do (FontDef d))) passes.known right
lacks_same files after_post selected most (Do (FontNum f)) old mid read passes wants =
    wants_of files after_post selected f old read
    (subst₂ (λ (ds : List Definition) (fonts : ReadFonts). LacksFont files after_post ds f fonts) passes.known passes.fonts wants)
lacks_same files after_post selected most i old mid read passes none = absurd none

-- The pass goes on with the widths of the file's fonts too.
pub goes_on : (files : List NamedBytes) (selected : List ℤ) (most : ℕ) (i : Instruction) (old mid : Walk)
    → AreSound (file_widths files) (known_of old) old.fonts → IsCurrent old.fonts old.pass_state
    → PassesOn most i old mid → PassContinues (file_widths files) most (so_far selected old) i
goes_on files selected most i old mid sound current passes =
    let table : List Definition = known_of old in
    let asked = asked_is (file_widths files) table old.fonts (map marked_page old.done.items) i old.pass_state sound current in
    let next : execute (bounded_acts (instruction_acts (widths_of (file_widths files) table))) most i (pass_state_of old) ≡ Some (pass_state_of mid) =
    sym (one_width (widths_of (file_widths files) table) (asked_width old.fonts (code_in i)) most i (pass_state_of old) asked) ∙ passes.goes_on in
    subst (λ (p : Option PassStateView). IsSome p) (sym next) refl

pub note_fault : (files : List NamedBytes) (after_post : List ℤ) (most at : ℕ) (i : Instruction) (old mid : Walk) (fault : StepFault)
    → AreSound (file_widths files) (known_of old) old.fonts
    → IsCurrent old.fonts old.pass_state → PassesOn most i old mid → BreaksNote files after_post at i mid fault
    → IsStepFault files after_post most at i old fault
note_fault files after_post most at i old mid (Pass OutOfMemory) sound current passes b selected read =
    inr (goes_on files selected most i old mid sound current passes, lacks_same files after_post selected most i old mid read passes b)
note_fault files after_post most at i old mid (Pass (Broken cause)) sound current passes b selected read =
    inr (
      goes_on files selected most i old mid sound current passes,
      subst₂ (λ (ds : List Definition) (left : PlacesLeft). BreaksRest after_post ds at left i cause) passes.known passes.left b,
    )
note_fault files after_post most at i old mid (Font refusal) sound current passes (f, is, unread) selected read = (
  f,
  is,
  record {
    goes_on = subst (λ (i : Instruction). PassContinues (file_widths files) most (so_far selected old) i) is (goes_on files selected most i old mid sound current passes);
    unread = subst (λ (ds : List Definition). FontIsUnread files after_post ds f refusal) passes.known unread;
  },
)
