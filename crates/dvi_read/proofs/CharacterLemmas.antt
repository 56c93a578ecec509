-- A character of an open page: the place after it, and its mark.
use Rattle.std.proofs.Common.{◌≡◌, ◌<◌, ◌+◌, ◌-◌, ◌++◌, ◌&&◌, if◌then◌else◌, min, [], ◌∷◌, Bool, true, false, List, drop, get_or, length, map, reverse, take, ℕ, ℤ, pos, Option, Some, None, append-nil, arith, refl, sym, ◌∙◌, ap, subst, inl}
use Rattle.scaled_core.specs.Mark.{Mark, Glyph}
use Rattle.dvi_ops.specs.Body.{Position, DviState, Meaning, Widths, instruction_acts, glyph, glyph_of, in_range, bounded_acts, kept_in, place_after, right, set_glyph}
use Rattle.dvi_ops.specs.File.{MarkedPage}
use Rattle.dvi_ops.specs.Fonts.{WidthsByName, widths_of}
use Rattle.dvi_ops.specs.Instruction.{SetChar, Instruction, Do, Across, By, Postamble}
use Rattle.dvi_ops.specs.Table.{Spells}
use Rattle.dvi_scan.specs.Drawing.{reached_position}
use Rattle.dvi_scan.specs.Execution.{inside_of, pass_at}
use Rattle.dvi_scan.specs.Pass.{PassStateView, Between, Inside, execute, with_marks}
use Rattle.dvi_scan.specs.View.{mark_of, marked_page, spot_position, dvi_state}
use Rattle.dvi_scan.specs.declared.executing.OpenPage.{OpenPage}
use Rattle.dvi_scan.specs.declared.executing.PassState.{PassState}
use Rattle.dvi_scan.specs.declared.executing.PassState.TheVariants as states
use Rattle.dvi_scan.specs.declared.page.Position.{Position as Spot}
use Rattle.dvi_scan.proofs.PlaceLemmas.{one_byte}
use Rattle.dvi_read.specs.ReadFonts.{asked_width, selected_in}
use Rattle.dvi_read.specs.Steps.{FontsAreRead, known_of, pass_state_of}
use Rattle.dvi_read.specs.Walks.{IsWalked, bare}
use Rattle.dvi_read.specs.declared.check.walk.Walk.{Walk}
use Rattle.dvi_read.proofs.HeldLemmas.{walked_turn}
use Rattle.dvi_read.proofs.StepLemmas.{width_of_read}

-- The state with h after a character of this width.
abbrev moved_by : ℤ → Position → Position
moved_by w p = place_after Across (By w) p

-- A place that was reached is the one that was meant, and it is in range.
reached_is : (b : Bool) (to : Position) (p : Spot) (m : Meaning) → Some (spot_position p) ≡ (if b then Some to else None) → (spot_position p ≡ to) × ((if b then m else None) ≡ m)
reached_is true to p m e = (cc, refl)
reached_is false to p m e = absurd cc

unreached : (b : Bool) (to : Position) (m : Meaning) → None ≡ (if b then Some to else None) → (if b then m else None) ≡ None
unreached true to m e = absurd cc
unreached false to m e = refl

module _ (widths : Widths) (most : ℕ) (c : ℤ) (pages : List MarkedPage) (counts : List ℤ) (marks : List Mark) (stack : List Position) (s : DviState) where
  -- What the character does.
  abbrev does_it : Option PassStateView
  does_it = execute (bounded_acts (instruction_acts widths)) most (Do (SetChar c)) (Inside pages counts marks stack s)

  by_glyph : (m : Meaning) → instruction_acts widths (SetChar c) s ≡ m → does_it ≡ with_marks pages counts marks stack (kept_in m)
  by_glyph m is = ap (λ (m : Meaning). with_marks pages counts marks stack (kept_in m)) is

  drawn_is : (f w : ℤ) → s.font ≡ Some f → widths f c ≡ Some w → instruction_acts widths (SetChar c) s ≡ Some (Glyph f c s.place.h s.place.v ∷ [], right s w)
  drawn_is f w font width = ap (λ (o : Option ℤ). set_glyph (glyph widths c s.place o) s) font ∙ ap (λ (o : Option ℤ). set_glyph (glyph_of f c s.place o) s) width

  pub set_turn : (f w : ℤ) (p : Spot) → s.font ≡ Some f → widths f c ≡ Some w → Some (spot_position p) ≡ reached_position (moved_by w s.place)
      → does_it ≡ Some (Inside pages counts (marks ++ Glyph f c s.place.h s.place.v ∷ []) stack (record { place = spot_position p; font = s.font }))
  set_turn f w p font width there =
      let made : Meaning = Some (Glyph f c s.place.h s.place.v ∷ [], right s w) in
      let (place_is, kept_is) = reached_is (in_range (right s w).place.h && in_range (right s w).place.v) (moved_by w s.place) p made there in
      by_glyph made (drawn_is f w font width)
      ∙ (ap (λ (m : Meaning). with_marks pages counts marks stack m) kept_is
      ∙ ap (λ (q : Position). Some (Inside pages counts (marks ++ Glyph f c s.place.h s.place.v ∷ []) stack (record { place = q; font = s.font }))) (sym place_is))

  -- Where the pass goes on, there is a font, a width and a place.
  pub some_font : (after : PassStateView) → does_it ≡ Some after → s.font ≡ None → ⊥
  some_font after e font =
      let none : Some after ≡ None = sym e ∙ by_glyph None (ap (λ (o : Option ℤ). set_glyph (glyph widths c s.place o) s) font) in cc

  pub some_width : (after : PassStateView) (f : ℤ) → does_it ≡ Some after → s.font ≡ Some f → widths f c ≡ None → ⊥
  some_width after f e font width =
      let none : Some after ≡ None =
      sym e ∙ by_glyph None (ap (λ (o : Option ℤ). set_glyph (glyph widths c s.place o) s) font ∙ ap (λ (o : Option ℤ). set_glyph (glyph_of f c s.place o) s) width) in cc

  pub some_place : (after : PassStateView) (f w : ℤ) → does_it ≡ Some after → s.font ≡ Some f → widths f c ≡ Some w → None ≡ reached_position (moved_by w s.place) → ⊥
  some_place after f w e font width nowhere =
      let made : Meaning = Some (Glyph f c s.place.h s.place.v ∷ [], right s w) in
      let none : Some after ≡ None =
      sym e ∙ (by_glyph made (drawn_is f w font width) ∙ ap (λ (m : Meaning). with_marks pages counts marks stack m) (unreached (in_range (right s w).place.h && in_range (right s w).place.v) (moved_by w s.place) made nowhere)) in cc

-- A state without pages and marks is itself.
bare_twice : (p q : PassStateView) → p ≡ bare q → p ≡ bare p
bare_twice p (Between pages) e = e ∙ sym (ap bare e)
bare_twice p (Inside pages counts marks stack s) e = e ∙ sym (ap bare e)

-- The state of an open page, with another place.
abbrev placed_at : DviState → PassStateView → PassStateView
placed_at s (Between pages) = Between pages
placed_at s (Inside pages counts marks stack old) = Inside pages counts marks stack s

-- A walk passes over a character of one byte.
module _ (metrics : WidthsByName) (after_post : List ℤ) (bytes : List ℕ) (postamble : Postamble) (chain : List ℕ) (at : ℕ) (old : Walk)
    (page : OpenPage) (inside : old.pass_state ≡ states.Inside page) where
  pub character_passed : (place : Spot) (n : ℕ) (f w : ℤ) → at < length bytes → get_or bytes at 0 ≡ n → n < 128 → page.state.font ≡ Some f → asked_width old.fonts (Some (pos n)) ≡ Some w
      → Some (spot_position place) ≡ reached_position (moved_by w (spot_position page.state.place))
      → IsWalked metrics after_post bytes postamble chain at old
      → IsWalked metrics after_post bytes postamble chain (at + 1)
      (record old { pass_state = states.Inside (record page { state = record page.state { place = place } }) })
  character_passed place n f w within byte small font width there walked =
      let pages = map marked_page old.done.items in
      let marks = map mark_of page.marks.items in
      let stack = reverse (map spot_position page.stack.items) in
      let s : DviState = record { place = spot_position place; font = page.state.font } in
      let i : Instruction = Do (SetChar (pos n)) in
      let most : ℕ = min 1024 postamble.stack_depth in
      let new : Walk = record old { pass_state = states.Inside (record page { state = record page.state { place = place } }) } in
      let open_page : pass_state_of old ≡ inside_of pages page = ap (λ (pass_state : PassState). pass_at pages pass_state) inside in
      let chosen : selected_in old.pass_state ≡ Some f = ap selected_in inside ∙ font in
      let known_width : widths_of metrics (known_of old) f (pos n) ≡ Some w = sym (width_of_read metrics (known_of old) old.fonts (pos n) f walked.sound (walked.current f chosen)) ∙ width in
      let after : PassStateView = Inside pages page.counts (marks ++ Glyph f (pos n) page.state.place.h page.state.place.v ∷ []) stack s in
      let turns : execute (bounded_acts (instruction_acts (widths_of metrics (known_of old)))) most i (inside_of pages page) ≡ Some after =
      set_turn (widths_of metrics (known_of old)) most (pos n) pages page.counts marks stack (dvi_state page.state) f w place font
      known_width there in
      let goes : execute (bounded_acts (instruction_acts (widths_of metrics (known_of old)))) most i (bare walked.pass) ≡ Some after =
      subst (λ (p : PassStateView). execute (bounded_acts (instruction_acts (widths_of metrics (known_of old)))) most i p ≡ Some after)
      (sym open_page ∙ walked.pass_state) turns in
      let alone : inside_of pages page ≡ Inside [] page.counts [] stack (dvi_state page.state) =
      bare_twice (inside_of pages page) walked.pass (sym open_page ∙ walked.pass_state) in
      let one : at + 1 - at ≡ 1 = omega arith in
      let spelled : Spells i (take (at + 1 - at) (drop at bytes)) =
      inl (n, small, refl, one_byte bytes at within ∙ ap (λ (k : ℕ). k ∷ []) byte) in
      walked_turn metrics after_post bytes postamble chain at (at + 1) old new i after (omega arith) (omega arith) walked spelled goes
      (ap (placed_at s) alone) refl tt (sym (append-nil (known_of old))) tt tt
      (subst (λ (fs : List ℤ). FontsAreRead old.fonts fs) (sym (append-nil walked.selected)) walked.read) walked.sound (λ g e. walked.current g (ap selected_in inside ∙ e))

-- Two states that are some.
pub some_after : (p q : PassStateView) → Some p ≡ Some q → p ≡ q
some_after p q e = cc

-- The mark of equal numbers.
pub same_mark : {f f' c c' h h' v v' : ℤ} → f ≡ f' → c ≡ c' → h ≡ h' → v ≡ v' → Glyph f c h v ≡ Glyph f' c' h' v'
same_mark {f} {f'} {c} {c'} {h} {h'} {v} {v'} a b d e =
    ap (λ (x : ℤ). Glyph x c h v) a ∙ (ap (λ (x : ℤ). Glyph f' x h v) b ∙ (ap (λ (x : ℤ). Glyph f' c' x v) d ∙ ap (λ (x : ℤ). Glyph f' c' h' x) e))
