-- The pass needs at most one width.
use Rattle.std.proofs.Common.{◌≡◌, ℕ, ℤ, Option, Some, None, refl, ap}
use Rattle.dvi_ops.specs.Instruction.{SetChar, PutChar, SetRule, PutRule, Nop, Move, FontNum, FontDef, Xxx, Instruction, Do, Push, Pop, Bop, Eop, Pre, Post, PostPost}
use Rattle.dvi_ops.specs.Body.{Position, Widths, instruction_acts, glyph, glyph_of, bounded_acts, kept_in, put_glyph, set_glyph}
use Rattle.scaled_core.specs.Mark.{Mark}
use Rattle.dvi_scan.specs.Drawing.{constant_width}
use Rattle.dvi_scan.specs.Pass.{PassStateView, Between, Inside, with_marks, execute}
use Rattle.dvi_scan.specs.Execution.{IsAsked}

same_glyph : (widths : Widths) (width : Option ℤ) (c : ℤ) (p : Position) (font : Option ℤ) → ((f : ℤ) → font ≡ Some f → width ≡ widths f c) → glyph (constant_width width) c p font ≡ glyph widths c p font
same_glyph widths width c p None asked = refl
same_glyph widths width c p (Some f) asked = ap (λ (w : Option ℤ). glyph_of f c p w) (asked f refl)

pub one_width : (widths : Widths) (width : Option ℤ) (most : ℕ) (i : Instruction) (p : PassStateView) → IsAsked widths i p width → execute (bounded_acts (instruction_acts (constant_width width))) most i p ≡ execute (bounded_acts (instruction_acts widths)) most i p
one_width widths width most (Do (SetChar c)) (Inside pages counts marks stack s) asked =
    ap (λ (g : Option (Mark × ℤ)). with_marks pages counts marks stack (kept_in (set_glyph g s))) (same_glyph widths width c s.place s.font asked)
one_width widths width most (Do (PutChar c)) (Inside pages counts marks stack s) asked =
    ap (λ (g : Option (Mark × ℤ)). with_marks pages counts marks stack (kept_in (put_glyph g s))) (same_glyph widths width c s.place s.font asked)
one_width widths width most (Do (SetRule h w)) (Inside pages counts marks stack s) asked = refl
one_width widths width most (Do (PutRule h w)) (Inside pages counts marks stack s) asked = refl
one_width widths width most (Do Nop) (Inside pages counts marks stack s) asked = refl
one_width widths width most (Do (Move a b)) (Inside pages counts marks stack s) asked = refl
one_width widths width most (Do (FontNum f)) (Inside pages counts marks stack s) asked = refl
one_width widths width most (Do (FontDef d)) (Inside pages counts marks stack s) asked = refl
one_width widths width most (Do (Xxx t)) (Inside pages counts marks stack s) asked = refl
one_width widths width most Push (Inside pages counts marks stack s) asked = refl
one_width widths width most Pop (Inside pages counts marks stack s) asked = refl
one_width widths width most Eop (Inside pages counts marks stack s) asked = refl
one_width widths width most (Bop a b) (Inside pages counts marks stack s) asked = refl
one_width widths width most (Pre a b c) (Inside pages counts marks stack s) asked = refl
one_width widths width most (Post a) (Inside pages counts marks stack s) asked = refl
one_width widths width most (PostPost a b) (Inside pages counts marks stack s) asked = refl
one_width widths width most (Do Nop) (Between pages) asked = refl
one_width widths width most (Do (FontDef d)) (Between pages) asked = refl
one_width widths width most (Bop a b) (Between pages) asked = refl
one_width widths width most i (Between pages) asked = refl
