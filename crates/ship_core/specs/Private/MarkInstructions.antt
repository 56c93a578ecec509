-- The instructions for the marks of a box, item by item (own; private calls and the sink of marks alone).
use Rattle.std.specs.Prelude.{◌≡◌, ◌++◌, [], ◌∷◌, ℤ, pos, negsuc, zero, suc, if◌then◌else◌, List, Option, Some, None}
use Rattle.std.specs.Ordering.{int_eq}
use Rattle.std.specs.Option.{option_map}
use Rattle.node_core.specs.declared.tree.Kind.{Kind}
use Rattle.dvi_ops.specs.Instruction.{Axis, Move, By, FontNum, SetChar, Instruction, Do, Push}
use Rattle.dvi_ops.specs.Forest.{flat}
use Rattle.dvi_ops.specs.Runs.{instructions_of}
use Rattle.page_core.specs.declared.placing.MarkKind.{MarkKind}
use Rattle.page_core.specs.declared.placing.MarkKind.TheVariants as mark_kind
use Rattle.ship_core.specs.declared.drawing.Drawing.{Drawing}
use Rattle.ship_core.specs.Drawing.{rule_leaf, font_after, body_of_drawn}
use Rattle.page_core.specs.DrawnPages.{DrawnPage}
use Rattle.page_core.specs.declared.placing.Point.{Point}

-- An instruction, unless its amount is 0.
abbrev pub unless_zero : ℤ → Instruction → List Instruction
unless_zero (pos zero) i = []
unless_zero (pos (suc n)) i = i ∷ []
unless_zero (negsuc n) i = i ∷ []

-- A movement by an amount, unless it is 0.
abbrev pub movement : Axis → ℤ → List Instruction
movement axis z = unless_zero z (Do (Move axis (By z)))

-- The selection of a font, unless it is the current one.
abbrev pub selection : Option ℤ → ℤ → List Instruction
selection None font = Do (FontNum font) ∷ []
selection (Some current) font = if int_eq font current then [] else Do (FontNum font) ∷ []

-- The instruction for a mark of that width.
abbrev pub mark_instructions : Kind → (width : ℤ) → MarkKind → List Instruction
mark_instructions kind width (mark_kind.Rule height) = Do (rule_leaf kind height width) ∷ []
mark_instructions kind width (mark_kind.Glyph slot code) = Do (SetChar (pos code)) ∷ []

-- The instructions so far, and those for what is drawn after.
abbrev pub instructions_made : Kind → Drawing → DrawnPage → List Instruction
instructions_made kind d rest = instructions_of d.ops ++ flat (body_of_drawn kind d.h d.v (option_map pos d.font) rest)

-- The font after what is drawn after.
abbrev pub font_left : Drawing → DrawnPage → Option ℤ
font_left d rest = font_after (option_map pos d.font) rest

-- The second drawing is the first one after a push, which returned the place: the same place and font, and one instruction more.
pub record IsOpened (outer inside : Drawing) (at : Point ℤ) : Type 0 where
  pub ops : instructions_of inside.ops ≡ instructions_of outer.ops ++ Push ∷ []
  pub h : inside.h ≡ outer.h
  pub v : inside.v ≡ outer.v
  pub font : inside.font ≡ outer.font
  pub place : at ≡ record { h = outer.h; v = outer.v }
