use Rattle.std.proofs.Common.{◌≡◌, ◌∙◌, ◌++◌, ap}
use Rattle.std.specs.Prelude.{pos, ◌-ℤ◌}
use Rattle.std.specs.Option.{option_map}
use Rattle.dvi_ops.specs.Runs.{instructions_of}
use Rattle.dvi_ops.specs.Instruction.{Across, Downward}
use Rattle.ship_core.specs.Private.MarkInstructions.{movement, mark_instructions}
use Rattle.ship_core.specs.declared.drawing.Drawing.{Drawing}
use Rattle.ship_core.proofs.Drawings.{drawn_mark, selected_ops, unselected_ops, chosen, left_by, left_font}
use Rattle.ship_core.proofs.drawing.Drawing.draw_mark.Goals as goal
use Rattle.ship_core.proofs.drawing.Drawing.draw_mark.Goals.{in-Glyph+in_ok-select, in_default}

pub returns-clause-ops : goal.returns-clause-ops
returns-clause-ops c rest =
    let self = c.args.self.now in
    let mark = c.args.mark in
    let current = option_map pos self.font in
    let moved = (instructions_of self.ops ++ movement Across (mark.h -ℤ self.h)) ++ movement Downward (mark.v -ℤ self.v) in
    let joined = c.match-mark.self in
    let v : joined.v ≡ mark.v =
    elim c.match-mark.branch [ in-Glyph+in_ok-select w ↦ cc (w.in_ok-select.ensures.v, c.in_ok-move_to.ensures.v) | in_default w ↦ cc (c.in_ok-move_to.ensures.v) ] in
    let font : option_map pos joined.font ≡ left_by current mark.mark_kind =
    elim c.match-mark.branch [ in-Glyph+in_ok-select w ↦ cc (w.in_ok-select.ensures.font) | in_default w ↦ cc (c.in_ok-move_to.ensures.font) ] in
    let chose : instructions_of joined.ops ≡ moved ++ chosen current mark.mark_kind =
    elim c.match-mark.branch [
      | in-Glyph+in_ok-select w ↦
          selected_ops _ _ moved (option_map pos c.move_to.new.self.font) current w.in-Glyph.slot w.in-Glyph.code mark.mark_kind w.in-Glyph.is
          (ap (option_map pos) c.in_ok-move_to.ensures.font) c.in_ok-move_to.ensures.ops
          (ap (λ (d : Drawing). instructions_of d.ops) w.self-is ∙ w.in_ok-select.ensures.ops)
      | in_default w ↦
          unselected_ops _ moved current w.in_default.field-0 mark.mark_kind w.in_default.is
          (ap (λ (d : Drawing). instructions_of d.ops) w.self-is ∙ c.in_ok-move_to.ensures.ops)
    ] in
    let inky : instructions_of c.append_mark.new.ops ≡ (moved ++ chosen current mark.mark_kind) ++ mark_instructions c.args.kind mark.width
    mark.mark_kind =
    c.in_ok-append_mark.ensures ∙ ap (λ is. is ++ mark_instructions c.args.kind mark.width mark.mark_kind) chose in
    drawn_mark c.args.kind (instructions_of self.ops) _ self.h self.v current (option_map pos joined.font) mark.h mark.v mark.width mark.end joined.v
    mark.mark_kind rest inky c.requires font v

pub returns-clause-font : goal.returns-clause-font
returns-clause-font c rest =
    let current = option_map pos c.args.self.now.font in
    let mark = c.args.mark in
    let font : option_map pos c.match-mark.self.font ≡ left_by current mark.mark_kind =
    elim c.match-mark.branch [ in-Glyph+in_ok-select w ↦ cc (w.in_ok-select.ensures.font) | in_default w ↦ cc (c.in_ok-move_to.ensures.font) ] in
    left_font current (option_map pos c.match-mark.self.font) mark.h mark.v mark.width mark.mark_kind rest font
