use Rattle.std.proofs.Common.{◌≡◌, ◌∙◌, ◌++◌, ◌∷◌, [], refl, ap, List}
use Rattle.std.specs.Prelude.{pos, ◌-ℤ◌}
use Rattle.std.specs.Option.{option_map}
use Rattle.node_core.specs.declared.tree.Kind.TheVariants.{Horizontal}
use Rattle.dvi_ops.specs.Runs.{instructions_of}
use Rattle.dvi_ops.specs.Instruction.{Across, Downward, SetChar, Instruction, Do}
use Rattle.page_core.specs.declared.placing.MarkKind.TheVariants as mark_kind
use Rattle.ship_core.specs.Private.MarkInstructions.{movement}
use Rattle.ship_core.proofs.Drawings.{drawn_mark, selected_ops, chosen}
use Rattle.ship_core.proofs.drawing.Drawing.append_glyph.Goals as goal

pub returns-clause-ops : goal.returns-clause-ops
returns-clause-ops c rest =
    let self = c.args.self.now in
    let at = c.args.at in
    let glyph = c.args.glyph in
    let current = option_map pos self.font in
    let moved = (instructions_of self.ops ++ movement Across (at.h -ℤ self.h)) ++ movement Downward (at.v -ℤ self.v) in
    let mark = mark_kind.Glyph glyph.slot glyph.code in
    let chose : instructions_of c.select.new.self.ops ≡ moved ++ chosen current mark =
    selected_ops _ _ moved (option_map pos c.move_to.new.self.font) current glyph.slot glyph.code mark refl (ap (option_map pos) c.in_ok-move_to.ensures.font)
    c.in_ok-move_to.ensures.ops c.in_ok-select.ensures.ops in
    let is : instructions_of c.push_character.new.self ≡ (moved ++ chosen current mark) ++ Do (SetChar (pos glyph.code)) ∷ [] =
    c.in_ok-push_character.ensures.ok ∙ ap (λ (is : List Instruction). is ++ Do (SetChar (pos glyph.code)) ∷ []) chose in
    drawn_mark Horizontal (instructions_of self.ops) (instructions_of c.push_character.new.self) self.h self.v current (option_map pos c.select.new.self.font)
    at.h at.v glyph.width c.args.end c.select.new.self.v mark rest is c.requires (ap (option_map pos) c.in_ok-select.ensures.font)
    (c.in_ok-select.ensures.v ∙ c.in_ok-move_to.ensures.v)
