use Rattle.std.proofs.Common.{◌≡◌, ◌∙◌, ◌++◌, [], ◌∷◌, ap, List}
use Rattle.std.specs.Prelude.{pos, ◌-ℤ◌}
use Rattle.std.specs.Option.{option_map}
use Rattle.dvi_ops.specs.Runs.{instructions_of}
use Rattle.dvi_ops.specs.Instruction.{Across, Downward, Xxx, Instruction, Do}
use Rattle.ship_core.specs.Private.MarkInstructions.{movement}
use Rattle.ship_core.proofs.Drawings.{noted_mark}
use Rattle.ship_core.proofs.drawing.Drawing.append_special.Goals as goal

pub returns-clause-ops : goal.returns-clause-ops
returns-clause-ops c kind rest =
    let self = c.args.self.now in
    let at = c.args.at in
    let text = c.args.text.now in
    let moved = (instructions_of self.ops ++ movement Across (at.h -ℤ self.h)) ++ movement Downward (at.v -ℤ self.v) in
    let ops : instructions_of c.push.new.self ≡ moved ++ Do (Xxx text) ∷ [] =
    c.in_ok-push.ensures.ok ∙ ap (λ (is : List Instruction). is ++ Do (Xxx text) ∷ []) c.in_ok-move_to.ensures.ops in
    noted_mark kind (instructions_of self.ops) (instructions_of c.push.new.self) self.h self.v (option_map pos self.font) (option_map pos c.move_to.new.self.font) at.h at.v text
    c.move_to.new.self.h c.move_to.new.self.v rest ops c.in_ok-move_to.ensures.h c.in_ok-move_to.ensures.v (ap (option_map pos) c.in_ok-move_to.ensures.font)
