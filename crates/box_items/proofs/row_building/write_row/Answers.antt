use Rattle.std.proofs.Common.{◌∙◌, rules, sym, ap}
use Rattle.std.specs.Int.{w32}
use Rattle.std.proofs.lemmas.Int.{to_z-of_z}
use Rattle.node_core.specs.declared.tree.BoxNode.{BoxNode}
use Rattle.node_core.specs.Nodes.{frame_of}
use Rattle.box_items.specs.Rows.{box_row, penalty_row}
use Rattle.box_items.specs.Private.Written.{row_of_node}
use Rattle.box_items.proofs.Wrapped.{passed_on}
use Rattle.box_items.proofs.row_building.write_row.Goals as goal

pub returns-in-Glyph : goal.returns-in-Glyph
returns-in-Glyph c exact distance is far = c.write_glyph.ensures exact is ∙ ap (row_of_node c.args.box_node.now exact distance) (sym c.in-Glyph.is)

pub returns-in-FontKern : goal.returns-in-FontKern
returns-in-FontKern c exact distance is far = c.write_kern.ensures exact is ∙ ap (row_of_node c.args.box_node.now exact distance) (sym c.in-FontKern.is)

pub returns-in-Kern : goal.returns-in-Kern
returns-in-Kern c exact distance is far = c.write_kern-in-Kern.ensures exact is ∙ ap (row_of_node c.args.box_node.now exact distance) (sym c.in-Kern.is)

pub returns-in-Penalty : goal.returns-in-Penalty
returns-in-Penalty c exact distance is far = c.write_penalty.ensures exact is ∙ ap (penalty_row exact) (to_z-of_z w32 c.in-Penalty.number (search rules)) ∙ ap (row_of_node c.args.box_node.now exact distance) (sym c.in-Penalty.is)

pub returns-in-Rule : goal.returns-in-Rule
returns-in-Rule c exact distance is far = c.write_rule.ensures exact is ∙ ap (row_of_node c.args.box_node.now exact distance) (sym c.in-Rule.is)

pub returns-in-Special : goal.returns-in-Special
returns-in-Special c exact distance is far = c.write_special.ensures exact is ∙ ap (row_of_node c.args.box_node.now exact distance) (sym c.in-Special.is)

pub returns-in-Box : goal.returns-in-Box
returns-in-Box c exact distance is far = c.write_box.ensures exact is ∙ ap (λ (b : BoxNode). box_row exact c.in-Box.shift (frame_of b)) c.deref.ensures ∙ ap (row_of_node c.args.box_node.now exact distance) (sym c.in-Box.is)

pub returns-in-Glue : goal.returns-in-Glue
returns-in-Glue c exact distance is far = c.write_glue.ensures exact distance is (passed_on _ distance far) ∙ ap (row_of_node c.args.box_node.now exact distance) (sym c.in-Glue.is)
