use Rattle.std.proofs.Common.{refl}
use Rattle.pack_core.specs.Boxes.{hbox}
use Rattle.break_lines.specs.Sizes.{line_size}
use Rattle.break_lines.specs.Legal.{is_dropped}
use Rattle.vert_core.specs.Interline.{interline}
use Rattle.vert_core.specs.Lines.{vertical_items, brought_by, line_box, boxed_line}
use Rattle.vert_core.proofs.paragraph_laws.two_lines_of_rules.Goals as goal

pub returns-clause-items : goal.returns-clause-items
unfolding vertical_items brought_by line_box boxed_line line_size hbox is_dropped interline
returns-clause-items c = refl
