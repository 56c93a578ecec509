use Rattle.std.proofs.Common.{arith}
use Rattle.box_items.proofs.Listed.{row_count, length-texts}
use Rattle.box_items.proofs.writing.count_items.Goals as goal

pub returns-clause-items : goal.returns-clause-items
returns-clause-items c = omega (arith, c.count.ensures, row_count c.args.box_node.now)

pub returns-clause-text : goal.returns-clause-text
returns-clause-text c = omega (arith, c.text_size.ensures, length-texts c.args.box_node.now.list)
