use Rattle.box_items.proofs.Placed.{after_across, after_down}
use Rattle.box_items.proofs.Wrapped.{passed_on}
use Rattle.box_items.proofs.writing.place_after.Goals as goal

pub returns-in-Horizontal : goal.returns-in-Horizontal
returns-in-Horizontal c exact before is far =
    after_across c.args.box_node.now exact before _ c.args.text c.at_offset.result c.after_text.result c.in-Horizontal.is (passed_on c.args.distance _ far) (c.at_offset.ensures exact is) c.after_text.ensures

pub returns-in-Vertical : goal.returns-in-Vertical
returns-in-Vertical c exact before is far =
    after_down c.args.box_node.now exact before _ c.args.text c.at_offset-in-Vertical.result c.after_text-in-Vertical.result c.in-Vertical.is (passed_on c.args.distance _ far) (c.at_offset-in-Vertical.ensures exact is) c.after_text-in-Vertical.ensures
