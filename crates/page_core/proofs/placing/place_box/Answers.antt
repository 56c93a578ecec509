use Rattle.std.proofs.Common.{◌∙◌, sym}
use Rattle.page_core.specs.Marks.{box_h, box_v}
use Rattle.page_core.proofs.Walked.{point-is}
use Rattle.page_core.proofs.placing.place_box.Goals as goal

pub returns-clause-h : goal.returns-clause-h
returns-clause-h c =
    (point-is (box_h c.args.kind c.args.at.h c.args.shift) (box_v c.args.kind c.args.at.v c.args.shift c.args.inner.now.height) c.in_ok-reference.reference (sym c.reference_of.ensures ∙ c.in_ok-reference.was)).0

pub returns-clause-v : goal.returns-clause-v
returns-clause-v c =
    (point-is (box_h c.args.kind c.args.at.h c.args.shift) (box_v c.args.kind c.args.at.v c.args.shift c.args.inner.now.height) c.in_ok-reference.reference (sym c.reference_of.ensures ∙ c.in_ok-reference.was)).1
