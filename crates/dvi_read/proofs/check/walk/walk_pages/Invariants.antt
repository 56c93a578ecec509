use Rattle.std.proofs.Common.{◌≤◌, ◌-◌}
use Rattle.dvi_ops.specs.View.{view_postamble}
use Rattle.dvi_read.specs.Walks.{IsWalked}
use Rattle.tfm_core.specs.FileWidths.{file_widths}
use Rattle.dvi_read.proofs.check.walk.walk_pages.Given as goal

-- All instructions before the place are right.
abbrev pub invariant-loop-at : goal.invariant-loop-at
invariant-loop-at l =
    (l.at ≤ l.source.ending.now.post)
    × IsWalked (file_widths l.source.files.now) l.source.after_post.now.keys l.source.bytes.now (view_postamble l.source.ending.now.postamble)
    l.fn.left l.at l.walk

abbrev pub decreases-loop-at : goal.decreases-loop-at
decreases-loop-at l = l.source.ending.now.post - l.at
