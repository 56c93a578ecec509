use Rattle.std.proofs.Common.{length}
use Rattle.vert_core.specs.Private.Planned.{moved_lines}
use Rattle.vert_core.proofs.PlainItems.{plain_filled, plain_moved}
use Rattle.vert_core.proofs.paragraph.stack_planned.Goals as goal

pub stack_lines-requires-clause-plain : goal.stack_lines-requires-clause-plain
stack_lines-requires-clause-plain c = λ on.
    let list = c.args.nodes.now.items in
    let lines = c.args.plan.lines.items in
    plain_filled c.in_ok-filled.filled.items (moved_lines list (length list) lines) c.in_ok-filled.ensures.ok
    (plain_moved list (length list) lines (c.requires.plain on))
