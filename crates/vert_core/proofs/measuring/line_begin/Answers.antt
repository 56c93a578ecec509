use Rattle.std.proofs.Common.{sym, arith, ◌<◌}
use Rattle.vert_core.proofs.Stacks.{begin_after}
use Rattle.vert_core.proofs.measuring.line_begin.Goals as goal

pub returns : goal.returns
returns c =
    let some : 0 < c.args.line = omega arith in
    sym (begin_after c.args.ends.now c.args.line _ some c.requires)
