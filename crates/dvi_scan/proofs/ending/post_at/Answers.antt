use Rattle.std.proofs.Common.{◌-◌}
use Rattle.dvi_ops.specs.Instruction.{Post}
use Rattle.dvi_ops.specs.View.{view}
use Rattle.dvi_scan.proofs.OpLemmas.{no_post}
use Rattle.dvi_scan.proofs.PlaceLemmas.{one_spelled}
use Rattle.dvi_scan.proofs.ending.post_at.Goals as goal

pub returns-in_default-op-clause-none : goal.returns-in_default-op-clause-none
returns-in_default-op-clause-none c = λ e postamble spelled_at.
    no_post c.in-Ok.op c.in_default-op.not-Post postamble
    (one_spelled c.args.bytes.now c.args.place c.args.bound (view c.in-Ok.op) (Post postamble) (c.in-Ok.after - c.args.place)
    c.in-Ok.ensures.found spelled_at)

pub returns-in_default-clause-none : goal.returns-in_default-clause-none
returns-in_default-clause-none c = λ e postamble. c.in_default.ensures.none (Post postamble)
