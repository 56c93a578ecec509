use Rattle.std.proofs.Common.{◌≡◌, map, take}
use Rattle.dvi_ops.specs.Runs.{instructions_of}
use Rattle.dvi_ops.specs.View.{body_view}
use Rattle.dvi_ops.proofs.page_runs.PageRuns.of.Given as goal

abbrev pub invariant-loop-op : goal.invariant-loop-op
invariant-loop-op l = instructions_of l.runs ≡ map body_view (take l.op-index l.ops)
