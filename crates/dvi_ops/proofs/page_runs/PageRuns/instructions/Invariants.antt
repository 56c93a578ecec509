use Rattle.std.proofs.Common.{◌≡◌, ◌++◌, map, drop}
use Rattle.dvi_ops.specs.Runs.{woven_instructions}
use Rattle.dvi_ops.specs.View.{body_view}
use Rattle.dvi_ops.proofs.page_runs.PageRuns.instructions.Given as goal

abbrev pub invariant-loop-index : goal.invariant-loop-index
invariant-loop-index l =
    map body_view l.out.items ++ woven_instructions l.from l.rest (drop l.index l.self.places.items) (map body_view (drop l.index l.self.ops.items))
    ≡ woven_instructions 0 l.self.codes.items l.self.places.items (map body_view l.self.ops.items)
