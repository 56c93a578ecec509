use Rattle.std.proofs.Common.{◌≡◌, [], map, reverse, drop}
use Rattle.dvi_ops.specs.View.{body_view}
use Rattle.move_core.specs.Private.Passes.{trimmed_instructions}
use Rattle.move_core.proofs.passes.without_empty_groups.Given as goal

abbrev pub invariant-loop-op : goal.invariant-loop-op
invariant-loop-op l = trimmed_instructions (map body_view (drop l.op-index l.op-items)) (reverse (map body_view l.out.items)) ≡ trimmed_instructions (map body_view l.op-items) []
