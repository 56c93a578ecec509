use Rattle.std.proofs.Common.{◌≡◌, ◌≤◌, map, drop, Some}
use Rattle.dvi_ops.specs.View.{body_view}
use Rattle.move_core.specs.Private.Passes.{closes_all}
use Rattle.move_core.proofs.plain.is_plain_body.Given as goal

abbrev pub invariant-loop-op : goal.invariant-loop-op
invariant-loop-op l = record {
  few : l.depth ≤ l.op-index;
  rest : closes_all (map body_view (drop l.op-index l.ops)) (Some l.depth) ≡ closes_all (map body_view l.ops) (Some 0);
}
