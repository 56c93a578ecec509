use Rattle.std.proofs.Common.{◌≡◌, length, map}
use Rattle.dvi_ops.specs.View.{body_view}
use Rattle.move_core.specs.Private.Passes.{HasFlags, outside_groups, pass_output, rewritten_instructions}
use Rattle.move_core.proofs.passes.with_registers.Given as goal

abbrev pub invariant-loop-i : goal.invariant-loop-i
invariant-loop-i l = record {
  count : length l.ops.items ≡ length l.initial.ops.items;
  makes : pass_output l.pass l.ops.items l.i ≡ rewritten_instructions (map body_view l.initial.ops.items) outside_groups;
  flags : HasFlags l.pass l.ops.items l.i;
}
