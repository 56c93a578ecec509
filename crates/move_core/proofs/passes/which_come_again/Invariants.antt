use Rattle.std.proofs.Common.{◌≡◌, ◌≤◌, ◌+◌, vec_len, vec_capacity, map, reverse, drop}
use Rattle.dvi_ops.specs.View.{body_view}
use Rattle.move_core.specs.Private.Passes.{Knows, flags_of}
use Rattle.move_core.proofs.passes.which_come_again.Given as goal

abbrev pub invariant-loop-i : goal.invariant-loop-i
invariant-loop-i l = record {
  knows : Knows l.later (map body_view (drop l.i l.ops));
  space : vec_len l.flags + l.i ≤ vec_capacity l.flags;
  flags : reverse l.flags.items ≡ flags_of (map body_view (drop l.i l.ops));
}
