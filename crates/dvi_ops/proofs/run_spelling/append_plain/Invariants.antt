use Rattle.std.proofs.Common.{◌≡◌, ◌≤◌, ◌+◌, ◌-◌, ◌++◌, length, take}
use Rattle.std.specs.Prelude.{vec_len, vec_capacity}
use Rattle.dvi_ops.specs.Layout.{bytes_of}
use Rattle.dvi_ops.specs.Runs.{characters}
use Rattle.dvi_ops.proofs.run_spelling.append_plain.Given as goal

abbrev pub invariant-loop-index : goal.invariant-loop-index
invariant-loop-index l = record {
  space : vec_len l.out + (length l.codes - l.index) ≤ vec_capacity l.out;
  bytes : l.out.items ≡ l.initial.out.items ++ bytes_of (characters (take l.index l.codes));
}
