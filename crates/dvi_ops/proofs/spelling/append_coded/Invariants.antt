use Rattle.std.proofs.Common.{◌≡◌, ◌≤◌, ◌+◌, ◌++◌, length, take}
use Rattle.std.specs.Prelude.{vec_len, vec_capacity}
use Rattle.dvi_ops.proofs.spelling.append_coded.Given as goal

abbrev pub invariant-loop-digit : goal.invariant-loop-digit
invariant-loop-digit l = record {
  bytes : l.out.items ≡ l.initial.out.items ++ take l.digit-index l.digits;
  space : vec_len l.out + length l.digits ≤ vec_capacity l.out + l.digit-index;
}
