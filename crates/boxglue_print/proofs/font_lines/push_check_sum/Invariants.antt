-- The text so far, followed by the digits of the other bytes, is the whole.
use Rattle.std.proofs.Common.{◌≡◌, ◌++◌, drop}
use Rattle.std.specs.Int.{w32, cast_unsigned, to_be_bytes}
use Rattle.std.specs.List.{flat_map}
use Rattle.boxglue_print.specs.FontLines.{hexadecimal_byte}
use Rattle.boxglue_print.proofs.font_lines.push_check_sum.Given as goal

abbrev pub invariant-loop-byte : goal.invariant-loop-byte
invariant-loop-byte l =
    let bytes = to_be_bytes w32 (cast_unsigned w32 l.sum) in
    l.out.items ++ flat_map hexadecimal_byte (drop l.byte-index bytes) ≡ l.initial.out.items ++ flat_map hexadecimal_byte bytes
