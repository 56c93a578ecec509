-- The text so far, followed by the rest of the word, is the whole.
use Rattle.std.proofs.Common.{◌≡◌, ◌++◌, drop}
use Rattle.std.specs.List.{flat_map}
use Rattle.boxglue_print.specs.FontLines.{word_byte}
use Rattle.boxglue_print.proofs.font_lines.push_word.Given as goal

abbrev pub invariant-loop-byte : goal.invariant-loop-byte
invariant-loop-byte l = l.out.items ++ flat_map word_byte (drop l.byte-index l.name) ≡ l.initial.out.items ++ flat_map word_byte l.name
