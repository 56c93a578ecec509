-- The text so far, followed by the text of the remaining bytes, is the whole text.
use Rattle.std.proofs.Common.{◌≡◌, ◌++◌, length, drop}
use Rattle.boxglue_program.specs.Texts.{bytes_text}
use Rattle.boxglue_program.proofs.hexadecimal.push_hexadecimal.Given as goal

abbrev pub invariant-loop-index : goal.invariant-loop-index
invariant-loop-index l =
    l.text.items ++ bytes_text (length l.bytes) l.index (drop l.index l.bytes) ≡ l.initial.text.items ++ bytes_text (length l.bytes) 0 l.bytes
