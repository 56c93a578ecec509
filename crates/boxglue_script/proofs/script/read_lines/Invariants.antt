-- The commands so far, followed by those of the rest of the text.
use Rattle.std.proofs.Common.{◌≡◌, ◌+◌, ◌≤◌, [], true, length, vec_len}
use Rattle.std.specs.Str.Lines.{lines}
use Rattle.boxglue_script.specs.Blocks.{lines_of}
use Rattle.boxglue_script.specs.Private.Reading.{reading_from, lines_then}
use Rattle.boxglue_script.proofs.ScriptLaws.{IsRightUpTo}
use Rattle.boxglue_script.proofs.PlainTexts.{ArePrintable}
use Rattle.boxglue_script.proofs.script.read_lines.Given as goal

abbrev pub invariant-loop-rest : goal.invariant-loop-rest
invariant-loop-rest l = record {
  reading : lines_then (lines_of l.found) (reading_from (l.number + 1) (lines l.rest)) ≡ reading_from 1 (lines l.text);
  right : IsRightUpTo l.text l.rest;
  counted : l.number + length l.rest ≤ length l.text;
  printable : l.plain ≡ true → ArePrintable (lines l.rest);
  one : length l.text ≤ l.most → (l.found.full.items ≡ []) × (vec_len l.found.last ≤ l.number);
}

abbrev pub decreases-loop-rest : goal.decreases-loop-rest
decreases-loop-rest l = length l.rest
