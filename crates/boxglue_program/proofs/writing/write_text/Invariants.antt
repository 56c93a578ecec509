-- What was written is a beginning of the text.
use Rattle.std.proofs.Common.{◌≤◌, take, length}
use Rattle.std.specs.Io.KnownBytes.{Appends}
use Rattle.boxglue_program.proofs.writing.write_text.Given as goal

abbrev pub invariant-loop : goal.invariant-loop
invariant-loop g l = record {
  within : l.written ≤ length l.text;
  begun : Appends (g.W.Write.contents l.initial.writer) (g.W.Write.contents l.writer) (take l.written l.text);
}
