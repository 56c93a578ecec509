-- The bytes that were read are those that the reader has lost, and they are not too many.
use Rattle.std.proofs.Common.{◌≤◌, length}
use Rattle.std.specs.Io.KnownBytes.{Consumes}
use Rattle.boxglue_words.proofs.reading.read_within.Given as goal

abbrev pub invariant-loop : goal.invariant-loop
invariant-loop g l = record {
  all : Consumes (g.R.Read.remaining l.initial.reader) (g.R.Read.remaining l.reader) l.bytes.items;
  within : length l.bytes.items ≤ l.limit;
}
