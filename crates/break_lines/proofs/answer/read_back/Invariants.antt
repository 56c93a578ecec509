use Rattle.std.proofs.Common.{◌<◌, length}
use Rattle.break_lines.specs.Private.Tables.{AreEndsUpTo}
use Rattle.break_lines.proofs.answer.read_back.Given as goal

abbrev pub invariant-loop-index : goal.invariant-loop-index
invariant-loop-index l = record {
  within : l.index < length l.table;
  read : AreEndsUpTo l.table l.at l.index l.ends.items;
}

abbrev pub decreases-loop-index : goal.decreases-loop-index
decreases-loop-index l = l.index
