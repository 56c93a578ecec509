use Rattle.std.proofs.Common.{◌≡◌, length, take}
use Rattle.raster_core.specs.Words.{is_set}
use Rattle.raster_core.specs.Private.RowPieces.{digits}
use Rattle.raster_core.proofs.printing.put_word.Given as goal

abbrev pub invariant-loop-i : goal.invariant-loop-i
invariant-loop-i l = record {
  done : take l.i l.part ≡ digits (is_set l.word) 0 l.i;
  length : length l.part ≡ 64;
}
