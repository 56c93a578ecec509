-- The bytes so far and the rest are the whole.
use Rattle.std.proofs.Common.{◌≡◌, ◌++◌, ◌-◌, ◌≤◌, true, vec_capacity, vec_len}
use Rattle.raster_core.specs.Private.RowPieces.{row_size}
use Rattle.raster_core.specs.TextLeft.{pbm_text_left}
use Rattle.raster_core.proofs.text.PbmText.fill.Given as goal

abbrev pub invariant-loop-self : goal.invariant-loop-self
invariant-loop-self l = record {
  whole : l.piece.items ++ pbm_text_left l.self ≡ l.initial.piece.items ++ pbm_text_left l.initial.self;
  begun : l.self.begun ≡ true;
  size : l.size ≡ row_size l.self.rows.width;
  capacity : vec_capacity l.initial.piece ≤ vec_capacity l.piece;
  within : vec_len l.piece ≤ l.most;
  space : l.most ≤ vec_capacity l.piece;
}

abbrev pub decreases-loop-self : goal.decreases-loop-self
decreases-loop-self l = l.self.rows.height - l.self.done
