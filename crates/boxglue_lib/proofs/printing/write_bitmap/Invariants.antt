-- What was written is a beginning of the text, and the rest of it is still to come.
use Rattle.std.proofs.Common.{◌≡◌, ◌≤◌, ◌++◌, ℕ, List, length, vec_capacity}
use Rattle.std.specs.Io.KnownBytes.{Appends}
use Rattle.raster_core.specs.PlainText.{pbm}
use Rattle.raster_core.specs.TextLeft.{pbm_text_left}
use Rattle.raster_core.specs.declared.text.TheConstants.{ROW_TEXT}
use Rattle.boxglue_lib.proofs.printing.write_bitmap.Given as goal

abbrev pub invariant-loop-text : goal.invariant-loop-text
invariant-loop-text g l = record {
  space : ROW_TEXT ≤ vec_capacity l.rows;
  begun : (taken : List ℕ) × Appends (g.W.Write.contents l.initial.writer) (g.W.Write.contents l.writer) taken
      × (taken ++ pbm_text_left l.text ≡ pbm l.bitmap);
}

abbrev pub decreases-loop-text : goal.decreases-loop-text
decreases-loop-text g l = length (pbm_text_left l.text)
