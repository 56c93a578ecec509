-- One more row.
use Rattle.std.proofs.Common.{◌++◌, ◌+◌, List, ℕ, ap, sym, ◌∙◌, arith}
use Rattle.raster_core.specs.Words.{in_rows}
use Rattle.raster_core.specs.PlainText.{header_text}
use Rattle.raster_core.specs.TextLeft.{rows_from}
use Rattle.raster_core.proofs.TextLeftLemmas.{after_header, row_moved}
use Rattle.raster_core.proofs.text.PbmText.fill.Goals as goal

pub loop-self-preserved : goal.loop-self-preserved
loop-self-preserved c =
    let text = c.loop-self.self in
    let rows = text.rows in
    let black = in_rows rows.words.now rows.stride in
    let header = header_text rows.width rows.height in
    let new = c.append_row.new.out.items in
    record {
      whole = ap (λ (l : List ℕ). new ++ l) (after_header text.begun header (rows_from rows.width rows.height black (text.done + 1)) c.loop-self.invariant.begun)
          ∙ row_moved rows.width rows.height black text.done c.loop-self.piece.items new _ (omega arith) c.append_row.ensures.text
          (ap (λ (l : List ℕ). c.loop-self.piece.items ++ l) (sym (after_header text.begun header (rows_from rows.width rows.height black text.done) c.loop-self.invariant.begun))
          ∙ c.loop-self.invariant.whole);
      begun = c.loop-self.invariant.begun;
      size = c.loop-self.invariant.size;
      capacity = omega (arith, c.loop-self.invariant.capacity, c.append_row.ensures.capacity);
      within = omega (arith, c.loop-self.invariant.within, c.append_row.ensures.len, c.loop-self.invariant.size);
      space = omega (arith, c.loop-self.invariant.space, c.append_row.ensures.capacity);
    }
