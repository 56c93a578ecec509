-- One more piece of the text, or a beginning of it.
use Rattle.std.proofs.Common.{List, ℕ, ◌++◌, arith, ap, sym, ◌∙◌}
use Rattle.raster_core.specs.PlainText.{pbm}
use Rattle.raster_core.specs.TextLeft.{pbm_text_left}
use Rattle.boxglue_lib.proofs.EndLemmas.{front_of_pieces, piece_written, said_of_err}
use Rattle.boxglue_lib.proofs.printing.write_bitmap.Goals as goal

pub loop-text-preserved : goal.loop-text-preserved
loop-text-preserved g c =
    let written = rw c.deref.ensures.value at c.in_ok-write_text.ensures.all in
    record {
      space = omega (arith, c.loop-text.invariant.space, c.next_piece.ensures.capacity);
      begun = piece_written _ _ _ c.next_piece.new.piece.items (pbm_text_left c.loop-text.text) (pbm_text_left c.next_piece.new.self)
          (pbm c.args.bitmap.now)
          c.next_piece.ensures.all written c.loop-text.invariant.begun;
    }

pub returns-in_err-write_text-clause-front : goal.returns-in_err-write_text-clause-front
returns-in_err-write_text-clause-front g c =
    let front = rw c.deref.ensures.value at c.in_err-write_text.ensures.front in
    let (taken, before, same) = c.loop-text.invariant.begun in
    said_of_err c.from_residual.result
    (front_of_pieces _ _ _ taken c.next_piece.new.piece.items (pbm_text_left c.next_piece.new.self) (pbm c.args.bitmap.now)
    (ap (λ (l : List ℕ). taken ++ l) (sym c.next_piece.ensures.all) ∙ same) before front)
