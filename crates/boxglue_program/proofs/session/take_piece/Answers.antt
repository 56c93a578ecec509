-- What was run of the bytes kept before and of a piece, and what is kept of it.
use Rattle.std.proofs.Common.{◌≡◌, ◌<◌, length, rules}
use Rattle.boxglue_program.proofs.PieceLaws.{cut_of, none_taken, lines_taken, stopped_at_once, stopped_at_rest, stopped_within}
use Rattle.boxglue_program.proofs.session.take_piece.Goals as goal

pub returns-then-is_empty-clause-ok : goal.returns-then-is_empty-clause-ok
returns-then-is_empty-clause-ok g c =
    let none : length c.split_lines.result.0.now ≡ 0 = search rules in
    none_taken c.extend_from_slice.result c.args.partial_line.now.items c.extend_from_slice.new.self.items c.args.piece.now c.split_lines.result.0.now c.split_lines.result.1.now
    c.args.dialog.now c.args.outbox.now.reads (g.W.Write.contents c.args.writer.now) c.split_lines.ensures.split none
    c.extend_from_slice.ensures.items

pub returns-then-is_empty-clause-stopped : goal.returns-then-is_empty-clause-stopped
returns-then-is_empty-clause-stopped g c =
    stopped_at_once c.extend_from_slice.result _ c.args.dialog.now c.args.outbox.now.reads (g.W.Write.contents c.args.writer.now)

pub returns-in_err-extend_from_slice-clause-stopped : goal.returns-in_err-extend_from_slice-clause-stopped
returns-in_err-extend_from_slice-clause-stopped g c =
    stopped_at_once c.from_residual.result _ c.args.dialog.now c.args.outbox.now.reads (g.W.Write.contents c.args.writer.now)

pub returns-in_err-ran-clause-stopped : goal.returns-in_err-ran-clause-stopped
returns-in_err-ran-clause-stopped g c =
    let some : 0 < length c.split_lines.result.0.now = search rules in
    stopped_within c.from_residual-in_err-ran.result c.args.partial_line.now.items c.args.piece.now c.split_lines.result.0.now c.split_lines.result.1.now c.deref.result.now
    c.args.dialog.now c.answer-ran.new.dialog
    c.args.outbox.now.reads c.answer-ran.new.self.reads (g.W.Write.contents c.args.writer.now) (g.W.Write.contents c.answer-ran.new.writer)
    (cut_of _ _ _ _ _ _ c.split_lines.ensures some c.in_ok-extend_from_slice.ensures.items c.deref.ensures.value) c.in_err-ran.ensures.stopped

pub returns-clause-ok : goal.returns-clause-ok
returns-clause-ok g c =
    let some : 0 < length c.split_lines.result.0.now = search rules in
    lines_taken c.extend_from_slice-3.result c.args.partial_line.now.items c.args.piece.now c.split_lines.result.0.now c.split_lines.result.1.now c.deref.result.now c.clear.new.self.items
    c.extend_from_slice-3.new.self.items c.args.dialog.now
    c.answer-ran.new.dialog c.args.outbox.now.reads c.answer-ran.new.self.reads (g.W.Write.contents c.args.writer.now)
    (g.W.Write.contents c.answer-ran.new.writer) (cut_of _ _ _ _ _ _ c.split_lines.ensures some c.in_ok-extend_from_slice.ensures.items c.deref.ensures.value) c.clear.ensures.items
    c.extend_from_slice-3.ensures.items c.in_ok-ran.ensures.ok

pub returns-clause-stopped : goal.returns-clause-stopped
returns-clause-stopped g c =
    let some : 0 < length c.split_lines.result.0.now = search rules in
    stopped_at_rest c.extend_from_slice-3.result c.args.partial_line.now.items c.args.piece.now c.split_lines.result.0.now c.split_lines.result.1.now c.deref.result.now
    c.args.dialog.now c.answer-ran.new.dialog
    c.args.outbox.now.reads c.answer-ran.new.self.reads (g.W.Write.contents c.args.writer.now) (g.W.Write.contents c.answer-ran.new.writer)
    (cut_of _ _ _ _ _ _ c.split_lines.ensures some c.in_ok-extend_from_slice.ensures.items c.deref.ensures.value) c.in_ok-ran.ensures.ok
