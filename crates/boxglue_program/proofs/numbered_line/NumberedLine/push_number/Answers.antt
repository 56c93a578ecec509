-- The bytes after the line are cut off again.
use Rattle.std.proofs.Common.{arith, ◌∙◌, decimal}
use Rattle.boxglue_program.proofs.NumberedLines.{piece_cut}
use Rattle.boxglue_program.proofs.numbered_line.NumberedLine.push_number.Goals as goal

pub returns-clause-ok : goal.returns-clause-ok
returns-clause-ok c = c.truncate.ensures.items ∙ piece_cut c.args.out.now.items c.extend_from_slice.new.self.items c.set.new.self.text (decimal c.args.number)
    c.set.new.self.start 2 _ c.set.ensures.start c.set.ensures.written c.in_ok-extend_from_slice.ensures.items (omega (arith, c.len.ensures)) (omega arith)
    (omega (arith, c.set.ensures.start))
