-- The lines of all that is seen again.
use Rattle.std.proofs.Common.{None}
use Rattle.dvi_read.proofs.AgainLemmas.{lines_again, same_lines}
use Rattle.dvi_read.proofs.listings.lines.Lines.rewind.Goals as goal

pub rewind-requires : goal.rewind-requires
rewind-requires c = let (text, a) = c.requires in (a.seen, a.remaining)

pub returns-clause-remaining : goal.returns-clause-remaining
returns-clause-remaining c =
    λ text all. (let (pages, has, is) = all in lines_again c.args.self.now c.rewind.new.self text pages (c.rewind.ensures.remaining pages has) is)

pub returns-clause-all_lines : goal.returns-clause-all_lines
returns-clause-all_lines c =
    λ text all. same_lines c.args.self.now (record c.args.self.now { text = None; before = 0; seen_items = c.rewind.new.self }) text
    c.rewind.ensures.same all
