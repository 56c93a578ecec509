-- What is seen of the pages of a file, in order (own; the pages and the marks are DVItype's, 15 and 16).
use Rattle.std.specs.Prelude.{[], ◌∷◌, ◌++◌, ◌+◌, List, ℕ, ℤ, codes, decimal, map}
use Rattle.std.specs.List.{flat_map}
use Rattle.scaled_core.specs.Mark.{Mark}
use Rattle.dvi_ops.specs.File.{MarkedPage}
use Rattle.dvi_scan.specs.Pass.{PassStateView, Between, Inside}
use Rattle.dvi_read.specs.Listing.{line, mark_line}

-- The counts of a page that begins, or a mark of the page whose counts came last.
pub data SeenItemView : Type 0 where
  Counts : List ℤ → SeenItemView
  Marked : Mark → SeenItemView

-- What is seen of a page: its counts, and then its marks.
abbrev pub seen_on : MarkedPage → List SeenItemView
seen_on page = Counts page.counts ∷ map Marked page.marks

-- What is seen of all pages.
abbrev pub seen_of : List MarkedPage → List SeenItemView
seen_of pages = flat_map seen_on pages

-- What was seen so far in a pass.
abbrev pub seen_so_far : PassStateView → List SeenItemView
seen_so_far (Between pages) = seen_of pages
seen_so_far (Inside pages counts marks stack s) = seen_of pages ++ (Counts counts ∷ map Marked marks)

-- The lines of what is seen, where the next page has this number.
abbrev pub seen_lines : (number : ℕ) → List SeenItemView → List ℕ
seen_lines number [] = []
seen_lines number (Counts counts ∷ rest) = line (codes "page " ++ (decimal number ++ codes " counts")) counts ++ seen_lines (number + 1) rest
seen_lines number (Marked mark ∷ rest) = mark_line mark ++ seen_lines number rest
