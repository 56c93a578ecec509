-- The bytes so far and the rest are the whole.
use Rattle.std.proofs.Common.{◌≡◌, ◌++◌, List, ℕ, length, take}
use Rattle.dvi_read.specs.Listing.{listing}
use Rattle.dvi_read.specs.ItemsLeft.{AreLinesLeft, lines_left}
use Rattle.dvi_read.proofs.check.dvi.Dvi.push_lines.Given as goal

abbrev pub invariant-loop-part : goal.invariant-loop-part
invariant-loop-part l = record {
  whole : (rest : List ℕ) × (l.text.items ++ rest ≡ l.initial.text.items ++ listing l.self.pages) × AreLinesLeft l.lines rest;
  front : take (length l.initial.text.items) l.text.items ≡ l.initial.text.items;
}

abbrev pub decreases-loop-part : goal.decreases-loop-part
decreases-loop-part l = lines_left l.lines
