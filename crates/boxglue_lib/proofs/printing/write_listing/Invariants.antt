-- What was written is a beginning of the listing, and the rest of it is still to come.
use Rattle.std.proofs.Common.{◌≡◌, ◌≤◌, ◌++◌, ℕ, List, vec_capacity}
use Rattle.std.specs.Io.KnownBytes.{Appends}
use Rattle.dvi_read.specs.ItemsLeft.{AreLinesLeft, lines_left}
use Rattle.dvi_read.specs.declared.listings.part.TheConstants.{PART}
use Rattle.boxglue_lib.proofs.printing.write_listing.Given as goal

abbrev pub invariant-loop-writer : goal.invariant-loop-writer
invariant-loop-writer g l = record {
  space : PART ≤ vec_capacity l.piece;
  some : (text : List ℕ) × AreLinesLeft l.lines text;
  begun : (text : List ℕ) → AreLinesLeft l.initial.lines text → (taken : List ℕ) × (rest : List ℕ)
      × Appends (g.W.Write.contents l.initial.writer) (g.W.Write.contents l.writer) taken × (taken ++ rest ≡ text) × AreLinesLeft l.lines rest;
}

abbrev pub decreases-loop-writer : goal.decreases-loop-writer
decreases-loop-writer g l = lines_left l.lines
