-- The bytes that were written and those still to come are all.
use Rattle.std.proofs.Common.{◌≡◌, ◌≤◌, ◌++◌, List, ℕ, length, vec_capacity}
use Rattle.dvi_read.specs.ItemsLeft.{AreLinesLeft, lines_left}
use Rattle.dvi_read.specs.declared.listings.part.TheConstants.{PART}
use Rattle.boxglue_calls.specs.Buffers.{Holds}
use Rattle.boxglue_calls.proofs.listings.write_listing.Given as goal

abbrev pub invariant-loop-piece : goal.invariant-loop-piece
invariant-loop-piece l = record {
  space : PART ≤ vec_capacity l.piece;
  begun : (whole : List ℕ) → AreLinesLeft l.initial.lines whole → length whole ≤ length l.initial.text → (done : List ℕ) × (rest : List ℕ)
      × Holds l.initial.text l.text done × (done ++ rest ≡ whole) × (l.count ≡ length done) × AreLinesLeft l.lines rest;
}

abbrev pub decreases-loop-piece : goal.decreases-loop-piece
decreases-loop-piece l = lines_left l.lines
