-- The bytes that were counted and those still to come are all.
use Rattle.std.proofs.Common.{◌≡◌, ◌≤◌, ◌+◌, List, ℕ, length, vec_capacity}
use Rattle.dvi_read.specs.ItemsLeft.{AreLinesLeft, HasAllLines, lines_left}
use Rattle.dvi_read.specs.declared.listings.part.TheConstants.{PART}
use Rattle.boxglue_calls.proofs.listings.listing_size.Given as goal

abbrev pub invariant-loop-piece : goal.invariant-loop-piece
invariant-loop-piece l = record {
  space : PART ≤ vec_capacity l.piece;
  some : (text : List ℕ) × AreLinesLeft l.lines text;
  begun : (text : List ℕ) → AreLinesLeft l.initial.lines text → (rest : List ℕ) × (l.size + length rest ≡ length text) × AreLinesLeft l.lines rest;
  all : (text : List ℕ) → HasAllLines l.initial.lines text → HasAllLines l.lines text;
}

abbrev pub decreases-loop-piece : goal.decreases-loop-piece
decreases-loop-piece l = lines_left l.lines
