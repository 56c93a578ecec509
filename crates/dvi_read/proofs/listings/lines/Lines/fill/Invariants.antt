-- The bytes so far and the rest are the whole.
use Rattle.std.proofs.Common.{◌≡◌, ◌++◌, ◌⊎◌, ◌≤◌, ◌<◌, List, ℕ, vec_len, vec_capacity}
use Rattle.dvi_read.specs.ItemsLeft.{AreLinesLeft, lines_left}
use Rattle.dvi_read.proofs.listings.lines.Lines.fill.Given as goal

abbrev pub invariant-loop-self : goal.invariant-loop-self
invariant-loop-self l = record {
  some : (lines : List ℕ) × AreLinesLeft l.self lines;
  whole : (lines : List ℕ) → AreLinesLeft l.initial.self lines → (rest : List ℕ) × (l.text.items ++ rest ≡ l.initial.text.items ++ lines)
      × AreLinesLeft l.self rest;
  grown : vec_len l.initial.text ≤ vec_len l.text;
  capacity : vec_capacity l.initial.text ≤ vec_capacity l.text;
  most : l.capacity ≡ vec_capacity l.initial.text;
  within : vec_len l.text ≤ l.capacity;
  less : lines_left l.self ≤ lines_left l.initial.self;
  same : l.self.seen_items.file ≡ l.initial.self.seen_items.file;
  begun : (l.text ≡ l.initial.text) ⊎ ((vec_len l.initial.text < vec_len l.text) × (lines_left l.self < lines_left l.initial.self));
}

abbrev pub decreases-loop-self : goal.decreases-loop-self
decreases-loop-self l = lines_left l.self
