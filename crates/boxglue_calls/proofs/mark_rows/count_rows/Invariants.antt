-- What was counted and what is still to be seen are all. Each of it took a byte.
use Rattle.std.proofs.Common.{◌≡◌, ◌≤◌, ◌+◌, ◌-◌, List, length, ℕ}
use Rattle.dvi_ops.specs.Fonts.{WidthsByName}
use Rattle.dvi_ops.specs.Instruction.{Definition}
use Rattle.dvi_read.specs.PageMarks.{HasGlyphWidths}
use Rattle.dvi_read.specs.Seen.{SeenItemView}
use Rattle.dvi_read.specs.ItemsLeft.{AreTextsLeft, AreItemsLeft}
use Rattle.boxglue_calls.specs.Private.MarkRows.{marks_among, pages_among}
use Rattle.boxglue_calls.proofs.RowSteps.{HasCounted}
use Rattle.boxglue_calls.proofs.mark_rows.count_rows.Given as goal

abbrev pub invariant-loop-item : goal.invariant-loop-item
invariant-loop-item l = record {
  some : (seen : List SeenItemView) × AreItemsLeft l.seen_items seen;
  begun : (seen : List SeenItemView) → AreItemsLeft l.initial.seen_items seen → (rest : List SeenItemView) × AreItemsLeft l.seen_items rest
      × (l.counts.pages + pages_among rest ≡ pages_among seen)
      × (l.counts.marks + length (marks_among rest) ≡ length (marks_among seen));
  rows : (metrics : WidthsByName) (table : List Definition) (places : List ℕ) (seen : List SeenItemView) → AreItemsLeft l.initial.seen_items seen
      → AreTextsLeft l.initial.seen_items places
      → HasGlyphWidths metrics table l.initial.seen_items.file.now.fonts (marks_among seen)
      → HasCounted metrics table l.initial.seen_items places seen l.seen_items;
  few : l.counts.pages + l.counts.marks ≤ l.seen_items.at;
  same : l.seen_items.file ≡ l.initial.seen_items.file;
}

abbrev pub decreases-loop-item : goal.decreases-loop-item
decreases-loop-item l = l.seen_items.file.now.post - l.seen_items.at
