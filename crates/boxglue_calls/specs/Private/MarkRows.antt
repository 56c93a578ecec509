-- The rows of pages and marks, as the code writes them (own).
use Rattle.std.specs.Prelude.{◌≡◌, ◌≤◌, ◌<◌, ◌+◌, ◌-◌, ◌^◌, ◌++◌, ℕ, ℤ, pos, List, [], ◌∷◌, if◌then◌else◌, drop, length, nat_lt, take, unwrap_or}
use Rattle.dvi_ops.specs.File.{MarkedPage}
use Rattle.dvi_ops.specs.Fonts.{WidthsByName, widths_of}
use Rattle.dvi_ops.specs.Instruction.{Definition}
use Rattle.dvi_read.specs.PageMarks.{HasGlyphWidths, marks_of, read_width}
use Rattle.dvi_read.specs.Seen.{SeenItemView, Counts, Marked, seen_of}
use Rattle.dvi_read.specs.ItemsLeft.{AreTextsLeft, AreItemsLeft}
use Rattle.dvi_read.specs.declared.fonts.ReadFonts.{ReadFonts}
use Rattle.dvi_read.specs.declared.seen_items.SeenItem.{SeenItem}
use Rattle.dvi_read.specs.declared.seen_items.SeenItem.TheVariants as seen_items
use Rattle.dvi_read.specs.declared.seen_items.SeenItems.{SeenItems}
use Rattle.dvi_scan.specs.View.{mark_of}
use Rattle.scaled_core.specs.Mark.{Mark, Glyph, Rule, Special}
use Rattle.boxglue_calls.specs.Buffers.{Holds}
use Rattle.boxglue_calls.specs.MarkTables.{AreMarkRows, MarkOutputs, glyph_row, page_rows, rule_row, special_row, text_starts}
use Rattle.boxglue_calls.specs.declared.mark_rows.RowProgress.{RowProgress}
use Rattle.boxglue_calls.specs.declared.mark_table.DviMark.{DviMark}
use Rattle.boxglue_calls.specs.declared.mark_table.DviPage.{DviPage}

-- A length as a number of 32 bits.
abbrev pub size_of : ℕ → ℕ
size_of n = if nat_lt n (2 ^ 32) then n else 0

-- The row of a mark, where a walk over the file has come to a place: there the text of a special ends.
abbrev pub row_of : ReadFonts → (place : ℕ) → Mark → DviMark
row_of fonts place (Glyph font code h v) = glyph_row font code h v (unwrap_or (read_width fonts font code) (pos 0))
row_of fonts place (Rule h v height width) = rule_row h v height width
row_of fonts place (Special h v text) = special_row h v (size_of (length text)) (place - length text)

-- The number of pages among what is seen.
abbrev pub pages_among : List SeenItemView → ℕ
pages_among [] = 0
pages_among (Counts counts ∷ rest) = pages_among rest + 1
pages_among (Marked mark ∷ rest) = pages_among rest

-- The marks among what is seen.
abbrev pub marks_among : List SeenItemView → List Mark
marks_among [] = []
marks_among (Counts counts ∷ rest) = marks_among rest
marks_among (Marked mark ∷ rest) = mark ∷ marks_among rest

-- There are rows for these marks, and the texts of their specials begin at these places.
abbrev pub HasRowsFor : WidthsByName → (table : List Definition) → (bytes places : List ℕ) → List Mark → Type 0
HasRowsFor metrics table bytes places marks =
    (rows : List DviMark) × AreMarkRows bytes (widths_of metrics table) rows marks × (text_starts rows ≡ places)

-- The buffers have a place for the row of what is seen next: a mark comes after a page.
abbrev pub HasPlace : SeenItem → RowProgress → MarkOutputs → Type 0
HasPlace (seen_items.Page counts) w buffers = w.pages < length buffers.pages
HasPlace (seen_items.Mark mark) w buffers =
    (0 < w.pages) × (w.pages ≤ length buffers.pages) × (w.marks < length buffers.marks) × (w.row.marks ≤ w.marks)

-- One row of a page is written, after the others.
pub record BeginsPage (counts : List ℤ) (old new : RowProgress) (before after : List DviPage) : Type 0 where
  pub row : new.row ≡ record { counts = counts; first_mark = old.marks; marks = 0 }
  pub pages_count : new.pages ≡ old.pages + 1
  pub marks_count : new.marks ≡ old.marks
  pub written : after ≡ take old.pages before ++ ((new.row ∷ []) ++ drop (old.pages + 1) before)

-- One row of a mark is written, after the others, and the last row of a page has one mark more.
pub record AddsMark (mark : DviMark) (old new : RowProgress) (before after : MarkOutputs) : Type 0 where
  pub row : new.row ≡ record old.row { marks = old.row.marks + 1 }
  pub pages_count : new.pages ≡ old.pages
  pub marks_count : new.marks ≡ old.marks + 1
  pub page_written : after.pages ≡ take (old.pages - 1) before.pages ++ ((new.row ∷ []) ++ drop (old.pages - 1 + 1) before.pages)
  pub mark_written : after.marks ≡ take old.marks before.marks ++ ((mark ∷ []) ++ drop (old.marks + 1) before.marks)

-- The row of what is seen is written.
abbrev pub WritesItem : SeenItem → SeenItems → (old new : RowProgress) → (before after : MarkOutputs) → Type 0
WritesItem (seen_items.Page counts) s old new before after = BeginsPage counts old new before.pages after.pages × (after.marks ≡ before.marks)
WritesItem (seen_items.Mark mark) s old new before after = AddsMark (row_of s.file.now.fonts s.at (mark_of mark)) old new before after

-- The pages that are still to be seen, the texts of their specials begin at these places, their glyphs have these widths, and the buffers have space
-- for all rows.
pub record CanBeWritten (metrics : WidthsByName) (table : List Definition) (s : SeenItems) (buffers : MarkOutputs) (places : List ℕ)
    (all : List MarkedPage) : Type 0 where
  pub remaining : AreItemsLeft s (seen_of all)
  pub texts : AreTextsLeft s places
  pub widths : HasGlyphWidths metrics table s.file.now.fonts (marks_of all)
  pub pages_fit : length all ≤ length buffers.pages
  pub marks_fit : length (marks_of all) ≤ length buffers.marks

-- The buffers hold the rows of these pages, and of their marks. The texts of specials begin at these places.
pub record HoldsRows (metrics : WidthsByName) (table : List Definition) (bytes : List ℕ) (old new : MarkOutputs) (places : List ℕ)
    (all : List MarkedPage) : Type 0 where
  pub pages : Holds old.pages new.pages (page_rows 0 all)
  pub rows : List DviMark
  pub are : AreMarkRows bytes (widths_of metrics table) rows (marks_of all)
  pub starts : text_starts rows ≡ places
  pub marks : Holds old.marks new.marks rows
