-- The pages of a DVI file and their marks as tables (own; the marks are DVItype's, 15 and 16).
use Rattle.std.specs.Prelude.{◌≡◌, ◌⊎◌, ◌+◌, ◌++◌, ◌<◌, if◌then◌else◌, nat_eq, ℕ, ℤ, pos, Bool, true, List, [], ◌∷◌, length, Some}
use Rattle.std.specs.List.{flat_map}
use Rattle.dvi_ops.specs.Body.{Widths}
use Rattle.dvi_ops.specs.File.{IsFile, MarkedPage}
use Rattle.dvi_ops.specs.Fonts.{definitions, widths_of}
use Rattle.dvi_ops.specs.Instruction.{Units}
use Rattle.dvi_ops.specs.Tokens.{token_instructions}
use Rattle.dvi_read.specs.PageMarks.{TextIsAt, marks_of, text_places}
use Rattle.scaled_core.specs.Mark.{Mark, Glyph, Rule, Special}
use Rattle.tfm_core.specs.FileWidths.{file_widths}
use Rattle.tfm_core.specs.NamedBytes.{NamedBytes}
use Rattle.boxglue_print.specs.Outputs.{RefusesFile}
use Rattle.boxglue_calls.specs.Buffers.{Holds}
use Rattle.boxglue_calls.specs.Pages.{read_status}
use Rattle.boxglue_calls.specs.declared.mark_table.DviMark.{DviMark}
use Rattle.boxglue_calls.specs.declared.mark_table.DviPage.{DviPage}
use Rattle.boxglue_calls.specs.declared.mark_table.MarkSizes.{MarkSizes}

-- The row of a page whose first mark has this place among the marks.
abbrev pub page_row : ℕ → MarkedPage → DviPage
page_row start page = record { counts = page.counts; first_mark = start; marks = length page.marks }

-- The rows of pages, the first mark of which has this place.
abbrev pub page_rows : ℕ → List MarkedPage → List DviPage
page_rows start [] = []
page_rows start (page ∷ rest) = page_row start page ∷ page_rows (start + length page.marks) rest

-- The kinds of marks in rows: `boxglue_mark_kind` of the header.
abbrev pub glyph_kind : ℕ
glyph_kind = 1

abbrev pub rule_kind : ℕ
rule_kind = 2

abbrev pub special_kind : ℕ
special_kind = 3

-- The row of a mark of this kind at a place, with zeros for all else.
abbrev pub empty_row : (kind : ℕ) → (h v : ℤ) → DviMark
empty_row kind h v =
    record { kind = kind; font = pos 0; code = pos 0; h = h; v = v; height = pos 0; width = pos 0; text_size = 0; text_start = 0 }

-- The row of a glyph of this width.
abbrev pub glyph_row : (font code h v width : ℤ) → DviMark
glyph_row font code h v width = record (empty_row glyph_kind h v) { font = font; code = code; width = width }

-- The row of a rule.
abbrev pub rule_row : (h v height width : ℤ) → DviMark
rule_row h v height width = record (empty_row rule_kind h v) { height = height; width = width }

-- The row of a special whose text has this length and place.
abbrev pub special_row : (h v : ℤ) → (size place : ℕ) → DviMark
special_row h v size place = record (empty_row special_kind h v) { text_size = size; text_start = place }

-- The row of a mark: a glyph with the width that its font gives it; a rule; a special with the place of its text in the bytes.
abbrev pub IsMarkRow : List ℕ → Widths → DviMark → Mark → Type 0
IsMarkRow bytes widths row (Glyph font code h v) = (width : ℤ) × (widths font code ≡ Some width) × (row ≡ glyph_row font code h v width)
IsMarkRow bytes widths row (Rule h v height width) = row ≡ rule_row h v height width
IsMarkRow bytes widths row (Special h v text) = (place : ℕ) × TextIsAt bytes place text × (row ≡ special_row h v (length text) place)

-- Each row is that of the mark with its index.
abbrev pub AreMarkRows : List ℕ → Widths → List DviMark → List Mark → Type 0
AreMarkRows bytes widths [] [] = Unit {0}
AreMarkRows bytes widths (row ∷ rows) (mark ∷ marks) = IsMarkRow bytes widths row mark × AreMarkRows bytes widths rows marks
AreMarkRows bytes widths rows marks = ⊥

-- Where the text of a row begins, if it is that of a special, as a list of one or none.
abbrev pub text_start_of : DviMark → List ℕ
text_start_of row = if nat_eq row.kind special_kind then row.text_start ∷ [] else []

-- Where the texts of the specials among rows begin, in order.
abbrev pub text_starts : List DviMark → List ℕ
text_starts rows = flat_map text_start_of rows

-- The bytes are a file, and the tables have its pages and their marks. The width of a glyph is that by the first definition of its font.
pub record TabulatesMarks (files : List NamedBytes) (bytes : List ℕ) (rows : List DviPage) (marks : List DviMark) (units : Units) : Type 0 where
  pub pages : List MarkedPage
  pub file : IsFile (file_widths files) bytes pages
  pub rows_are : rows ≡ page_rows 0 pages
  pub marks_are : AreMarkRows bytes (widths_of (file_widths files)
      (definitions (token_instructions file.frame.front ++ token_instructions file.frame.tail))) marks
      (marks_of pages)
  -- The text of each special begins where its own instruction has it, also where the same text stands elsewhere in the file.
  pub starts_are : text_starts marks ≡ text_places 0 file.frame.front
  pub units_are : units ≡ file.frame.postamble.units

-- No units.
abbrev pub no_units : Units
no_units = record { num = pos 0; den = pos 0; mag = pos 0 }

-- What a call for the marks of a file has in three buffers: pages, their marks, and a text.
pub record MarkOutputs : Type 0 where
  pub pages : List DviPage
  pub marks : List DviMark
  pub text : List ℕ

abbrev pub mark_outputs : List DviPage → List DviMark → (text : List ℕ) → MarkOutputs
mark_outputs pages marks text = record { pages = pages; marks = marks; text = text }

-- The tables and the units of a file, and no text; or no tables and no units, and the line of the refusal.
abbrev pub IsMarkTable : List NamedBytes → List ℕ → MarkOutputs → (units : Units) → (accepted : Bool) → Type 0
IsMarkTable files bytes outputs units accepted =
    (TabulatesMarks files bytes outputs.pages outputs.marks units × (outputs.text ≡ []) × (accepted ≡ true))
    ⊎ (RefusesFile files bytes outputs.text accepted × (outputs.pages ≡ []) × (outputs.marks ≡ []) × (units ≡ no_units))

-- One of three buffers has fewer places than its output has items.
abbrev pub LacksSpace : (old outputs : MarkOutputs) → Type 0
LacksSpace old outputs =
    (length old.pages < length outputs.pages) ⊎ (length old.marks < length outputs.marks) ⊎ (length old.text < length outputs.text)

-- Three outputs are handed over: each buffer holds its own, and the status is that of the call; or one is too small, all are as they were, and the
-- status is 4.
abbrev pub HandsOverAll : (old new outputs : MarkOutputs) → (done status : ℕ) → Type 0
HandsOverAll old new outputs done status =
    (Holds old.pages new.pages outputs.pages × Holds old.marks new.marks outputs.marks × Holds old.text new.text outputs.text × (status ≡ done))
    ⊎ (LacksSpace old outputs × (new.pages ≡ old.pages) × (new.marks ≡ old.marks) × (new.text ≡ old.text) × (status ≡ 4))

-- The outputs for a file are handed over, and the sizes and the units are theirs.
pub record HandsOverMarks (files : List NamedBytes) (bytes : List ℕ) (old new : MarkOutputs) (sizes : MarkSizes) (status : ℕ) : Type 0 where
  pub outputs : MarkOutputs
  pub accepted : Bool
  pub table : IsMarkTable files bytes outputs (record { num = sizes.num; den = sizes.den; mag = sizes.mag }) accepted
  pub handed : HandsOverAll old new outputs (read_status accepted) status
  pub pages_size : sizes.pages ≡ length outputs.pages
  pub marks_size : sizes.marks ≡ length outputs.marks
  pub text_size : sizes.text ≡ length outputs.text
