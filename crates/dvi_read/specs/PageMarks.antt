-- What a reader of a file knows of the marks of its pages: the places of the texts of specials, and the widths of glyphs (own; the marks are
-- DVItype's, 15 and 16).
use Rattle.std.specs.Prelude.{◌≡◌, ◌≤◌, ◌<◌, ◌+◌, ◌-◌, ◌*◌, ◌^◌, ◌++◌, [], ◌∷◌, Bool, true, false, ℕ, ℤ, List, Option, Some}
use Rattle.std.specs.Prelude.{drop, filter, length, option_and_then, take}
use Rattle.std.specs.List.{AllByRecursion, flat_map}
use Rattle.dvi_ops.specs.File.{MarkedPage}
use Rattle.dvi_ops.specs.Fonts.{WidthsByName, widths_of}
use Rattle.dvi_ops.specs.Instruction.{Definition, Do, Instruction, Xxx}
use Rattle.dvi_ops.specs.Tokens.{Token}
use Rattle.dvi_read.specs.ReadFonts.{HaveByteCodes, font_index, read_font_at, width_in}
use Rattle.dvi_read.specs.declared.fonts.ReadFonts.{ReadFonts}
use Rattle.scaled_core.specs.Mark.{Mark, Glyph, Rule, Special}

-- The marks of all pages, in order.
abbrev pub marks_of : List MarkedPage → List Mark
marks_of pages = flat_map (λ page. page.marks) pages

-- Whether a mark is a rule.
abbrev pub is_rule : Mark → Bool
is_rule (Rule h v height width) = true
is_rule mark = false

-- A page with its rules alone, in order.
abbrev pub rules_alone : MarkedPage → MarkedPage
rules_alone page = record { counts = page.counts; marks = filter is_rule page.marks }

-- The text of a special, as a list of one or none.
abbrev pub text_in : Mark → List (List ℕ)
text_in (Special h v text) = text ∷ []
text_in mark = []

-- Where the text of an instruction that puts a special begins, as a list of one or none: the text is the last operand (DVItype, 15), so it ends where
-- the instruction does.
abbrev pub text_place : (end : ℕ) → Instruction → List ℕ
text_place end (Do (Xxx text)) = (end - length text) ∷ []
text_place end i = []

-- Where the texts of the specials begin, in order, where the first instruction is at `at`.
abbrev pub text_places : (at : ℕ) → List Token → List ℕ
text_places at [] = []
text_places at (t ∷ rest) = text_place (at + length t.bytes) t.says ++ text_places (at + length t.bytes) rest

-- A text is in the bytes from a place on. Its length fits the four bytes of xxx4, the longest form (DVItype, 15).
pub record TextIsAt (bytes : List ℕ) (place : ℕ) (text : List ℕ) : Type 0 where
  pub within : place + length text ≤ length bytes
  pub short : length text < 2 ^ 32
  pub text_is : take (length text) (drop place bytes) ≡ text

-- The width of a character in the font of a number, where that font was read.
abbrev pub read_width : ReadFonts → (number code : ℤ) → Option ℤ
read_width fonts number code = width_in (option_and_then (read_font_at fonts) (font_index number fonts)) code

-- The fonts that were read have a width for the character, and it is the one by the first definition of the font's number.
abbrev pub IsGlyphWidth : WidthsByName → (table : List Definition) → ReadFonts → (number code : ℤ) → Type 0
IsGlyphWidth metrics table fonts number code =
    (width : ℤ) × (read_width fonts number code ≡ Some width) × (widths_of metrics table number code ≡ Some width)

-- A fact for the font and the character of a glyph. Another mark has none.
abbrev pub OfGlyph : (ℤ → ℤ → Type 0) → Mark → Type 0
OfGlyph P (Glyph number code h v) = P number code
OfGlyph P mark = Unit {0}

-- Each glyph has such a width, and the codes of the characters of each font are bytes.
pub record HasGlyphWidths (metrics : WidthsByName) (table : List Definition) (fonts : ReadFonts) (marks : List Mark) : Type 0 where
  pub codes : HaveByteCodes fonts
  pub widths : AllByRecursion (OfGlyph (IsGlyphWidth metrics table fonts)) marks

-- A mark takes a byte of the file or more, and a page 46 or more.
pub record HasSpaceFor (bytes : List ℕ) (pages : List MarkedPage) : Type 0 where
  pub marks_fit : length (marks_of pages) ≤ length bytes
  pub pages_fit : 46 * length pages ≤ length bytes
