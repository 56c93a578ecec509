-- The fonts that were read, in relation to the fonts of a file (own). No clause of a call that other crates use to read a file reaches these
-- definitions: they are about the values of the code.
use Rattle.std.specs.Prelude.{◌≡◌, List, slice_get, ℕ, ℤ, Option, Some, None, IsSome}
use Rattle.std.specs.BTreeMap.{IsUnchanged, get}
use Rattle.std.specs.Ordering.{int_cmp}
use Rattle.dvi_scan.specs.Widths.{HasBytes}
use Rattle.dvi_ops.specs.Fonts.{WidthsByName, font}
use Rattle.dvi_ops.specs.Instruction.{Definition, SetChar, PutChar, Instruction, Do}
use Rattle.dvi_scan.specs.declared.executing.PassState.{PassState}
use Rattle.dvi_scan.specs.declared.executing.PassState.TheVariants.{Between, Inside}
use Rattle.dvi_read.specs.declared.fonts.ReadFonts.{ReadFonts}
use Rattle.tfm_core.specs.FileWidths.{width_at}
use Rattle.tfm_core.specs.Fonts.{SizedFont}

-- The index of the font of a number among those that were read.
abbrev pub font_index : ℤ → ReadFonts → Option ℕ
font_index f fonts = get int_cmp fonts.indices f

-- The font of the number was read.
abbrev pub FontIsRead : ℤ → ReadFonts → Type 0
FontIsRead f fonts = IsSome (font_index f fonts)

-- The font of the number was read, and selected last.
abbrev pub HasCurrent : ℤ → ReadFonts → Type 0
HasCurrent f fonts = font_index f fonts ≡ Some fonts.current

-- The same fonts, where the one at this index was selected last.
abbrev pub with_current : ReadFonts → (index : ℕ) → ReadFonts
with_current fonts index = record fonts { current = index }

-- The font at an index.
abbrev pub read_font_at : ReadFonts → ℕ → Option SizedFont
read_font_at fonts index = slice_get fonts.all.items index

-- The font that was selected last.
abbrev pub selected_font : ReadFonts → Option SizedFont
selected_font fonts = read_font_at fonts fonts.current

-- The codes of the characters of each font are bytes.
abbrev pub HaveByteCodes : ReadFonts → Type 0
HaveByteCodes fonts = (index : ℕ) (read : SizedFont) → read_font_at fonts index ≡ Some read → HasBytes read

-- At the index of a number there is a font with the widths that the metric files give for the number among these definitions.
abbrev pub HasWidthsAt : WidthsByName → (table : List Definition) → ReadFonts → (f : ℤ) → (index : ℕ) → Type 0
HasWidthsAt metrics table fonts f index = (read : SizedFont) × (read_font_at fonts index ≡ Some read) × (font metrics table f ≡ Some (width_at read))

-- Each number has such a font at its index, and the codes of the characters are bytes.
pub record AreSound (metrics : WidthsByName) (table : List Definition) (fonts : ReadFonts) : Type 0 where
  pub widths : (f : ℤ) (index : ℕ) → font_index f fonts ≡ Some index → HasWidthsAt metrics table fonts f index
  pub codes : HaveByteCodes fonts

-- The fonts, their indices and the selected one are unchanged.
pub record AreUnchanged (old new : ReadFonts) : Type 0 where
  pub all : new.all.items ≡ old.all.items
  pub indices : IsUnchanged old.indices new.indices
  pub current : new.current ≡ old.current

-- The font that is selected in the state of the pass, if one is.
abbrev pub selected_in : PassState → Option ℤ
selected_in Between = None
selected_in (Inside page) = page.state.font

-- The selected font was read, and no other was selected since.
abbrev pub IsCurrent : ReadFonts → PassState → Type 0
IsCurrent fonts pass_state = (f : ℤ) → selected_in pass_state ≡ Some f → HasCurrent f fonts

-- The character that an instruction sets or puts, if it does one of both.
abbrev pub code_in : Instruction → Option ℤ
code_in (Do (SetChar c)) = Some c
code_in (Do (PutChar c)) = Some c
code_in i = None

-- The width of a character, where the font was read.
abbrev pub width_in : Option SizedFont → ℤ → Option ℤ
width_in None c = None
width_in (Some read) c = width_at read c

-- The width of a character in the font that was selected last; None where no character is given.
abbrev pub asked_width : ReadFonts → Option ℤ → Option ℤ
asked_width fonts None = None
asked_width fonts (Some c) = width_in (selected_font fonts) c
