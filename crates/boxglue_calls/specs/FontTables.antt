-- The fonts that a DVI file defines after its pages (own).
use Rattle.std.specs.Prelude.{◌≡◌, ◌⊎◌, ◌+◌, ℕ, Bool, true, List, [], ◌∷◌, length}
use Rattle.std.specs.Int.{w32, cast_unsigned}
use Rattle.std.specs.List.{flat_map}
use Rattle.dvi_ops.specs.Instruction.{Definition, Units}
use Rattle.boxglue_print.specs.Fonts.{DefinesFonts, RefusesFonts}
use Rattle.boxglue_calls.specs.Buffers.{HandsOverBoth}
use Rattle.boxglue_calls.specs.Pages.{read_status}
use Rattle.boxglue_calls.specs.declared.font_table.DviFont.{DviFont}
use Rattle.boxglue_calls.specs.declared.font_table.FontSizes.{FontSizes}

-- The row of a font whose name begins at this place of the names. Its check sum is the number without a sign of the same four bytes.
abbrev pub row_at : ℕ → Definition → DviFont
row_at start font = record {
  number = font.number;
  size = font.size;
  design_size = font.design_size;
  check_sum = cast_unsigned w32 font.check_sum;
  name_start = start;
  name_size = length font.name;
}

-- The rows of fonts, the first name of which begins at this place.
abbrev pub rows_from : ℕ → List Definition → List DviFont
rows_from start [] = []
rows_from start (font ∷ rest) = row_at start font ∷ rows_from (start + length font.name) rest

-- The names of fonts, one after the other.
abbrev pub names_of : List Definition → List ℕ
names_of fonts = flat_map (λ font. font.name) fonts

-- The rows and the names of the fonts of these bytes; or no rows, and the line of the refusal.
abbrev pub IsFontTable : List ℕ → (rows : List DviFont) → (text : List ℕ) → (accepted : Bool) → Type 0
IsFontTable bytes rows text accepted =
    ((units : Units) × (fonts : List Definition) × DefinesFonts bytes units fonts × (rows ≡ rows_from 0 fonts) × (text ≡ names_of fonts)
    × (accepted ≡ true))
    ⊎ (RefusesFonts bytes text accepted × (rows ≡ []))

-- The fonts and the text of a DVI file are handed over, and the sizes are theirs.
pub record HandsOverFonts (bytes : List ℕ) (old new : List DviFont) (text_old text_new : List ℕ) (sizes : FontSizes) (status : ℕ) : Type 0 where
  pub fonts : List DviFont
  pub text : List ℕ
  pub accepted : Bool
  pub table : IsFontTable bytes fonts text accepted
  pub handed : HandsOverBoth (record { old = old; new = new; items = fonts }) (record { old = text_old; new = text_new; items = text })
      (read_status accepted) status
  pub fonts_size : sizes.fonts ≡ length fonts
  pub text_size : sizes.text ≡ length text
