-- The beginning of the line of a glyph (own).
use Rattle.std.specs.Prelude.{◌++◌, List, ℕ, ℤ, codes}
use Rattle.std.specs.Fmt.{signed_decimal}

-- The word of a glyph, its font and its character.
unfoldable pub head_text : (font code : ℤ) → List ℕ
head_text font code = codes "glyph" ++ ((codes " " ++ signed_decimal font) ++ (codes " " ++ signed_decimal code))
