-- The marks of a page: what a reader sees of it (TeX: The Program, part 32; DVItype, 15 and 16).
use Rattle.std.specs.Prelude.{ℕ, ℤ, List}

-- A mark on a page: a glyph at (h, v), a rule with its bottom left corner at (h, v), or a special, which is a text at (h, v) (DVItype, 15 and 16; the
-- meaning of a special's text is left out).
pub data Mark : Type 0 where
  Glyph : (font code h v : ℤ) → Mark
  Rule : (h v height width : ℤ) → Mark
  Special : (h v : ℤ) (text : List ℕ) → Mark

-- A page as a reader sees it: its ten counts and its marks.
pub record MarkedPage : Type 0 where
  pub counts : List ℤ
  pub marks : List Mark
