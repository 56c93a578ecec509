-- The pixels of a page: its places and lengths in pixels, and what its rules cover (DVItype: its conversion of DVI units to pixels, and its rules).
use Rattle.std.specs.Prelude.{◌*◌, ◌+ℤ◌, ◌-ℤ◌, ◌*ℤ◌, ◌&&◌, ℕ, ℤ, pos, negsuc, Bool, false, List, unsigned_abs, int_le}
use Rattle.std.specs.Int.{div_ceil}
use Rattle.std.specs.List.{list_any}
use Rattle.scaled_core.specs.Rounding.{rounded}
use Rattle.dvi_ops.specs.Instruction.{Units}
use Rattle.scaled_core.specs.Mark.{Mark, Glyph, Rule, Special}

-- The number of pixels of a DVI unit, as a fraction: a unit is num / den times 10^-7 metres, enlarged by mag / 1000, and an inch, which is 254000
-- times 10^-7 metres, has dpi pixels (DVItype, 17, and its conversion).
pub record Scale : Type 0 where
  pub num : ℕ
  pub den : ℕ

-- The pixels of a DVI unit in a file with these units: num * mag * dpi / (254000 * den * 1000) (DVItype, 17, and its conversion).
abbrev pub scale_of : Units → (dpi : ℕ) → Scale
scale_of u dpi = record { num = unsigned_abs u.num * unsigned_abs u.mag * dpi; den = 254000 * unsigned_abs u.den * 1000 }

-- A place in pixels, rounded to the nearest, halves away from zero (DVItype, pixel_round).
unfoldable pub place : Scale → ℤ → ℤ
place s z = rounded (z *ℤ pos s.num) s.den

-- A length of a rule in pixels, rounded up; 0 where it is below 0, which is no length of a rule that shows (DVItype, rule_pixels).
unfoldable pub pixels : Scale → ℤ → ℕ
pixels s (pos n) = div_ceil (n * s.num) s.den
pixels s (negsuc n) = 0

-- The numbers from one whole number to another, both included (own).
abbrev pub spans : (first last : ℤ) → ℕ → Bool
spans first last x = int_le first (pos x) && int_le (pos x) last

-- Whether column x is one of a rule with its corner at h: hh to hh + b - 1, where hh is the pixel of h and b the pixels of the width (DVItype: the
-- pixels of a rule).
unfoldable pub in_columns : Scale → (h width : ℤ) → (x : ℕ) → Bool
in_columns s h width x = spans (place s h) (place s h +ℤ pos (pixels s width) -ℤ pos 1) x

-- Whether row y is one of a rule with its corner at v: vv - a + 1 to vv, where vv is the pixel of v and a the pixels of the height (DVItype: the
-- pixels of a rule).
unfoldable pub in_rows : Scale → (v height : ℤ) → (y : ℕ) → Bool
in_rows s v height y = spans (place s v -ℤ pos (pixels s height) +ℤ pos 1) (place s v) y

-- Whether a mark covers the pixel of column x and row y. A rule covers its columns and rows; glyphs and specials are not painted (own).
abbrev pub covers : Scale → Mark → (x y : ℕ) → Bool
covers s (Glyph font code h v) x y = false
covers s (Rule h v height width) x y = in_columns s h width x && in_rows s v height y
covers s (Special h v text) x y = false

-- Whether one of the marks covers the pixel (own).
abbrev pub is_covered : Scale → List Mark → (x y : ℕ) → Bool
is_covered s marks x y = list_any (λ mark. covers s mark x y) marks
