-- The end of the finished file (TeX: The Program, part 32, §642; DVItype, 18 to 20).
use Rattle.std.specs.Prelude.{◌≡◌, ◌≤◌, ◌≤ℤ◌, ◌%◌, [], ◌∷◌, ℕ, ℤ, pos, List, length, map, ◌++◌, Some}
use Rattle.std.specs.List.{AllByRecursion, Contains, flat_map}
use Rattle.dvi_ops.specs.Instruction.{Definition, Pre}
use Rattle.dvi_ops.specs.Fonts.{definitions}
use Rattle.dvi_ops.specs.Layout.{scaled_points}
use Rattle.dvi_ops.specs.Tokens.{token_instructions}
use Rattle.dvi_ops.specs.File.{FilePart, instructions, push_depth_of, Frame}
use Rattle.tfm_core.specs.declared.slots.LoadedFont.{LoadedFont}
use Rattle.tfm_core.specs.Slots.{Slots, font_in}
use Rattle.page_core.specs.Marks.{ShippedPage}
use Rattle.page_core.specs.Pages.{reach_down, reach_right}
use Rattle.dvi_write.specs.FilePages.{definition_of}

-- The greatest number of a list: no number of the list is greater, and it is one of them (own).
pub record IsGreatestOf (numbers : List ℤ) (greatest : ℤ) : Type 0 where
  pub bounds : AllByRecursion (λ z. z ≤ℤ greatest) numbers
  pub reached : Contains numbers greatest

-- A font definition is that of the font in the slot of its number: it has the check sum and the design size of the font's file, the font's size, the
-- name of the file, and no area.
pub record IsOfJob (fonts : Slots) (d : Definition) : Type 0 where
  pub slot : ℕ
  pub loaded : LoadedFont
  pub held : font_in fonts slot ≡ Some loaded
  pub is : d ≡ definition_of slot loaded

-- The bytes end as a file of these pages does, and define the job's fonts. The frame and the parts are those of the DVI definition.
pub record IsClosedFor (fonts : Slots) (bytes : List ℕ) (pages : List ShippedPage) : Type 0 where
  pub frame : Frame bytes
  pub parts : List FilePart
  pub front_is : token_instructions frame.front ≡ Pre 2 frame.postamble.units [] ∷ flat_map instructions parts
  -- The DVI unit is a scaled point (TeX: The Program, part 32, §617).
  pub units : frame.postamble.units ≡ scaled_points
  -- Each definition, before post and after it, is that of one of these fonts.
  pub defined : AllByRecursion (IsOfJob fonts) (definitions (token_instructions frame.front ++ token_instructions frame.tail))
  -- The sizes in post are the greatest bottom and right edge of the pages, at least 0.
  pub tall : IsGreatestOf (pos 0 ∷ map reach_down pages) frame.postamble.height_plus_depth
  pub wide : IsGreatestOf (pos 0 ∷ map reach_right pages) frame.postamble.width
  -- The depth in post is the greatest number of pushes that are open at once.
  pub deep : IsGreatestOf (pos 0 ∷ map (λ part. pos (push_depth_of part)) parts) (pos frame.postamble.stack_depth)
  -- The length is filled up to a multiple of 4 with four to seven bytes 223.
  pub least : 4 ≤ frame.padding
  pub most : frame.padding ≤ 7
  pub fills : length bytes % 4 ≡ 0
