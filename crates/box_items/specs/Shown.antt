-- The marks that rows show on a page (own; the marks are those of TeX: The Program, part 32).
use Rattle.std.specs.Prelude.{◌^◌, ◌+ℤ◌, ◌*ℤ◌, ◌∷◌, ℤ, ℕ, pos, List, [], drop, take, if◌then◌else◌, nat_eq}
use Rattle.std.specs.List.{flat_map}
use Rattle.node_core.specs.declared.tree.Kind.{Kind}
use Rattle.node_core.specs.declared.tree.Kind.TheVariants.{Horizontal, Vertical}
use Rattle.node_core.specs.Items.{Leaf, glyph, font_kern, kern, glue, penalty, rule, special, Items, none, leaf, box}
use Rattle.scaled_core.specs.Mark as marks
use Rattle.scaled_core.specs.Mark.{Mark}
use Rattle.page_core.specs.Marks.{rule_mark}
use Rattle.box_items.specs.Rows.{kind_number}
use Rattle.box_items.specs.declared.place.WideDimen.{WideDimen}
use Rattle.box_items.specs.declared.row.BoxItem.{BoxItem}
use Rattle.box_items.specs.declared.row.ItemKind.TheVariants as kinds

-- The number in two words.
abbrev pub number_in : WideDimen → ℤ
number_in words = pos words.low +ℤ (words.high *ℤ pos (2 ^ 64))

-- The mark of a row, as a list of one or none, if the reference point of the outermost box is at (h, v) and the texts are these: a glyph, a special,
-- or a rule whose height plus depth and whose width are positive.
abbrev pub marks_of_row : (h v : ℤ) → (texts : List ℕ) → BoxItem → List Mark
marks_of_row h v texts row =
    if nat_eq row.kind (kind_number kinds.Glyph)
    then marks.Glyph (pos row.slot) (pos row.code) (h +ℤ number_in row.right) (v +ℤ number_in row.down) ∷ []
    else (if nat_eq row.kind (kind_number kinds.Rule)
    then rule_mark (h +ℤ number_in row.right) (v +ℤ number_in row.down) (row.height +ℤ row.depth) row.width
    else (if nat_eq row.kind (kind_number kinds.Special)
    then marks.Special (h +ℤ number_in row.right) (v +ℤ number_in row.down) (take row.text_size (drop row.text_start texts)) ∷ []
    else []))

-- The marks of rows, in order.
abbrev pub marks_of_rows : (h v : ℤ) → (texts : List ℕ) → List BoxItem → List Mark
marks_of_rows h v texts rows = flat_map (marks_of_row h v texts) rows

-- A leaf may be in a list of a kind: a glyph only in a horizontal one.
abbrev pub MayBeIn : Kind → Leaf → Type 0
MayBeIn Horizontal x = Unit {0}
MayBeIn Vertical (glyph g) = ⊥
MayBeIn Vertical (font_kern width) = Unit {0}
MayBeIn Vertical (kern width) = Unit {0}
MayBeIn Vertical (glue g) = Unit {0}
MayBeIn Vertical (penalty p) = Unit {0}
MayBeIn Vertical (rule r) = Unit {0}
MayBeIn Vertical (special text) = Unit {0}

-- No vertical list has a glyph, in a list of a kind and in its boxes. The commands of a job make no other lists.
abbrev pub HasGlyphsAcross : Kind → Items → Type 0
HasGlyphsAcross kind none = Unit {0}
HasGlyphsAcross kind (leaf x after) = MayBeIn kind x × HasGlyphsAcross kind after
HasGlyphsAcross kind (box shift frame inner after) = HasGlyphsAcross frame.kind inner × HasGlyphsAcross kind after
