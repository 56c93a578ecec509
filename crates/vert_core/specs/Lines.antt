-- The lines of a paragraph in a vertical list: their boxes, the glue before them and the penalties after them (TeX: The Program, part 39, §877 to
-- §890; own: which numbers have to fit).
use Rattle.std.specs.Prelude.{◌+ℤ◌, ◌+◌, ◌++◌, ◌==◌, ◌&&◌, ℕ, zero, suc, ℤ, pos, Bool, nat_lt, if◌then◌else◌, List, [], ◌∷◌, length, map, get_or}
use Rattle.std.specs.Prelude.{slice_get, flat_map, Option, None}
use Rattle.std.specs.Result.{is_ok}
use Rattle.std.specs.List.{list_all}
use Rattle.node_core.specs.declared.params.Params.{Params}
use Rattle.node_core.specs.declared.tree.BoxNode.{BoxNode}
use Rattle.node_core.specs.declared.tree.Node.{Node}
use Rattle.node_core.specs.declared.tree.Node.TheVariants as nodes
use Rattle.node_core.specs.Nodes.{items_of}
use Rattle.pack_core.specs.declared.pack.Target.TheVariants.{To}
use Rattle.pack_core.specs.Boxes.{hbox, hbox_numbers}
use Rattle.pack_core.specs.Glue.{is_zero}
use Rattle.scaled_core.specs.Dimensions.{fits}
use Rattle.break_lines.specs.Sizes.{line_size}
use Rattle.break_core.specs.declared.broken.LineEnd.{LineEnd}
use Rattle.break_lines.specs.Legal.{up_to}
use Rattle.break_lines.specs.LineItems.{kept_items}
use Rattle.vert_core.specs.Interline.{interline, glue_of, appended_nodes}

-- A paragraph that is broken into lines: its finished list, the places where its lines end, in order, the parameters, and the previous depth of the
-- vertical list (own). Its lines are numbered from 0.
pub record BrokenParagraph : Type 0 where
  pub nodes : List Node
  pub places : List ℕ
  pub params : Params
  pub previous_depth : ℤ

-- The places of breaks (own).
abbrev pub line_places : List LineEnd → List ℕ
line_places ends = map (λ end. end.place) ends

-- A list whose lines have these ends (own).
abbrev pub broken_list : List Node → List LineEnd → Params → (previous_depth : ℤ) → BrokenParagraph
broken_list list ends params previous_depth = record { nodes = list; places = line_places ends; params = params; previous_depth = previous_depth }

-- The place where a line begins: none for the first line, which begins at the start of the list, and for another line the place where the line before
-- it ends.
abbrev pub line_begin : List ℕ → ℕ → Option ℕ
line_begin places zero = None
line_begin places (suc line) = slice_get places line

-- The items that a line keeps, from where it begins to the place where it ends.
abbrev pub line_items : BrokenParagraph → ℕ → List Node
line_items p line = kept_items p.nodes (line_begin p.places line) (get_or p.places line 0)

-- The box of the items of a line of this width (TeX: The Program, part 39, §889).
unfoldable pub boxed_line : (size : ℤ) → List Node → BoxNode
boxed_line size items = hbox (To size) (items_of items)

-- Whether the numbers of this box fit (own: TeX tests none).
unfoldable pub items_fit : (size : ℤ) → List Node → Bool
items_fit size items = list_all fits (hbox_numbers (To size) items)

-- The box of a line: its width is firstsize for the first lines, and otherwise hsize.
unfoldable pub line_box : BrokenParagraph → ℕ → BoxNode
line_box p line = boxed_line (line_size p.params line) (line_items p line)

-- The previous depth before a line: that of the vertical list for the first line, and for another line the depth of the line before it.
abbrev pub depth_before : BrokenParagraph → ℕ → ℤ
depth_before p zero = p.previous_depth
depth_before p (suc line) = (line_box p line).depth

-- The penalty between a line and the next one, of `count` lines: interlinepenalty, plus clubpenalty after the first line, plus widowpenalty before
-- the last line (TeX: The Program, part 39, §890).
abbrev pub penalty_after : Params → (count line : ℕ) → ℤ
penalty_after params count line =
    (params.interline_penalty +ℤ (if line == 0 then params.club_penalty else pos 0)) +ℤ (if line + 2 == count then params.widow_penalty else pos 0)

-- A penalty as a node; 0 gives no node.
abbrev pub penalty_nodes : ℤ → List Node
penalty_nodes penalty = if is_zero penalty then [] else (nodes.Penalty penalty ∷ [])

-- The nodes after a line, of `count` lines: a penalty, but nothing after the last line.
abbrev pub after_line : Params → (count line : ℕ) → List Node
after_line params count line = if nat_lt (line + 1) count then penalty_nodes (penalty_after params count line) else []

-- The nodes that a line with this box adds to a vertical list with this previous depth: the glue that any box gets, the box, and the nodes after it.
abbrev pub line_brings : Params → (count line : ℕ) → (previous_depth : ℤ) → BoxNode → List Node
line_brings params count line previous_depth b =
    appended_nodes (glue_of (interline params previous_depth b.height)) (pos 0) b ++ after_line params count line

-- The nodes that each line adds, by its box and the depth of the line before it.
unfoldable pub brought_by : BrokenParagraph → ℕ → List Node
brought_by p line = line_brings p.params (length p.places) line (depth_before p line) (line_box p line)

-- All nodes that the lines of a paragraph add to the vertical list.
unfoldable pub vertical_items : BrokenParagraph → List Node
vertical_items p = flat_map (brought_by p) (up_to (length p.places))

-- The new previous depth: that of the last line.
unfoldable pub last_depth : BrokenParagraph → ℤ
last_depth p = depth_before p (length p.places)

-- Whether a line of this width with these items fits after this previous depth: its box, and the glue before it (own: TeX does not test it).
abbrev pub fits_after : Params → (size previous_depth : ℤ) → List Node → Bool
fits_after params size previous_depth items = items_fit size items && is_ok (interline params previous_depth (boxed_line size items).height)

-- Whether a line fits.
unfoldable pub line_fits : BrokenParagraph → ℕ → Bool
line_fits p line = fits_after p.params (line_size p.params line) (depth_before p line) (line_items p line)

-- Whether each line fits.
unfoldable pub lines_fit : BrokenParagraph → Bool
lines_fit p = list_all (line_fits p) (up_to (length p.places))
