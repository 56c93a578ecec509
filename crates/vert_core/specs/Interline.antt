-- Interline glue: the glue between the boxes of a vertical list (TeX: The Program, part 33, §679, append_to_vlist).
use Rattle.std.specs.Prelude.{◌-ℤ◌, ℤ, negsuc, int_lt, int_le, if◌then◌else◌, List, [], ◌∷◌, Option, Some, None, Result, Ok, Err}
use Rattle.node_core.specs.declared.params.Params.{Params}
use Rattle.node_core.specs.declared.tree.BoxNode.{BoxNode}
use Rattle.node_core.specs.declared.tree.Glue.{Glue}
use Rattle.node_core.specs.declared.tree.Node.{Node}
use Rattle.node_core.specs.declared.tree.Node.TheVariants as nodes
use Rattle.scaled_core.specs.Dimensions.{fits}
use Rattle.vert_core.specs.declared.interline.DimensionTooLarge.{DimensionTooLarge}

-- The depth -1000pt: a depth of this value or less suppresses the glue (TeX: The Program, part 16, §212, ignore_depth). The constant
-- `Dimen::IGNORE_DEPTH` has this value.
abbrev pub ignored_depth : ℤ
ignored_depth = negsuc 65535999

-- The distance from the bottom of one box to the top of the next one, if their baselines are baselineskip apart.
abbrev pub distance : Params → (previous height : ℤ) → ℤ
distance params previous height = (params.baseline_skip.width -ℤ previous) -ℤ height

-- The glue that makes the distance of baselines baselineskip: it stretches and shrinks as baselineskip does. It is refused if its width does not fit
-- (own: TeX does not test it).
abbrev pub baseline_glue : Params → (width : ℤ) → Result (Option Glue) DimensionTooLarge
baseline_glue params width =
    if fits width then Ok (Some (record params.baseline_skip { width = width })) else Err (record {})

-- The glue before a box of this height, after this previous depth: none if the depth suppresses it, lineskip if the boxes would be closer than
-- lineskiplimit, and otherwise the glue that makes the distance of baselines baselineskip.
unfoldable pub interline : Params → (previous height : ℤ) → Result (Option Glue) DimensionTooLarge
interline params previous height =
    if int_le previous ignored_depth then Ok None
    else (if int_lt (distance params previous height) params.line_skip_limit then Ok (Some params.line_skip)
    else baseline_glue params (distance params previous height))

-- The glue before a box, if it is not refused and there is any (own).
abbrev pub glue_of : Result (Option Glue) DimensionTooLarge → Option Glue
glue_of (Ok glue) = glue
glue_of (Err e) = None

-- The nodes that are appended to a vertical list for a box: the glue before it, if there is any, and the box with its shift.
abbrev pub appended_nodes : Option Glue → (shift : ℤ) → BoxNode → List Node
appended_nodes None shift b = nodes.Box shift b ∷ []
appended_nodes (Some glue) shift b = nodes.Glue glue ∷ nodes.Box shift b ∷ []
