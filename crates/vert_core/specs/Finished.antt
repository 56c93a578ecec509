-- The finished list of a paragraph, which is broken into lines (TeX: The Program, part 38, §816).
use Rattle.std.specs.Prelude.{◌-◌, ◌++◌, pos, List, [], ◌∷◌, length, take, slice_get, Option, Some, None}
use Rattle.node_core.specs.declared.tree.Glue.{Glue}
use Rattle.node_core.specs.declared.tree.Node.{Node}
use Rattle.node_core.specs.declared.tree.Node.TheVariants as nodes

-- The glue of an item, if there is an item and it is glue (own).
abbrev pub glue_at : Option Node → Option Glue
glue_at (Some (nodes.Glue glue)) = Some glue
glue_at other = None

-- The glue at the end of a list, if its last item is glue (own).
abbrev pub final_glue : List Node → Option Glue
final_glue list = glue_at (slice_get list (length list - 1))

-- A list without the glue at its end, if there is any (own).
abbrev pub without_glue : Option Glue → List Node → List Node
without_glue None list = list
without_glue (Some glue) list = take (length list - 1) list

-- The finished list: glue at the end is dropped; then come a penalty of 10000, at which no line ends, and parfillskip, which fills the last line.
abbrev pub finished_list : List Node → (par_fill_skip : Glue) → List Node
finished_list list par_fill_skip = without_glue (final_glue list) list ++ nodes.Penalty (pos 10000) ∷ nodes.Glue par_fill_skip ∷ []
