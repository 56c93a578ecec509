-- The lines of a paragraph at the end of a vertical list (own).
use Rattle.std.specs.Prelude.{◌≡◌, ◌<◌, ◌≤◌, ◌+◌, ◌++◌, List, length, Result, Ok}
use Rattle.node_core.specs.declared.limits.TheConstants.{MAX_DEPTH, MAX_ITEMS}
use Rattle.node_core.specs.declared.tree.Node.{Node}
use Rattle.node_core.specs.Items.{items_depth}
use Rattle.node_core.specs.Nodes.{nodes_of}
use Rattle.vert_core.specs.declared.appending.AppendedParagraph.{AppendedParagraph}
use Rattle.vert_core.specs.declared.appending.UnappendedLines.{UnappendedLines}
use Rattle.vert_core.specs.declared.appending.UnappendedLines.TheVariants.{Unset, TooDeep, TooLong}
use Rattle.vert_core.specs.declared.paragraph.ParagraphFault.{ParagraphFault}
use Rattle.vert_core.specs.Paragraphs.{SetParagraph}

-- A paragraph with this setting was appended to a list: its lines do not nest too deep and the list is not too long, it has their items at its end,
-- and what is reported of the paragraph is that of its setting.
pub record IsAppended (setting : Result SetParagraph ParagraphFault) (before after : List Node) (figures : AppendedParagraph) : Type 0 where
  pub set : SetParagraph
  pub is_set : setting ≡ Ok set
  pub shallow : items_depth set.items ≤ MAX_DEPTH
  pub short : length before + length (nodes_of set.items) ≤ MAX_ITEMS
  pub items : after ≡ before ++ nodes_of set.items
  pub depth : figures.depth ≡ set.depth
  pub lines : figures.lines ≡ set.lines
  pub pass : figures.pass ≡ set.pass
  pub overhang : figures.overhang ≡ set.overhang
  pub demerits : figures.demerits ≡ set.demerits

-- Why a paragraph with this setting was not appended to a list: it is not set; else its lines nest too deep; else the list would be too long.
abbrev pub IsUnappended : (setting : Result SetParagraph ParagraphFault) → (IsUnset : ParagraphFault → Type 0) → (before : List Node)
    → UnappendedLines → Type 0
IsUnappended setting IsUnset before (Unset fault) = IsUnset fault
IsUnappended setting IsUnset before TooDeep = (set : SetParagraph) × (setting ≡ Ok set) × (MAX_DEPTH < items_depth set.items)
IsUnappended setting IsUnset before TooLong =
    (set : SetParagraph) × (setting ≡ Ok set) × (items_depth set.items ≤ MAX_DEPTH) × (MAX_ITEMS < length before + length (nodes_of set.items))
