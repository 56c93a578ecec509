-- Setting a paragraph: it is finished, broken into lines, and the lines are stacked (TeX: The Program, part 38, §815).
use Rattle.std.specs.Prelude.{◌≡◌, ℕ, ℤ, pos, true, false, List, [], ◌∷◌, length, Option, Some, None}
use Rattle.node_core.specs.declared.params.Params.{Params}
use Rattle.node_core.specs.declared.tree.Glue.{Glue}
use Rattle.node_core.specs.declared.tree.Node.{Node}
use Rattle.node_core.specs.Items.{Items, none}
use Rattle.node_core.specs.Nodes.{items_of}
use Rattle.break_core.specs.declared.broken.Breaks.{Breaks}
use Rattle.break_core.specs.declared.broken.Pass.{Pass}
use Rattle.break_lines.specs.declared.fault.BreakFault.{BreakFault}
use Rattle.break_lines.specs.declared.fault.BreakFault.TheVariants as breaking
use Rattle.break_lines.specs.Facts.{facts_of, refusal}
use Rattle.break_core.specs.Passes.{IsBroken}
use Rattle.scaled_core.specs.declared.fault.SizeFault.{SizeFault}
use Rattle.scaled_core.specs.declared.fault.SizeFault.TheVariants as stacking
use Rattle.vert_core.specs.declared.paragraph.ParagraphFault.{ParagraphFault}
use Rattle.vert_core.specs.declared.paragraph.ParagraphFault.TheVariants.{InfiniteShrink, TooManyBreaks, DimensionTooLarge, OutOfMemory}
use Rattle.vert_core.specs.Lines.{BrokenParagraph, broken_list, vertical_items, last_depth, lines_fit}
use Rattle.vert_core.specs.Finished.{finished_list}

-- A paragraph that is set: the items that its lines add to the vertical list around it, the new previous depth of that list, the number of its lines,
-- the pass that admitted its breaks (None if the paragraph is empty), the total overhang of its overfull lines in scaled points, and its demerits.
pub record SetParagraph : Type 0 where
  pub items : Items
  pub depth : ℤ
  pub lines : ℕ
  pub pass : Option Pass
  pub overhang : ℤ
  pub demerits : ℤ

-- A finished list with its breaks, after this previous depth.
abbrev pub with_breaks : List Node → Params → (previous_depth : ℤ) → Breaks → BrokenParagraph
with_breaks list params previous_depth breaks = broken_list list breaks.lines.items params previous_depth

-- A finished list is set by its breaks: the items that its lines add, the depth after them, the number of lines, and the results of the breaks.
pub record IsSet (list : List Node) (params : Params) (previous_depth : ℤ) (set : SetParagraph) : Type 0 where
  pub breaks : Breaks
  pub broken : IsBroken (facts_of list) params breaks
  pub fit : lines_fit (with_breaks list params previous_depth breaks) ≡ true
  pub items : set.items ≡ items_of (vertical_items (with_breaks list params previous_depth breaks))
  pub depth : set.depth ≡ last_depth (with_breaks list params previous_depth breaks)
  pub lines : set.lines ≡ length breaks.lines.items
  pub pass : set.pass ≡ Some breaks.pass
  pub overhang : set.overhang ≡ breaks.overhang
  pub demerits : set.demerits ≡ breaks.demerits

-- An empty paragraph has no lines (TeX: The Program, part 47, §1096).
abbrev pub set_empty : (previous_depth : ℤ) → SetParagraph
set_empty previous_depth = record { items = none; depth = previous_depth; lines = 0; pass = None; overhang = pos 0; demerits = pos 0 }

-- A paragraph is set; if it is not empty, its finished list is.
abbrev pub IsSetParagraph : List Node → Params → (previous_depth : ℤ) → SetParagraph → Type 0
IsSetParagraph [] params previous_depth set = set ≡ set_empty previous_depth
IsSetParagraph (x ∷ rest) params previous_depth set = IsSet (finished_list (x ∷ rest) params.par_fill_skip) params previous_depth set

-- Why a paragraph cannot be broken into lines, which depends on its list and parfillskip: its finished list has glue that shrinks in an infinite
-- order, or otherwise too many legal places. An empty paragraph can always be broken (TeX: The Program, part 38, §825; own: the number of places).
abbrev pub break_fault : List Node → (par_fill_skip : Glue) → Option BreakFault
break_fault [] par_fill_skip = None
break_fault (x ∷ rest) par_fill_skip = refusal (finished_list (x ∷ rest) par_fill_skip)

-- A finished list has breaks for which a line does not fit (own).
abbrev pub HasLargeLine : List Node → Params → (previous_depth : ℤ) → Type 0
HasLargeLine list params previous_depth =
    (breaks : Breaks) × IsBroken (facts_of list) params breaks × (lines_fit (with_breaks list params previous_depth breaks) ≡ false)

-- Why a finished list is not set: glue that shrinks in an infinite order, or otherwise too many legal places, both exactly; or otherwise a line that
-- does not fit. Memory can be refused if the list can be broken, before all lines are stacked (own).
abbrev pub IsUnsetList : List Node → Params → (previous_depth : ℤ) → ParagraphFault → Type 0
IsUnsetList list params previous_depth InfiniteShrink = refusal list ≡ Some breaking.InfiniteShrink
IsUnsetList list params previous_depth TooManyBreaks = refusal list ≡ Some breaking.TooManyBreaks
IsUnsetList list params previous_depth DimensionTooLarge = (refusal list ≡ None) × HasLargeLine list params previous_depth
IsUnsetList list params previous_depth OutOfMemory = refusal list ≡ None

-- Why a finished list is not set that cannot be broken into lines (own).
abbrev pub unset_by : BreakFault → ParagraphFault
unset_by breaking.InfiniteShrink = InfiniteShrink
unset_by breaking.TooManyBreaks = TooManyBreaks
unset_by breaking.OutOfMemory = OutOfMemory

-- Why a finished list is not set whose lines cannot be stacked (own).
abbrev pub unstacked_by : SizeFault → ParagraphFault
unstacked_by stacking.DimensionTooLarge = DimensionTooLarge
unstacked_by stacking.OutOfMemory = OutOfMemory

-- Why a paragraph is not set: it is not empty, and its finished list is not set (own).
abbrev pub IsUnset : List Node → Params → (previous_depth : ℤ) → ParagraphFault → Type 0
IsUnset [] params previous_depth fault = ⊥
IsUnset (x ∷ rest) params previous_depth fault = IsUnsetList (finished_list (x ∷ rest) params.par_fill_skip) params previous_depth fault
