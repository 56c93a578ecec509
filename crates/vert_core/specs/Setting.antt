-- The setting of a paragraph as a function, by which `append_paragraph` sets it, and which the machine's table uses (own; the law `one_setting` says
-- that it agrees with `IsSetParagraph` and `IsUnset`).
use Rattle.std.specs.Prelude.{ℤ, if◌then◌else◌, List, [], ◌∷◌, length, map, reverse, Option, Some, None, Result, Ok, Err}
use Rattle.node_core.specs.declared.params.Params.{Params}
use Rattle.node_core.specs.declared.tree.Node.{Node}
use Rattle.node_core.specs.Nodes.{items_of}
use Rattle.break_lines.specs.Problems.{Path, ends_of}
use Rattle.break_core.specs.declared.broken.LineEnd.{LineEnd}
use Rattle.break_core.specs.declared.broken.Pass.{Pass}
use Rattle.break_core.specs.declared.broken.Pass.TheVariants.{First, Second, Third}
use Rattle.break_lines.specs.declared.fault.BreakFault.{BreakFault}
use Rattle.break_lines.specs.declared.fault.BreakFault.TheVariants as breaking
use Rattle.break_lines.specs.Facts.{Facts, facts_of, refusal}
use Rattle.break_core.specs.Passes.{bound_of, problem_of, line_end_at}
use Rattle.vert_core.specs.declared.paragraph.ParagraphFault.{ParagraphFault}
use Rattle.vert_core.specs.declared.paragraph.ParagraphFault.TheVariants.{InfiniteShrink, TooManyBreaks, DimensionTooLarge, OutOfMemory}
use Rattle.vert_core.specs.LeastLists.{least_path}
use Rattle.vert_core.specs.Lines.{BrokenParagraph, broken_list, vertical_items, last_depth, lines_fit}
use Rattle.vert_core.specs.Finished.{finished_list}
use Rattle.vert_core.specs.Paragraphs.{SetParagraph, set_empty}

-- A pass, and the lines that are chosen in it.
pub record ChosenLines : Type 0 where
  pub pass : Pass
  pub path : Path

-- The best list of a pass, if it admits one, and otherwise what is chosen later.
abbrev pub chosen_or : Pass → Option Path → Option ChosenLines → Option ChosenLines
chosen_or pass None later = later
chosen_or pass (Some path) later = Some (record { pass = pass; path = path })

-- The best list of the first pass that admits one.
unfoldable pub chosen_lines : Facts → Params → Option ChosenLines
chosen_lines facts params =
    chosen_or First (least_path (problem_of facts params (bound_of params First)))
    (chosen_or Second (least_path (problem_of facts params (bound_of params Second)))
    (chosen_or Third (least_path (problem_of facts params (bound_of params Third))) None))

-- The ends of the lines of a list, by the chosen lines.
abbrev pub ends_by : List Node → ChosenLines → List LineEnd
ends_by list chosen = map (line_end_at (facts_of list)) (reverse (ends_of chosen.path))

-- A finished list in these lines.
abbrev pub paragraph_in_lines : List Node → Params → (previous_depth : ℤ) → ChosenLines → BrokenParagraph
paragraph_in_lines list params previous_depth chosen = broken_list list (ends_by list chosen) params previous_depth

-- The paragraph that is set by them.
abbrev pub set_by : List Node → Params → (previous_depth : ℤ) → ChosenLines → SetParagraph
set_by list params previous_depth chosen =
    record {
      items = items_of (vertical_items (paragraph_in_lines list params previous_depth chosen));
      depth = last_depth (paragraph_in_lines list params previous_depth chosen);
      lines = length (ends_by list chosen);
      pass = Some chosen.pass;
      overhang = chosen.path.overhang;
      demerits = chosen.path.demerits;
    }

-- A finished list that can be broken is set, or a line does not fit. The last pass always admits a list.
abbrev pub set_if_fit : List Node → Params → (previous_depth : ℤ) → Option ChosenLines → Result SetParagraph ParagraphFault
set_if_fit list params previous_depth None = Err DimensionTooLarge
set_if_fit list params previous_depth (Some chosen) =
    if lines_fit (paragraph_in_lines list params previous_depth chosen) then Ok (set_by list params previous_depth chosen) else Err DimensionTooLarge

-- Why a list cannot be broken, or otherwise its setting.
abbrev pub set_or : Option BreakFault → Result SetParagraph ParagraphFault → Result SetParagraph ParagraphFault
set_or None set = set
set_or (Some breaking.InfiniteShrink) set = Err InfiniteShrink
set_or (Some breaking.TooManyBreaks) set = Err TooManyBreaks
set_or (Some breaking.OutOfMemory) set = Err OutOfMemory

-- The setting of a finished list.
unfoldable pub list_setting : List Node → Params → (previous_depth : ℤ) → Result SetParagraph ParagraphFault
list_setting list params previous_depth =
    set_or (refusal list) (set_if_fit list params previous_depth (chosen_lines (facts_of list) params))

-- The setting of a paragraph: that of its finished list, if it is not empty.
unfoldable pub setting : List Node → Params → (previous_depth : ℤ) → Result SetParagraph ParagraphFault
setting [] params previous_depth = Ok (set_empty previous_depth)
setting (x ∷ rest) params previous_depth = list_setting (finished_list (x ∷ rest) params.par_fill_skip) params previous_depth
