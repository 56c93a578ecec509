-- A finished list that is broken, and whose lines are planned (own).
use Rattle.std.specs.Prelude.{◌≡◌, ℤ, true, List, length, map, flat_map, Some, None}
use Rattle.node_core.specs.declared.params.Params.{Params}
use Rattle.node_core.specs.declared.tree.Node.{Node}
use Rattle.break_lines.specs.Facts.{facts_of, refusal}
use Rattle.break_lines.specs.Legal.{up_to}
use Rattle.break_core.specs.Passes.{IsBroken}
use Rattle.vert_core.specs.declared.paragraph.PlannedParagraph.{PlannedParagraph}
use Rattle.vert_core.specs.Lines.{last_depth, lines_fit}
use Rattle.vert_core.specs.Paragraphs.{with_breaks}
use Rattle.vert_core.specs.Private.Planned.{plan_of_line, stacked_nodes}
use Rattle.vert_core.specs.TrialBounds.{AreFewTrials}

pub record IsPlanned (list : List Node) (params : Params) (previous_depth : ℤ) (paragraph : PlannedParagraph) : Type 0 where
  pub broken : IsBroken (facts_of list) params paragraph.breaks
  pub free : refusal list ≡ None
  pub fit : lines_fit (with_breaks list params previous_depth paragraph.breaks) ≡ true
  pub lines : paragraph.plan.lines.items ≡ map (plan_of_line (with_breaks list params previous_depth paragraph.breaks))
      (up_to (length paragraph.breaks.lines.items))
  pub count : paragraph.plan.count ≡ length (flat_map stacked_nodes paragraph.plan.lines.items)
  pub depth : paragraph.plan.depth ≡ last_depth (with_breaks list params previous_depth paragraph.breaks)
  pub trials : AreFewTrials (facts_of list) params (Some paragraph.breaks.pass) paragraph.trials
