-- The end of a paragraph in the open lists (own; for the crates of the job alone).
use Rattle.std.specs.Prelude.{◌≡◌, ◌<◌, ◌≤◌, ◌+◌, List, length, Option, Some, None, Ok}
use Rattle.node_core.specs.declared.limits.TheConstants.{MAX_DEPTH, MAX_ITEMS}
use Rattle.node_core.specs.declared.params.Params.{Params}
use Rattle.node_core.specs.Items.{Items, items_depth}
use Rattle.node_core.specs.Nodes.{nodes_of}
use Rattle.vert_core.specs.declared.appending.AppendedParagraph.{AppendedParagraph}
use Rattle.vert_core.specs.declared.appending.UnappendedLines.{UnappendedLines}
use Rattle.vert_core.specs.declared.appending.UnappendedLines.TheVariants as unappended
use Rattle.vert_core.specs.Appended.{IsUnappended}
use Rattle.vert_core.specs.Paragraphs.{SetParagraph, IsUnset}
use Rattle.job_machine.specs.declared.replies.Refusal.{Refusal}
use Rattle.job_machine.specs.declared.replies.Refusal.TheVariants.{TooDeep, ListTooLong}
use Rattle.job_machine.specs.declared.OpenList.{OpenList}
use Rattle.job_machine.specs.State.{innermost, items_in}
use Rattle.job_machine.specs.Paragraphs.{depth_in, paragraph_refusal, set_after, with_lines}

-- A paragraph of these items was set after the lists around it, and its lines are at the end of the innermost of them.
pub record IsEnded (params : Params) (around : List OpenList) (items : Items) (after : List OpenList) (figures : AppendedParagraph) : Type 0 where
  pub set : SetParagraph
  pub is_set : set_after params around items ≡ Ok set
  pub shallow : items_depth set.items ≤ MAX_DEPTH
  pub short : length (nodes_of (items_in (innermost around))) + length (nodes_of set.items) ≤ MAX_ITEMS
  pub nest : after ≡ with_lines around (innermost around) (Ok set)
  pub lines : figures.lines ≡ set.lines
  pub pass : figures.pass ≡ set.pass
  pub overhang : figures.overhang ≡ set.overhang
  pub demerits : figures.demerits ≡ set.demerits

-- Why it was not.
abbrev pub IsRefused : Params → (around : List OpenList) → Items → UnappendedLines → Type 0
IsRefused params around items lines =
    IsUnappended (set_after params around items) (IsUnset (nodes_of items) params (depth_in (innermost around)))
    (nodes_of (items_in (innermost around))) lines

-- The refusal of lines that are not appended. None where memory was refused.
abbrev pub refusal_of : UnappendedLines → Option Refusal
refusal_of (unappended.Unset fault) = paragraph_refusal fault
refusal_of unappended.TooDeep = Some TooDeep
refusal_of unappended.TooLong = Some ListTooLong
