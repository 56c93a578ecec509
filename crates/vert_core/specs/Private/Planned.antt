-- The lines of a paragraph before and after their items are in them (own).
use Rattle.std.specs.Prelude.{◌+◌, ◌-◌, ◌++◌, ◌<◌, ◌≤◌, ℕ, ℤ, pos, nat_lt, if◌then◌else◌, List, [], ◌∷◌, length, take, drop, get_or, slice_get}
use Rattle.std.specs.Prelude.{Option, Some, None}
use Rattle.node_core.specs.Items.{none}
use Rattle.node_core.specs.Nodes.{IsPlain, items_of, nodes_of}
use Rattle.node_core.specs.declared.params.Params.{Params}
use Rattle.node_core.specs.declared.tree.BoxNode.{BoxNode}
use Rattle.node_core.specs.declared.tree.Node.{Node}
use Rattle.break_lines.specs.LineItems.{at_break}
pub use Rattle.break_lines.specs.Spans.{front_items, first_index}
use Rattle.vert_core.specs.declared.planning.PlannedLine.{PlannedLine}
use Rattle.vert_core.specs.Interline.{interline, glue_of, appended_nodes}
use Rattle.vert_core.specs.Lines.{BrokenParagraph, line_begin, line_box, depth_before, penalty_after, penalty_nodes}

-- The penalty between a line and the next one, of `count` lines, and 0 after the last line.
abbrev pub penalty_between : Params → (count line : ℕ) → ℤ
penalty_between params count line = if nat_lt (line + 1) count then penalty_after params count line else pos 0

-- A box without its items.
abbrev pub hollow_box : BoxNode → BoxNode
hollow_box b = record b { list = none }

-- A line of a paragraph without its items.
unfoldable pub plan_of_line : BrokenParagraph → ℕ → PlannedLine
plan_of_line p line =
    record {
      glue = glue_of (interline p.params (depth_before p line) (line_box p line).height);
      box_node = hollow_box (line_box p line);
      penalty = penalty_between p.params (length p.places) line;
      begin = first_index p.nodes (line_begin p.places line) (get_or p.places line 0);
      end = get_or p.places line 0;
    }

-- This number of items, and what a line keeps of the item after them.
abbrev pub items_with_break : (count : ℕ) → List Node → List Node
items_with_break count part = take count part ++ at_break (slice_get part count)

-- The box of a line, which keeps of its items what a line keeps.
abbrev pub closed_box : PlannedLine → BoxNode
closed_box line = record line.box_node { list = items_of (items_with_break (line.end - line.begin) (nodes_of line.box_node.list)) }

-- The nodes that a line adds to a vertical list.
unfoldable pub stacked_nodes : PlannedLine → List Node
stacked_nodes line = appended_nodes line.glue (pos 0) (closed_box line) ++ penalty_nodes line.penalty

-- A line with these items.
abbrev pub with_part : List Node → PlannedLine → PlannedLine
with_part part line = record line { box_node = record line.box_node { list = items_of part } }

-- The items of a list that a line needs: its own, and the item at its end.
abbrev pub part_of : List Node → PlannedLine → List Node
part_of list line = take (line.end - line.begin + 1) (drop line.begin list)

-- A line with a copy of these items.
abbrev pub copied_line : List Node → PlannedLine → PlannedLine
copied_line list line = with_part (part_of list line) line

-- Where the first of these lines begins; the end of the list if there is none.
abbrev pub next_begin : List PlannedLine → (end : ℕ) → ℕ
next_begin [] end = end
next_begin (line ∷ rest) end = line.begin

-- The lines with the items of a list up to an end, which is cut where each of them begins.
abbrev pub moved_lines : List Node → (end : ℕ) → List PlannedLine → List PlannedLine
moved_lines list end [] = []
moved_lines list end (line ∷ rest) = with_part (drop line.begin (take (next_begin rest end) list)) line ∷ moved_lines list end rest

-- The items in the box of a line.
abbrev pub items_in : PlannedLine → List Node
items_in line = nodes_of line.box_node.list

-- None of them is a box or a special.
abbrev pub HasPlainItems : PlannedLine → Type 0
HasPlainItems line = IsPlain (items_in line)

-- Each line begins no later than it ends, and ends before the next one begins, or before the bound.
abbrev pub AreInOrder : (bound : ℕ) → List PlannedLine → Type 0
AreInOrder bound [] = Unit {0}
AreInOrder bound (line ∷ rest) = (line.begin ≤ line.end) × (line.end < next_begin rest bound) × AreInOrder bound rest
