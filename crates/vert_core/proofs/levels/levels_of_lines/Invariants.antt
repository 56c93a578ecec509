use Rattle.std.proofs.Common.{◌≡◌, min, take, map, flat_map}
use Rattle.node_core.specs.Items.{items_depth}
use Rattle.node_core.specs.Nodes.{items_of}
use Rattle.vert_core.specs.Private.Planned.{copied_line, stacked_nodes}
use Rattle.vert_core.proofs.levels.levels_of_lines.Given as goal

abbrev pub invariant-loop-line : goal.invariant-loop-line
invariant-loop-line l = l.deepest ≡ min (items_depth (items_of (flat_map stacked_nodes (map (copied_line l.nodes) (take l.line-index l.lines))))) 18446744073709551615
