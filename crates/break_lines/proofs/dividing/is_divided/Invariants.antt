use Rattle.std.proofs.Common.{◌≡◌, ◌+◌, ◌<◌, ℕ, List, length}
use Rattle.node_core.specs.declared.tree.Node.{Node}
use Rattle.break_lines.specs.Legal.{legal_places}
use Rattle.break_lines.specs.Facts.{facts_of}
use Rattle.break_lines.specs.Private.Marks.{marks_of}
use Rattle.break_lines.specs.Divided.{AddsLess}
use Rattle.break_lines.proofs.dividing.is_divided.Given as goal

abbrev pub invariant-loop-next : goal.invariant-loop-next
invariant-loop-next l =
    (list : List Node) → l.marks ≡ marks_of list → (m : ℕ) → 0 < m → m + 1 < l.next
    → AddsLess (facts_of list) l.amount 0 m (length (legal_places list))
