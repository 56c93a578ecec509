use Rattle.std.proofs.Common.{◌≡◌, ◌+◌, ◌-◌, ◌<◌, ℕ, List}
use Rattle.node_core.specs.declared.tree.Node.{Node}
use Rattle.break_lines.specs.Facts.{facts_of}
use Rattle.break_lines.specs.Private.Marks.{marks_of}
use Rattle.break_lines.specs.Steady.{IsRising}
use Rattle.break_lines.proofs.steady.is_steady.Given as goal

abbrev pub invariant-loop-next : goal.invariant-loop-next
invariant-loop-next l =
    (list : List Node) → l.marks ≡ marks_of list → (b : ℕ) → 0 < b → b + 1 < l.next
    → IsRising (facts_of list) 0 b × IsRising (facts_of list) (b - 1) b
