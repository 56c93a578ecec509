use Rattle.std.proofs.Common.{◌≡◌, ◌+◌, ◌<◌, ℕ, true, false, List}
use Rattle.std.specs.List.{list_any}
use Rattle.node_core.specs.declared.tree.Node.{Node}
use Rattle.break_lines.specs.Private.Marks.{marks_of, has_negative_stretch}
use Rattle.break_lines.proofs.Evenness.{GoesOn}
use Rattle.break_lines.proofs.even.is_even.Given as goal

abbrev pub invariant-loop-next : goal.invariant-loop-next
invariant-loop-next l =
    (list : List Node) → l.marks ≡ marks_of list → (l.stretch_grows ≡ true → list_any has_negative_stretch list ≡ false) → (k : ℕ) → k + 1 < l.next → GoesOn list k
