-- The rows of what was seen are written.
use Rattle.std.proofs.Common.{◌-◌, [], List, ℕ}
use Rattle.dvi_ops.specs.File.{MarkedPage}
use Rattle.dvi_ops.specs.Fonts.{WidthsByName}
use Rattle.dvi_ops.specs.Instruction.{Definition}
use Rattle.boxglue_calls.specs.MarkTables.{mark_outputs}
use Rattle.boxglue_calls.specs.Private.MarkRows.{CanBeWritten}
use Rattle.boxglue_calls.proofs.RowSteps.{IsWriting}
use Rattle.boxglue_calls.proofs.mark_rows.write_rows.Given as goal

abbrev pub invariant-loop-item : goal.invariant-loop-item
invariant-loop-item l = (metrics : WidthsByName) (table : List Definition) (places : List ℕ) (all : List MarkedPage)
    → CanBeWritten metrics table l.initial.seen_items (mark_outputs l.initial.pages l.initial.marks []) places all
    → IsWriting metrics table l.initial.seen_items (mark_outputs l.initial.pages l.initial.marks []) (mark_outputs l.pages l.marks []) l.written
    places all l.seen_items

abbrev pub decreases-loop-item : goal.decreases-loop-item
decreases-loop-item l = l.seen_items.file.now.post - l.seen_items.at
