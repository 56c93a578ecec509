use Rattle.std.proofs.Common.{◌≡◌, ◌++◌, map, take}
use Rattle.std.specs.List.{AllByRecursion}
use Rattle.dvi_ops.specs.Layout.{define}
use Rattle.dvi_ops.specs.Spelling.{HasSpelling}
use Rattle.dvi_ops.specs.View.{view}
use Rattle.dvi_write.specs.FilePages.{definitions_of}
use Rattle.dvi_write.proofs.layout.append_definitions.Given as goal

abbrev pub invariant-loop-slot : goal.invariant-loop-slot
invariant-loop-slot l = record {
  ops : map view l.ops.items ≡ map view l.initial.ops.items ++ define (definitions_of l.fonts (take l.slot-index l.slots));
  few : AllByRecursion HasSpelling (map view l.ops.items);
}
