use Rattle.std.proofs.Common.{◌≡◌, ◌++◌, take, map}
use Rattle.dvi_ops.specs.Layout.{bytes_of}
use Rattle.dvi_ops.specs.View.{view}
use Rattle.dvi_write.proofs.layout.append_all.Given as goal

abbrev pub invariant-loop-op : goal.invariant-loop-op
invariant-loop-op l = l.bytes.items ≡ l.initial.bytes.items ++ bytes_of (map view (take l.op-index l.ops))
