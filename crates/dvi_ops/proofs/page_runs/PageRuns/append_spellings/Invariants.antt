use Rattle.std.proofs.Common.{◌≡◌, ◌++◌, length, map, take, drop}
use Rattle.std.specs.List.{AllByRecursion}
use Rattle.dvi_ops.specs.Layout.{bytes_of}
use Rattle.dvi_ops.specs.Runs.{instructions_of, woven_instructions}
use Rattle.dvi_ops.specs.Spelling.{HasSpelling}
use Rattle.dvi_ops.specs.View.{body_view}
use Rattle.dvi_ops.proofs.page_runs.PageRuns.append_spellings.Given as goal

abbrev pub invariant-loop-index : goal.invariant-loop-index
invariant-loop-index l = record {
  bytes : l.out.items ++ bytes_of (woven_instructions l.from l.rest (drop l.index l.self.places.items) (map body_view (drop l.index l.self.ops.items))) ≡ l.initial.out.items ++ bytes_of (instructions_of l.self);
  spelled : AllByRecursion HasSpelling (woven_instructions l.from l.rest (drop l.index l.self.places.items) (map body_view (drop l.index l.self.ops.items)));
  kept : take (length l.initial.out.items) l.out.items ≡ l.initial.out.items;
}
