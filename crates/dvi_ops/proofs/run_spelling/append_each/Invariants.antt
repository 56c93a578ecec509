use Rattle.std.proofs.Common.{◌≡◌, ◌++◌, take}
use Rattle.dvi_ops.specs.Layout.{bytes_of}
use Rattle.dvi_ops.specs.Runs.{characters}
use Rattle.dvi_ops.proofs.run_spelling.append_each.Given as goal

abbrev pub invariant-loop-code : goal.invariant-loop-code
invariant-loop-code l = l.out.items ≡ l.initial.out.items ++ bytes_of (characters (take l.code-index l.codes))
