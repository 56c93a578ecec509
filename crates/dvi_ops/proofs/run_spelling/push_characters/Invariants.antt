use Rattle.std.proofs.Common.{◌≡◌, ◌++◌, map, take}
use Rattle.dvi_ops.specs.Runs.{characters}
use Rattle.dvi_ops.specs.View.{body_view}
use Rattle.dvi_ops.proofs.run_spelling.push_characters.Given as goal

abbrev pub invariant-loop-code : goal.invariant-loop-code
invariant-loop-code l = map body_view l.out.items ≡ map body_view l.initial.out.items ++ characters (take l.code-index l.codes)
