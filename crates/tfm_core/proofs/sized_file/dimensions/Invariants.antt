use Rattle.std.proofs.Common.{◌≡◌, map, take}
use Rattle.tfm_core.specs.Scaling.{scaled}
use Rattle.tfm_core.proofs.sized_file.dimensions.Given as goal

abbrev pub invariant-loop-word : goal.invariant-loop-word
invariant-loop-word l = l.dimensions.items ≡ map (scaled l.size) (take l.word-index l.words)
