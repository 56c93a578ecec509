-- A word that fits is a dimension.
use Rattle.std.specs.Int.{w32}
use Rattle.std.proofs.lemmas.Int.{to_z-of_z}
use Rattle.tfm_core.proofs.SizeLemmas.{Fits-in_64, Fits-from_test}
use Rattle.tfm_core.proofs.sized_file.dimension.Goals as goal

pub new-requires : goal.new-requires
new-requires c =
    Fits-in_64 c.scaled_fix.result
    (rw (c.scaled_fix.ensures.value, to_z-of_z w32 c.args.word c.ranges.word) (Fits-from_test c.args.size c.args.word c.requires))
