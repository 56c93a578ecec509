use Rattle.std.proofs.Common.{◌/◌, ◌<◌, length, rules}
use Rattle.tfm_core.proofs.CharacterSets.{inserted}
use Rattle.tfm_core.proofs.character_set.CharacterSet.insert.Goals as goal

pub returns : goal.returns
returns c i small =
    let within : c.args.character / 64 < length c.args.self.now.words = search rules in
    rw c.from-word.ensures (inserted c.args.self.now.words c.args.character i within)
