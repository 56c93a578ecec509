use Rattle.std.proofs.Common.{refl}
use Rattle.scaled_core.specs.Badness.{badness_of, badness_ratio, ratio_badness}
use Rattle.scaled_core.specs.Rounding.{nearest}
use Rattle.pack_core.specs.Boxes.{vbox}
use Rattle.pack_core.specs.Glue.{highest, setting_of, setting_badness}
use Rattle.vert_core.specs.Places.{place_penalty}
use Rattle.vert_core.specs.Costs.{stretching_badness, shrinking_badness, badness_to, front_badness, cost, is_last}
use Rattle.vert_core.specs.Split.{split_place, front_of, rest_of, refusal, split_numbers}
use Rattle.vert_core.proofs.laws.specials_alone_are_left.Goals as goal

pub returns : goal.returns
unfolding split_place place_penalty front_badness badness_to stretching_badness shrinking_badness cost is_last front_of rest_of refusal split_numbers vbox setting_of setting_badness highest badness_of badness_ratio ratio_badness nearest
returns c = record { nodes = refl; sizes = refl }
