use Rattle.std.proofs.Common.{refl}
use Rattle.scaled_core.specs.Rounding.{nearest, rounded}
use Rattle.scaled_core.specs.Fractions.{round_times}
use Rattle.scaled_core.specs.Badness.{badness_of}
use Rattle.pack_core.specs.Glue.{highest, setting_of, setting_badness}
use Rattle.pack_core.specs.Boxes.{hbox}
use Rattle.pack_core.specs.Places.{place}
use Rattle.pack_core.proofs.laws.ten_among_three.Goals as goal

pub returns-clause-first : goal.returns-clause-first
unfolding hbox setting_of setting_badness highest place round_times rounded nearest badness_of
returns-clause-first c = refl

pub returns-clause-second : goal.returns-clause-second
unfolding hbox setting_of setting_badness highest place round_times rounded nearest badness_of
returns-clause-second c = refl

pub returns-clause-third : goal.returns-clause-third
unfolding hbox setting_of setting_badness highest place round_times rounded nearest badness_of
returns-clause-third c = refl
