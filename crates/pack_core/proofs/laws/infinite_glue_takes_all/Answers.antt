use Rattle.std.proofs.Common.{refl}
use Rattle.scaled_core.specs.Rounding.{nearest, rounded}
use Rattle.scaled_core.specs.Fractions.{round_times}
use Rattle.scaled_core.specs.Badness.{badness_of}
use Rattle.pack_core.specs.Glue.{highest, setting_of, setting_badness}
use Rattle.pack_core.specs.Boxes.{hbox}
use Rattle.pack_core.specs.Places.{place}
use Rattle.pack_core.proofs.laws.infinite_glue_takes_all.Goals as goal

pub returns-clause-normal : goal.returns-clause-normal
unfolding hbox setting_of setting_badness highest place round_times rounded nearest badness_of
returns-clause-normal c = refl

pub returns-clause-fil : goal.returns-clause-fil
unfolding hbox setting_of setting_badness highest place round_times rounded nearest badness_of
returns-clause-fil c = refl

pub returns-clause-badness : goal.returns-clause-badness
unfolding hbox setting_of setting_badness highest place round_times rounded nearest badness_of
returns-clause-badness c = refl
