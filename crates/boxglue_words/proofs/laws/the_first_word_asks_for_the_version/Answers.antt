-- `clap`'s definition, computed on the first word.
use Rattle.std.proofs.Common.{refl}
use Rattle.clap.proofs.OnLiterals.{clap_on_literals}
use Rattle.boxglue_words.specs.Tasks.{version}
use Rattle.boxglue_words.proofs.laws.the_first_word_asks_for_the_version.Goals as goal

pub returns-clause-long : goal.returns-clause-long
unfolding clap_on_literals
returns-clause-long c = λ rest. (version, refl, tt)

pub returns-clause-short : goal.returns-clause-short
unfolding clap_on_literals
returns-clause-short c = λ rest. (version, refl, tt)
