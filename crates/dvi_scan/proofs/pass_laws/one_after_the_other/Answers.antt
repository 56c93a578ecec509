use Rattle.dvi_scan.proofs.PartLemmas.{passes-append, passes-none}
use Rattle.dvi_scan.proofs.pass_laws.one_after_the_other.Goals as goal

pub returns-clause-both : goal.returns-clause-both
returns-clause-both c = passes-append

pub returns-clause-none : goal.returns-clause-none
returns-clause-none c = passes-none
