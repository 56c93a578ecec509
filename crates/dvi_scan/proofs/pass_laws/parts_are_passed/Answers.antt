use Rattle.std.proofs.Common.{[]}
use Rattle.dvi_scan.proofs.PartLemmas.{passes-parts}
use Rattle.dvi_scan.proofs.pass_laws.parts_are_passed.Goals as goal

pub returns : goal.returns
returns c = λ does most parts pages e deep. passes-parts does most parts [] pages e deep
