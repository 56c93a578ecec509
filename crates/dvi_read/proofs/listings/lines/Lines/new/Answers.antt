-- All lines are still to come.
use Rattle.std.proofs.Common.{arith, refl}
use Rattle.dvi_read.proofs.listings.lines.Lines.new.Goals as goal

pub returns-clause-remaining : goal.returns-clause-remaining
returns-clause-remaining c = λ seen remaining. record { seen = seen; remaining = remaining; text_is = refl; counted = omega arith }
