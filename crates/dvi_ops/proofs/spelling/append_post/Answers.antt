use Rattle.std.proofs.Common.{rules}
use Rattle.dvi_ops.proofs.spelling.append_post.Goals as goal

pub returns-clause-fits : goal.returns-clause-fits
returns-clause-fits c = (search rules, c.units_of.ensures.fits, search rules, search rules, c.two_halves.ensures.first_fits, c.two_halves.ensures.second_fits)
