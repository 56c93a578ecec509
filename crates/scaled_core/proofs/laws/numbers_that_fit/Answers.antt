use Rattle.scaled_core.proofs.Fitting.{dimension_fits, fits_within}
use Rattle.scaled_core.proofs.laws.numbers_that_fit.Goals as goal

pub returns : goal.returns
returns c = λ z. (fits_within z, dimension_fits z)
