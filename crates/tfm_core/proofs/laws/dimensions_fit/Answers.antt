use Rattle.tfm_core.proofs.SizeLemmas.{is_dimen_at-fits}
use Rattle.tfm_core.proofs.laws.dimensions_fit.Goals as goal

pub returns : goal.returns
returns c = is_dimen_at-fits
