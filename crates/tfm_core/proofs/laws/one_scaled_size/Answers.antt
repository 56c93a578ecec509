use Rattle.tfm_core.proofs.ScalingLemmas.{IsScaled-is}
use Rattle.tfm_core.proofs.laws.one_scaled_size.Goals as goal

pub returns : goal.returns
returns c = IsScaled-is
