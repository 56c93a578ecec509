use Rattle.scaled_core.proofs.BadnessLaws.{badness_of-is, badness_of-only}
use Rattle.scaled_core.proofs.laws.one_badness.Goals as goal

pub returns : goal.returns
returns c = λ t s b at_least. (badness_of-only t s b at_least, λ e. rw e (badness_of-is t s at_least))
