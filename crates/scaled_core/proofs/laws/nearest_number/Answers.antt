use Rattle.scaled_core.proofs.RoundingLaws.{nearest-is, nearest-only, rounded-is, rounded-only}
use Rattle.scaled_core.proofs.laws.nearest_number.Goals as goal

pub returns-clause-upward : goal.returns-clause-upward
returns-clause-upward c = λ n d q positive. (nearest-only n d q positive, λ e. rw e (nearest-is n d positive))

pub returns-clause-away_from_zero : goal.returns-clause-away_from_zero
returns-clause-away_from_zero c = λ x d q positive. (rounded-only x d q positive, λ e. rw e (rounded-is x d positive))
