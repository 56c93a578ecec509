use Rattle.break_core.proofs.Joined.{up_to_forced}
use Rattle.break_core.proofs.laws.trials_up_to_a_forced_place.Goals as goal

pub returns : goal.returns
returns c = up_to_forced
