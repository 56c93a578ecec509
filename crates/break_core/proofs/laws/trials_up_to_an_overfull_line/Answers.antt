use Rattle.break_core.proofs.Joined.{up_to_overfull}
use Rattle.break_core.proofs.laws.trials_up_to_an_overfull_line.Goals as goal

pub returns : goal.returns
returns c = up_to_overfull
