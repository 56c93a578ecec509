use Rattle.boxglue_calls.proofs.StepCounts.{buffer_suffices, steps_fit}
use Rattle.boxglue_calls.proofs.laws.steps_suffice.Goals as goal

pub returns : goal.returns
returns c = record { steps = steps_fit; enough = buffer_suffices }
