use Rattle.tfm_core.proofs.LawLemmas.{Takes-taken_steps, taken_steps-rising}
use Rattle.tfm_core.proofs.laws.steps_that_are_taken.Goals as goal

pub returns-clause-list : goal.returns-clause-list
returns-clause-list c = Takes-taken_steps

pub returns-clause-rising : goal.returns-clause-rising
returns-clause-rising c = taken_steps-rising
