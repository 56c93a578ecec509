use Rattle.boxglue_program.proofs.OutcomeLaws.{accepting_all, accepting_run}
use Rattle.boxglue_program.proofs.laws.outcomes_of_replies.Goals as goal

pub returns-clause-commands : goal.returns-clause-commands
returns-clause-commands c = accepting_all

pub returns-clause-run : goal.returns-clause-run
returns-clause-run c = accepting_run
