use Rattle.boxglue_program.proofs.RunLaws.{silent_run}
use Rattle.boxglue_program.proofs.laws.a_run_without_a_page_sends_nothing.Goals as goal

pub returns : goal.returns
returns c = silent_run
