use Rattle.boxglue_program.proofs.SessionScripts.{run_is_session, script_texts, session_is_run}
use Rattle.boxglue_program.proofs.laws.a_session_over_a_good_script.Goals as goal

pub returns-clause-texts : goal.returns-clause-texts
returns-clause-texts c = script_texts

pub returns-clause-run : goal.returns-clause-run
returns-clause-run c = session_is_run

pub returns-clause-session : goal.returns-clause-session
returns-clause-session c = run_is_session
