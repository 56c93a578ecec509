use Rattle.boxglue_program.proofs.SessionScripts.{runs_in_pieces, texts_in_pieces}
use Rattle.boxglue_program.proofs.laws.a_session_in_pieces.Goals as goal

pub returns-clause-texts : goal.returns-clause-texts
returns-clause-texts c = texts_in_pieces

pub returns-clause-runs : goal.returns-clause-runs
returns-clause-runs c = runs_in_pieces
