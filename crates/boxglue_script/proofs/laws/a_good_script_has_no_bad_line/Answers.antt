use Rattle.std.specs.Str.Lines.{lines}
use Rattle.boxglue_script.proofs.LineContentLaws.{script_said, said_script}
use Rattle.boxglue_script.proofs.laws.a_good_script_has_no_bad_line.Goals as goal

pub returns-clause-commands : goal.returns-clause-commands
returns-clause-commands c = λ text found said h k. (script_said 1 (lines text) found said h k).0

pub returns-clause-none : goal.returns-clause-none
returns-clause-none c = λ text found said h k. (script_said 1 (lines text) found said h k).1

pub returns-clause-good : goal.returns-clause-good
returns-clause-good c = λ text said h good. said_script 1 (lines text) said h good
