use Rattle.boxglue_script.proofs.LineContentLaws.{say_one}
use Rattle.boxglue_script.proofs.laws.lines_say_one_thing.Goals as goal

pub returns : goal.returns
returns c = say_one
