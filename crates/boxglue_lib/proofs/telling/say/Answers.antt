use Rattle.boxglue_program.proofs.WritingLemmas.{either_way}
use Rattle.boxglue_lib.proofs.telling.say.Goals as goal

pub returns : goal.returns
returns g c = either_way c.write_text.result c.write_text.ensures.all c.write_text.ensures.front
