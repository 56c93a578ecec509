use Rattle.boxglue_program.proofs.WritingLemmas.{either_way}
use Rattle.boxglue_lib.proofs.telling.tell_in_parts.Goals as goal

pub returns : goal.returns
returns g c = either_way c.write_line.result c.write_line.ensures.all c.write_line.ensures.front
