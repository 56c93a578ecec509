use Rattle.boxglue_program.proofs.WritingLemmas.{either_way}
use Rattle.boxglue_lib.proofs.telling.say_out_of_memory.Goals as goal

pub returns : goal.returns
returns g c = either_way c.refuse_memory.result c.refuse_memory.ensures.said c.refuse_memory.ensures.unsaid
