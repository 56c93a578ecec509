use Rattle.dvi_write.proofs.Writings.{ended_part, part_more}
use Rattle.dvi_write.proofs.laws.a_failed_device_has_a_beginning.Goals as goal

pub returns : goal.returns
returns c = record { page = part_more; end = ended_part }
