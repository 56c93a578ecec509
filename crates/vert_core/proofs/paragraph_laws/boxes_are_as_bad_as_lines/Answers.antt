use Rattle.vert_core.proofs.BadLines.{boxed_as_bad}
use Rattle.vert_core.proofs.paragraph_laws.boxes_are_as_bad_as_lines.Goals as goal

pub returns : goal.returns
returns c = boxed_as_bad
