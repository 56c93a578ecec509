use Rattle.dvi_ops.proofs.Forests.{walk-meaning}
use Rattle.dvi_ops.proofs.page_body_laws.pass_is_meaning.Goals as goal

pub returns : goal.returns
returns c = walk-meaning
