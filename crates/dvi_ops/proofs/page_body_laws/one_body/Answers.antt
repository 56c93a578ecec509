use Rattle.dvi_ops.proofs.Forests.{one_forest}
use Rattle.dvi_ops.proofs.page_body_laws.one_body.Goals as goal

pub returns : goal.returns
returns c = one_forest
