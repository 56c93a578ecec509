use Rattle.dvi_ops.proofs.Forests.{walked_forest}
use Rattle.dvi_ops.proofs.page_body_laws.passed_is_body.Goals as goal

pub returns : goal.returns
returns c = walked_forest
