use Rattle.pack_core.proofs.Edge.{fills}
use Rattle.pack_core.proofs.laws.list_fills_its_box.Goals as goal

pub returns : goal.returns
returns c = fills
