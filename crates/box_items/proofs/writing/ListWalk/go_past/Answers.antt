use Rattle.box_items.proofs.Wrapped.{sub_wrapped}
use Rattle.box_items.proofs.writing.ListWalk.go_past.Goals as goal

pub returns-clause-distance : goal.returns-clause-distance
returns-clause-distance c = sub_wrapped _ _ _ _ c.pass.ensures.place c.requires.place
