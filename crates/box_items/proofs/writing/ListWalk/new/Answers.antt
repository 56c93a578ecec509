use Rattle.std.proofs.Common.{◌∙◌, ap}
use Rattle.std.specs.Int.{int_wrap, w128}
use Rattle.box_items.proofs.Wrapped.{passed_on, placed}
use Rattle.box_items.proofs.writing.ListWalk.new.Goals as goal

pub returns-clause-place : goal.returns-clause-place
returns-clause-place c = passed_on c.place.result _ (placed c.place.result c.place.ensures.value_bounded ∙ ap (int_wrap w128) c.place.ensures.value)
