use Rattle.std.proofs.Common.{◌≡◌, ◌<◌, length}
use Rattle.break_core.specs.Private.Offers.{AreBestFor}
use Rattle.break_core.proofs.offering.put_rest.Given as goal

abbrev pub invariant-loop-index : goal.invariant-loop-index
invariant-loop-index l = record {
  low : l.fn.group.start < l.index;
  long : length l.best ≡ 4;
  best : AreBestFor l.table l.params l.fn.group.start l.index l.best;
}
