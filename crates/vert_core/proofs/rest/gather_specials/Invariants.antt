use Rattle.std.proofs.Common.{◌≡◌, ◌<◌, ◌-◌, length, take, drop}
use Rattle.std.specs.List.{filter}
use Rattle.vert_core.specs.Split.{is_special}
use Rattle.vert_core.proofs.rest.gather_specials.Given as goal

abbrev pub invariant-loop-index : goal.invariant-loop-index
invariant-loop-index l = record {
  specials : take l.specials l.nodes.items ≡ filter is_special (take (l.index - 1) (drop 1 l.initial.nodes.items));
  below : drop l.index l.nodes.items ≡ drop l.index l.initial.nodes.items;
  few : l.specials < l.index;
  length : length l.nodes.items ≡ length l.initial.nodes.items;
}
