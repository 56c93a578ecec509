use Rattle.std.proofs.Common.{◌≡◌, ◌≤◌, length}
use Rattle.break_lines.specs.Tables.{slots}
use Rattle.break_core.specs.Private.Filling.{IsOffering}
use Rattle.break_core.proofs.offering.offer_each.Given as goal

abbrev pub invariant-loop-index : goal.invariant-loop-index
invariant-loop-index l = record {
  low : l.fn.group.start ≤ l.index;
  wide : length l.row.items ≡ slots l.at.rules.now.params.now.first_lines;
  row : IsOffering l.at.table.now l.at.rules.now.params.now l.at.rules.now.bound l.fn.group l.at.place l.at.penalty l.fn.line l.fn.group.start l.index l.initial.row.items l.row.items;
}
