use Rattle.std.proofs.Common.{◌≡◌, ◌≤◌, ◌+◌, ◌++◌, length, take, drop, replicate, None, vec_len, vec_capacity}
use Rattle.break_lines.specs.Tables.{row_entries}
use Rattle.break_lines.proofs.row.move_offers.Given as goal

abbrev pub invariant-loop-index : goal.invariant-loop-index
invariant-loop-index l = record {
  table : l.table.items ≡ l.initial.table.items ++ row_entries (take l.index l.initial.row.items);
  row : l.row.items ≡ replicate l.index None ++ drop l.index l.initial.row.items;
  wide : length l.row.items ≡ length l.initial.row.items;
  space : vec_len l.table + vec_len l.initial.row ≤ vec_capacity l.table + l.index;
}
