use Rattle.std.proofs.Common.{◌≡◌, map, take}
use Rattle.dvi_ops.specs.View.{definition}
use Rattle.boxglue_calls.specs.FontTables.{names_of, rows_from}
use Rattle.boxglue_calls.proofs.font_table.table_of.Given as goal

abbrev pub invariant-loop-font : goal.invariant-loop-font
invariant-loop-font l =
    (l.fonts.items ≡ rows_from 0 (map definition (take l.font-index l.definitions))) × (l.text.items ≡ names_of (map definition (take l.font-index l.definitions)))
