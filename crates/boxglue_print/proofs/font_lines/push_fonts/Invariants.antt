-- The text so far, followed by the lines of the other fonts, is the whole.
use Rattle.std.proofs.Common.{◌≡◌, ◌++◌, drop, map}
use Rattle.std.specs.List.{flat_map}
use Rattle.dvi_ops.specs.View.{definition}
use Rattle.boxglue_print.specs.FontLines.{font_line}
use Rattle.boxglue_print.proofs.font_lines.push_fonts.Given as goal

abbrev pub invariant-loop-font : goal.invariant-loop-font
invariant-loop-font l =
    l.out.items ++ flat_map font_line (map definition (drop l.font-index l.fonts)) ≡ l.initial.out.items ++ flat_map font_line (map definition l.fonts)
