-- What is read of the end of a file.
use Rattle.std.proofs.Common.{inl, map, refl}
use Rattle.dvi_scan.proofs.ErrLemmas.{handed_on}
use Rattle.dvi_ops.specs.View.{definition, units as units_of}
use Rattle.dvi_read.specs.Faults.{of_frame}
use Rattle.boxglue_print.specs.Fonts.{BreaksFonts}
use Rattle.boxglue_print.proofs.FontLemmas.{breaks, defines}
use Rattle.boxglue_print.proofs.fonts.defined_fonts.Goals as goal

pub returns-in_err-ending-clause-bad : goal.returns-in_err-ending-clause-bad
returns-in_err-ending-clause-bad c =
    handed_on (BreaksFonts c.args.dvi.now) c.from_residual.result c.in_err-ending.field-0.0 c.from_residual.ensures.1 (inl c.in_err-ending.ensures.bad)

pub returns-in_err-read_trailing_definitions-clause-bad : goal.returns-in_err-read_trailing_definitions-clause-bad
returns-in_err-read_trailing_definitions-clause-bad c =
    let frame = c.in_err-read_trailing_definitions.field-0.0 in
    handed_on (BreaksFonts c.args.dvi.now) c.from_residual-in_err-read_trailing_definitions.result (of_frame frame) c.from_residual-in_err-read_trailing_definitions.ensures.1
    (breaks c.args.dvi.now c.in_ok-ending.field-0 c.new-known.result c.read_trailing_definitions.new.known frame c.new-known.ensures c.in_ok-ending.ensures.ok c.in_err-read_trailing_definitions.ensures.bad)

pub returns-clause-ok : goal.returns-clause-ok
returns-clause-ok c =
    let front = c.in_ok-ending.field-0 in
    defines c.args.dvi.now front (units_of front.ending.postamble.units) c.new-known.result c.read_trailing_definitions.new.known
    (map definition c.into_all.result.items) refl c.new-known.ensures c.in_ok-ending.ensures.ok
    c.in_ok-read_trailing_definitions.ensures.ok c.into_all.ensures
