use Rattle.std.proofs.Common.{sym, subst}
use Rattle.break_lines.specs.Private.SmallMarks.{AreSmallMarks}
use Rattle.break_lines.proofs.list_meter.ListMeterMeter.is_divided.Goals as goal

pub is_divided-requires-clause-marks_bounded : goal.is_divided-requires-clause-marks_bounded
is_divided-requires-clause-marks_bounded c = subst AreSmallMarks (sym c.deref.ensures.value) c.args.self.now.mark_sums_bounded
