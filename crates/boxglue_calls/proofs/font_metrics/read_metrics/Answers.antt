-- The font that was read has the numbers of its bytes.
use Rattle.tfm_core.proofs.FontReading.{front_holds}
use Rattle.boxglue_calls.proofs.MeasuredFonts.{metrics_are}
use Rattle.boxglue_calls.proofs.MetricLaws.{read_from}
use Rattle.boxglue_calls.proofs.font_metrics.read_metrics.Goals as goal

pub returns-in-Err-clause-refused : goal.returns-in-Err-clause-refused
returns-in-Err-clause-refused c = let is = c.in_ok-font.ensures.ok in front_holds c.args.tfm.now is.metrics is.read

pub new-measured-requires-clause-read : goal.new-measured-requires-clause-read
new-measured-requires-clause-read c = (read_from c.args.tfm.now c.args.size c.in_ok-font.font c.in_ok-font.ensures.ok).read

pub new-measured-requires-clause-sized : goal.new-measured-requires-clause-sized
new-measured-requires-clause-sized c = (read_from c.args.tfm.now c.args.size c.in_ok-font.font c.in_ok-font.ensures.ok).sized

pub returns-clause-ok : goal.returns-clause-ok
returns-clause-ok c =
    metrics_are c.args.tfm.now c.args.size c.in_ok-font.font (read_from c.args.tfm.now c.args.size c.in_ok-font.font c.in_ok-font.ensures.ok)
    c.new-measured.result.bytes.now c.new-measured.result.font.now _ _ _ c.new-measured.ensures.bytes c.new-measured.ensures.font
    c.glyphs.ensures c.parameters.ensures c.in-Ok.ensures
