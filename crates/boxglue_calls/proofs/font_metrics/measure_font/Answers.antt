-- The metrics that were read are handed over.
use Rattle.boxglue_calls.proofs.font_metrics.measure_font.Goals as goal

pub returns-in-Ok : goal.returns-in-Ok
returns-in-Ok c = c.hand_over_metrics.ensures c.args.tfm.now c.args.size c.in-Ok.ensures.ok
