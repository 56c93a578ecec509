use Rattle.boxglue_calls.proofs.JobGlyphs.{box_of_run_across}
use Rattle.boxglue_calls.proofs.jobs.item_laws.job_boxes_have_glyphs_across.Goals as goal

pub returns : goal.returns
returns c = box_of_run_across
