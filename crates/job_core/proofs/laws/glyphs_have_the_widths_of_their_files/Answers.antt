use Rattle.job_core.proofs.MeasuredPages.{measured_pages}
use Rattle.job_core.proofs.laws.glyphs_have_the_widths_of_their_files.Goals as goal

pub returns : goal.returns
returns c files n k commands replies m run = measured_pages files n commands replies m k run
