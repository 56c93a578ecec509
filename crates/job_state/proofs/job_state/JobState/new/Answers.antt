use Rattle.std.proofs.Common.{refl}
use Rattle.job_state.proofs.job_state.JobState.new.Goals as goal

pub returns : goal.returns
returns c = rw (c.in_ok-files.ensures, c.in_ok-fonts.ensures, c.new-3.ensures, c.in_ok-registers.ensures, c.first.ensures) refl
