use Rattle.std.proofs.Common.{refl, ap}
use Rattle.job_state.specs.contracts.job_state.JobState as a_kept
use Rattle.job_state.proofs.EndedParagraphs.{par_state}
use Rattle.job_state.specs.JobStateView.{before_shipping}
use Rattle.job_state.proofs.job_state.JobState.open_paragraph.Goals as goal

pub returns-clause-state : goal.returns-clause-state
returns-clause-state c =
    par_state (before_shipping (a_kept.the_view c.self.inside)) (before_shipping c.args.self.now) c.open_paragraph.result c.open_paragraph.new.self (ap before_shipping c.self.view_is) refl c.open_paragraph.ensures.state
