-- A split changes the registers, and all else stays.
use Rattle.std.proofs.Common.{refl, ap}
use Rattle.job_state.proofs.SplitBoxes.{split_reply, split_state, split_admitted}
use Rattle.job_state.specs.JobStateView.{before_shipping}
use Rattle.job_state.proofs.job_state.JobState.split.Goals as goal

pub returns-clause-reply : goal.returns-clause-reply
returns-clause-reply c = split_reply _ (before_shipping c.args.self.now) c.args.splitting.now (ap before_shipping c.self.view_is) refl c.split.result c.split.ensures.reply

pub returns-clause-state : goal.returns-clause-state
returns-clause-state c = split_state _ (before_shipping c.args.self.now) c.args.splitting.now (ap before_shipping c.self.view_is) refl c.split.result c.split.new.self c.split.ensures.state

pub returns-clause-admitted : goal.returns-clause-admitted
returns-clause-admitted c = split_admitted _ (before_shipping c.args.self.now) c.args.splitting.now (ap before_shipping c.self.view_is) refl c.split.result c.split.ensures.admitted
