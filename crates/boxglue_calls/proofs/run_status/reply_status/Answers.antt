-- The status of what was refused is that of the reply.
use Rattle.std.proofs.Common.{ap, ◌∙◌}
use Rattle.boxglue_calls.specs.RunStatus.{outcome_status}
use Rattle.boxglue_calls.proofs.StatusLaws.{reply_status_is}
use Rattle.boxglue_calls.proofs.run_status.reply_status.Goals as goal

pub returns : goal.returns
returns g c = c.outcome_status.ensures ∙ (ap outcome_status c.of.ensures ∙ reply_status_is c.args.reply.now)
