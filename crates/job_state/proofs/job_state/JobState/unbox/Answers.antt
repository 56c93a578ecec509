use Rattle.std.proofs.Common.{◌∙◌, ap, sym, refl}
use Rattle.std.specs.Option.{option_copied}
use Rattle.job_machine.specs.State.{innermost}
use Rattle.job_machine.proofs.ListElements.{none_last}
use Rattle.job_state.specs.JobStateView.{JobStateView}
use Rattle.job_state.proofs.job_state.JobState.unbox.Goals as goal

pub returns-in_default-clause-reply : goal.returns-in_default-clause-reply
returns-in_default-clause-reply c =
    let closed = none_last c.args.self.now.nest (ap (λ (t : JobStateView). innermost t.nest) (sym c.self.view_is) ∙ (sym c.innermost.ensures.value ∙ ap option_copied c.in_default.is)) in
    rw closed refl

pub returns-in_default-clause-state : goal.returns-in_default-clause-state
returns-in_default-clause-state c =
    let closed = none_last c.args.self.now.nest (ap (λ (t : JobStateView). innermost t.nest) (sym c.self.view_is) ∙ (sym c.innermost.ensures.value ∙ ap option_copied c.in_default.is)) in
    rw closed refl
