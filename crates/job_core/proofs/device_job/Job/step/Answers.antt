use Rattle.std.proofs.Common.{sym, subst, ◌∙◌, rules}
use Rattle.job_machine.specs.Runs.{IsShip}
use Rattle.job_state.specs.JobStateView.{before_shipping}
use Rattle.job_machine.specs.State.{State}
use Rattle.dvi_write.proofs.Writings.{goes_not}
use Rattle.job_core.specs.Private.Sound.{IsSound, IsBoundedFile, view_of}
use Rattle.job_core.proofs.Moves.{over_replies, obeyed, seen_reply, sound_after, bounded_after, stays_refused, never_device, true_or_false}
use Rattle.job_core.proofs.device_job.Job.step.Goals as goal

pub returns-then-is_over-clause-keeps : goal.returns-then-is_over-clause-keeps
returns-then-is_over-clause-keeps g c = rw (← c.self.view_is) (over_replies _ c.args.command.now (sym c.is_over.ensures ∙ c.if-is_over.true))

pub invariant_of-self-2 : goal.invariant_of-self-2
invariant_of-self-2 g c =
    let s = before_shipping c.self.inside.state in
    let w = c.self.inside.writer in (
      subst IsSound (sym c.in_ok-obey.ensures.state)
          (sound_after s c.args.command.now c.in_ok-obey.field-0 c.in_ok-obey.ensures.reply c.in_ok-obey.ensures.numbers c.self.invariant.0),
      λ running. subst (λ (t : State). IsBoundedFile t.fonts w) (sym c.in_ok-obey.ensures.state) (bounded_after s w c.args.command.now (c.self.invariant.1 running)),
    )

pub returns : goal.returns
returns g c =
    let other : IsShip c.args.command.now → ⊥ = search rules in
    let running = sym c.is_over.ensures ∙ c.if-is_over.false in
    let state = c.self.inside.state in
    let w = c.self.inside.writer in
    rw (← c.self.view_is)
    (record {
      keeps = obeyed state w c.args.command.now other running c.obey.new.self c.in_ok-obey.field-0 c.in_ok-obey.ensures.reply c.in_ok-obey.ensures.state;
      same = stays_refused state c.obey.new.self w c.args.command.now c.in_ok-obey.field-0 c.in_ok-obey.ensures.reply c.in_ok-obey.ensures.state;
      idle = λ over. absurd (true_or_false over running);
      part = λ is.
          absurd (never_device (view_of state w).state c.args.command.now c.in_ok-obey.field-0 (seen_reply state w c.args.command.now other running c.in_ok-obey.field-0 c.in_ok-obey.ensures.reply) is);
      goes_on = goes_not w;
    })
