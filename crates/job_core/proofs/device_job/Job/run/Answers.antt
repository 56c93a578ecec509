use Rattle.std.proofs.Common.{◌≡◌, ◌+◌, ◌++◌, ◌∷◌, [], take, ap, sym, ◌∙◌, subst, append_assoc, arith, List}
use Rattle.std.proofs.lemmas.List.{take_more}
use Rattle.job_machine.specs.declared.command.Command.{Command}
use Rattle.job_machine.specs.Reply.{Reply}
use Rattle.dvi_write.proofs.Writings.{goes_further}
use Rattle.job_core.specs.Jobs.{JobView, RunsTo}
use Rattle.job_core.proofs.Moves.{runs_more}
use Rattle.job_core.proofs.device_job.Job.run.Goals as goal

pub loop-command-preserved : goal.loop-command-preserved
loop-command-preserved g c =
    let commands = c.args.commands.now in
    let i = c.loop-command.command-index in
    let command = c.command-item.result in
    let reply = c.step-reply.result in
    let added = c.loop-command.invariant.ran.0 in
    let taken : take i commands ++ command ∷ [] ≡ take (i + 1) commands =
    sym (take_more commands i command c.loop-command-test.true ∙ ap (λ x. take i commands ++ x ∷ []) (sym c.command-item.is)) in
    let runs : RunsTo c.args.self.now (take i commands ++ command ∷ []) (added ++ reply ∷ []) c.step-reply.new.self =
    runs_more c.args.self.now c.loop-command.self c.step-reply.new.self (take i commands) added command reply c.loop-command.invariant.ran.2 c.step-reply.ensures.keeps in
    record {
      ran = (
        added ++ reply ∷ [],
        c.in-Ok.ensures.items ∙ (ap (λ (xs : List Reply). xs ++ reply ∷ []) c.loop-command.invariant.ran.1 ∙ append_assoc c.reserve.new.self.items added (reply ∷ [])),
        subst (λ (xs : List Command). RunsTo c.args.self.now xs (added ++ reply ∷ []) c.step-reply.new.self) taken runs,
      );
      idle = λ over.
          let same = c.loop-command.invariant.idle over in
          c.step-reply.ensures.idle (ap (λ (job : JobView). job.state.over) same ∙ over) ∙ same;
      goes_on = goes_further _ _ _ c.loop-command.invariant.goes_on c.step-reply.ensures.goes_on;
      space = omega (arith, c.in-Ok.ensures.len, c.in-Ok.ensures.capacity);
    }
