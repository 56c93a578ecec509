use Rattle.std.proofs.Common.{◌∙◌, ap, sym}
use Rattle.std.specs.Option.{option_copied}
use Rattle.job_machine.specs.State.{held_in}
use Rattle.job_state.specs.JobStateView.{JobStateView, before_shipping}
use Rattle.job_state.proofs.TakenBoxes.{none_unboxed}
use Rattle.job_state.proofs.job_state.JobState.copy_items.Goals as goal

pub returns-then-is_empty-clause-ok : goal.returns-then-is_empty-clause-ok
returns-then-is_empty-clause-ok c =
    none_unboxed (before_shipping c.args.self.now) c.args.register c.in-Some.box_node.now
    (ap (λ (t : JobStateView). held_in t.registers c.args.register) (sym c.self.view_is) ∙ (sym c.get.ensures ∙ ap option_copied c.in-Some.is))
    (sym c.is_empty.ensures ∙ c.if-is_empty.true)
