use Rattle.std.proofs.Common.{◌<◌, ◌∙◌, length, sym, arith, rules}
use Rattle.std.proofs.lemmas.Option.{slice_get_within}
use Rattle.tfm_core.specs.Private.FontView.{is_in}
use Rattle.tfm_core.proofs.ProgramLemmas.{found-last, found-next, found-past}
use Rattle.tfm_core.proofs.program.followers_from.Goals as goal

pub returns-then-step-ge-STOP_FLAG : goal.returns-then-step-ge-STOP_FLAG
returns-then-step-ge-STOP_FLAG c f small =
    c.add_follower.ensures f small
    ∙ (found-last c.args.steps.now f c.loop-step.at c.in-Some.step (is_in c.loop-step.followers f) (sym c.in-Some.ensures) c.if-step-ge-STOP_FLAG.true
    ∙ c.loop-step.invariant f small)

pub overflow_add-at-in-Some : goal.overflow_add-at-in-Some
overflow_add-at-in-Some c =
    let within : c.loop-step.at < length c.args.steps.now = slice_get_within c.args.steps.now c.loop-step.at c.in-Some.step (sym c.in-Some.ensures) in
    search rules

pub loop-step-smaller : goal.loop-step-smaller
loop-step-smaller c =
    let within : c.loop-step.at < length c.args.steps.now = slice_get_within c.args.steps.now c.loop-step.at c.in-Some.step (sym c.in-Some.ensures) in
    omega arith

pub loop-step-preserved : goal.loop-step-preserved
loop-step-preserved c f small =
    rw (c.from.ensures, c.add_follower.ensures f small)
    (found-next c.args.steps.now f c.loop-step.at c.in-Some.step (is_in c.loop-step.followers f) (sym c.in-Some.ensures) c.if-step-ge-STOP_FLAG.false
    ∙ c.loop-step.invariant f small)

pub returns : goal.returns
returns c f small =
    found-past c.args.steps.now f c.loop-step.at (is_in c.loop-step.followers f) (sym c.step_at.ensures ∙ c.in_default.is) ∙ c.loop-step.invariant f small
