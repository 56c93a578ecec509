use Rattle.std.proofs.Common.{◌≡◌, ◌-◌, length}
use Rattle.tfm_core.specs.Program.{first_for, taken_steps}
use Rattle.tfm_core.proofs.program.first_from.Given as goal

abbrev pub invariant-loop-step : goal.invariant-loop-step
invariant-loop-step l =
    first_for l.fn.steps l.following (taken_steps l.fn.steps l.fn.k) ≡ first_for l.steps l.following (taken_steps l.steps l.k)

abbrev pub decreases-loop-step : goal.decreases-loop-step
decreases-loop-step l = length l.steps - l.k
