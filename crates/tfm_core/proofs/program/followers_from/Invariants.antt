use Rattle.std.proofs.Common.{◌≡◌, ℕ, ◌-◌, ◌<◌, ◌||◌, length}
use Rattle.std.specs.Option.{is_some}
use Rattle.tfm_core.specs.Private.FontView.{is_in}
use Rattle.tfm_core.specs.Program.{first_for, taken_steps}
use Rattle.tfm_core.proofs.program.followers_from.Given as goal

-- The characters in the set, together with those for which there is a step from here on, are all the characters of the result.
abbrev pub invariant-loop-step : goal.invariant-loop-step
invariant-loop-step l =
    (f : ℕ) → f < 256 → (is_in l.followers f || is_some (first_for l.steps f (taken_steps l.steps l.at))) ≡ is_some (first_for l.fn.steps f (taken_steps l.fn.steps l.fn.at))

abbrev pub decreases-loop-step : goal.decreases-loop-step
decreases-loop-step l = length l.steps - l.at
