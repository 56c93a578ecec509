-- The number of lines that are tried for a paragraph (own).
use Rattle.std.specs.Prelude.{◌≡◌, ◌<◌, ◌≤◌, ℕ, List, Option, Some, None}
use Rattle.std.specs.Int.{sum_through}
use Rattle.node_core.specs.declared.params.Params.{Params}
use Rattle.break_core.specs.declared.broken.Pass.{Pass}
use Rattle.break_lines.specs.Facts.{Facts}
use Rattle.break_core.specs.Trials.{IsStop, passes_run, places_up_to}

-- From the start and all places together at most as many lines were tried in these passes as there are places after each of them up to the place
-- where trying stops.
abbrev pub TrialsAreBounded : Facts → Params → List Pass → (trials : ℕ) → Type 0
TrialsAreBounded facts params passes trials =
    (stop : ℕ → Pass → ℕ) → ((a : ℕ) (pass : Pass) → IsStop facts params pass a (stop a pass))
    → trials ≤ sum_through (λ a. places_up_to a (stop a) passes) facts.places

-- At least one line was tried until a pass admitted breaks, and few lines were tried; none was tried for a paragraph without breaks.
abbrev pub AreFewTrials : Facts → Params → Option Pass → (trials : ℕ) → Type 0
AreFewTrials facts params None trials = trials ≡ 0
AreFewTrials facts params (Some pass) trials = (0 < trials) × TrialsAreBounded facts params (passes_run params pass) trials
