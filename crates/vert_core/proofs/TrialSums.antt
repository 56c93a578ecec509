-- The number of all trials, from those of each place.
use Rattle.std.proofs.Common.{ℕ, zero, suc, ◌≤◌, List, arith}
use Rattle.std.specs.Int.{sum_through}
use Rattle.node_core.specs.declared.params.Params.{Params}
use Rattle.break_core.specs.declared.broken.Pass.{Pass}
use Rattle.break_lines.specs.Facts.{Facts}
use Rattle.break_core.specs.Trials.{places_up_to, AreBounded}
use Rattle.vert_core.specs.TrialBounds.{TrialsAreBounded}

no_more : (f g : ℕ → ℕ) → ((a : ℕ) → f a ≤ g a) → (n : ℕ) → sum_through f n ≤ sum_through g n
no_more f g below zero = below 0
no_more f g below (suc n) = omega (arith, no_more f g below n, below (suc n))

-- The trials from the start are among all trials.
pub first_of_all : (f : ℕ → ℕ) (n : ℕ) → f 0 ≤ sum_through f n
first_of_all f zero = omega arith
first_of_all f (suc n) = omega (arith, first_of_all f n)

-- If there are few trials from each place, there are few trials together.
pub few_together :
    (facts : Facts) (params : Params) (passes : List Pass) (trials : ℕ → ℕ) → AreBounded facts params passes trials → TrialsAreBounded facts params passes (sum_through trials facts.places)
few_together facts params passes trials few =
    λ stop stops. no_more trials (λ a. places_up_to a (stop a) passes) (λ a. few a (stop a) (stops a)) facts.places
