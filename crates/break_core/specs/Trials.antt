-- The greatest number of lines that are tried (own; the active list is after TeX: The Program, part 38, §819 and §860).
use Rattle.std.specs.Prelude.{◌≡◌, ◌<◌, ◌≤◌, ◌+◌, ◌-◌, ◌⊎◌, ◌++◌, ℕ, pos, int_lt, Bool, true, false, List, [], ◌∷◌, if◌then◌else◌}
use Rattle.node_core.specs.declared.params.Params.{Params}
use Rattle.break_lines.specs.Chosen.{AdmitsNone}
use Rattle.break_lines.specs.Costs.{line_fit}
use Rattle.break_lines.specs.Sizes.{greatest_size}
use Rattle.break_core.specs.declared.broken.Pass.{Pass}
use Rattle.break_core.specs.declared.broken.Pass.TheVariants.{First, Second, Third}
use Rattle.break_core.specs.declared.broken.Breaks.{Breaks}
use Rattle.break_lines.specs.Legal.{is_forced}
use Rattle.break_lines.specs.Facts.{Facts}
use Rattle.break_lines.specs.Steady.{IsSteady}
use Rattle.break_core.specs.Passes.{problem_of, bound_of, IsBefore}

-- Whether the line from a place to another one is overfull at the greatest width of a line, and so after any number of lines.
abbrev pub is_overfull : Facts → Params → (a l : ℕ) → Bool
is_overfull facts params a l = (line_fit (facts.sums a l) (greatest_size params)).overfull

-- Whether a pass admits only lines up to a bound.
abbrev pub is_bounded : Pass → Bool
is_bounded First = true
is_bounded Second = true
is_bounded Third = false

-- Trying lines from place a stops at place l in a pass with a bound: the paragraph is steady, and the line to l is overfull.
abbrev pub StopsOverfull : Facts → Params → Pass → (a l : ℕ) → Type 0
StopsOverfull facts params pass a l = IsSteady facts × (is_bounded pass ≡ true) × (is_overfull facts params a l ≡ true)

-- In a pass, no line from place a is tried beyond place l: it is the last place, or a break there is forced, or the line to it is overfull in a pass
-- where trying stops after such lines.
abbrev pub IsStop : Facts → Params → Pass → (a l : ℕ) → Type 0
IsStop facts params pass a l =
    (l ≡ facts.places)
    ⊎ ((a < l) × (l ≤ facts.places) × ((is_forced (facts.penalty l) ≡ true) ⊎ StopsOverfull facts params pass a l))

-- The first pass, or no pass if pretolerance is below 0.
abbrev pub first_run : Params → List Pass
first_run params = if int_lt params.pretolerance (pos 0) then [] else First ∷ []

-- The passes that were run when this one was the last.
abbrev pub passes_run : Params → (last : Pass) → List Pass
passes_run params First = first_run params
passes_run params Second = first_run params ++ Second ∷ []
passes_run params Third = (first_run params ++ Second ∷ []) ++ Third ∷ []

-- The sum over passes of the number of places after place a up to the place for the pass.
abbrev pub places_up_to : (a : ℕ) → (stop : Pass → ℕ) → List Pass → ℕ
places_up_to a stop [] = 0
places_up_to a stop (pass ∷ passes) = (stop pass - a) + places_up_to a stop passes

-- From each place at most as many lines were tried in these passes as there are places after it up to the place where trying stops in each of them.
abbrev pub AreBounded : Facts → Params → List Pass → (trials : ℕ → ℕ) → Type 0
AreBounded facts params passes trials =
    (a : ℕ) (stop : Pass → ℕ) → ((pass : Pass) → IsStop facts params pass a (stop pass)) → trials a ≤ places_up_to a stop passes

-- The passes up to some pass were run and no later one: no earlier pass admits a list of breaks, and the trials are bounded in these passes.
pub record AreBoundedByPasses (facts : Facts) (params : Params) (trials : ℕ → ℕ) : Type 0 where
  pub last : Pass
  pub earlier : (pass : Pass) → IsBefore pass last → AdmitsNone (problem_of facts params (bound_of params pass))
  pub bounded : AreBounded facts params (passes_run params last) trials

-- No line has been tried yet.
abbrev pub HasNoTrials : (trials : ℕ → ℕ) → Type 0
HasNoTrials trials = (place : ℕ) → trials place ≡ 0

-- Two results are the same.
pub record AreSame (a b : Breaks) : Type 0 where
  pub lines : a.lines.items ≡ b.lines.items
  pub pass : a.pass ≡ b.pass
  pub overhang : a.overhang ≡ b.overhang
  pub demerits : a.demerits ≡ b.demerits
