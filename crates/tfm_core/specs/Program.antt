-- The ligature/kern program of a character (TFtoPL, 13; TeX: The Program, part 30, §545).
use Rattle.std.specs.Prelude.{◌≡◌, ◌==◌, ◌&&◌, ◌||◌, ◌+◌, ◌*◌, ◌<◌, ◌≤◌, ℕ, zero, suc, Bool, false, List, [], ◌∷◌, Option, Some, None, if◌then◌else◌}
use Rattle.std.specs.Prelude.{length, nat_le, nat_lt, slice_get}
use Rattle.std.specs.List.{find}
use Rattle.std.specs.Option.{option_and_then, option_map_or}
use Rattle.tfm_core.specs.declared.record.CharInfo.{CharInfo}
use Rattle.tfm_core.specs.declared.record.LigKernStep.{LigKernStep}
use Rattle.tfm_core.specs.declared.record.Tag.{Tag}
use Rattle.tfm_core.specs.declared.record.Tag.TheVariants.{Plain, Program, Larger, Recipe}

-- The numbers of the steps that are taken from step k on, in increasing order: a step whose skip is below 128 is followed by the one skip + 1 steps
-- later; a step whose skip is 128 or more is the last, and so is a step after which there are no steps (TFtoPL, 13).
pub data TakesSteps (steps : List LigKernStep) : ℕ → List ℕ → Type 0 where
  past : {k : ℕ} → length steps ≤ k → TakesSteps steps k []
  last : {k : ℕ} {s : LigKernStep} → slice_get steps k ≡ Some s → 128 ≤ s.skip → TakesSteps steps k (k ∷ [])
  next : {k : ℕ} {s : LigKernStep} {later : List ℕ} → slice_get steps k ≡ Some s → s.skip < 128
      → TakesSteps steps (k + (s.skip + 1)) later → TakesSteps steps k (k ∷ later)

-- The numbers of the steps that are taken, after passing over the first `pass` steps of a list that is numbered from k (own).
abbrev pub taken_steps_from : ℕ → ℕ → List LigKernStep → List ℕ
taken_steps_from k pass [] = []
taken_steps_from k zero (s ∷ rest) = k ∷ (if nat_lt s.skip 128 then taken_steps_from (k + 1) s.skip rest else [])
taken_steps_from k (suc pass) (s ∷ rest) = taken_steps_from (k + 1) pass rest

-- The numbers of the steps that are taken from step k on (own).
unfoldable pub taken_steps : List LigKernStep → ℕ → List ℕ
taken_steps steps k = taken_steps_from 0 k steps

-- The step at which the program begins: a first step whose skip is above 128 names another one (TFtoPL, 13).
abbrev pub restart : ℕ → Option LigKernStep → ℕ
restart k None = k
restart k (Some s) = if nat_lt 128 s.skip then 256 * s.op + s.remainder else k

-- The step at which the program of step k begins (TFtoPL, 13).
unfoldable pub first_step : List LigKernStep → ℕ → ℕ
first_step steps k = restart k (slice_get steps k)

-- The numbers of the steps of a tag's program, in increasing order (TFtoPL, 12 and 13).
abbrev pub tag_program : List LigKernStep → Tag → List ℕ
tag_program steps (Program k) = taken_steps steps (first_step steps k)
tag_program steps Plain = []
tag_program steps (Larger c) = []
tag_program steps (Recipe r) = []

-- The numbers of the steps of a character's program, in increasing order; none if the font does not have the character (TFtoPL, 11 to 13).
abbrev pub info_program : List LigKernStep → Option CharInfo → List ℕ
info_program steps None = []
info_program steps (Some c) = tag_program steps c.tag

-- A step applies to this following character: its skip is at most 128, and its operation is a ligature or a kern; with an operation of 1 to 127 it
-- applies to none (own).
unfoldable pub is_for : ℕ → LigKernStep → Bool
is_for following s = (s.next == following) && nat_le s.skip 128 && ((s.op == 0) || nat_le 128 s.op)

-- Step k applies to this following character (own).
abbrev pub is_step_for : List LigKernStep → ℕ → ℕ → Bool
is_step_for steps following k = option_map_or (is_for following) (slice_get steps k) false

-- The first of these steps that applies to the following character (TFtoPL, 13).
unfoldable pub first_for : List LigKernStep → ℕ → List ℕ → Option LigKernStep
first_for steps following ks = option_and_then (slice_get steps) (find (is_step_for steps following) ks)
