-- Runs of scripts in memory (own).
use Rattle.std.specs.Prelude.{◌≡◌, ◌⊎◌, ℕ, Bool, List, [], length, Some}
use Rattle.tfm_core.specs.NamedBytes.{NamedBytes}
use Rattle.boxglue_program.specs.Reports.{Reports}
use Rattle.boxglue_program.specs.Runs.{RanScript, RefusedScript}
use Rattle.boxglue_calls.specs.Buffers.{HandsOverBoth}
use Rattle.boxglue_calls.specs.RunStatus.{run_status}

-- A script with these font files gives these answers, these bytes of a DVI file and this status: it was run on a device in memory, and the
-- status is that of its replies and its end; or it is bad, there are no bytes, and the status is 1.
abbrev pub IsRun : Reports → (text : List ℕ) → (files : List NamedBytes) → (answers dvi : List ℕ) → (status : ℕ) → Type 0
IsRun reports text files answers dvi status =
    ((failures : ℕ) × (accepted : Bool) × (ran : RanScript reports text files 0 failures (Some dvi) answers accepted)
    × (status ≡ run_status ran.replies ran.end))
    ⊎ ((accepted : Bool) × RefusedScript text answers accepted × (dvi ≡ []) × (status ≡ 1))

-- The answers and the bytes of a run are handed over, and the sizes are theirs.
pub record HandsOverRun {A : Type 0} (Is : (answers : List A) → (dvi : List ℕ) → (done : ℕ) → Type 0) (old new : List A)
    (dvi_old dvi_new : List ℕ) (sizes : ℕ × ℕ) (status : ℕ) : Type 0 where
  pub answers : List A
  pub dvi : List ℕ
  pub done : ℕ
  pub run : Is answers dvi done
  pub handed : HandsOverBoth (record { old = old; new = new; items = answers }) (record { old = dvi_old; new = dvi_new; items = dvi }) done status
  pub answers_size : sizes.0 ≡ length answers
  pub dvi_size : sizes.1 ≡ length dvi
