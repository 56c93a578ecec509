-- A device around another one, for a file whose beginning was sent before (own).
use Rattle.std.specs.Prelude.{◌≡◌, ◌⊎◌, ◌++◌, ℕ, List, length, take, drop, Option, Some, None}
use Rattle.dvi_device.specs.Written.{written_then, IsFrontOf}
use Rattle.dvi_device.specs.Beginnings.{Beginning}
use Rattle.dvi_device.specs.Pasts.{Past}

-- The state of such a device: the inner device, and its state at the start; the bytes that were sent before; how many of them were met; and the
-- number of its own failures.
pub record RestState (D : Type 0) : Type 0 where
  pub device : D
  pub start : D
  pub sent : List ℕ
  pub met : ℕ
  pub failures : ℕ

-- The bytes reported around a device that reported `before` and now reports `now`: a front, and what that device took since.
abbrev pub written_since : List ℕ → Option (List ℕ) → Option (List ℕ) → Option (List ℕ)
written_since front (Some before) (Some now) = Some (front ++ drop (length before) now)
written_since front (Some before) None = None
written_since front None now = None

-- The part of `sent` that was met, and then what the inner device took since.
abbrev pub written_by : {D : Type 0} → (D → Option (List ℕ)) → RestState D → Option (List ℕ)
written_by bytes_written r = written_since (take r.met r.sent) (bytes_written r.start) (bytes_written r.device)

-- The bytes that were sent before, what the inner device reported then, and the number of its failures.
abbrev pub began_by : {D : Type 0} → (D → Option (List ℕ)) → (D → ℕ) → RestState D → Beginning
began_by bytes_written failed r = record { sent = r.sent; bytes_written = bytes_written r.start; failed = failed r.start }

-- The past of such a device.
abbrev pub past_by : {D : Type 0} → (D → Option (List ℕ)) → (D → ℕ) → RestState D → Past
past_by bytes_written failed r = record { made = began_by bytes_written failed r; left = drop r.met r.sent; differing = r.failures }

-- The bytes are a beginning of `sent` and nothing was sent on; or they begin with `sent`, and the inner device got those after it.
abbrev pub GoesOnAs : List ℕ → Option (List ℕ) → Option (List ℕ) → List ℕ → Type 0
GoesOnAs sent before now bytes =
    (IsFrontOf bytes sent × (now ≡ before)) ⊎ ((since : List ℕ) × (bytes ≡ sent ++ since) × (now ≡ written_then before since))

-- What is reported around a device that reported `before` and now reports `now`: nothing, and that device still reports nothing; or bytes, with which
-- it goes on.
abbrev pub PassesOn : List ℕ → (before now reported : Option (List ℕ)) → Type 0
PassesOn sent None now None = now ≡ None
PassesOn sent None now (Some bytes) = ⊥
PassesOn sent (Some before) now None = ⊥
PassesOn sent (Some before) now (Some bytes) = GoesOnAs sent (Some before) now bytes
