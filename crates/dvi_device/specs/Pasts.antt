-- The past of a device: what was sent before it was made, and how it compares its bytes with that (own).
use Rattle.std.specs.Prelude.{◌≡◌, ◌≢◌, ◌≤◌, ◌<◌, ◌+◌, ◌⊎◌, [], ◌∷◌, ℕ, List, length, take, drop, slice_index, Result, Ok, Err}
use Rattle.dvi_device.specs.Beginnings.{Beginning, no_beginning}

-- What a device was made with; those of the bytes sent before that it has not met again; and the number of its own failures, the writes that failed
-- because a byte differed from the next of them.
pub record Past : Type 0 where
  pub made : Beginning
  pub left : List ℕ
  pub differing : ℕ

-- The past of a device that was made so and compares nothing.
abbrev pub plain_past : Beginning → Past
plain_past made = record { made = made; left = []; differing = 0 }

-- The past of a device that passes its bytes to no other.
abbrev pub no_past : Past
no_past = plain_past no_beginning

-- The past after these bytes were taken.
abbrev pub past_after : Past → List ℕ → Past
past_after past bytes = record past { left = drop (length bytes) past.left }

-- Two texts have different bytes at one place.
abbrev pub Differs : List ℕ → List ℕ → Type 0
Differs one other = (n : ℕ) × (n < length one) × (n < length other) × (slice_index one n ≢ slice_index other n)

-- What a `write` of a piece makes of a past in which these bytes are left to meet. The bytes that it takes are the next of them; if it fails, the
-- first byte of the piece is not the next one, and the failure is the device's own. If none are left, it compares nothing and counts no own failure.
abbrev pub Compares : {E : Type 0} → (left piece : List ℕ) → Result ℕ E → (old new : Past) → Type 0
Compares [] piece result old new = new ≡ old
Compares (byte ∷ left) piece (Ok n) old new = (n ≤ length (byte ∷ left)) × (take n piece ≡ take n (byte ∷ left)) × (new
    ≡ record old { left = drop n (byte ∷ left) })
Compares (byte ∷ left) piece (Err fault) old new = (slice_index piece 0 ≢ byte) × (new ≡ record old { differing = old.differing + 1 })

-- These bytes were taken or refused. What the device was made with is the same. It has no more failures of its own; or it has one more, and the bytes
-- differ from those that were left to meet.
pub record KeepsPast (old : Past) (bytes : List ℕ) (new : Past) : Type 0 where
  pub made : new.made ≡ old.made
  pub own : (new.differing ≡ old.differing) ⊎ ((new.differing ≡ old.differing + 1) × Differs old.left bytes)

-- The past after a call that was to send these bytes.
abbrev pub Passes : {A E : Type 0} → Result A E → (old : Past) → List ℕ → (new : Past) → Type 0
Passes (Ok value) old bytes new = new ≡ past_after old bytes
Passes (Err fault) old bytes new = KeepsPast old bytes new
