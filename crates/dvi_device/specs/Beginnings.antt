-- The state before a device was made (own).
use Rattle.std.specs.Prelude.{[], ℕ, List, Option, None}

-- What a device was made with.
pub record Beginning : Type 0 where
  -- The bytes that were sent before, of a device that compares its bytes with them. Another kind of device says here what it was made for: a device
  -- that writes a file has its path and the code of its host.
  pub sent : List ℕ
  -- Of the device that takes the new device's bytes: what it reported when that was made, and the number of its failures.
  pub bytes_written : Option (List ℕ)
  pub failed : ℕ

-- Nothing was sent before, and the device that takes the bytes had failed this often.
abbrev pub begun_after : ℕ → Beginning
begun_after failed = record { sent = []; bytes_written = None; failed = failed }

-- Nothing was sent before, and nothing had failed.
abbrev pub no_beginning : Beginning
no_beginning = begun_after 0
