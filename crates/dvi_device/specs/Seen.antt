-- Devices as contracts see them (own).
use Rattle.std.specs.Prelude.{ℕ, List, Option}
use Rattle.dvi_device.specs.Pasts.{Past}

-- A device as contracts see it: the device itself; the bytes that it reports, if they are known; how often it has failed; and its past.
pub record DeviceView (D : Type 0) : Type 0 where
  pub itself : D
  pub bytes_written : Option (List ℕ)
  pub failed : ℕ
  pub past : Past

-- A device as contracts see it, by what they know of each device of its kind.
abbrev pub device_view : {D : Type 0} → (bytes_written : D → Option (List ℕ)) → (failed : D → ℕ) → (past : D → Past) → D → DeviceView D
device_view bytes_written failed past device = record {
  itself = device;
  bytes_written = bytes_written device;
  failed = failed device;
  past = past device;
}
