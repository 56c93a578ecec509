-- A writer and its device (own).
use Rattle.std.specs.Prelude.{◌≡◌, ◌≢◌, ◌⊎◌, ℕ, Bool, true, false, List, Option, Some, None, if◌then◌else◌}
use Rattle.std.specs.List.{AllByRecursion}
use Rattle.page_core.specs.Marks.{ShippedPage}
use Rattle.dvi_device.specs.Written.{written_then}
use Rattle.dvi_device.specs.Pasts.{Past, past_after}
use Rattle.dvi_device.specs.Seen.{DeviceView}
use Rattle.dvi_write.specs.declared.fault.WriteFault.{WriteFault}
use Rattle.dvi_write.specs.declared.fault.WriteFault.TheVariants.{JobOver, OutOfMemory, Device}
use Rattle.tfm_core.specs.Slots.{Slots}
use Rattle.dvi_write.specs.Limits.{limit_of}
use Rattle.dvi_write.specs.Layout.{unfinished_file}
use Rattle.dvi_write.specs.SoFar.{ProgressView, so_far_of}
use Rattle.dvi_write.specs.Shippable.{IsRightPage}

-- The state of a writer: the numbers that it keeps of the pages so far; of its device, the bytes that it reports, the number of its failures, its
-- past, and its past when the writer was made; and whether the file is over.
pub record Writing : Type 0 where
  pub so_far : ProgressView
  pub bytes_written : Option (List ℕ)
  pub failed : ℕ
  pub past : Past
  pub began : Past
  pub over : Bool

-- A writer was made over a device, to which it has sent nothing.
pub record IsMadeOver {D : Type 0} (device : DeviceView D) (w : Writing) : Type 0 where
  pub bytes_written : w.bytes_written ≡ device.bytes_written
  pub failed : w.failed ≡ device.failed
  pub began : w.began ≡ device.past

-- The device of a writer is this one. What it was made with is the same as when the writer was made.
pub record IsDeviceOf {D : Type 0} (w : Writing) (device : DeviceView D) : Type 0 where
  pub bytes_written : device.bytes_written ≡ w.bytes_written
  pub failed : device.failed ≡ w.failed
  pub past : device.past ≡ w.past
  pub made : device.past.made ≡ w.began.made

-- The device of a writer has reported more bytes, or no more, after those that it had reported. Its past when the writer was made stays what it was.
pub record GoesOn (old new : Writing) : Type 0 where
  pub more : List ℕ
  pub grows : new.bytes_written ≡ written_then old.bytes_written more
  pub began : new.began ≡ old.began

-- The writer has written these pages with these fonts to a device that reported `before` at the start: all their bytes up to the last eop were sent,
-- once and in order, and no others. The device has met as many of the bytes that it was to meet.
pub record HasWritten (fonts : Slots) (before : Option (List ℕ)) (w : Writing) (pages : List ShippedPage) : Type 0 where
  pub bytes_written : w.bytes_written ≡ written_then before (unfinished_file fonts pages)
  pub past : w.past ≡ past_after w.began (unfinished_file fonts pages)
  pub so_far : w.so_far ≡ so_far_of fonts pages
  pub right : AllByRecursion (IsRightPage fonts) pages
  pub running : w.over ≡ false

-- Why a page is not written, however much memory there is: the file is over, or a limit is exceeded.
abbrev pub refusal_of : Writing → ShippedPage → Option WriteFault
refusal_of w page = if w.over then Some JobOver else limit_of w.so_far page

-- A page is refused with this fault: for the first reason that holds, or, without one, because memory was refused.
abbrev pub RefusesPage : Writing → ShippedPage → WriteFault → Type 0
RefusesPage w page fault = (refusal_of w page ≡ Some fault) ⊎ ((refusal_of w page ≡ None) × (fault ≡ OutOfMemory))

-- A page may end with this fault: it is refused, or the device failed.
abbrev pub EndsWith : Writing → ShippedPage → WriteFault → Type 0
EndsWith w page fault = RefusesPage w page fault ⊎ ((refusal_of w page ≡ None) × (fault ≡ Device))

-- Why the end of a file fails: the file is over; or, where there are pages, memory was refused or the device failed.
abbrev pub MayFail : Writing → WriteFault → Type 0
MayFail w fault =
    ((w.over ≡ true) × (fault ≡ JobOver)) ⊎ ((w.over ≡ false) × (w.so_far.pages ≢ 0) × ((fault ≡ OutOfMemory) ⊎ (fault ≡ Device)))
