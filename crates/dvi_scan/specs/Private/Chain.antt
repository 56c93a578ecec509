-- The rest of `Chain`, which no public contract reaches (own).
use Rattle.std.specs.Prelude.{◌≡◌, ◌<◌, List, ℕ, ℤ, pos, negsuc}
use Rattle.dvi_scan.specs.declared.fault.DviCause.TheVariants.{Pointer}
use Rattle.dvi_scan.specs.declared.fault.FrameFault.{FrameFault}
use Rattle.dvi_scan.specs.declared.fault.FrameFault.TheVariants.{OutOfMemory, Bad}
use Rattle.dvi_scan.specs.declared.page_chain.PointerTarget.{PointerTarget}
use Rattle.dvi_scan.specs.declared.page_chain.PointerTarget.TheVariants.{Start, Page, Nothing}
use Rattle.dvi_scan.specs.Chain.{IsLost, IsBrokenAt, IsPageAt, NamesPage}

-- What a pointer was found to name (own).
abbrev pub Names : List ℕ → (at bound : ℕ) → (pointer : ℤ) → PointerTarget → Type 0
Names bytes at bound pointer Start = pointer ≡ negsuc 0
Names bytes at bound pointer (Page place) = (pointer ≡ pos place) × (place < bound) × (IsPageAt bytes place bound)
Names bytes at bound pointer (Nothing p) = (p ≡ at) × IsLost bytes bound pointer

-- A fault of the walk: a lost pointer, or memory refused where the first pointer names a page (own).
abbrev pub IsBrokenFrom : List ℕ → (at bound : ℕ) → (pointer : ℤ) → FrameFault → Type 0
IsBrokenFrom bytes at bound pointer OutOfMemory = NamesPage bytes bound pointer
IsBrokenFrom bytes at bound pointer (Bad fault) = (fault.cause ≡ Pointer) × IsBrokenAt bytes at bound pointer fault.place
