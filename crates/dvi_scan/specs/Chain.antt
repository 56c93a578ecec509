-- The pages from the last one back: post names the last, each bop the one before it, and the first -1 (DVItype, 15 and 19); and how the chain may be
-- broken (own).
use Rattle.std.specs.Prelude.{◌≡◌, ◌≢◌, ◌+◌, ◌%◌, [], ◌∷◌, List, length, ℕ, ℤ, pos, negsuc}
use Rattle.dvi_ops.specs.Instruction.{Postamble, Bop}
use Rattle.dvi_scan.specs.Ends.{IsSpelledAt}
use Rattle.dvi_scan.specs.declared.fault.DviCause.{DviCause}
use Rattle.dvi_scan.specs.declared.fault.DviCause.TheVariants.{Pointer, Count}
use Rattle.dvi_scan.specs.declared.fault.FrameFault.{FrameFault}
use Rattle.dvi_scan.specs.declared.fault.FrameFault.TheVariants.{OutOfMemory, Bad}

-- The places of the bops that a pointer leads to, the last page first. The pointer -1 leads to none. Another pointer names a bop that ends at or
-- before `bound`, and its own pointer names the one before it.
abbrev pub Links : List ℕ → (bound : ℕ) → (pointer : ℤ) → List ℕ → Type 0
Links bytes bound pointer [] = pointer ≡ negsuc 0
Links bytes bound pointer (place ∷ earlier) =
    (pointer ≡ pos place) × (counts : List ℤ) × (before : ℤ) × IsSpelledAt bytes place bound (Bop counts before) × Links bytes place before earlier

-- A pointer is lost: it is not -1, and names no bop that ends at or before `bound`.
pub record IsLost (bytes : List ℕ) (bound : ℕ) (pointer : ℤ) : Type 0 where
  pub other : pointer ≢ negsuc 0
  pub no_bop : (place : ℕ) (counts : List ℤ) (before : ℤ) → pointer ≡ pos place → IsSpelledAt bytes place bound (Bop counts before) → ⊥

-- The chain from a pointer at `at` is broken at p, which is the place of a lost pointer. The pointer of a bop is its last four bytes, 41 bytes after
-- its place.
pub data IsBrokenAt (bytes : List ℕ) : (at bound : ℕ) → (pointer : ℤ) → (p : ℕ) → Type 0 where
  here : {at bound : ℕ} {pointer : ℤ} → IsLost bytes bound pointer → IsBrokenAt bytes at bound pointer at
  before : {at bound p place : ℕ} {earlier : ℤ} (counts : List ℤ) → IsSpelledAt bytes place bound (Bop counts earlier)
      → IsBrokenAt bytes (place + 41) place earlier p → IsBrokenAt bytes at bound (pos place) p

-- A rule of the pages' places is broken, and those of the end hold. The pointers come first, from the one directly after the code of post, and then
-- the number of pages.
abbrev pub BreaksChain : List ℕ → (post : ℕ) → Postamble → (place : ℕ) → DviCause → Type 0
BreaksChain bytes post postamble place Pointer = IsBrokenAt bytes (post + 1) post postamble.last_bop place
BreaksChain bytes post postamble place Count =
    (place ≡ post) × (chain : List ℕ) × Links bytes post postamble.last_bop chain × (postamble.pages ≢ length chain % 65536)
BreaksChain bytes post postamble place cause = ⊥

-- A bop is at a place and ends at or before `bound`.
abbrev pub IsPageAt : List ℕ → (place bound : ℕ) → Type 0
IsPageAt bytes place bound = (counts : List ℤ) × (before : ℤ) × IsSpelledAt bytes place bound (Bop counts before)

-- A pointer names such a place.
abbrev pub NamesPage : List ℕ → (bound : ℕ) → (pointer : ℤ) → Type 0
NamesPage bytes bound pointer = (place : ℕ) × (pointer ≡ pos place) × IsPageAt bytes place bound

-- A fault of the chain. Memory is taken only for the places of pages, and so refused only where post names a page.
abbrev pub IsChainRefusal : List ℕ → (post : ℕ) → Postamble → FrameFault → Type 0
IsChainRefusal bytes post postamble OutOfMemory = NamesPage bytes post postamble.last_bop
IsChainRefusal bytes post postamble (Bad fault) = BreaksChain bytes post postamble fault.place fault.cause
