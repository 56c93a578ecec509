-- The parts of a file before its pages, and the rules that a refusal names, in the order of the checks (DVItype, 15 to 20; the order is own).
use Rattle.std.specs.Prelude.{◌≡◌, ◌≢◌, ◌-◌, ◌%◌, List, length, reverse, ℕ, ℤ}
use Rattle.dvi_scan.specs.AfterPost.{AreAfterPost, LacksNumber}
use Rattle.dvi_scan.specs.Closing.{IsClosingFault}
use Rattle.dvi_scan.specs.Chain.{BreaksChain, IsPageAt, NamesPage}
use Rattle.dvi_scan.specs.Ends.{BreaksEnd, HasPostamble}
use Rattle.dvi_scan.specs.Preamble.{HasPreamble, IsPreambleFault}
use Rattle.dvi_scan.specs.declared.fault.BadDvi.{BadDvi}
use Rattle.dvi_scan.specs.declared.fault.DviCause.TheVariants.{Pointer}
use Rattle.dvi_scan.specs.declared.fault.FrameFault.TheVariants as frames
use Rattle.dvi_ops.specs.File.{MarkedPage}
use Rattle.dvi_ops.specs.Instruction.{Definition, Postamble}
use Rattle.dvi_ops.specs.Tokens.{Token, places}
use Rattle.dvi_scan.specs.Passed.{Framing, file_framing, IsFramed}
use Rattle.dvi_scan.specs.Reached.{IsIn, IsReached, ReadSoFar}
use Rattle.dvi_read.specs.WalkFaults.{PagesHaveEnded, IsUnended, IsWalkFault}
use Rattle.dvi_read.specs.declared.fault.DviFault.{DviFault}
use Rattle.dvi_read.specs.declared.fault.DviFault.TheVariants.{Bad, OutOfMemory}
use Rattle.tfm_core.specs.FileWidths.{file_widths}
use Rattle.tfm_core.specs.NamedBytes.{NamedBytes}

-- The end of a file and the places of its pages, in the number that post gives: the rules of the first four checks hold.
pub record HasChain (bytes : List ℕ) (post after last : ℕ) (postamble : Postamble) (chain : List ℕ) : Type 0 where
  pub framed : IsFramed bytes post after last postamble chain
  pub count : postamble.pages ≡ length chain % 65536

-- The same and the preamble, which ends at `from`.
pub record StartsAt (bytes : List ℕ) (post after last : ℕ) (postamble : Postamble) (chain : List ℕ) (from : ℕ) : Type 0 where
  pub chained : HasChain bytes post after last postamble chain
  pub preamble : HasPreamble bytes post postamble from

-- All instructions before post are right: `seen` is what was read there, and `after_post` has the numbers of fonts that are defined after post.
pub record HasPages (files : List NamedBytes) (bytes : List ℕ) (parts : Framing) (from : ℕ) (after_post : List ℤ) (seen : ReadSoFar) : Type 0 where
  pub starts : StartsAt bytes parts.post parts.after parts.last parts.postamble parts.chain from
  pub looked : AreAfterPost bytes parts.after (parts.last - 5) after_post
  pub reached : IsReached (file_widths files) after_post bytes parts.postamble parts.chain parts.post seen

-- Where a fault in the pages is Pointer, a bop is at its place, and this place is not in the chain.
abbrev pub IsStray : List ℕ → (post : ℕ) → (chain : List ℕ) → DviFault → Type 0
IsStray bytes post chain fault = (bad : BadDvi) → fault ≡ Bad bad → bad.cause ≡ Pointer
    → IsPageAt bytes bad.place post × (IsIn bad.place (reverse chain) → ⊥)

-- Where a fault at the place of post is Pointer, the bops of the instructions before it are not at the places of the chain.
abbrev pub IsUnmet : (before : List Token) → (chain : List ℕ) → BadDvi → Type 0
IsUnmet before chain bad = bad.cause ≡ Pointer → places 0 before ≢ reverse chain

-- Why a file is refused before its pages are read. In each case the rules of the earlier checks hold, and a rule is broken at the place that the
-- fault names: of the end, of the chain of pages, or of the preamble. Memory may be refused for the places of the chain, where post names a page.
pub data IsFrontFault (bytes : List ℕ) (fault : DviFault) : Type 0 where
  ForPlaces : (post e : ℕ) (postamble : Postamble) → fault ≡ OutOfMemory → HasPostamble bytes post e postamble
      → NamesPage bytes post postamble.last_bop
      → IsFrontFault bytes fault
  AtTheEnd : (bad : BadDvi) → fault ≡ Bad bad → BreaksEnd bytes bad.place bad.cause → IsFrontFault bytes fault
  InTheChain : (bad : BadDvi) (post e : ℕ) (postamble : Postamble) → fault ≡ Bad bad → HasPostamble bytes post e postamble
      → BreaksChain bytes post postamble bad.place bad.cause → IsFrontFault bytes fault
  InThePreamble : (bad : BadDvi) (post after last : ℕ) (postamble : Postamble) (chain : List ℕ) → fault ≡ Bad bad
      → HasChain bytes post after last postamble chain
      → IsPreambleFault bytes post postamble bad → IsFrontFault bytes fault

-- Why a file is refused: before its pages are read; or the rules of the earlier checks hold, and a rule is broken at the place that the fault names:
-- of the pages; of the place of post, where no page is open and each place of the chain was a bop; or of the part after post. Memory may be refused
-- for a number that is defined after post; for an instruction of the pages; or for a right definition after post.
pub data IsDviFault (files : List NamedBytes) (bytes : List ℕ) (fault : DviFault) : Type 0 where
  BeforeThePages : IsFrontFault bytes fault → IsDviFault files bytes fault
  InThePrescan : (post after last : ℕ) (postamble : Postamble) (chain : List ℕ) (from : ℕ) → fault ≡ OutOfMemory
      → StartsAt bytes post after last postamble chain from
      → LacksNumber bytes after (last - 5) → IsDviFault files bytes fault
  InThePages : (post after last : ℕ) (postamble : Postamble) (chain : List ℕ) (from : ℕ) (after_post : List ℤ)
      → StartsAt bytes post after last postamble chain from
      → AreAfterPost bytes after (last - 5) after_post → IsWalkFault files after_post bytes postamble chain post fault
      → IsStray bytes post chain fault
      → IsDviFault files bytes fault
  AtPost : (bad : BadDvi) (post after last : ℕ) (postamble : Postamble) (chain : List ℕ) (from : ℕ) (after_post : List ℤ) (seen : ReadSoFar)
      → fault ≡ Bad bad
      → (has : HasPages files bytes (file_framing post after last postamble chain) from after_post seen) → IsUnended seen.pass seen.left post bad
      → IsUnmet has.reached.before chain bad → IsDviFault files bytes fault
  AfterPost : (bad : BadDvi) (post after last : ℕ) (postamble : Postamble) (chain : List ℕ) (from : ℕ) (after_post : List ℤ) (seen : ReadSoFar)
      (pages : List MarkedPage) (new : List Definition)
      → fault ≡ Bad bad → HasPages files bytes (file_framing post after last postamble chain) from after_post seen
      → PagesHaveEnded seen.pass seen.left pages
      → IsClosingFault bytes after (last - 5) seen.known new (frames.Bad bad) → IsDviFault files bytes fault
  ForDefinitions : (post after last : ℕ) (postamble : Postamble) (chain : List ℕ) (from : ℕ) (after_post : List ℤ) (seen : ReadSoFar)
      (pages : List MarkedPage) (new : List Definition)
      → fault ≡ OutOfMemory → HasPages files bytes (file_framing post after last postamble chain) from after_post seen
      → PagesHaveEnded seen.pass seen.left pages
      → IsClosingFault bytes after (last - 5) seen.known new frames.OutOfMemory → IsDviFault files bytes fault
