-- The units of a DVI file and the fonts that it defines after its pages (own).
use Rattle.std.specs.Prelude.{◌≡◌, ◌≢◌, ◌⊎◌, ◌-◌, ℕ, Bool, true, false, List, []}
use Rattle.dvi_scan.specs.Closing.{ClosesTo, IsClosingFault}
use Rattle.dvi_scan.specs.declared.fault.FrameFault.{FrameFault}
use Rattle.dvi_ops.specs.Instruction.{Definition, Postamble, Units}
use Rattle.dvi_read.specs.Opened.{IsNoFile}
use Rattle.dvi_read.specs.Opening.{IsFrontFault, StartsAt}
use Rattle.dvi_read.specs.Faults.{of_frame}
use Rattle.dvi_read.specs.declared.fault.DviFault.{DviFault}
use Rattle.dvi_read.specs.declared.fault.DviFault.TheVariants.{OutOfMemory}
use Rattle.tfm_core.specs.NamedBytes.{NamedBytes}
use Rattle.boxglue_print.specs.Faults.{fault_line}
use Rattle.boxglue_print.specs.FontLines.{fonts_lines}

-- The end of the file, the chain of its pages and its preamble are right, post has these units, and between post and post_post there are nops and
-- exactly these definitions (DVItype, 18 and 19). Nothing is said of the pages.
pub record DefinesFonts (bytes : List ℕ) (units : Units) (fonts : List Definition) : Type 0 where
  pub post : ℕ
  pub after : ℕ
  pub last : ℕ
  pub postamble : Postamble
  pub chain : List ℕ
  pub from : ℕ
  pub starts : StartsAt bytes post after last postamble chain from
  pub units_are : units ≡ postamble.units
  pub closes : ClosesTo bytes after (last - 5) [] fonts

-- A rule is broken at the place that the fault names, before the pages or after post; or memory is refused there.
abbrev pub BreaksFonts : List ℕ → DviFault → Type 0
BreaksFonts bytes fault =
    IsFrontFault bytes fault
    ⊎ ((post : ℕ) × (after : ℕ) × (last : ℕ) × (postamble : Postamble) × (chain : List ℕ) × (from : ℕ) × (new : List Definition)
    × (frame : FrameFault)
    × StartsAt bytes post after last postamble chain from × IsClosingFault bytes after (last - 5) [] new frame × (fault ≡ of_frame frame))

-- The bytes define no fonts in this way, and are no DVI file, whatever the font files. The text is the line of a refusal that names a rule that they
-- break before the pages or after post.
pub record RefusesFonts (bytes text : List ℕ) (accepted : Bool) : Type 0 where
  pub fault : DviFault
  pub other : fault ≢ OutOfMemory
  pub broken : BreaksFonts bytes fault
  pub undefined : (units : Units) (fonts : List Definition) → DefinesFonts bytes units fonts → ⊥
  pub none : (files : List NamedBytes) → IsNoFile files bytes
  pub text_is : text ≡ fault_line fault
  pub accepted_is : accepted ≡ false

-- The text has the lines of the fonts that the bytes define, and of their units.
pub record NamesFonts (bytes text : List ℕ) (accepted : Bool) : Type 0 where
  pub units : Units
  pub fonts : List Definition
  pub defined : DefinesFonts bytes units fonts
  pub text_is : text ≡ fonts_lines units fonts
  pub accepted_is : accepted ≡ true

-- The text that `fonts` prints, and whether the file was accepted.
abbrev pub AreFontsPrinted : List ℕ → (text : List ℕ) → (accepted : Bool) → Type 0
AreFontsPrinted bytes text accepted = NamesFonts bytes text accepted ⊎ RefusesFonts bytes text accepted
