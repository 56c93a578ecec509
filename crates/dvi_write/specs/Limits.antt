-- The limits of a file (own; the limits of a job).
use Rattle.std.specs.Prelude.{◌≡◌, ◌+◌, ◌*◌, ◌≤◌, length, Option}
use Rattle.page_core.specs.Limits.{first_refusal, page_limits}
use Rattle.page_core.specs.Marks.{ShippedPage}
use Rattle.dvi_write.specs.declared.fault.WriteFault.{WriteFault}
use Rattle.dvi_write.specs.declared.fault.WriteFault.TheVariants.{TooManyPages, TooMuchShipped, TooMuchSpecial, HugePage}
use Rattle.node_core.specs.declared.limits.TheConstants.{MAX_PAGES, MAX_SHIPPED_NODES, MAX_SHIPPED_TEXT, MAX_DEPTH}
use Rattle.dvi_write.specs.FilePages.{in_rising_order}
use Rattle.dvi_write.specs.SoFar.{ProgressView}

-- Why a page is not written, however much memory there is: the first of these that holds.
abbrev pub limit_of : ProgressView → ShippedPage → Option WriteFault
limit_of s page = first_refusal (page_limits TooManyPages TooMuchShipped TooMuchSpecial HugePage s.pages s.load page)

-- The writer's numbers are within the limits, so that every place in the file is below 2^31 (the invariant of the writer).
pub record IsWithinLimits (s : ProgressView) : Type 0 where
  pub nodes : s.load.nodes ≤ MAX_SHIPPED_NODES
  pub text : s.load.text ≤ MAX_SHIPPED_TEXT
  pub pages : s.pages ≤ MAX_PAGES
  pub deep : s.layout.depth ≤ MAX_DEPTH
  -- Each slot is defined once, so there are at most `FONT_SLOTS` definitions.
  pub defined : length (in_rising_order s.defined) ≡ length s.defined
  -- The preamble takes 15 bytes; a page 46, 19 for each node, and the texts of its specials; a font definition at most 271.
  pub size : s.layout.size ≤ 15 + 46 * s.pages + 19 * s.load.nodes + s.load.text + 271 * length s.defined
