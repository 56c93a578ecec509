-- What the parts of `Dvi::open` pass to each other (own).
use Rattle.std.specs.Prelude.{List, ℕ}
use Rattle.dvi_ops.specs.View.{view_postamble}
use Rattle.dvi_read.specs.Opening.{StartsAt}
use Rattle.dvi_read.specs.declared.check.before_pages.BeforePages.{BeforePages}

-- The parts that are found before the pages.
abbrev pub HasFront : List ℕ → BeforePages → Type 0
HasFront bytes f = StartsAt bytes f.ending.post f.ending.after f.ending.last (view_postamble f.ending.postamble) f.chain.items f.from
