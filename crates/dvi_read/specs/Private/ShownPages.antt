-- The pages that a checked file shows (own).
use Rattle.std.specs.Prelude.{◌≡◌, List, reverse}
use Rattle.dvi_ops.specs.File.{MarkedPage}
use Rattle.dvi_ops.specs.Tokens.{places}
use Rattle.dvi_read.specs.ItemsLeft.{HasCheckedPages}
use Rattle.dvi_read.specs.declared.check.checked_file.CheckedFile.{CheckedFile}

-- The file has these pages, and their places are kept.
pub record ShowsPages (file : CheckedFile) (pages : List MarkedPage) : Type 0 where
  pub has : HasCheckedPages file pages
  pub placed : places file.from has.rest ≡ reverse file.places.items
