use Rattle.std.proofs.Common.{◌++◌, List, ℕ, ap}
use Rattle.raster_core.specs.Words.{in_rows}
use Rattle.raster_core.specs.PlainText.{header_text}
use Rattle.raster_core.proofs.TextLeftLemmas.{all_rows}
use Rattle.raster_core.proofs.text.PbmText.new.Goals as goal

pub returns : goal.returns
returns c =
    let rows = c.args.rows in
    ap (λ (l : List ℕ). header_text rows.width rows.height ++ l) (all_rows rows.width rows.height (in_rows rows.words.now rows.stride))
