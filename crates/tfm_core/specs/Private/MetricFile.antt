-- The rest of `MetricFile`, which no public contract reaches (TFtoPL, 8 to 15).
use Rattle.std.specs.Prelude.{◌*◌, ℕ, List, length, ◌≤◌}
use Rattle.tfm_core.specs.declared.record.Counts.{Counts}
use Rattle.tfm_core.specs.declared.places.Places.{Places}
use Rattle.tfm_core.specs.MetricFile.{counts_in, characters_place, widths_place, heights_place, depths_place, italics_place, steps_place, kerns_place}
use Rattle.tfm_core.specs.MetricFile.{parameters_place, end_place}

-- The word at which each table that is read begins, and the word after the last one (TFtoPL, 9).
unfoldable pub places_of : Counts → Places
places_of c = record {
  characters = characters_place c;
  widths = widths_place c;
  heights = heights_place c;
  depths = depths_place c;
  italics = italics_place c;
  steps = steps_place c;
  kerns = kerns_place c;
  parameters = parameters_place c;
  end = end_place c;
}

-- The bytes are long enough for the twelve numbers, the first two words of the header and all tables (TFtoPL, 8).
pub record HasTables (bytes : List ℕ) : Type 0 where
  pub numbers : 24 ≤ length bytes
  pub header : 2 ≤ (counts_in bytes).header
  pub tables : 4 * end_place (counts_in bytes) ≤ length bytes
