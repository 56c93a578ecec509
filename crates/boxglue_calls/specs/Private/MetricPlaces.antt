-- What of a metric file is read from its bytes, beside its font (TFtoPL, 8 to 11).
use Rattle.std.specs.Prelude.{ℕ, List, Option}
use Rattle.tfm_core.specs.MetricFile.{characters_place, italics_place, parameters_place, record_in}
use Rattle.tfm_core.specs.Rules.{character_at}
use Rattle.tfm_core.specs.declared.record.CharInfo.{CharInfo}
use Rattle.tfm_core.specs.declared.record.Counts.{Counts}
use Rattle.boxglue_calls.specs.declared.metric_places.MetricPlaces.{MetricPlaces}

-- The places of the tables that are read, as numbers of words.
abbrev pub places_of : Counts → MetricPlaces
places_of c = record {
  first = c.first;
  characters = characters_place c;
  italics = italics_place c;
  parameters = parameters_place c;
  parameter_count = c.parameters;
}

-- The entry of a character in the bytes of a metric file, if the file has the character.
abbrev pub character_in : List ℕ → (code : ℕ) → Option CharInfo
character_in bytes code = character_at (record_in bytes).counts.first (record_in bytes).characters code
