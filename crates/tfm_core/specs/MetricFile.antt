-- A metric file: its record, and the place of each entry in the bytes (TFtoPL, 8 to 15).
use Rattle.std.specs.Prelude.{◌≡◌, ◌==◌, ◌+◌, ◌-◌, ◌/◌, ◌%◌, ℕ, ℤ, List, if◌then◌else◌, slice_index}
use Rattle.tfm_core.specs.declared.record.Counts.{Counts}
use Rattle.tfm_core.specs.declared.record.CharInfo.{CharInfo}
use Rattle.tfm_core.specs.declared.record.LigKernStep.{LigKernStep}
use Rattle.tfm_core.specs.declared.record.Tag.{Tag}
use Rattle.tfm_core.specs.declared.record.Tag.TheVariants.{Plain, Program, Larger, Recipe}
use Rattle.tfm_core.specs.Words.{IsWordTable, table, from_word, halfword, signed_word}

-- The twelve halfwords at the front: lf, lh, bc, ec, nw, nh, nd, ni, nl, nk, ne, np (TFtoPL, 8).
unfoldable pub counts_in : List ℕ → Counts
counts_in bytes = record {
  file = halfword bytes 0;
  header = halfword bytes 1;
  first = halfword bytes 2;
  last = halfword bytes 3;
  widths = halfword bytes 4;
  heights = halfword bytes 5;
  depths = halfword bytes 6;
  italics = halfword bytes 7;
  steps = halfword bytes 8;
  kerns = halfword bytes 9;
  recipes = halfword bytes 10;
  parameters = halfword bytes 11;
}

-- The meaning of a tag; the remainder is the character's first step, its larger character or its recipe (TFtoPL, 12).
abbrev pub tag_of : ℕ → ℕ → Tag
tag_of tag remainder =
    if tag == 0 then Plain
    else (if tag == 1 then Program remainder
    else (if tag == 2 then Larger remainder
    else Recipe remainder))

-- The four bytes of a character: width index, height index * 16 + depth index, italic index * 4 + tag, remainder (TFtoPL, 11).
abbrev pub char_info : List ℕ → CharInfo
char_info bytes = record {
  width = slice_index bytes 0;
  height = slice_index bytes 1 / 16;
  depth = slice_index bytes 1 % 16;
  italic = slice_index bytes 2 / 4;
  tag = tag_of (slice_index bytes 2 % 4) (slice_index bytes 3);
}

-- The four bytes of a step of the ligature/kern program (TFtoPL, 13).
abbrev pub lig_kern_step : List ℕ → LigKernStep
lig_kern_step bytes = record {
  skip = slice_index bytes 0;
  next = slice_index bytes 1;
  op = slice_index bytes 2;
  remainder = slice_index bytes 3;
}

-- The record of a metric file; only the first two words of the header, and no extensible recipes, which nothing uses (TFtoPL, 8 to 15).
pub record MetricFile : Type 0 where
  pub counts : Counts
  pub check_sum : ℤ
  pub design_word : ℤ
  pub characters : List CharInfo
  pub widths : List ℤ
  pub heights : List ℤ
  pub depths : List ℤ
  pub italics : List ℤ
  pub steps : List LigKernStep
  pub kerns : List ℤ
  pub parameters : List ℤ

-- The number of characters that have a word: ec - bc + 1 (TFtoPL, 8).
abbrev pub character_count : Counts → ℕ
character_count c = c.last + 1 - c.first

-- The word at which the characters begin: after six words and the header (TFtoPL, 9).
abbrev pub characters_place : Counts → ℕ
characters_place c = 6 + c.header

-- The word at which the widths begin: after the characters (TFtoPL, 9).
abbrev pub widths_place : Counts → ℕ
widths_place c = characters_place c + character_count c

-- The word at which the heights begin: after the widths (TFtoPL, 9).
abbrev pub heights_place : Counts → ℕ
heights_place c = widths_place c + c.widths

-- The word at which the depths begin: after the heights (TFtoPL, 9).
abbrev pub depths_place : Counts → ℕ
depths_place c = heights_place c + c.heights

-- The word at which the italic corrections begin: after the depths (TFtoPL, 9).
abbrev pub italics_place : Counts → ℕ
italics_place c = depths_place c + c.depths

-- The word at which the steps begin: after the italic corrections (TFtoPL, 9).
abbrev pub steps_place : Counts → ℕ
steps_place c = italics_place c + c.italics

-- The word at which the kerns begin: after the steps (TFtoPL, 9).
abbrev pub kerns_place : Counts → ℕ
kerns_place c = steps_place c + c.steps

-- The word at which the parameters begin: after the kerns and the extensible recipes (TFtoPL, 9).
abbrev pub parameters_place : Counts → ℕ
parameters_place c = kerns_place c + c.kerns + c.recipes

-- The word after the parameters, the last table; in a file that keeps the rule Counts it is lf (TFtoPL, 8).
abbrev pub end_place : Counts → ℕ
end_place c = parameters_place c + c.parameters

-- Word 0 of the header: the checksum (TFtoPL, 10).
abbrev pub check_sum_in : List ℕ → ℤ
check_sum_in bytes = signed_word (from_word bytes 6)

-- Word 1 of the header: the design size in 2^20ths of a point (TFtoPL, 10).
abbrev pub design_word_in : List ℕ → ℤ
design_word_in bytes = signed_word (from_word bytes 7)

-- Each entry of the record is the one at its place in the bytes (TFtoPL, 8 to 15).
pub record IsFileIn (bytes : List ℕ) (file : MetricFile) : Type 0 where
  pub counts : file.counts ≡ counts_in bytes
  pub check_sum : file.check_sum ≡ check_sum_in bytes
  pub design_word : file.design_word ≡ design_word_in bytes
  pub characters : IsWordTable char_info bytes (characters_place file.counts) (character_count file.counts) file.characters
  pub widths : IsWordTable signed_word bytes (widths_place file.counts) file.counts.widths file.widths
  pub heights : IsWordTable signed_word bytes (heights_place file.counts) file.counts.heights file.heights
  pub depths : IsWordTable signed_word bytes (depths_place file.counts) file.counts.depths file.depths
  pub italics : IsWordTable signed_word bytes (italics_place file.counts) file.counts.italics file.italics
  pub steps : IsWordTable lig_kern_step bytes (steps_place file.counts) file.counts.steps file.steps
  pub kerns : IsWordTable signed_word bytes (kerns_place file.counts) file.counts.kerns file.kerns
  pub parameters : IsWordTable signed_word bytes (parameters_place file.counts) file.counts.parameters file.parameters

-- The record in the bytes, for these counts (TFtoPL, 8 to 15).
unfoldable pub record_with : Counts → List ℕ → MetricFile
record_with counts bytes = record {
  counts = counts;
  check_sum = check_sum_in bytes;
  design_word = design_word_in bytes;
  characters = table char_info bytes (characters_place counts) (character_count counts);
  widths = table signed_word bytes (widths_place counts) counts.widths;
  heights = table signed_word bytes (heights_place counts) counts.heights;
  depths = table signed_word bytes (depths_place counts) counts.depths;
  italics = table signed_word bytes (italics_place counts) counts.italics;
  steps = table lig_kern_step bytes (steps_place counts) counts.steps;
  kerns = table signed_word bytes (kerns_place counts) counts.kerns;
  parameters = table signed_word bytes (parameters_place counts) counts.parameters;
}

-- The record in the bytes (TFtoPL, 8 to 15).
abbrev pub record_in : List ℕ → MetricFile
record_in bytes = record_with (counts_in bytes) bytes
