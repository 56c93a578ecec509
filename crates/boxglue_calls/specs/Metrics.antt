-- The metrics of a font for programs that set text themselves (own; TFtoPL, 8 to 15; TeX: The Program, part 30).
use Rattle.std.specs.Prelude.{◌≡◌, ◌≢◌, ◌<◌, ◌⊎◌, ℕ, ℤ, pos, true, Ok, List, length, map, Option, Some, None, get_or}
use Rattle.std.specs.Int.{w32, cast_unsigned}
use Rattle.std.specs.List.{flat_map, range_with_len}
use Rattle.std.specs.Option.{option_and_then, option_map, option_to_list}
use Rattle.job_machine.specs.declared.replies.Refusal.TheVariants as refusals
use Rattle.scaled_core.specs.Dimensions.{dimension_of}
use Rattle.tfm_core.specs.FontReads.{IsReadRefusal}
use Rattle.tfm_core.specs.Fonts.{SizedFont, chosen_size, fits_at, font_at, parameter, sizes_in, step_of}
use Rattle.tfm_core.specs.MetricFile.{MetricFile}
use Rattle.tfm_core.specs.Rules.{broken_in_front, character_at, metric_file}
use Rattle.tfm_core.specs.Scaling.{design_size_of, scaled, scaled_word}
use Rattle.tfm_core.specs.declared.font.Step.{Step}
use Rattle.tfm_core.specs.declared.font.Step.TheVariants.{Kern, Ligature}
use Rattle.tfm_core.specs.declared.reading.FontReadFault.{FontReadFault}
use Rattle.tfm_core.specs.declared.reading.FontReadFault.TheVariants as faults
use Rattle.tfm_core.specs.declared.record.CharInfo.{CharInfo}
use Rattle.boxglue_calls.specs.Buffers.{Holds}
use Rattle.boxglue_calls.specs.FileFaults.{no_fault, refusal_fault}
use Rattle.boxglue_calls.specs.declared.faults.Fault.{Fault}
use Rattle.boxglue_calls.specs.declared.font_rows.FontParameters.{FontParameters}
use Rattle.boxglue_calls.specs.declared.font_rows.FontStep.{FontStep}
use Rattle.boxglue_calls.specs.declared.font_rows.Glyph.{Glyph}
use Rattle.boxglue_calls.specs.declared.font_rows.GlyphTable.{GlyphTable}
use Rattle.boxglue_calls.specs.declared.font_rows.Measure.{Measure}

-- A number, or 0 and a flag if there is none.
abbrev pub measure_of : Option ℤ → Measure
measure_of (Some value) = record { value = value; is_unfit = 0 }
measure_of None = record { value = pos 0; is_unfit = 1 }

-- The size of a word of a metric file, if it is a fix word and its size fits as a dimension (TeX: The Program, part 30, §571 and §572).
abbrev pub fitting_size : (size word : ℤ) → Option ℤ
fitting_size size word = option_and_then dimension_of (scaled_word size word)

-- The measure of a word.
abbrev pub word_measure : (size word : ℤ) → Measure
word_measure size word = measure_of (fitting_size size word)

-- The word of a character's italic correction (TFtoPL, 11).
abbrev pub italic_word : MetricFile → CharInfo → ℤ
italic_word file character = get_or file.italics character.italic (pos 0)

-- The row of a character that the file does not have.
abbrev pub no_glyph : Glyph
no_glyph = record { is_there = 0; width = pos 0; height = pos 0; depth = pos 0; italic = measure_of (Some (pos 0)) }

-- The row of a character: its width, height and depth (TFtoPL, 11), and its italic correction, whose size no rule tests.
abbrev pub glyph_row : MetricFile → (size : ℤ) → Option CharInfo → Glyph
glyph_row file size None = no_glyph
glyph_row file size (Some character) = record {
  is_there = 1;
  width = (sizes_in file size character).width;
  height = (sizes_in file size character).height;
  depth = (sizes_in file size character).depth;
  italic = word_measure size (italic_word file character);
}

-- The rows of the characters 0 to 255.
abbrev pub glyph_rows : MetricFile → (size : ℤ) → List Glyph
glyph_rows file size = map (λ code. glyph_row file size (character_at file.counts.first file.characters code)) (range_with_len 0 256)

-- The numbers of a font beside its characters: parameter 1, the slant, as it stands, since it is a ratio; parameters 2 to 4, which fit; parameters 5
-- to 7, which no rule tests (TFtoPL, 15; TeX: The Program, part 30, §547 and §575).
abbrev pub font_parameters : MetricFile → (size : ℤ) → FontParameters
font_parameters file size = record {
  size = size;
  design_size = design_size_of file.design_word;
  check_sum = cast_unsigned w32 file.check_sum;
  slant = parameter 1 file.parameters;
  space = scaled size (parameter 2 file.parameters);
  stretch = scaled size (parameter 3 file.parameters);
  shrink = scaled size (parameter 4 file.parameters);
  x_height = word_measure size (parameter 5 file.parameters);
  quad = word_measure size (parameter 6 file.parameters);
  extra_space = word_measure size (parameter 7 file.parameters);
}

-- The kinds of steps in rows: `boxglue_step_kind` of the header.
abbrev pub kern_kind : ℕ
kern_kind = 1

abbrev pub ligature_kind : ℕ
ligature_kind = 2

-- The row of what a font puts between two characters, or in their place.
abbrev pub step_row : (character following : ℕ) → Step → FontStep
step_row character following (Kern width) =
    record { character = character; following = following; kind = kern_kind; kern = width; ligature = 0 }
step_row character following (Ligature other) =
    record { character = character; following = following; kind = ligature_kind; kern = pos 0; ligature = other }

-- The row of two characters, as a list of one; of none if the font has no step for them (TFtoPL, 13).
abbrev pub pair_steps : SizedFont → (character following : ℕ) → List FontStep
pair_steps font character following = option_to_list (option_map (step_row character following) (step_of font character following))

-- The rows of a character, in the order of the following ones.
abbrev pub character_steps : SizedFont → (character : ℕ) → List FontStep
character_steps font character = flat_map (pair_steps font character) (range_with_len 0 256)

-- The rows of all pairs of characters for which a font has a step, in the order of the first ones.
abbrev pub font_steps : SizedFont → List FontStep
font_steps font = flat_map (character_steps font) (range_with_len 0 256)

-- The bytes are a metric file, its dimensions fit at the size, and these are its rows and its numbers at that size.
pub record AreMetrics (tfm : List ℕ) (size : Option ℤ) (glyphs : List Glyph) (parameters : FontParameters) (steps : List FontStep) : Type 0 where
  pub file : MetricFile
  pub read : metric_file tfm ≡ Ok file
  pub fits : fits_at file (chosen_size file size) ≡ true
  pub glyphs_are : glyphs ≡ glyph_rows file (chosen_size file size)
  pub parameters_are : parameters ≡ font_parameters file (chosen_size file size)
  pub steps_are : steps ≡ font_steps (font_at file (chosen_size file size))

-- What a call for metrics writes to.
pub record MetricOutputs : Type 0 where
  pub glyphs : GlyphTable
  pub parameters : FontParameters
  pub steps : List FontStep
  pub count : ℕ
  pub fault : Fault

abbrev pub metric_outputs : GlyphTable → FontParameters → List FontStep → (count : ℕ) → Fault → MetricOutputs
metric_outputs glyphs parameters steps count fault =
    record { glyphs = glyphs; parameters = parameters; steps = steps; count = count; fault = fault }

-- The metrics of a file at a size, the design size for None, are written: all rows of characters, the numbers, and the steps to the front of the
-- buffer.
pub record WritesMetrics (tfm : List ℕ) (size : Option ℤ) (old new : MetricOutputs) (status : ℕ) : Type 0 where
  pub steps : List FontStep
  pub metrics : AreMetrics tfm size new.glyphs.rows new.parameters steps
  pub written : Holds old.steps new.steps steps
  pub count_is : new.count ≡ length steps
  pub fault_is : new.fault ≡ no_fault
  pub status_is : status ≡ 0

-- The buffer is too small for the steps of a file at a size: the count says how many there are, and all else is as it was.
pub record LacksSpaceForSteps (tfm : List ℕ) (size : Option ℤ) (old new : MetricOutputs) (status : ℕ) : Type 0 where
  pub glyphs : List Glyph
  pub parameters : FontParameters
  pub steps : List FontStep
  pub metrics : AreMetrics tfm size glyphs parameters steps
  pub small : length old.steps < length steps
  pub same : new ≡ record old { count = length steps }
  pub status_is : status ≡ 4

-- The numbers of the reason for which bytes give no font.
abbrev pub read_fault : FontReadFault → Fault
read_fault faults.OutOfMemory = refusal_fault refusals.OutOfMemory
read_fault (faults.BadTfm cause) = refusal_fault (refusals.BadTfm cause)
read_fault faults.DimensionTooLarge = refusal_fault refusals.DimensionTooLarge

-- The bytes give no font at a size for a reason that is not memory: the fault has its numbers, and all else is as it was.
pub record RefusesFont (tfm : List ℕ) (size : Option ℤ) (old new : MetricOutputs) (status : ℕ) : Type 0 where
  pub reason : FontReadFault
  pub other : reason ≢ faults.OutOfMemory
  pub broken : IsReadRefusal tfm size reason
  pub same : new ≡ record old { fault = read_fault reason }
  pub status_is : status ≡ 1

-- Memory was refused, and all is as it was. The front of the file breaks no rule, since it is read before any memory is taken.
pub record LacksMemoryForFont (tfm : List ℕ) (old new : MetricOutputs) (status : ℕ) : Type 0 where
  pub front : broken_in_front tfm ≡ None
  pub same : new ≡ old
  pub status_is : status ≡ 2

-- The metrics of a file at a size are written; or the buffer for steps is too small; or the file is refused; or memory was refused.
abbrev pub MeasuresFont : (tfm : List ℕ) → (size : Option ℤ) → (old new : MetricOutputs) → (status : ℕ) → Type 0
MeasuresFont tfm size old new status =
    WritesMetrics tfm size old new status ⊎ LacksSpaceForSteps tfm size old new status ⊎ RefusesFont tfm size old new status
    ⊎ LacksMemoryForFont tfm old new status
