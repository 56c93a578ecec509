-- The rules of a metric file, each as a test that holds if the rule is broken (TeX: The Program, part 30, §560 to §576, read_font_info; their order
-- is own).
use Rattle.std.specs.Prelude.{◌==◌, ◌&&◌, ◌||◌, ◌+◌, ◌-◌, ◌*◌, ◌/◌, ℕ, ℤ, pos, Bool, false, not, List, [], ◌∷◌, Option, Some, None, Result, Ok, Err}
use Rattle.std.specs.Prelude.{if◌then◌else◌, int_lt, length, drop, take, nat_le, nat_lt, slice_get, unsigned_abs, is_none, IsTrue, IsFalse}
use Rattle.std.specs.List.{AllByRecursion, enumerate_from, find, list_any}
use Rattle.std.specs.Ordering.{int_eq}
use Rattle.tfm_core.specs.declared.fault.TfmCause.{TfmCause}
use Rattle.tfm_core.specs.declared.fault.TfmCause.TheVariants.{TooShort, Counts, DesignSize, CharInfo, FixWord, LigKern}
use Rattle.tfm_core.specs.declared.record.CharInfo.{CharInfo as Info}
use Rattle.tfm_core.specs.declared.record.Counts.{Counts as Numbers}
use Rattle.tfm_core.specs.declared.record.LigKernStep.{LigKernStep}
use Rattle.tfm_core.specs.declared.record.Tag.{Tag}
use Rattle.tfm_core.specs.declared.record.Tag.TheVariants.{Plain, Program, Larger, Recipe}
use Rattle.tfm_core.specs.MetricFile.{MetricFile, IsFileIn, counts_in, design_word_in, end_place, record_in}
use Rattle.tfm_core.specs.Scaling.{is_fix_word}

-- TooShort: there are fewer than 24 bytes, or fewer than four for each word that the file says it has; extra bytes are allowed (TFtoPL, 8).
unfoldable pub is_too_short : List ℕ → Bool
is_too_short bytes = nat_lt (length bytes) 24 || nat_lt (length bytes) (4 * (counts_in bytes).file)

-- The twelve numbers at the front, in their order (TFtoPL, 8).
abbrev pub twelve : Numbers → List ℕ
twelve c =
    c.file ∷ c.header ∷ c.first ∷ c.last ∷ c.widths ∷ c.heights ∷ c.depths ∷ c.italics ∷ c.steps ∷ c.kerns ∷ c.recipes ∷ c.parameters ∷ []

-- One of the twelve is 32768 or more (TFtoPL, 8).
unfoldable pub has_large_number : Numbers → Bool
has_large_number c = list_any (nat_le 32768) (twelve c)

-- The first code is above the last by more than 1, or the last is above 255 (TFtoPL, 8).
unfoldable pub has_wrong_codes : Numbers → Bool
has_wrong_codes c = nat_lt (c.last + 1) c.first || nat_lt 255 c.last

-- The header has fewer than 2 words, or there is no width, height, depth or italic correction (TeX: The Program, part 30, §565 and §568).
unfoldable pub lacks_a_table : Numbers → Bool
lacks_a_table c = nat_lt c.header 2 || c.widths == 0 || c.heights == 0 || c.depths == 0 || c.italics == 0

-- Counts: a number is too large, the codes are wrong, a table is missing, or the tables do not fill the file (TFtoPL, 8; TeX: The Program, part 30,
-- §565).
unfoldable pub breaks_counts : Numbers → Bool
breaks_counts c = has_large_number c || has_wrong_codes c || lacks_a_table c || not (c.file == end_place c)

-- DesignSize: the word is negative, or the size is below one point, which is 16 * 65536 of its units (TeX: The Program, part 30, §568).
unfoldable pub breaks_design_size : ℤ → Bool
breaks_design_size word = int_lt word (pos 0) || nat_lt (unsigned_abs word / 16) 65536

-- A program begins after the last step (TFtoPL, 12; TeX: The Program, part 30, §569).
abbrev pub begins_past_steps : ℕ → Tag → Bool
begins_past_steps steps (Program start) = nat_le steps start
begins_past_steps steps Plain = false
begins_past_steps steps (Larger c) = false
begins_past_steps steps (Recipe r) = false

-- An index of a character is past the end of its table, or its program begins after the last step (TeX: The Program, part 30, §569; own: recipes and
-- larger characters are not tested, which §569 and §570 do).
unfoldable pub breaks_character : MetricFile → Info → Bool
breaks_character file c =
    nat_le (length file.widths) c.width
    || nat_le (length file.heights) c.height
    || nat_le (length file.depths) c.depth
    || nat_le (length file.italics) c.italic
    || begins_past_steps (length file.steps) c.tag

-- CharInfo: some character breaks its rule; this includes entries with width index 0 (TeX: The Program, part 30, §569).
unfoldable pub breaks_char_info : MetricFile → Bool
breaks_char_info file = list_any (breaks_character file) file.characters

-- Some word is no fix word (own).
unfoldable pub some_is_no_fix_word : List ℤ → Bool
some_is_no_fix_word words = list_any (λ word. not (is_fix_word word)) words

-- The first word is not 0 (own).
abbrev pub begins_nonzero : List ℤ → Bool
begins_nonzero [] = false
begins_nonzero (word ∷ words) = not (int_eq word (pos 0))

-- The parameters 2, 3 and 4, as far as the file has them: space, stretch and shrink; parameters count from 1 (TFtoPL, 15).
abbrev pub space_words : List ℤ → List ℤ
space_words parameters = take 3 (drop 1 parameters)

-- A width, height, depth or italic correction is no fix word (TeX: The Program, part 30, §571).
unfoldable pub some_size_is_no_fix_word : MetricFile → Bool
some_size_is_no_fix_word file = some_is_no_fix_word file.widths || some_is_no_fix_word file.heights || some_is_no_fix_word file.depths
    || some_is_no_fix_word file.italics

-- A kern or one of the parameters 2, 3 and 4 is no fix word; the other parameters are not used (own).
unfoldable pub some_distance_is_no_fix_word : MetricFile → Bool
some_distance_is_no_fix_word file = some_is_no_fix_word file.kerns || some_is_no_fix_word (space_words file.parameters)

-- Entry 0 of the widths, heights, depths or italics is not 0 (TeX: The Program, part 30, §571).
unfoldable pub some_table_begins_nonzero : MetricFile → Bool
some_table_begins_nonzero file =
    begins_nonzero file.widths || begins_nonzero file.heights || begins_nonzero file.depths || begins_nonzero file.italics

-- FixWord: a size or a distance is no fix word, or a table of sizes does not begin with 0 (TeX: The Program, part 30, §571).
unfoldable pub breaks_fix_word : MetricFile → Bool
breaks_fix_word file = some_size_is_no_fix_word file || some_distance_is_no_fix_word file || some_table_begins_nonzero file

-- The character, if its width index is not 0 (TFtoPL, 11).
abbrev pub with_width : Option Info → Option Info
with_width None = None
with_width (Some c) = if c.width == 0 then None else Some c

-- The character of a code, if the font has it; the list begins with the first code (TFtoPL, 11).
unfoldable pub character_at : ℕ → List Info → ℕ → Option Info
character_at first characters code = if nat_lt code first then None else with_width (slice_get characters (code - first))

-- A step names a kern past the last one, or a ligature with a character that is not there; operations of 1 to 127 give nothing (own).
unfoldable pub names_absent_kern_or_character : ℕ → List Info → ℕ → LigKernStep → Bool
names_absent_kern_or_character first characters kerns s =
    if nat_le 128 s.op then nat_le kerns (256 * (s.op - 128) + s.remainder)
    else ((s.op == 0) && is_none (character_at first characters s.remainder))

-- Step k redirects past the last step; or it does not redirect, and it names a kern or a character that is not there, or its next step is past the
-- last one (TeX: The Program, part 30, §573). Whether the following character is there is not tested (own).
unfoldable pub breaks_step : MetricFile → ℕ × LigKernStep → Bool
breaks_step file (k, s) =
    if nat_lt 128 s.skip then nat_le (length file.steps) (256 * s.op + s.remainder)
    else (names_absent_kern_or_character file.counts.first file.characters (length file.kerns) s
    || (nat_lt s.skip 128 && nat_le (length file.steps) (k + s.skip + 1)))

-- LigKern: some step breaks its rule (TeX: The Program, part 30, §573).
unfoldable pub breaks_lig_kern : MetricFile → Bool
breaks_lig_kern file = list_any (breaks_step file) (enumerate_from 0 file.steps)

-- The rule with this name is broken (own).
abbrev pub is_broken : List ℕ → TfmCause → Bool
is_broken bytes TooShort = is_too_short bytes
is_broken bytes Counts = breaks_counts (counts_in bytes)
is_broken bytes DesignSize = breaks_design_size (design_word_in bytes)
is_broken bytes CharInfo = breaks_char_info (record_in bytes)
is_broken bytes FixWord = breaks_fix_word (record_in bytes)
is_broken bytes LigKern = breaks_lig_kern (record_in bytes)

-- The rules before this one, in the order of their names (own).
abbrev pub rules_before : TfmCause → List TfmCause
rules_before TooShort = []
rules_before Counts = TooShort ∷ []
rules_before DesignSize = TooShort ∷ Counts ∷ []
rules_before CharInfo = TooShort ∷ Counts ∷ DesignSize ∷ []
rules_before FixWord = TooShort ∷ Counts ∷ DesignSize ∷ CharInfo ∷ []
rules_before LigKern = TooShort ∷ Counts ∷ DesignSize ∷ CharInfo ∷ FixWord ∷ []

-- The bytes break this rule and none before it (own).
pub record IsFirstBroken (bytes : List ℕ) (cause : TfmCause) : Type 0 where
  pub broken : IsTrue (is_broken bytes cause)
  pub kept : AllByRecursion (λ before. IsFalse (is_broken bytes before)) (rules_before cause)

-- The bytes are a metric file with this record: each entry is at its place, and no rule is broken (TFtoPL, 8).
pub record IsMetricFile (bytes : List ℕ) (file : MetricFile) : Type 0 where
  pub encoded : IsFileIn bytes file
  pub kept : (cause : TfmCause) → IsFalse (is_broken bytes cause)

-- The first broken rule, if a rule is broken (own).
unfoldable pub first_broken : List ℕ → Option TfmCause
first_broken bytes = find (is_broken bytes) (TooShort ∷ Counts ∷ DesignSize ∷ CharInfo ∷ FixWord ∷ LigKern ∷ [])

-- The first broken rule among those that need no table (own).
unfoldable pub broken_in_front : List ℕ → Option TfmCause
broken_in_front bytes = find (is_broken bytes) (TooShort ∷ Counts ∷ DesignSize ∷ [])

-- The record, if no rule is broken (own).
abbrev pub record_unless : MetricFile → Option TfmCause → Result MetricFile TfmCause
record_unless file None = Ok file
record_unless file (Some cause) = Err cause

-- The result of reading bytes: the record, or the first broken rule (own).
unfoldable pub metric_file : List ℕ → Result MetricFile TfmCause
metric_file bytes = record_unless (record_in bytes) (first_broken bytes)
