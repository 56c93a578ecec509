-- The rest of `Rules`, which no public contract reaches (TeX: The Program, part 30, §560 to §576, read_font_info; their order is own).
use Rattle.std.specs.Prelude.{◌≡◌, false, Option, Some, None, if◌then◌else◌}
use Rattle.tfm_core.specs.declared.fault.TfmCause.{TfmCause}
use Rattle.tfm_core.specs.declared.fault.TfmCause.TheVariants.{CharInfo, FixWord, LigKern}
use Rattle.tfm_core.specs.MetricFile.{MetricFile}
use Rattle.tfm_core.specs.Rules.{breaks_design_size, breaks_char_info, breaks_fix_word, breaks_lig_kern}

-- The first broken rule among those that need tables (own).
unfoldable pub broken_in_tables : MetricFile → Option TfmCause
broken_in_tables file =
    if breaks_char_info file then Some CharInfo
    else (if breaks_fix_word file then Some FixWord
    else (if breaks_lig_kern file then Some LigKern
    else None))

-- The record keeps the rules; those about places in the bytes are not among them (own).
pub record KeepsRules (file : MetricFile) : Type 0 where
  pub design_size : breaks_design_size file.design_word ≡ false
  pub char_info : breaks_char_info file ≡ false
  pub fix_word : breaks_fix_word file ≡ false
  pub lig_kern : breaks_lig_kern file ≡ false
