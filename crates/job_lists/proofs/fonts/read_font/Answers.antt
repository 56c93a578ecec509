use Rattle.std.proofs.Common.{subst}
use Rattle.job_lists.proofs.FontReads.{font_read, file_refused, size_refused}
use Rattle.tfm_core.specs.FontReads.{IsReadRefusal}
use Rattle.job_lists.proofs.fonts.read_font.Goals as goal

pub returns-in-Ok-clause-value : goal.returns-in-Ok-clause-value
returns-in-Ok-clause-value c = font_read c.bytes.result.now c.args.file.now c.args.size c.in-Ok.font c.bytes.ensures c.in-Ok.ensures.ok

pub returns-in-Err-BadTfm-clause-value : goal.returns-in-Err-BadTfm-clause-value
returns-in-Err-BadTfm-clause-value c =
    let refused = subst (IsReadRefusal c.bytes.result.now c.args.size) c.in-Err-BadTfm.field-0-is c.in-Err-BadTfm.ensures.refused in
    file_refused c.bytes.result.now c.args.file.now c.args.size c.in-Err-BadTfm.cause c.bytes.ensures refused

pub returns-in-Err-DimensionTooLarge-clause-value : goal.returns-in-Err-DimensionTooLarge-clause-value
returns-in-Err-DimensionTooLarge-clause-value c =
    let refused = subst (IsReadRefusal c.bytes.result.now c.args.size) c.in-Err-DimensionTooLarge.field-0-is c.in-Err-DimensionTooLarge.ensures.refused in
    size_refused c.bytes.result.now c.args.file.now c.args.size c.bytes.ensures refused
